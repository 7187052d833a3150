-- A cause is found.
use Rattle.std.proofs.Common.{◌≡◌, ℕ, ◌+◌, ◌<◌, ◌≤◌, ◌⊎◌, ◌==◌, ◌&&◌, ◌||◌, inl, inr, ⊎_elim, Bool, true, false, not}
use Rattle.std.proofs.Common.{if◌then◌else◌, nat_eq, List, [], ◌∷◌, Option, Some, None, length, map, slice_get, refl}
use Rattle.std.proofs.Common.{ap, sym, ◌∙◌, arith, suc, zero}
use Rattle.std.specs.Prelude.{Result, Ok}
use Rattle.std.specs.List.{flat_map, range_with_len}
use Rattle.std.specs.Option.{option_map_or}
use Rattle.std.proofs.lemmas.Bool.{eqb-true}
use Rattle.alias_base.specs.declared.ids.BlockId.{BlockId}
use Rattle.alias_base.specs.declared.ids.FunctionId.{FunctionId}
use Rattle.alias_base.specs.declared.ids.IdentifierId.{IdentifierId}
use Rattle.alias_base.specs.declared.ids.InstructionId.{InstructionId}
use Rattle.alias_rules.specs.function_rules.Rules.{is_among, first_missing, missing, listed_instructions}
use Rattle.alias_rules.specs.function_rules.Rules.{instructions_listed}
use Rattle.alias_hir.specs.declared.env.Identifier.{Identifier}
use Rattle.alias_hir.specs.declared.error.HirError.{HirError}
use Rattle.alias_hir.specs.declared.hir.BasicBlock.{BasicBlock}
use Rattle.alias_hir.specs.declared.hir.HirFunction.{HirFunction}
use Rattle.alias_hir.specs.declared.hir.Instruction.{Instruction}
use Rattle.alias_hir.specs.declared.place.Place.{Place}
use Rattle.alias_graph.specs.Reach.{end_at}
use Rattle.alias_graph.specs.Walks.{IsOneOf}
use Rattle.alias_graph.proofs.Covering.{eqb_itself}
use Rattle.alias_graph.proofs.Legality.{in_either}
use Rattle.alias_graph.proofs.Reaching.{id_is}
use Rattle.alias_graph.specs.recorded.BlockListings.{listed}
use Rattle.alias_graph.specs.recorded.Recording.{graph_listed}
use Rattle.alias_graph.specs.declared.recorded.listing.Listing.{Listing}
use Rattle.alias_range_pass.specs.Laws.{Causes}
use Rattle.alias_range_pass.specs.places.Causes.{numbers_of, stored_places, written, InstructionCause}
use Rattle.alias_visit.specs.Operands.{lvalues_of}
use Rattle.alias_explain.specs.declared.cause.Cause.{Cause}
use Rattle.alias_explain.specs.declared.cause.Cause.TheVariants.{Unset, NoCause}
use Rattle.alias_explain.specs.Causes.{writes, ends_range, defines, or_else, first_defining, first_defining_of}
use Rattle.alias_explain.specs.Causes.{defined_by, defined_or, mutated_or_not, cause_of}
use Rattle.alias_explain.specs.Standing.{has_place}
use Rattle.alias_explain.proofs.Explaining.{cause_nothing}
use Rattle.alias_explain.proofs.Lists.{find_none}

-- ---- each instruction is listed

in_range : (a n k : ℕ) → a ≤ k → k < a + n → IsOneOf k (range_with_len a n)
in_range a zero k low high = absurd (omega arith)
in_range a (suc n) k low high = ⊎_elim (λ same. inl same) (λ more. inr (in_range (a + 1) n k more (omega arith)))
    (first_or_later a k low)
  where
    first_or_later : (x y : ℕ) → x ≤ y → (y ≡ x) ⊎ (x + 1 ≤ y)
    first_or_later x y h = elim (x == y) as (λ b. (x == y) ≡ b → (y ≡ x) ⊎ (x + 1 ≤ y))
        [ true ↦ λ e. inl (sym (eqb-true x y e)) | false ↦ λ e. inr (grind arith) ] refl

among_in : (xs : List ℕ) (k : ℕ) → is_among xs k ≡ true → IsOneOf k xs
among_in [] k h = cc
among_in (x ∷ xs) k h =
    elim (nat_eq k x) as (λ b. nat_eq k x ≡ b → (b || is_among xs k) ≡ true → IsOneOf k (x ∷ xs)) [
      | true ↦ λ e i. inl (eqb-true k x e)
      | false ↦ λ e i. inr (among_in xs k i)
    ] refl h

none_missing : (f : Option FunctionId) (o : Option ℕ) → missing f o ≡ Ok tt → o ≡ None
none_missing f None h = refl
none_missing f (Some k) h = cc

-- each instruction's number is one of those that blocks list
all_listed : (f : HirFunction) → instructions_listed None f ≡ Ok tt → (k : ℕ) → k < length f.instructions
    → IsOneOf k (listed_instructions f)
all_listed f h k lt =
    let xs = listed_instructions f in
    let none = none_missing None (first_missing (length f.instructions) xs) h in
    elim (is_among xs k) as (λ b. is_among xs k ≡ b → IsOneOf k xs) [
      | true ↦ λ e. among_in xs k e
      | false ↦ λ e. absurd (find_none (λ j. not (is_among xs j)) (range_with_len 0 (length f.instructions)) k none
          (in_range 0 (length f.instructions) k (omega arith) (omega arith)) (ap not e))
    ] refl

-- ---- by an instruction

index_of : {A : Type 0} (xs : List A) (x : A) → IsOneOf x xs → (k : ℕ) × (k < length xs) × (slice_get xs k ≡ Some x)
index_of [] x i = absurd i
index_of (y ∷ xs) x (inl same) = (0, omega arith, ap Some (sym same))
index_of (y ∷ xs) x (inr i) = let r = index_of xs x i in let lt = r.1 in (suc r.0, omega arith, r.2)

either_one : (a b : Bool) → (a ≡ true) ⊎ (b ≡ true) → (a || b) ≡ true
either_one true b h = refl
either_one false b (inl h) = cc
either_one false b (inr h) = h

has_number : (id : IdentifierId) (ps : List Place) → IsOneOf id.0 (numbers_of ps) → has_place id ps ≡ true
has_number id [] i = absurd i
has_number id (p ∷ ps) (inl same) = either_one (p.identifier.0 == id.0) (has_place id ps)
    (inl (ap (λ n. n == id.0) (sym same) ∙ eqb_itself id.0))
has_number id (p ∷ ps) (inr i) = either_one (p.identifier.0 == id.0) (has_place id ps) (inr (has_number id ps i))

-- what an instruction writes, it writes
written_writes : (id : IdentifierId) (i : Instruction) → IsOneOf id.0 (written i) → writes id i ≡ true
written_writes id i h =
    let a = i.lvalue.identifier.0 == id.0 in
    let b = has_place id (lvalues_of i.value) in
    let c = has_place id (stored_places i.value) in
    ⊎_elim
    (λ first. ⊎_elim
    (λ same. either_one a (b || c) (inl (ap (λ n. n == id.0) (sym same) ∙ eqb_itself id.0)))
    (λ later. either_one a (b || c) (inr (either_one b c (inl (has_number id (lvalues_of i.value) later)))))
    first)
    (λ stored. either_one a (b || c) (inr (either_one b c (inr (has_number id (stored_places i.value) stored)))))
    (in_either (numbers_of (i.lvalue ∷ lvalues_of i.value)) (numbers_of (stored_places i.value)) id.0 h)

both_one : (a b : Bool) → a ≡ true → b ≡ true → (a && b) ≡ true
both_one true b p q = q
both_one false b p q = cc

module _ (is : List Instruction) (id : IdentifierId) (end : ℕ) (k : ℕ)
    (found : (i : InstructionId) → i.0 ≡ k → defines is id end i ≡ true) where
  in_block : (ids : List InstructionId) → IsOneOf k (map (λ (i : InstructionId). i.0) ids)
      → first_defining is id end ids ≡ None → ⊥
  in_block [] i h = i
  in_block (x ∷ ids) i h =
      elim (defines is id end x) as (λ b. defines is id end x ≡ b → (if b then Some x else first_defining is id end ids)
      ≡ None → ⊥) [
        | true ↦ λ e none. cc
        | false ↦ λ e none. ⊎_elim (λ same. let t = found x (sym same) in cc) (λ later. in_block ids later none) i
      ] refl h

  neither : (a b : Option InstructionId) → or_else a b ≡ None → (a ≡ None) × (b ≡ None)
  neither None b h = (refl, h)
  neither (Some x) b h = cc

  in_blocks : (bs : List (BlockId × BasicBlock))
      → IsOneOf k (flat_map (λ (e : BlockId × BasicBlock). map (λ (i : InstructionId). i.0) e.1.instructions) bs)
      → first_defining_of is id end bs ≡ None → ⊥
  in_blocks [] i h = i
  in_blocks (b ∷ bs) i h =
      let n = neither (first_defining is id end b.1.instructions) (first_defining_of is id end bs) h in
      ⊎_elim (λ here. in_block b.1.instructions here n.0) (λ later. in_blocks bs later n.1)
      (in_either (map (λ (j : InstructionId). j.0) b.1.instructions)
      (flat_map (λ (e : BlockId × BasicBlock). map (λ (j : InstructionId). j.0) e.1.instructions) bs) k i)

instruction_found : (f : HirFunction) (id : IdentifierId) (end : ℕ) → instructions_listed None f ≡ Ok tt
    → InstructionCause f.instructions id.0 end → defined_by f id end ≡ None → ⊥
instruction_found f id end all c none =
    let at = index_of f.instructions c.0 c.1 in
    let ends : ends_range id end c.0 ≡ true =
    both_one (c.0.id.0 + 1 == end) (writes id c.0) (ap (λ n. n == end) (sym c.3) ∙ eqb_itself end)
    (written_writes id c.0 c.2) in
    let found : (i : InstructionId) → i.0 ≡ at.0 → defines f.instructions id end i ≡ true =
    λ i same. ap (λ n. option_map_or (ends_range id end) (slice_get f.instructions n) false) same
    ∙ ap (λ o. option_map_or (ends_range id end) o false) at.2 ∙ ends in
    in_blocks f.instructions id end at.0 found f.body.blocks (all_listed f all at.0 at.1) none

-- ---- no cause

none_defined : (o : Option InstructionId) (r : Result Cause HirError) → defined_or o r ≡ Ok NoCause → o ≡ None
none_defined None r h = refl
none_defined (Some i) r h = cc

not_defined : (f : HirFunction) (id : IdentifierId) (end : ℕ) (b : Bool)
    → (if b then Ok Unset else defined_or (defined_by f id end) (mutated_or_not f id end)) ≡ Ok NoCause → (b ≡ false)
    × (defined_by f id end ≡ None)
not_defined f id end true h = cc
not_defined f id end false h = (refl, none_defined (defined_by f id end) (mutated_or_not f id end) h)

pub never_none : (f : HirFunction) (id : IdentifierId) → instructions_listed None f ≡ Ok tt
    → (l : Listing) (old new : List Identifier) → listed f ≡ Ok l
    → Causes (graph_listed l) l.mutations f.instructions old new
    → end_at old id.0 ≡ 0 → cause_of f id (end_at new id.0) ≡ Ok NoCause → ⊥
never_none f id all l old new is causes unset h =
    let end = end_at new id.0 in
    let n = not_defined f id end (end == 0) h in
    ⊎_elim
    (λ same. let zero_is : (end == 0) ≡ true = ap (λ k. k == 0) (same ∙ unset) ∙ eqb_itself 0 in let off = n.0 in cc)
    (λ c. ⊎_elim
    (λ m. cause_nothing f l id end is NoCause h m.0 m.1 (sym m.5) m.2 (id_is m.2.id id m.3) m.4)
    (λ i. instruction_found f id end all i n.1)
    c)
    (causes id.0)
