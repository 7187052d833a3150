-- Functions that differ in effects of places and in their summaries alone.
use Rattle.std.specs.Prelude.{◌≡◌, ℕ, ◌+◌, ◌==◌, ◌&&◌, ◌||◌, Bool, true, false, if◌then◌else◌, List, [], ◌∷◌, Option}
use Rattle.std.specs.Prelude.{Some, None, Result, Ok, map, option_map, slice_get, refl}
use Rattle.std.specs.List.{list_any}
use Rattle.std.specs.Option.{option_map_or}
use Rattle.std.proofs.Common.{ap, sym, ◌∙◌, subst}
use Rattle.std.proofs.lemmas.Bool.{eqb-true}
use Rattle.std.proofs.lemmas.Option.{slice_get-map}
use Rattle.alias_base.specs.Answer.{◌>>=◌}
use Rattle.alias_base.specs.declared.ids.BlockId.{BlockId}
use Rattle.alias_base.specs.declared.ids.IdentifierId.{IdentifierId}
use Rattle.alias_base.specs.declared.ids.InstructionId.{InstructionId}
use Rattle.alias_fitting_laws.specs.bare.BareParts.{terminal_records}
use Rattle.alias_graph.specs.recorded.BlockListings.{listed}
use Rattle.alias_graph.specs.recorded.Recording.{graph_listed}
use Rattle.alias_graph.specs.declared.recorded.listing.Listing.{Listing}
use Rattle.alias_explain.specs.Causes.{writes, ends_range, defines, first_cause, or_else, first_defining}
use Rattle.alias_explain.specs.Causes.{first_defining_of, defined_by, defined_or, mutated_or_not, cause_of}
use Rattle.alias_explain.specs.Standing.{has_place, is_named, instructions_name, terminals_name}
use Rattle.alias_explain.specs.declared.cause.Cause.{Cause}
use Rattle.alias_explain.specs.declared.cause.Cause.TheVariants.{Unset}
use Rattle.alias_rules.specs.function_rules.Rules.{is_among}
use Rattle.alias_hir.specs.declared.error.HirError.{HirError}
use Rattle.alias_hir.specs.Terminals.{terminal_effects}
use Rattle.alias_hir.specs.declared.hir.BasicBlock.{BasicBlock}
use Rattle.alias_hir.specs.declared.hir.HirFunction.{HirFunction}
use Rattle.alias_hir.specs.declared.hir.Instruction.{Instruction}
use Rattle.alias_hir.specs.declared.place.Place.{Place}
use Rattle.alias_hir.specs.declared.value.InstructionValue.{InstructionValue}
use Rattle.alias_hir.specs.declared.value.InstructionValue.TheVariants as value
use Rattle.alias_inferred_laws.specs.inferred.Solutions.{but_ranged}
use Rattle.alias_inferred_laws.proofs.inferred.Listing.{without_summary}
use Rattle.alias_inferred_laws.proofs.lints.Placing.{listed_alike}
use Rattle.alias_nesting_laws.specs.ClosureLaws.{left_true, right_true}
use Rattle.alias_nesting_laws.specs.FittingLaws.{first_among, later_among}
use Rattle.alias_nesting_laws.specs.PartLaws.{among_cases}
use Rattle.alias_range_pass.specs.places.Causes.{numbers_of, stored_places}
use Rattle.alias_range_pass.specs.places.Keeping.{but_effect, but_value, but_instruction, but_entry}
use Rattle.alias_range_pass.specs.places.MappedLaws.{pattern_back}
use Rattle.alias_graph.proofs.Covering.{eqb_itself}
use Rattle.alias_visit.specs.Operands.{lvalues_of}
use Rattle.alias_hir.specs.Parts.{pattern_places}

-- ---- places by their identifiers

has_numbers : (id : IdentifierId) (ps : List Place) → has_place id ps ≡ list_any (λ k. k == id.0) (numbers_of ps)
has_numbers id [] = refl
has_numbers id (p ∷ ps) = ap (λ b. (p.identifier.0 == id.0) || b) (has_numbers id ps)

same_places : (id : IdentifierId) (ps qs : List Place) → numbers_of qs ≡ numbers_of ps → has_place id qs
    ≡ has_place id ps
same_places id ps qs e = has_numbers id qs ∙ ap (λ ks. list_any (λ k. k == id.0) ks) e ∙ sym (has_numbers id ps)

pub has_among : (id : IdentifierId) (ps : List Place) → has_place id ps ≡ true → is_among (numbers_of ps) id.0 ≡ true
has_among id [] h = cc
has_among id (p ∷ ps) h =
    elim (p.identifier.0 == id.0) as (λ b. (p.identifier.0 == id.0) ≡ b → (b || has_place id ps) ≡ true
    → is_among (numbers_of (p ∷ ps)) id.0 ≡ true) [
      | true ↦ λ e g. subst (λ z. is_among (z ∷ numbers_of ps) id.0 ≡ true) (sym (eqb-true p.identifier.0 id.0 e))
          (first_among id.0 (numbers_of ps))
      | false ↦ λ e g. later_among p.identifier.0 (numbers_of ps) id.0 (has_among id ps g)
    ] refl h

pub among_has : (id : IdentifierId) (ps : List Place) → is_among (numbers_of ps) id.0 ≡ true → has_place id ps ≡ true
among_has id [] h = cc
among_has id (p ∷ ps) h =
    among_cases p.identifier.0 (numbers_of ps) id.0 (has_place id (p ∷ ps) ≡ true) h
    (λ e. left_true (p.identifier.0 == id.0) (has_place id ps) (ap (λ n. n == id.0) (sym e) ∙ eqb_itself id.0))
    (λ later. right_true (p.identifier.0 == id.0) (has_place id ps) (among_has id ps later))

-- ---- what instructions write

numbers_but : (ps : List Place) → numbers_of (map but_effect ps) ≡ numbers_of ps
numbers_but [] = refl
numbers_but (p ∷ ps) = ap (λ z. p.identifier.0 ∷ z) (numbers_but ps)

lvalues_but : (v : InstructionValue) → numbers_of (lvalues_of (but_value v)) ≡ numbers_of (lvalues_of v)
lvalues_but (value.Destructure lvalue x) = ap numbers_of (pattern_back but_effect lvalue.pattern)
    ∙ numbers_but (pattern_places lvalue.pattern)
lvalues_but v = refl

stored_but : (v : InstructionValue) → numbers_of (stored_places (but_value v)) ≡ numbers_of (stored_places v)
stored_but (value.StoreContext lvalue x) = refl
stored_but v = refl

writes_but : (id : IdentifierId) (i : Instruction) → writes id (but_instruction i) ≡ writes id i
writes_but id i =
    ap (λ b. (i.lvalue.identifier.0 == id.0) || (b || has_place id (stored_places (but_value i.value))))
    (same_places id (lvalues_of i.value) (lvalues_of (but_value i.value)) (lvalues_but i.value))
    ∙ ap (λ b. (i.lvalue.identifier.0 == id.0) || (has_place id (lvalues_of i.value) || b))
    (same_places id (stored_places i.value) (stored_places (but_value i.value)) (stored_but i.value))

ends_but : (id : IdentifierId) (end : ℕ) (o : Option Instruction)
    → option_map_or (ends_range id end) (option_map but_instruction o) false ≡ option_map_or (ends_range id end) o false
ends_but id end None = refl
ends_but id end (Some i) = ap (λ b. (i.id.0 + 1 == end) && b) (writes_but id i)

defines_but : (is : List Instruction) (id : IdentifierId) (end : ℕ) (i : InstructionId)
    → defines (map but_instruction is) id end i ≡ defines is id end i
defines_but is id end i = ap (λ o. option_map_or (ends_range id end) o false) (slice_get-map but_instruction is i.0)
    ∙ ends_but id end (slice_get is i.0)

first_but : (is : List Instruction) (id : IdentifierId) (end : ℕ) (ids : List InstructionId)
    → first_defining (map but_instruction is) id end ids ≡ first_defining is id end ids
first_but is id end [] = refl
first_but is id end (i ∷ ids) =
    ap (λ b. if b then Some i else first_defining (map but_instruction is) id end ids) (defines_but is id end i)
    ∙ ap (λ o. if defines is id end i then Some i else o) (first_but is id end ids)

all_but : (is : List Instruction) (id : IdentifierId) (end : ℕ) (bs : List (BlockId × BasicBlock))
    → first_defining_of (map but_instruction is) id end (map but_entry bs) ≡ first_defining_of is id end bs
all_but is id end [] = refl
all_but is id end (b ∷ bs) =
    ap (λ o. or_else o (first_defining_of (map but_instruction is) id end (map but_entry bs)))
    (first_but is id end b.1.instructions)
    ∙ ap (λ o. or_else (first_defining is id end b.1.instructions) o) (all_but is id end bs)

-- ---- what effects name

instructions_but : (id : IdentifierId) (is : List Instruction) → instructions_name id (map but_instruction is)
    ≡ instructions_name id is
instructions_but id [] = refl
instructions_but id (i ∷ is) = ap (λ b. is_named id i.effects || b) (instructions_but id is)

terminals_but : (id : IdentifierId) (bs : List (BlockId × BasicBlock)) → terminals_name id (map but_entry bs)
    ≡ terminals_name id bs
terminals_but id [] = refl
terminals_but id (b ∷ bs) =
    ap (λ es. is_named id es || terminals_name id (map but_entry bs)) (terminal_records b.1.terminal)
    ∙ ap (λ c. is_named id (terminal_effects b.1.terminal) || c) (terminals_but id bs)

-- ---- functions

-- the functions are the same but for effects of places and summaries
abbrev pub AreAlike : HirFunction → HirFunction → Type 0
AreAlike f g = but_ranged g ≡ but_ranged f

-- an effect of the function names the identifier
abbrev pub effects_name : IdentifierId → HirFunction → Bool
effects_name id f = instructions_name id f.instructions || terminals_name id f.body.blocks

module _ (f g : HirFunction) (alike : AreAlike f g) where
  alike_defined : (id : IdentifierId) (end : ℕ) → defined_by g id end ≡ defined_by f id end
  alike_defined id end =
      sym (all_but g.instructions id end g.body.blocks) ∙ ap (λ (h : HirFunction). defined_by h id end) alike
      ∙ all_but f.instructions id end f.body.blocks

  pub alike_listed : listed g ≡ listed f
  alike_listed = listed_alike (without_summary f) (without_summary g) alike

  -- a range ends for the same reason
  pub alike_cause : (id : IdentifierId) (end : ℕ) → cause_of g id end ≡ cause_of f id end
  alike_cause id end =
      let mutated : Result Listing HirError → Result Cause HirError = λ r. r
      >>= (λ (k : Listing). Ok (first_cause (graph_listed k) id end k.mutations)) in
      ap (λ o. if end == 0 then Ok Unset else defined_or o (mutated_or_not g id end)) (alike_defined id end)
      ∙ ap (λ r. if end == 0 then Ok Unset else defined_or (defined_by f id end) (mutated r)) alike_listed

  -- effects name the same
  pub alike_names : (id : IdentifierId) → effects_name id g ≡ effects_name id f
  alike_names id =
      let both : HirFunction → Bool = λ h. effects_name id h in
      sym (ap (λ b. b || terminals_name id (map but_entry g.body.blocks)) (instructions_but id g.instructions)
      ∙ ap (λ b. instructions_name id g.instructions || b) (terminals_but id g.body.blocks))
      ∙ ap both alike
      ∙ ap (λ b. b || terminals_name id (map but_entry f.body.blocks)) (instructions_but id f.instructions)
      ∙ ap (λ b. instructions_name id f.instructions || b) (terminals_but id f.body.blocks)
