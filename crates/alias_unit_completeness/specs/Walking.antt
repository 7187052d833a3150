-- The analysis of the functions below a function is refused for the causes alone for which the passes of the unit's
-- functions are, over tables that keep those of the unit.
use Rattle.std.specs.Prelude.{◌≡◌, ◌⊎◌, ℕ, ◌+◌, ◌≤◌, ◌==◌, nat_eq, Bool, true, false, cond, List, [], ◌∷◌, ◌++◌}
use Rattle.std.specs.Prelude.{Option, Some, None, Ok, option_map, length, map, slice_get, refl}
use Rattle.std.proofs.Common.{zero, suc, ap, sym, ◌∙◌, subst, inl, inr, arith}
use Rattle.std.proofs.lemmas.Bool.{eqb-true}
use Rattle.std.proofs.lemmas.List.{map-append}
use Rattle.std.specs.List.{AllByRecursion, flat_map}
use Rattle.alias_base.specs.declared.ids.BlockId.{BlockId}
use Rattle.alias_base.specs.declared.ids.FunctionId.{FunctionId}
use Rattle.alias_base.specs.declared.ids.InstructionId.{InstructionId}
use Rattle.alias_rules.specs.function_rules.Rules.{is_among, tables_fit}
use Rattle.alias_hir.specs.Values.{created}
use Rattle.alias_hir.specs.declared.env.Environment.{Environment}
use Rattle.alias_hir.specs.declared.error.InferError.{InferError}
use Rattle.alias_hir.specs.declared.hir.BasicBlock.{BasicBlock}
use Rattle.alias_hir.specs.declared.hir.HirFunction.{HirFunction}
use Rattle.alias_hir.specs.declared.hir.Instruction.{Instruction}
use Rattle.alias_nested.proofs.Counting.{numbers_innermost_first, listed_level}
use Rattle.alias_nested.proofs.InOrder.{times_append}
use Rattle.alias_nested.specs.Analysis.{Analysis, put_back}
use Rattle.alias_nested.specs.Answers.{Answers, Each}
use Rattle.alias_nested.specs.Created.{one_of, created_by, created_by_all, created_functions}
use Rattle.alias_nested.specs.Order.{created_by_slot, innermost_first, numbers}
use Rattle.alias_nested.specs.Slots.{emptied}
use Rattle.alias_nesting_laws.specs.PartLaws.{absent}
use Rattle.alias_nesting_laws.specs.Slots.{with_function}
use Rattle.alias_answer_laws.proofs.order.Ordering.{neither}
use Rattle.alias_range_pass.specs.places.Keeping.{but_context}
use Rattle.alias_rules.specs.Nesting.{created_in, created_of, created_at, times}
use Rattle.alias_rules.specs.TreeLaws.{times_cons, times_both, counted}
use Rattle.alias_validate.specs.Levels.{function_within, created_within, is_within}
use Rattle.alias_visit.specs.Places.{created_places}
use Rattle.alias_plainness.specs.Making.{number}
use Rattle.alias_completeness.specs.Fitting.{among_both}
use Rattle.alias_completeness.specs.Going.{all_both}
use Rattle.alias_completeness.specs.summaries.Faces.{HasPlaces, HasFace, TheseHaveFaces, SameOwn}
use Rattle.alias_completeness.specs.summaries.Faces.{context_ids, in_slot, places_alike, Stays}
use Rattle.alias_completeness.specs.AgreeingFacts.{AgreesOn}
use Rattle.alias_unit_completeness.specs.Beginning.{agrees_kept, self_once, created_there}
use Rattle.alias_unit_completeness.specs.Answering.{AllMeet, meets_on, only_meets, then_meets, One, Taken, Found}
use Rattle.alias_unit_completeness.specs.Answering.{InSlot, Below}
use Rattle.alias_unit_completeness.specs.Moments.{all_at}
use Rattle.alias_unit_completeness.specs.Standing.{context_numbers, Stands, stands_fewer, stands_stays, stands_out}
use Rattle.alias_unit_completeness.specs.Standing.{stands_back, found_below}

-- ---- functions that are analysed once

-- those that wait still once these are analysed
abbrev pub After : (ℕ → Type 0) → List FunctionId → ℕ → Type 0
After W ids k = W k × (is_among (numbers ids) k ≡ false)

-- each is there once, none of them is out, and they wait
pub record Once (out : List ℕ) (W : ℕ → Type 0) (ids : List FunctionId) : Type 0 where
  pub once : (j : ℕ) → times out j + times (numbers ids) j ≤ 1
  pub waits : (j : ℕ) → 1 ≤ times (numbers ids) j → W j

not_twice : (xs : List ℕ) (ys : List ℕ) (j : ℕ) → times xs j + times ys j ≤ 1 → 1 ≤ times ys j → is_among xs j ≡ false
not_twice xs ys j h g = absent (is_among xs j) (λ i. let a : 1 ≤ times xs j = counted xs j i in absurd (omega arith))

once_first : (out : List ℕ) (W : ℕ → Type 0) (xs ys : List FunctionId) → Once out W (xs ++ ys) → Once out W xs
once_first out W xs ys p = record {
  once = λ j. let o = p.once j in let t = times_append xs ys j in omega arith;
  waits = λ j h. p.waits j (let t = times_append xs ys j in omega arith);
}

once_rest : (out : List ℕ) (W : ℕ → Type 0) (xs ys : List FunctionId) → Once out W (xs ++ ys) → Once out (After W xs) ys
once_rest out W xs ys p = record {
  once = λ j. let o = p.once j in let t = times_append xs ys j in omega arith;
  waits = λ j h.
      let t = times_append xs ys j in (
        p.waits j (let a = h in omega arith),
        not_twice (numbers xs) (numbers ys) j (let o = p.once j in let a = t in omega arith) h,
      );
}

among_append : (xs ys : List FunctionId) (k : ℕ) → is_among (numbers (xs ++ ys)) k ≡ false
    → (is_among (numbers xs) k ≡ false) × (is_among (numbers ys) k ≡ false)
among_append xs ys k h =
    neither (is_among (numbers xs) k) (is_among (numbers ys) k)
    (sym (among_both (numbers xs) (numbers ys) k)
    ∙ sym (ap (λ ns. is_among ns k) (map-append (λ (id : FunctionId). id.0) xs ys)) ∙ h)

-- ---- the walk

-- the function of the unit that another one is, but for the effects of context places
pub record InUnit (base : Environment) (k : ℕ) (g : HirFunction) : Type 0 where
  pub func : HirFunction
  pub at : slice_get base.functions k ≡ Some func
  pub same : but_context g ≡ but_context func

in_unit : (base : Environment) (k : ℕ) (g : HirFunction) (o : Option HirFunction) → slice_get base.functions k ≡ o
    → option_map but_context (Some g) ≡ option_map but_context o → InUnit base k g
in_unit base k g None e h = cc
in_unit base k g (Some f) e h = record {
  func = f;
  at = e;
  same = (let same : but_context g ≡ but_context f = cc in same);
}

same_none : (fs gs : List HirFunction) (k : ℕ) → length gs ≡ length fs → slice_get fs k ≡ None → slice_get gs k ≡ None
same_none [] [] k e h = refl
same_none [] (g ∷ gs) k e h = absurd (omega arith)
same_none (f ∷ fs) [] k e h = refl
same_none (f ∷ fs) (g ∷ gs) zero e h = cc
same_none (f ∷ fs) (g ∷ gs) (suc k) e h = same_none fs gs k (omega arith) h

-- ---- what is analysed below a function

-- the functions on n levels below a number and the number itself are among those on one more level that it is on
branch : (n : ℕ) (c : ℕ → List ℕ) (xs : List ℕ) (k j : ℕ) → 1 ≤ times xs k
    → times (numbers_innermost_first n c (c k)) j + times (k ∷ []) j ≤ times (numbers_innermost_first (suc n) c xs) j
unfolding numbers_innermost_first
branch n c [] k j h = let none : times [] k ≡ 0 = refl in absurd (omega arith)
branch n c (x ∷ xs) k j h =
    let g : ℕ → List ℕ = λ y. numbers_innermost_first n c (c y) ++ y ∷ [] in
    let a : times (g x ++ flat_map g xs) j ≡ times (g x) j + times (flat_map g xs) j =
    times_both (g x) (flat_map g xs) j in
    let b : times (numbers_innermost_first n c (c x) ++ x ∷ []) j ≡ times (numbers_innermost_first n c (c x)) j
    + times (x ∷ []) j = times_both (numbers_innermost_first n c (c x)) (x ∷ []) j in
    let first : times (numbers_innermost_first n c (c x)) j + times (x ∷ []) j ≤ times (g x ++ flat_map g xs) j =
    omega arith in
    elim (x == k) as (λ t. (x == k) ≡ t
    → times (numbers_innermost_first n c (c k)) j + times (k ∷ []) j ≤ times (g x ++ flat_map g xs) j) [
      | true ↦ λ e. subst (λ z. times (numbers_innermost_first n c (c z)) j + times (z ∷ []) j
          ≤ times (g x ++ flat_map g xs) j) (eqb-true x k e) first
      | false ↦ λ e.
          let p : times (x ∷ xs) k ≡ 0 + times xs k = times_cons x xs k
          ∙ ap (λ (t : Bool). cond t 1 0 + times xs k) e in
          let rest : times (numbers_innermost_first n c (c k)) j + times (k ∷ []) j ≤ times (flat_map g xs) j =
          branch n c xs k j (omega arith) in
          omega arith
    ] refl

-- The functions on n levels below the numbers: each is there once, none of them is out, and it is one of these.
pub record Tree (base : Environment) (Own : ℕ → Type 0) (n : ℕ) (out xs : List ℕ) : Type 0 where
  pub once : (j : ℕ) → times out j + times (numbers_innermost_first n (created_at base) xs) j ≤ 1
  pub own : (j : ℕ) → 1 ≤ times (numbers_innermost_first n (created_at base) xs) j → Own j

-- the function of a number goes so many levels down
abbrev IsDeep : Environment → ℕ → FunctionId → Type 0
IsDeep base n id = function_within (is_within n base) (slice_get base.functions id.0) ≡ true

-- a function that is created while these are out
record Branch (base : Environment) (Own : ℕ → Type 0) (n : ℕ) (out : List ℕ) (id : FunctionId) : Type 0 where
  deep : IsDeep base (suc n) id
  own : Own id.0
  below : Tree base Own n (id.0 ∷ out) (created_at base id.0)

branch_of : (base : Environment) (Own : ℕ → Type 0) (n : ℕ) (out xs : List ℕ) (id : FunctionId)
    → Tree base Own (suc n) out xs → IsDeep base (suc n) id → 1 ≤ times xs id.0 → Branch base Own n out id
branch_of base Own n out xs id t deep there =
    let c : ℕ → List ℕ = created_at base in
    record {
      deep = deep;
      own = t.own id.0 (let b = branch n c xs id.0 id.0 there in
          let one : times (id.0 ∷ []) id.0 ≡ 1 = self_once id.0 in omega arith);
      below = record {
        once = λ j.
            let b = branch n c xs id.0 j there in
            let o = t.once j in
            let p : times (id.0 ∷ out) j ≡ cond (id.0 == j) 1 0 + times out j = times_cons id.0 out j in
            let q : times (id.0 ∷ []) j ≡ cond (id.0 == j) 1 0 + times [] j = times_cons id.0 [] j in
            omega arith;
        own = λ j h. t.own j (let b = branch n c xs id.0 j there in omega arith);
      };
    }

-- what is so of each function that an instruction creates
module _ (P : FunctionId → Type 0) (f : HirFunction)
    (each : (i : InstructionId) (x : Instruction) (c : FunctionId) → slice_get f.instructions i.0 ≡ Some x
    → created x.value ≡ Some c → P c) where
  one_created : (i : InstructionId) (x : Instruction) → slice_get f.instructions i.0 ≡ Some x → (o : Option FunctionId)
      → created x.value ≡ o → AllByRecursion P (one_of o)
  one_created i x at None e = tt
  one_created i x at (Some c) e = (each i x c at e, tt)

  found_created : (i : InstructionId) (o : Option Instruction) → slice_get f.instructions i.0 ≡ o
      → AllByRecursion P (created_by o)
  found_created i None at = tt
  found_created i (Some x) at = one_created i x at (created x.value) refl

  listed_created : (is : List InstructionId) → AllByRecursion P (created_by_all f is)
  listed_created [] = tt
  listed_created (i ∷ is) = all_both P (created_by (slice_get f.instructions i.0)) (created_by_all f is)
      (found_created i (slice_get f.instructions i.0) refl) (listed_created is)

  blocks_created : (bs : List (BlockId × BasicBlock))
      → AllByRecursion P (flat_map (λ (b : BlockId × BasicBlock). created_by_all f b.1.instructions) bs)
  blocks_created [] = tt
  blocks_created (b ∷ bs) = all_both P (created_by_all f b.1.instructions)
      (flat_map (λ (b : BlockId × BasicBlock). created_by_all f b.1.instructions) bs)
      (listed_created b.1.instructions) (blocks_created bs)

  -- is so of those that are analysed
  all_created : AllByRecursion P (created_functions f)
  all_created = blocks_created f.body.blocks

module _ (base : Environment) where
  abbrev ids_below : ℕ → FunctionId → List FunctionId
  ids_below n id = innermost_first n base.functions (created_by_slot (slice_get base.functions id.0))

  abbrev ids_of : ℕ → FunctionId → List FunctionId
  ids_of n id = ids_below n id ++ id ∷ []

  deep_created : (n : ℕ) (f : HirFunction) → is_within (suc n) base f ≡ true → (i : InstructionId) (x : Instruction)
      → slice_get f.instructions i.0 ≡ Some x → created_within (is_within n base) base (created x.value) ≡ true
  unfolding is_within
  deep_created n f h i x e = all_at (λ (y : Instruction). created_within (is_within n base) base (created y.value))
      f.instructions i.0 x h e

  nothing_deep : (o : Option HirFunction) → function_within (is_within zero base) o ≡ true → o ≡ None
  unfolding is_within
  nothing_deep None h = refl
  nothing_deep (Some f) h = cc

  module _ (n : ℕ) (id : FunctionId) (out : List ℕ) (W : ℕ → Type 0) (once : Once out W (ids_of n id)) where
    itself_once : times (numbers (ids_of n id)) id.0 ≡ times (numbers (ids_below n id)) id.0 + 1
    itself_once =
        let t = times_append (ids_below n id) (id ∷ []) id.0 in
        let c : times (id.0 ∷ []) id.0 ≡ 1 = self_once id.0 in
        omega arith

    not_out : is_among out id.0 ≡ false
    not_out = not_twice out (numbers (ids_of n id)) id.0 (once.once id.0) (let b = itself_once in omega arith)

    once_below : Once (id.0 ∷ out) W (ids_below n id)
    once_below = record {
      once = λ j.
          let o = once.once j in
          let t = times_append (ids_below n id) (id ∷ []) j in
          let c : times (id.0 ∷ []) j ≡ cond (id.0 == j) 1 0 + 0 = times_cons id.0 [] j in
          let d : times (id.0 ∷ out) j ≡ cond (id.0 == j) 1 0 + times out j = times_cons id.0 out j in
          omega arith;
      waits = λ j h. once.waits j (let t = times_append (ids_below n id) (id ∷ []) j in omega arith);
    }

    -- what is left of those that wait
    fewer_after : (k : ℕ) → After W (ids_of n id) k → After W (ids_below n id) k × (nat_eq k id.0 ≡ false)
    fewer_after k h =
        let b = among_append (ids_below n id) (id ∷ []) k h.1 in
        ((h.0, b.0), (neither (nat_eq k id.0) false b.1).0)

    itself_waits : W id.0
    itself_waits = once.waits id.0 (let b = itself_once in omega arith)

  module _ (fit : tables_fit base ≡ Ok tt) (Own : ℕ → Type 0) where
    -- what the function creates isn't out while it is analysed
    created_not_out : (n : ℕ) (f : HirFunction) (out : List ℕ) → is_within (suc n) base f ≡ true
        → Tree base Own n out (created_in f) → (i : InstructionId) (x : Instruction) (c : FunctionId)
        → slice_get f.instructions i.0 ≡ Some x → created x.value ≡ Some c
        → (is_among out c.0 ≡ false) ⊎ (slice_get base.functions c.0 ≡ None)
    created_not_out zero f out deep tree i x c found makes =
        inr (nothing_deep (slice_get base.functions c.0)
        (sym (ap (created_within (is_within zero base) base) makes) ∙ deep_created zero f deep i x found))
    created_not_out (suc n) f out deep tree i x c found makes =
        let below : List ℕ = numbers_innermost_first (suc n) (created_at base) (created_in f) in
        let level : times below c.0 ≡ times (created_in f) c.0
        + times (numbers_innermost_first n (created_at base) (flat_map (created_at base) (created_in f))) c.0
        = listed_level n (created_at base) (created_in f) c.0 in
        let own : 1 ≤ times (created_in f) c.0 = created_there f.instructions i.0 x c found makes in
        let there : 1 ≤ times below c.0 = omega arith in
        inl (not_twice out below c.0 (tree.once c.0) there)

    -- over what a function's environment has become, more says of what the function names what the unit does
    agrees_now : (Faced : ℕ → Type 0) (n : ℕ) (f : HirFunction) (out : List ℕ) (V : ℕ → Type 0) (env : Environment)
        → is_within (suc n) base f ≡ true → Tree base Own n out (created_in f) → Stands Faced base out V env
        → AgreesOn f base env
    agrees_now Faced n f out V env deep tree s =
        record {
          agrees = agrees_kept base env fit s.tables;
          contexts = λ i x found. of_created i x found (created x.value) refl;
        }
      where
        of_created : (i : InstructionId) (x : Instruction) → slice_get f.instructions i.0 ≡ Some x
            → (o : Option FunctionId) → created x.value ≡ o → map number (created_places env o)
            ≡ map number (created_places base o)
        of_created i x found None e = refl
        of_created i x found (Some c) e = elim (created_not_out n f out deep tree i x c found e) [
          | inl h ↦ s.contexts c.0 h
          | inr h ↦ ap context_numbers (same_none base.functions env.functions c.0 s.count h)
              ∙ sym (ap context_numbers h)
        ]

-- a function's passes leave its own places and the environment
pub record Turned (g : HirFunction) (a : Analysis) (s : HirFunction × Analysis) : Type 0 where
  pub own : SameOwn g s.0
  pub face : HasFace (length s.1.env.identifiers) s.0
  pub stays : Stays a.env s.1.env

-- what a function leaves that is out of its slot
record Left (Faced : ℕ → Type 0) (base : Environment) (id : FunctionId) (out : List ℕ) (W : ℕ → Type 0)
    (t : HirFunction × Analysis) : Type 0 where
  contexts : map number t.0.context ≡ context_numbers (slice_get base.functions id.0)
  face : HasFace (length t.1.env.identifiers) t.0
  stands : Stands Faced base (id.0 ∷ out) W t.1.env

module _ (E : InferError → Type 0) (one : One) (base : Environment) (fit : tables_fit base ≡ Ok tt)
    (Own Faced : ℕ → Type 0)
    (places : (id : FunctionId) (f : HirFunction) → Own id.0 → slice_get base.functions id.0 ≡ Some f
    → HasPlaces (length base.identifiers) f)
    (turns : (id : FunctionId) (f g : HirFunction) (a : Analysis) → Own id.0
    → slice_get base.functions id.0 ≡ Some f → but_context g ≡ but_context f → AgreesOn f base a.env
    → TheseHaveFaces Faced (length a.env.identifiers) a.env.functions
    → HasPlaces (length a.env.identifiers) g → AllMeet E (Turned g a) (one id g a)) where
  abbrev AllStand : List ℕ → (ℕ → Type 0) → List FunctionId → Answers Analysis → Type 0
  AllStand out W ids answers = AllMeet E (λ (b : Analysis). Stands Faced base out (After W ids) b.env) answers

  abbrev Goes : ℕ → Type 1
  Goes n = (f g : HirFunction) (out : List ℕ) (W : ℕ → Type 0) (a : Analysis) → but_context g ≡ but_context f
      → is_within (suc n) base f ≡ true → Tree base Own n out (created_in f) → Stands Faced base out W a.env
      → Once out W (innermost_first n base.functions (created_functions f))
      → AllStand out W (innermost_first n base.functions (created_functions f)) (Below one n g a)

  module _ (n : ℕ) (goes : Goes n) (id : FunctionId) (out : List ℕ) (W : ℕ → Type 0)
      (once : Once out W (ids_of base n id)) (here : Branch base Own n out id) where
    module _ (g : HirFunction) (slot : InUnit base id.0 g) (deep : is_within (suc n) base slot.func ≡ true) where
      below : Tree base Own n (id.0 ∷ out) (created_in slot.func)
      below = subst (λ (o : Option HirFunction). Tree base Own n (id.0 ∷ out) (created_of o)) slot.at here.below

      same_order : innermost_first n base.functions (created_functions slot.func) ≡ ids_below base n id
      same_order = ap (λ (o : Option HirFunction). innermost_first n base.functions (created_by_slot o)) (sym slot.at)

      once_slot : Once (id.0 ∷ out) W (innermost_first n base.functions (created_functions slot.func))
      once_slot = subst (Once (id.0 ∷ out) W) (sym same_order) (once_below base n id out W once)

      -- its own passes, once those below it are analysed
      own_passes : (b : Analysis) → Stands Faced base (id.0 ∷ out) (After W (ids_below base n id)) b.env
          → AllMeet E (Left Faced base id out (After W (ids_below base n id))) (one id g b)
      own_passes b s =
          let V : ℕ → Type 0 = After W (ids_below base n id) in
          let agrees : AgreesOn slot.func base b.env =
          agrees_now base fit Own Faced n slot.func (id.0 ∷ out) V b.env deep below s in
          let there : HasPlaces (length b.env.identifiers) g
          = places_alike (length base.identifiers) (length b.env.identifiers) slot.func g
          (in_slot slot.func g slot.same) s.tables.longer (places id slot.func here.own slot.at) in
          let turned : AllMeet E (Turned g b) (one id g b) =
          turns id slot.func g b here.own slot.at slot.same agrees s.faces there in
          λ r h. meets_on E (Turned g b) (Left Faced base id out V) r
          (λ t k. record {
            contexts = k.own.context ∙ context_ids slot.func g slot.same ∙ sym (ap context_numbers slot.at);
            face = k.face;
            stands = stands_stays Faced base (id.0 ∷ out) V b.env t.1.env s k.stays;
          }) (turned r h)

      taken_goes : (a : Analysis) → Stands Faced base (id.0 ∷ out) W a.env
          → AllMeet E (Left Faced base id out (After W (ids_below base n id))) (Taken one (Below one n) id g a)
      taken_goes a s =
          then_meets E (λ (b : Analysis). Stands Faced base (id.0 ∷ out) (After W (ids_below base n id)) b.env)
          (Left Faced base id out (After W (ids_below base n id))) (Below one n g a) (one id g)
          (subst (λ ids. AllStand (id.0 ∷ out) W ids (Below one n g a)) same_order
          (goes slot.func g (id.0 ∷ out) W a slot.same deep below s once_slot)) own_passes

    found_goes : (a : Analysis) → Stands Faced base out W a.env → (o : Option HirFunction)
        → slice_get a.env.functions id.0 ≡ o → AllStand out W (ids_of base n id) (Found one (Below one n) id a o)
    found_goes a s None e = only_meets E (λ (b : Analysis). Stands Faced base out (After W (ids_of base n id)) b.env)
        (Ok a) (stands_fewer Faced base out W (After W (ids_of base n id)) a.env (λ k h. h.0) s)
    found_goes a s (Some g) e =
        let slot : InUnit base id.0 g = in_unit base id.0 g (slice_get base.functions id.0) refl
        (sym (ap (λ (o : Option HirFunction). option_map but_context o) e)
        ∙ s.waiting id.0 (not_out base n id out W once) (itself_waits base n id out W once)) in
        let deep : is_within (suc n) base slot.func ≡ true =
        sym (ap (function_within (is_within (suc n) base)) slot.at) ∙ here.deep in
        let out_of : Analysis = record a { env = with_function id (emptied g.returns) a.env } in
        then_meets E (Left Faced base id out (After W (ids_below base n id)))
        (λ (b : Analysis). Stands Faced base out (After W (ids_of base n id)) b.env)
        (Taken one (Below one n) id g out_of) _
        (taken_goes g slot deep out_of (stands_out Faced base id g out W a.env e s))
        (λ t h.
        only_meets E (λ (b : Analysis). Stands Faced base out (After W (ids_of base n id)) b.env) (Ok (put_back id t))
        (stands_fewer Faced base out (λ k. After W (ids_below base n id) k × (nat_eq k id.0 ≡ false))
        (After W (ids_of base n id)) (with_function id t.0 t.1.env) (fewer_after base n id out W once)
        (stands_back Faced base id t.0 out (After W (ids_below base n id)) t.1.env
        (found_below base.functions id.0 slot.func slot.at) h.contexts h.face h.stands)))

  each_goes : (n : ℕ) → Goes n → (ids : List FunctionId) (out : List ℕ)
      → AllByRecursion (Branch base Own n out) ids → (W : ℕ → Type 0) (a : Analysis) → Stands Faced base out W a.env
      → Once out W (flat_map (ids_of base n) ids)
      → AllStand out W (flat_map (ids_of base n) ids) (Each (InSlot one (Below one n)) ids a)
  each_goes n goes [] out branches W a s once =
      only_meets E (λ (b : Analysis). Stands Faced base out (After W []) b.env) (Ok a)
      (stands_fewer Faced base out W (After W []) a.env (λ k h. h.0) s)
  each_goes n goes (id ∷ ids) out branches W a s once =
      then_meets E (λ (b : Analysis). Stands Faced base out (After W (ids_of base n id)) b.env)
      (λ (b : Analysis). Stands Faced base out (After W (flat_map (ids_of base n) (id ∷ ids))) b.env)
      (InSlot one (Below one n) id a) (Each (InSlot one (Below one n)) ids)
      (found_goes n goes id out W (once_first out W (ids_of base n id) (flat_map (ids_of base n) ids) once) branches.0
      a s
      (slice_get a.env.functions id.0) refl)
      (λ b t r h. meets_on E (λ (c : Analysis).
      Stands Faced base out (After (After W (ids_of base n id)) (flat_map (ids_of base n) ids)) c.env)
      (λ (c : Analysis). Stands Faced base out (After W (flat_map (ids_of base n) (id ∷ ids))) c.env) r
      (λ c k. stands_fewer Faced base out (After (After W (ids_of base n id)) (flat_map (ids_of base n) ids))
      (After W (flat_map (ids_of base n) (id ∷ ids))) c.env
      (λ j l. let p = among_append (ids_of base n id) (flat_map (ids_of base n) ids) j l.1 in ((l.0, p.0), p.1)) k)
      (each_goes n goes ids out branches.1 (After W (ids_of base n id)) b t
      (once_rest out W (ids_of base n id) (flat_map (ids_of base n) ids) once) r h))

  -- the analysis of the functions on n levels
  pub goes : (n : ℕ) → Goes n
  unfolding Below innermost_first
  goes zero f g out W a same deep tree s once =
      only_meets E (λ (b : Analysis). Stands Faced base out (After W []) b.env) (Ok a)
      (stands_fewer Faced base out W (After W []) a.env (λ k h. h.0) s)
  goes (suc n) f g out W a same deep tree s once =
      let branches : AllByRecursion (Branch base Own n out) (created_functions f) =
      all_created (Branch base Own n out) f (λ i x c at makes.
      branch_of base Own n out (created_in f) c tree
      (sym (ap (created_within (is_within (suc n) base) base) makes) ∙ deep_created base (suc n) f deep i x at)
      (created_there f.instructions i.0 x c at makes)) in
      let same_created : created_functions f ≡ created_functions g = sym (ap created_functions same) in
      subst (λ ids. AllStand out W (flat_map (ids_of base n) (created_functions f))
      (Each (InSlot one (Below one n)) ids a)) same_created
      (each_goes n (goes n) (created_functions f) out branches W a s once)
