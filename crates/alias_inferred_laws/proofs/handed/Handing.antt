-- What the effects pass on a function found of those that were analysed before it stands in the unit that is handed
-- out.
use Rattle.std.specs.Prelude.{◌≡◌, nat_eq, cond, List, [], ◌∷◌, ◌++◌, Some, Ok, map, option_map, slice_get, refl}
use Rattle.std.proofs.Common.{inr, ⊎_elim, ap, sym, ◌∙◌, subst, arith, ◌+◌, ◌≤◌}
use Rattle.alias_base.specs.declared.ids.FunctionId.{FunctionId}
use Rattle.alias_hir.specs.declared.env.Environment.{Environment}
use Rattle.alias_hir.specs.declared.env.Unit.{Unit as HirUnit}
use Rattle.alias_range_pass.specs.places.Keeping.{but_context}
use Rattle.alias_rules.specs.Functions.{rules_hold}
use Rattle.alias_rules.specs.Nesting.{times}
use Rattle.alias_rules.specs.TreeLaws.{times_cons}
use Rattle.alias_nested.specs.Analysis.{Analysed, Analysis, analysis, most_levels}
use Rattle.alias_nested.specs.Order.{numbers}
use Rattle.alias_nested.specs.Units.{UnitAnalysis, unit_analysed, InfersUnit}
use Rattle.alias_nested.specs.declared.infer.Inferred.{Inferred}
use Rattle.alias_nested.proofs.Changing.{slots_stay}
use Rattle.alias_nested.proofs.Evolving.{passed_contexts}
use Rattle.alias_answer_laws.specs.order.Order.{nested_innermost_first}
use Rattle.alias_answer_laws.proofs.order.Solving.{root_apart, solved_in_order}
use Rattle.alias_inferred_laws.proofs.inferred.Carrying.{solutions_carried}
use Rattle.alias_inferred_laws.proofs.inferred.Explaining.{root, over, leaves}
use Rattle.alias_inferred_laws.proofs.inferred.Lasting.{number_itself}
use Rattle.alias_inferred_laws.proofs.inferred.Rooting.{root_entry, root_begun}
use Rattle.alias_inferred_laws.specs.handed.Handed.{names_of, IsNamed, EarlierStay, IsSolvedInOrder}
use Rattle.alias_inferred_laws.proofs.handed.Preceding.{WasThere, IsNew, new_or_there, Stay, analysed_stay, none_stay}

-- ---- each number once

named_behind : (id : FunctionId) (xs zs : List Analysed) → IsNamed id zs → IsNamed id (xs ++ zs)
named_behind id [] zs i = i
named_behind id (x ∷ xs) zs i = inr (named_behind id xs zs i)

-- the first number counts
first_counts : (id k : FunctionId) (ks : List FunctionId) → id ≡ k → times (numbers (k ∷ ks)) id.0 ≡ 1
    + times (numbers ks) id.0
first_counts id k ks is =
    times_cons k.0 (numbers ks) id.0
    ∙ ap (λ (z : FunctionId). cond (nat_eq z.0 id.0) 1 0 + times (numbers ks) id.0) (sym is)
    ∙ ap (λ b. cond b 1 0 + times (numbers ks) id.0) (number_itself id.0)

named_counts : (id : FunctionId) (zs : List Analysed) (ids : List FunctionId) → names_of zs ≡ map Some ids
    → IsNamed id zs → 1 ≤ times (numbers ids) id.0
named_counts id [] ids e i = absurd i
named_counts id (z ∷ zs) [] e i = cc
named_counts id (z ∷ zs) (k ∷ ks) e i =
    let first : z.solved.function ≡ Some k = cc in
    let rest : names_of zs ≡ map Some ks = cc in
    let c : times (numbers (k ∷ ks)) id.0 ≡ cond (nat_eq k.0 id.0) 1 0 + times (numbers ks) id.0 =
    times_cons k.0 (numbers ks) id.0 in
    ⊎_elim
    (λ (here : Some id ≡ z.solved.function). let is : id ≡ k = cc in let f : times (numbers (k ∷ ks)) id.0 ≡ 1
    + times (numbers ks) id.0 = first_counts id k ks is in omega arith)
    (λ there. let more : 1 ≤ times (numbers ks) id.0 = named_counts id zs ks rest there in omega arith)
    i

named_twice : (id : FunctionId) (xs zs : List Analysed) (ids : List FunctionId) → names_of (xs ++ zs) ≡ map Some ids
    → IsNamed id xs → IsNamed id zs → 2 ≤ times (numbers ids) id.0
named_twice id [] zs ids e i j = absurd i
named_twice id (x ∷ xs) zs [] e i j = cc
named_twice id (x ∷ xs) zs (k ∷ ks) e i j =
    let first : x.solved.function ≡ Some k = cc in
    let rest : names_of (xs ++ zs) ≡ map Some ks = cc in
    let c : times (numbers (k ∷ ks)) id.0 ≡ cond (nat_eq k.0 id.0) 1 0 + times (numbers ks) id.0 =
    times_cons k.0 (numbers ks) id.0 in
    ⊎_elim
    (λ (here : Some id ≡ x.solved.function).
    let is : id ≡ k = cc in
    let f : times (numbers (k ∷ ks)) id.0 ≡ 1 + times (numbers ks) id.0 = first_counts id k ks is in
    let more : 1 ≤ times (numbers ks) id.0 = named_counts id (xs ++ zs) ks rest (named_behind id xs zs j) in
    omega arith)
    (λ there. let more : 2 ≤ times (numbers ks) id.0 = named_twice id xs zs ks rest there j in omega arith)
    i

-- ---- the unit

module _ (u : HirUnit) (a : UnitAnalysis) (rules : rules_hold u ≡ Ok tt) (analysed_is : unit_analysed u ≡ Ok a) where
  abbrev nested : Analysis
  nested = (root u a rules analysed_is).nested

  abbrev last : Analysed
  last = root_entry u nested (root u a rules analysed_is).end

  nested_stay : Stay [] nested
  nested_stay = analysed_stay most_levels u.function [] (analysis u.env []) nested (none_stay u.env)
      (root u a rules analysed_is).analyses

  contexts : map but_context a.inferred.unit.env.functions ≡ map but_context nested.env.functions
  contexts =
      ap (map but_context) (root u a rules analysed_is).slots
      ∙ ap (λ (e : Environment). e.functions) (leaves u a rules analysed_is).kept.rest
      ∙ passed_contexts nested.env (root u a rules analysed_is).end

  -- no function is analysed again
  not_again : (xs zs : List Analysed) (id : FunctionId) → nested.functions ≡ xs ++ zs → IsNamed id xs → IsNamed id zs
      → ⊥
  not_again xs zs id split before again =
      let names : names_of nested.functions ≡ map Some (nested_innermost_first u) =
      (over u a rules analysed_is).functions in
      let two : 2 ≤ times (numbers (nested_innermost_first u)) id.0 =
      named_twice id xs zs (nested_innermost_first u) (ap names_of (sym split) ∙ names) before again in
      let once = (root_apart u rules).once id.0 in
      absurd (omega arith)

  pub earlier_stay : EarlierStay a
  earlier_stay = λ xs ys x id whole named.
      let split : nested.functions ++ last ∷ [] ≡ xs ++ x ∷ ys = sym (root u a rules analysed_is).all ∙ whole in
      slots_stay nested.env a.inferred.unit.env contexts id.0
      ∙ ⊎_elim
      (λ (n : IsNew nested.functions last xs ys x).
      ap (λ (z : Analysed). option_map but_context (slice_get z.env.functions id.0)) n.same)
      (λ (t : WasThere nested.functions last xs ys x).
      nested_stay xs t.rest x id t.all named (not_again xs (x ∷ t.rest) id t.all named) refl)
      (new_or_there nested.functions xs ys x last split)

  -- the solutions that are handed out are those of the functions that were analysed
  solutions_handed : map (λ (x : Analysed). x.solved) a.functions ≡ a.inferred.solved
  solutions_handed = let b = root_begun u a analysed_is in
      subst (λ (z : UnitAnalysis). map (λ (x : Analysed). x.solved) z.functions ≡ z.inferred.solved) b.out refl

-- a call that infers a unit hands out a solution of each function, in order, and what each effects pass found of those
-- before
pub solved_over : (u : HirUnit) (i : Inferred) → rules_hold u ≡ Ok tt → InfersUnit (unit_analysed u) (Ok i)
    → IsSolvedInOrder u i
solved_over u i rules p =
    let a : UnitAnalysis = record { functions = p.0; inferred = i } in
    record {
      functions = p.0;
      solutions = solutions_handed u a rules p.1;
      order = solved_in_order u a rules p.1;
      solve = p.2;
      carry = solutions_carried u a rules p.1;
      earlier = earlier_stay u a rules p.1;
    }
