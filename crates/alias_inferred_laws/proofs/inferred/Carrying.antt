-- The functions of the unit that is handed out carry their solutions.
use Rattle.std.specs.Prelude.{◌≡◌, ℕ, nat_eq, true, false, cond, List, [], ◌∷◌, Option, Some, None, Ok, map, slice_get}
use Rattle.std.specs.Prelude.{refl}
use Rattle.std.proofs.Common.{⊎_elim, ap, sym, ◌∙◌, subst, arith, ◌+◌, ◌≤◌}
use Rattle.std.proofs.lemmas.Bool.{eqb-true}
use Rattle.alias_base.specs.declared.ids.FunctionId.{FunctionId}
use Rattle.alias_hir.specs.declared.env.Unit.{Unit as HirUnit}
use Rattle.alias_hir.specs.declared.hir.HirFunction.{HirFunction}
use Rattle.alias_rules.specs.Functions.{rules_hold}
use Rattle.alias_rules.specs.Nesting.{times}
use Rattle.alias_rules.specs.TreeLaws.{times_cons}
use Rattle.alias_step.specs.block.Contexts.{context_of}
use Rattle.alias_effects.specs.Numbered.{visits_end}
use Rattle.alias_explain.specs.Explanations.{function_of}
use Rattle.alias_explain.proofs.Lists.{in_longer}
use Rattle.alias_graph.specs.Walks.{IsOneOf}
use Rattle.alias_nested.specs.Analysis.{Analysed}
use Rattle.alias_nested.specs.Order.{numbers}
use Rattle.alias_nested.specs.Units.{UnitAnalysis, unit_analysed}
use Rattle.alias_answer_laws.specs.order.Order.{nested_innermost_first}
use Rattle.alias_answer_laws.proofs.order.Solving.{end_names_none, root_apart}
use Rattle.alias_inferred_laws.specs.inferred.Solutions.{CarriesItsSolution, SolutionsAreCarried}
use Rattle.alias_inferred_laws.proofs.inferred.Explaining.{root, over, leaves, slot_recorded}
use Rattle.alias_inferred_laws.proofs.inferred.Lasting.{is_numbered, later, own, number_itself, some_number, last_of}
use Rattle.alias_inferred_laws.proofs.inferred.Lasting.{SlotHolds}
use Rattle.alias_inferred_laws.proofs.inferred.Listing.{IsRecorded, still_recorded, function_recorded, without_summary}
use Rattle.alias_inferred_laws.proofs.inferred.Rooting.{root_entry}

-- ---- each number once

abbrev names_of : List Analysed → List (Option FunctionId)
names_of xs = map (λ (x : Analysed). x.solved.function) xs

not_own : (id k : FunctionId) (x : Analysed) → x.solved.function ≡ Some k → nat_eq id.0 k.0 ≡ false → own id x ≡ None
not_own id k x e n = ap (λ o. cond (is_numbered id o) (Some x) None) e ∙ ap (λ b. cond b (Some x) None) n

first_counted : (k : ℕ) (ks : List ℕ) (n : ℕ) → k ≡ n → times (k ∷ ks) n ≡ 1 + times ks n
first_counted k ks n e = subst (λ z. times (k ∷ ks) z ≡ 1 + times ks z) e
    (times_cons k ks k ∙ ap (λ b. cond b 1 0 + times ks k) (number_itself k))

none_last : (id : FunctionId) (xs : List Analysed) (ids : List FunctionId) → names_of xs ≡ map Some ids
    → times (numbers ids) id.0 ≡ 0 → last_of id xs ≡ None
none_last id [] ids e t = refl
none_last id (x ∷ xs) [] e t = cc
none_last id (x ∷ xs) (k ∷ ks) e t =
    let first : x.solved.function ≡ Some k = cc in
    let rest : names_of xs ≡ map Some ks = cc in
    let c : times (k.0 ∷ numbers ks) id.0 ≡ cond (nat_eq k.0 id.0) 1 0 + times (numbers ks) id.0 =
    times_cons k.0 (numbers ks) id.0 in
    elim (nat_eq id.0 k.0) as (λ b. nat_eq id.0 k.0 ≡ b → last_of id (x ∷ xs) ≡ None) [
      | true ↦ λ n. let f : times (k.0 ∷ numbers ks) id.0 ≡ 1 + times (numbers ks) id.0 =
          first_counted k.0 (numbers ks) id.0 (sym (eqb-true id.0 k.0 n)) in absurd (omega arith)
      | false ↦ λ n. ap (λ o. later o (own id x)) (none_last id xs ks rest (omega arith)) ∙ not_own id k x first n
    ] refl

last_is : (id : FunctionId) (xs : List Analysed) (ids : List FunctionId) (x : Analysed) → names_of xs ≡ map Some ids
    → times (numbers ids) id.0 ≤ 1 → IsOneOf x xs → x.solved.function ≡ Some id → last_of id xs ≡ Some x
last_is id [] ids x e t i n = absurd i
last_is id (y ∷ ys) [] x e t i n = cc
last_is id (y ∷ ys) (k ∷ ks) x e t i n =
    let rest : names_of ys ≡ map Some ks = cc in
    let c : times (k.0 ∷ numbers ks) id.0 ≡ cond (nat_eq k.0 id.0) 1 0 + times (numbers ks) id.0 =
    times_cons k.0 (numbers ks) id.0 in
    ⊎_elim
    (λ (same : x ≡ y).
    let mine : y.solved.function ≡ Some id = ap (λ (z : Analysed). z.solved.function) (sym same) ∙ n in
    let is : k ≡ id = cc in
    let f : times (k.0 ∷ numbers ks) id.0 ≡ 1 + times (numbers ks) id.0 =
    first_counted k.0 (numbers ks) id.0 (ap (λ (z : FunctionId). z.0) is) in
    ap (λ o. later o (own id y)) (none_last id ys ks rest (omega arith))
    ∙ ap (λ b. cond b (Some y) None) (some_number id y.solved.function (sym mine)) ∙ ap Some (sym same))
    (λ there. ap (λ o. later o (own id y)) (last_is id ys ks x rest (omega arith) there n))
    i

named : (xs : List Analysed) (ids : List FunctionId) (x : Analysed) → names_of xs ≡ map Some ids → IsOneOf x xs
    → (id : FunctionId) × (x.solved.function ≡ Some id)
named [] ids x e i = absurd i
named (y ∷ ys) [] x e i = cc
named (y ∷ ys) (k ∷ ks) x e i =
    let first : y.solved.function ≡ Some k = cc in
    let rest : names_of ys ≡ map Some ks = cc in
    ⊎_elim (λ same. (k, ap (λ (z : Analysed). z.solved.function) same ∙ first)) (λ there. named ys ks x rest there) i

-- ---- the unit

slot_carries : (l : Option Analysed) (o : Option HirFunction) (x : Analysed) (f : HirFunction) → l ≡ Some x → o ≡ Some f
    → SlotHolds IsRecorded still_recorded function_recorded l o → CarriesItsSolution x f
slot_carries None o x f e h r = cc
slot_carries (Some y) None x f e h r = cc
slot_carries (Some y) (Some g) x f e h r =
    let ys : y ≡ x = cc in
    let gs : g ≡ f = cc in
    subst (λ z. CarriesItsSolution z f) ys (subst (λ z. CarriesItsSolution y z) gs r.carries)

module _ (u : HirUnit) (a : UnitAnalysis) (rules : rules_hold u ≡ Ok tt) (analysed_is : unit_analysed u ≡ Ok a) where
  abbrev nested : List Analysed
  nested = (root u a rules analysed_is).nested.functions

  abbrev last : Analysed
  last = root_entry u (root u a rules analysed_is).nested (root u a rules analysed_is).end

  nested_carries : (x : Analysed) (f : HirFunction) → IsOneOf x nested → function_of a.inferred.unit x.solved.function
      ≡ Some f → CarriesItsSolution x f
  nested_carries x f i e =
      let names : names_of nested ≡ map Some (nested_innermost_first u) = (over u a rules analysed_is).functions in
      let n = named nested (nested_innermost_first u) x names i in
      let id : FunctionId = n.0 in
      let once = (root_apart u rules).once id.0 in
      let one : times (numbers (nested_innermost_first u)) id.0 ≤ 1 = omega arith in
      slot_carries (last_of id nested) (slice_get a.inferred.unit.env.functions id.0) x f
      (last_is id nested (nested_innermost_first u) x names one i n.1)
      (subst (λ k. function_of a.inferred.unit k ≡ Some f) n.1 e) (slot_recorded u a rules analysed_is id)

  root_carries : (f : HirFunction) → function_of a.inferred.unit last.solved.function ≡ Some f
      → CarriesItsSolution last f
  root_carries f e =
      let r = root u a rules analysed_is in
      let nameless : last.solved.function ≡ None =
      end_names_none r.nested.env u.function (visits_end (context_of r.nested.env u.function false)) r.end
      r.ended in
      let here : function_of a.inferred.unit None ≡ Some f =
      subst (λ k. function_of a.inferred.unit k ≡ Some f) nameless e in
      let same : a.inferred.unit.function ≡ f = cc in
      subst (CarriesItsSolution last) (sym r.root ∙ same) (ap without_summary (leaves u a rules analysed_is).still)

  pub solutions_carried : SolutionsAreCarried a
  solutions_carried x f i e =
      ⊎_elim (λ there. nested_carries x f there e)
      (λ (same : x ≡ last). subst (λ z. CarriesItsSolution z f) (sym same)
      (root_carries f (subst (λ (z : Analysed). function_of a.inferred.unit z.solved.function ≡ Some f) same e)))
      (in_longer nested last x (subst (IsOneOf x) (root u a rules analysed_is).all i))
