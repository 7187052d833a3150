-- What each effects pass found of the functions that its function creates, over the unit that is handed out.
use Rattle.std.specs.Prelude.{◌≡◌, List, [], ◌∷◌, ◌++◌, Option, Some, Ok, map, option_map, slice_get, refl}
use Rattle.std.specs.List.{list_all}
use Rattle.std.proofs.Common.{true, ap, sym, ◌∙◌}
use Rattle.alias_base.specs.AnswerLaws.{both_true}
use Rattle.alias_base.specs.declared.ids.FunctionId.{FunctionId}
use Rattle.alias_hir.specs.declared.effect.AliasingEffect.{AliasingEffect}
use Rattle.alias_hir.specs.declared.env.Environment.{Environment}
use Rattle.alias_hir.specs.declared.env.Unit.{Unit as HirUnit}
use Rattle.alias_hir.specs.declared.hir.HirFunction.{HirFunction}
use Rattle.alias_hir.specs.declared.place.Place.{Place}
use Rattle.alias_rules.specs.Fitting.{function_fits}
use Rattle.alias_rules.specs.Functions.{rules_hold}
use Rattle.alias_rules.specs.RuleLaws.{parts_of_rules, rules_make_function_fit}
use Rattle.alias_rules.specs.function_rules.Rules.{function_is_uninferred}
use Rattle.alias_nested.proofs.InOrder.{once_below}
use Rattle.alias_nested.specs.Analysis.{Analysed, analysis}
use Rattle.alias_nested.specs.Created.{created_functions}
use Rattle.alias_nested.specs.Units.{UnitAnalysis, unit_analysed}
use Rattle.alias_range_pass.specs.places.Keeping.{but_effect, but_context}
use Rattle.alias_answer_laws.proofs.order.Levels.{fits_within}
use Rattle.alias_answer_laws.proofs.order.Unit.{slots_as_often}
use Rattle.alias_answer_laws.specs.order.Order.{nested_innermost_first}
use Rattle.alias_inferred_laws.proofs.handed.Handing.{earlier_stay}
use Rattle.alias_inferred_laws.proofs.inferred.Explaining.{RootRanged, root_ranged}
use Rattle.alias_inferred_laws.proofs.inferred.Rooting.{root_entry}
use Rattle.alias_cause_laws.proofs.causes.Walking.{slot_is}
use Rattle.alias_cause_laws.proofs.handed.Finding.{IsSummarized, IsKnown, EachKnows, one_more_knows, Keeps, analysed_keeps}
use Rattle.alias_cause_laws.specs.handed.Captures.{context_summarized, IsFoundSummarized, CreatedAreSummarized}

-- ---- effects of context places

-- what a summary gives doesn't depend on what was there before
set_blindly : (summary : List AliasingEffect) (ps : List Place)
    → map (context_summarized summary) (map but_effect ps) ≡ map (context_summarized summary) ps
set_blindly summary [] = refl
set_blindly summary (p ∷ ps) = ap (λ zs. context_summarized summary p ∷ zs) (set_blindly summary ps)

set_twice : (summary : List AliasingEffect) (ps : List Place)
    → map (context_summarized summary) (map (context_summarized summary) ps) ≡ map (context_summarized summary) ps
set_twice summary [] = refl
set_twice summary (p ∷ ps) = ap (λ zs. context_summarized summary p ∷ zs) (set_twice summary ps)

-- functions that are the same but for the effects of context places, of which one has those that its summary gives
context_given : (summary : List AliasingEffect) (ps : List Place) (f g : HirFunction) → but_context g ≡ but_context f
    → f.context ≡ map (context_summarized summary) ps → f.context ≡ map (context_summarized summary) g.context
context_given summary ps f g same is =
    let to : List Place → List Place = map (context_summarized summary) in
    is ∙ sym (set_twice summary ps) ∙ ap to (sym is) ∙ sym (set_blindly summary f.context)
    ∙ ap (λ (z : HirFunction). to z.context) (sym same) ∙ set_blindly summary g.context

found_summarized : (u env : Environment) (id : FunctionId) (o : Option HirFunction)
    → option_map but_context o ≡ option_map but_context (slice_get env.functions id.0) → IsSummarized u env id
    → IsFoundSummarized (slice_get env.functions id.0) o
found_summarized u env id o same k =
    let s = slot_is (slice_get env.functions id.0) o k.func same k.found in
    let func : HirFunction = s.0 in
    record {
      func = func;
      there = s.1;
      summary = k.summary;
      stores = ap (λ (z : HirFunction). z.aliasing_effects) s.2 ∙ k.stores;
      is =
          k.found
          ∙ ap (λ (z : HirFunction). Some (record z { context = k.func.context })) (sym s.2)
          ∙ ap (λ ps. Some (record func { context = ps }))
          (context_given k.summary k.given.context k.func func s.2 k.context);
    }

-- ---- the unit

module _ (u : HirUnit) (a : UnitAnalysis) (rules : rules_hold u ≡ Ok tt) (is : unit_analysed u ≡ Ok a) where
  root : RootRanged u a
  root = root_ranged u a is

  fits : function_fits u.function u.env ≡ true
  fits = rules_make_function_fit u rules

  abbrev last : Analysed
  last = root_entry u root.nested root.end

  nothing_known : EachKnows u.env []
  nothing_known = λ xs ys x e id i. absurd (no_split xs ys x e)
    where
      no_split : (xs ys : List Analysed) (x : Analysed) → [] ≡ xs ++ x ∷ ys → ⊥
      no_split [] ys x e = cc
      no_split (z ∷ zs) ys x e = cc

  keeps : Keeps u.env (nested_innermost_first u) (created_functions u.function) (analysis u.env []) root.nested
  keeps =
      analysed_keeps u.env
      (both_true _ (list_all function_is_uninferred u.env.functions) (parts_of_rules u rules).environment).1
      (slots_as_often u rules) 63 u.function (analysis u.env []) root.nested fits (λ k x h. h)
      (fits_within u.function u.env fits)
      (record { slots = λ k h. refl; once = λ k. once_below u.function u.env fits 63 k; count = refl })
      nothing_known root.analyses

  each_knows : EachKnows u.env (root.nested.functions ++ last ∷ [])
  each_knows = one_more_knows u.env root.nested.functions last keeps.knows keeps.known

  pub created_summarized : CreatedAreSummarized a
  created_summarized = λ xs ys x id whole i.
      let k : IsKnown u.env xs x.env id = each_knows xs ys x (sym root.all ∙ whole) id i in (
        k.0,
        found_summarized u.env x.env id (slice_get a.inferred.unit.env.functions id.0)
            (earlier_stay u a rules is xs ys x id whole k.0) k.1,
      )
