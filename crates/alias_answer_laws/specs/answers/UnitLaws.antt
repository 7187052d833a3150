-- No inference of a unit that is well formed says that an Apply is left.
use Rattle.std.specs.Prelude.{◌≡◌, ◌≢◌, ℕ, true, false, List, [], ◌∷◌, Option, Some, None, Result, Ok, Err, is_none}
use Rattle.std.specs.Prelude.{map, slice_get, refl}
use Rattle.std.specs.List.{AllByRecursion, list_all}
use Rattle.std.proofs.Common.{zero, suc, sym, subst}
use Rattle.alias_base.specs.AnswerLaws.{both_true}
use Rattle.alias_base.specs.declared.ids.FunctionId.{FunctionId}
use Rattle.alias_base.specs.declared.ids.InstructionId.{InstructionId}
use Rattle.alias_hir.specs.declared.effect.AliasingEffect.{AliasingEffect}
use Rattle.alias_hir.specs.declared.env.Environment.{Environment}
use Rattle.alias_hir.specs.declared.env.Unit.{Unit as HirUnit}
use Rattle.alias_hir.specs.declared.error.InferError.{InferError}
use Rattle.alias_hir.specs.declared.error.InferError.TheVariants.{UnreplacedApply}
use Rattle.alias_hir.specs.declared.hir.HirFunction.{HirFunction}
use Rattle.alias_hir.specs.declared.hir.Instruction.{Instruction}
use Rattle.alias_hir.specs.declared.report.Report.{Report}
use Rattle.alias_rules.specs.function_rules.Rules.{instruction_is_uninferred, function_is_uninferred}
use Rattle.alias_rules.specs.function_rules.Rules.{environment_is_uninferred}
use Rattle.alias_rules.specs.Functions.{rules_hold}
use Rattle.alias_rules.specs.RuleLaws.{parts_of_rules}
use Rattle.alias_effects.specs.Inference.{pass_end, env_after}
use Rattle.alias_effects.specs.Recording.{with_effects_of}
use Rattle.alias_effects.specs.declared.output.PassEnd.{PassEnd}
use Rattle.alias_range_pass.specs.places.Keeping.{but_context}
use Rattle.alias_range_pass.specs.Passes.{range_pass}
use Rattle.alias_range_pass.specs.Refusals.{has_apply}
use Rattle.alias_nesting_laws.specs.Slots.{with_function}
use Rattle.alias_nested.specs.Analysis.{naming, Analysis, analysis, each, effects_analysed, completed, completed_with}
use Rattle.alias_nested.specs.Analysis.{function_analysed, taken_analysed, found_analysed, slot_analysed, analysed}
use Rattle.alias_nested.specs.Analysis.{most_levels}
use Rattle.alias_nested.specs.Created.{created_functions}
use Rattle.alias_nested.specs.Slots.{emptied}
use Rattle.alias_nested.specs.Units.{RootAnalysis, validated, root_analysed, all_analysed, UnitAnalysis, unit_analysed}
use Rattle.alias_nested.specs.Units.{InfersUnit}
use Rattle.alias_nested.specs.declared.infer.Inferred.{Inferred}
use Rattle.alias_nested.proofs.Evolving.{passed_contexts}
use Rattle.alias_answer_laws.specs.answers.Applies.{InstructionsLackApply, NestedLackApply, Leads}
use Rattle.alias_answer_laws.specs.answers.Avoiding.{is_unreplaced, Answered, avoids_then, avoids_naming, named_alike}
use Rattle.alias_answer_laws.specs.answers.FunctionLaws.{never_left, set_all, got_all, instructions_without_apply}
use Rattle.alias_answer_laws.specs.answers.FunctionLaws.{RangesPlain, ranges_plain}
use Rattle.alias_answer_laws.specs.answers.PassLaws.{EndsPlain, pass_plain}
use Rattle.alias_answer_laws.specs.answers.ValidationLaws.{validated_says}

-- the answer says of no Apply that it is left
abbrev Says : {A : Type 0} → Result A InferError → Type 0
Says {A} r = Leads (Answered {A = A}) r

-- ---- the environment after the effects pass

pub lacks_alike : (fs gs : List HirFunction) → map but_context gs ≡ map but_context fs
    → AllByRecursion InstructionsLackApply fs → AllByRecursion InstructionsLackApply gs
lacks_alike [] [] e h = tt
lacks_alike [] (g ∷ gs) e h = cc
lacks_alike (f ∷ fs) [] e h = cc
lacks_alike (f ∷ fs) (g ∷ gs) e h =
    let one : but_context g ≡ but_context f = cc in
    let rest : map but_context gs ≡ map but_context fs = cc in
    (subst InstructionsLackApply (sym one) h.0, lacks_alike fs gs rest h.1)

after_lacks : (env : Environment) (e : PassEnd) → NestedLackApply env → NestedLackApply (env_after env e)
after_lacks env e h = lacks_alike env.functions (env_after env e).functions (passed_contexts env e) h

-- ---- nested functions

-- no instruction below carries Apply
abbrev Nested : Analysis → Type 0
Nested a = NestedLackApply a.env

-- nor one of the function that is out of its slot
abbrev Taken : HirFunction × Analysis → Type 0
Taken s = InstructionsLackApply s.0 × Nested s.1

abbrev TakenAlone : HirFunction × Environment → Type 0
TakenAlone s = InstructionsLackApply s.0 × NestedLackApply s.1

effects_lead : (id : FunctionId) (f : HirFunction) (a : Analysis) → InstructionsLackApply f → Nested a
    → Leads Taken (effects_analysed id f a)
effects_lead id f a h n =
    avoids_then is_unreplaced EndsPlain Taken (naming id (pass_end a.env f true)) _
    (avoids_naming is_unreplaced EndsPlain id (pass_end a.env f true) (λ e. (named_alike id e).0)
    (pass_plain a.env f true))
    (λ e p. (instructions_without_apply e.solved f p h, after_lacks a.env e n))

completed_leads : (id : FunctionId) (f : HirFunction) (env : Environment) → InstructionsLackApply f
    → NestedLackApply env → Leads TakenAlone (completed id f env)
completed_leads id f env h n =
    avoids_then is_unreplaced RangesPlain TakenAlone (naming id (range_pass true f env)) _
    (avoids_naming is_unreplaced RangesPlain id (range_pass true f env) (λ e. (named_alike id e).0)
    (ranges_plain true f env h n)) (λ r p. p)

completed_with_leads : (id : FunctionId) (s : HirFunction × Analysis) → Taken s → Leads Taken (completed_with id s)
completed_with_leads id s h = avoids_then is_unreplaced TakenAlone Taken (completed id s.0 s.1.env) _
    (completed_leads id s.0 s.1.env h.0 h.1) (λ c p. p)

function_leads : (id : FunctionId) (f : HirFunction) (a : Analysis) → InstructionsLackApply f → Nested a
    → Leads Taken (function_analysed id f a)
function_leads id f a h n = avoids_then is_unreplaced Taken Taken (effects_analysed id f a) (completed_with id)
    (effects_lead id f a h n) (completed_with_leads id)

each_leads : {X : Type 0} (step : X → Analysis → Result Analysis InferError)
    → ((x : X) (a : Analysis) → Nested a → Leads Nested (step x a)) → (xs : List X) (a : Analysis) → Nested a
    → Leads Nested (each step xs a)
each_leads step h [] a n = n
each_leads step h (x ∷ xs) a n = avoids_then is_unreplaced Nested Nested (step x a) (each step xs) (h x a n)
    (each_leads step h xs)

module _ (below : HirFunction → Analysis → Result Analysis InferError)
    (lead : (f : HirFunction) (a : Analysis) → Nested a → Leads Nested (below f a)) where
  taken_leads : (id : FunctionId) (f : HirFunction) (a : Analysis) → InstructionsLackApply f → Nested a
      → Leads Taken (taken_analysed below id f a)
  taken_leads id f a h n = avoids_then is_unreplaced Nested Taken (below f a) (function_analysed id f) (lead f a n)
      (λ b m. function_leads id f b h m)

  found_leads : (id : FunctionId) (a : Analysis) (o : Option HirFunction) → slice_get a.env.functions id.0 ≡ o
      → Nested a → Leads Nested (found_analysed below id a o)
  found_leads id a None e n = n
  found_leads id a (Some f) e n =
      let out : Analysis = record a { env = with_function id (emptied f.returns) a.env } in
      avoids_then is_unreplaced Taken Nested (taken_analysed below id f out) _
      (taken_leads id f out (got_all InstructionsLackApply a.env.functions id.0 f e n)
      (set_all InstructionsLackApply a.env.functions id.0 (emptied f.returns) tt n))
      (λ s p. set_all InstructionsLackApply s.1.env.functions id.0 s.0 p.0 p.1)

  slot_leads : (id : FunctionId) (a : Analysis) → Nested a → Leads Nested (slot_analysed below id a)
  slot_leads id a n = found_leads id a (slice_get a.env.functions id.0) refl n

analysed_leads : (n : ℕ) (f : HirFunction) (a : Analysis) → Nested a → Leads Nested (analysed n f a)
unfolding analysed
analysed_leads zero f a h = h
analysed_leads (suc n) f a h = each_leads (slot_analysed (analysed n)) (slot_leads (analysed n) (analysed_leads n))
    (created_functions f) a h

-- ---- the root

root_says : (f : HirFunction) (a : Analysis) → InstructionsLackApply f → Nested a → Says (root_analysed f a)
root_says f a h n =
    avoids_then is_unreplaced EndsPlain (Answered {A = RootAnalysis}) (pass_end a.env f false) _
    (pass_plain a.env f false) (λ e p.
    let g : HirFunction = with_effects_of e.solved f in
    avoids_then is_unreplaced RangesPlain (Answered {A = RootAnalysis}) (range_pass false g (env_after a.env e)) _
    (ranges_plain false g (env_after a.env e) (instructions_without_apply e.solved f p h) (after_lacks a.env e n))
    (λ r q.
    avoids_then is_unreplaced (Answered {A = Environment}) (Answered {A = RootAnalysis}) (validated r.after.0 r.after.1)
    _ (validated_says is_unreplaced (λ x. refl) r.after.0 r.after.1) (λ more s. tt)))

-- ---- a unit in which nothing is inferred

nothing_carried : (o : Option (List AliasingEffect)) → is_none o ≡ true → has_apply o ≡ false
nothing_carried None h = refl
nothing_carried (Some es) h = cc

uninferred_lack : (is : List Instruction) → list_all instruction_is_uninferred is ≡ true
    → AllByRecursion (λ (i : Instruction). has_apply i.effects ≡ false) is
uninferred_lack [] h = tt
uninferred_lack (i ∷ is) h =
    let b = both_true (instruction_is_uninferred i) _ h in
    (nothing_carried i.effects (both_true (is_none i.effects) _ (both_true _ _ b.0).0).0, uninferred_lack is b.1)

function_lacks : (f : HirFunction) → function_is_uninferred f ≡ true → InstructionsLackApply f
function_lacks f h = uninferred_lack f.instructions
    (both_true _ (list_all instruction_is_uninferred f.instructions) (both_true _ _ h).0).1

functions_lack : (fs : List HirFunction) → list_all function_is_uninferred fs ≡ true
    → AllByRecursion InstructionsLackApply fs
functions_lack [] h = tt
functions_lack (f ∷ fs) h = let b = both_true (function_is_uninferred f) _ h in
    (function_lacks f b.0, functions_lack fs b.1)

environment_lacks : (env : Environment) → environment_is_uninferred env ≡ true → NestedLackApply env
environment_lacks env h = functions_lack env.functions (both_true _ (list_all function_is_uninferred env.functions) h).1

-- ---- the unit

unit_says : (u : HirUnit) → rules_hold u ≡ Ok tt → Says (unit_analysed u)
unit_says u rules =
    let p = parts_of_rules u rules in
    avoids_then is_unreplaced (Answered {A = RootAnalysis}) (Answered {A = UnitAnalysis})
    (all_analysed u.function (analysis u.env [])) _
    (avoids_then is_unreplaced Nested (Answered {A = RootAnalysis})
    (analysed most_levels u.function (analysis u.env [])) (root_analysed u.function)
    (analysed_leads most_levels u.function (analysis u.env []) (environment_lacks u.env p.environment))
    (λ a n. root_says u.function a (function_lacks u.function p.function) n)) (λ r s. tt)

-- the inference of a unit that is well formed never says that an Apply is left
pub unit_never_left : (u : HirUnit) → rules_hold u ≡ Ok tt → (i : InstructionId) (report : Report)
    → unit_analysed u ≢ Err (UnreplacedApply i report)
unit_never_left u rules = never_left (Answered {A = UnitAnalysis}) (unit_analysed u) (unit_says u rules)

-- nor does a call that answers what is stated
pub no_call_answers : (u : HirUnit) → rules_hold u ≡ Ok tt → (result : Result Inferred InferError)
    → InfersUnit (unit_analysed u) result → (i : InstructionId) (report : Report)
    → result ≢ Err (UnreplacedApply i report)
no_call_answers u rules result h i report =
    λ e. unit_never_left u rules i report (subst (InfersUnit (unit_analysed u)) e h refl)
