-- Over passes of the caller that change functions, no Apply comes to an instruction of a nested function, and so the
-- range pass finds none left.
use Rattle.std.specs.Prelude.{◌≡◌, ◌≢◌, ℕ, Bool, true, false, List, [], ◌∷◌, Option, Some, None, Result, Ok, Err, ⊤}
use Rattle.std.specs.Prelude.{Contains, is_none, slice_get, refl}
use Rattle.std.specs.List.{AllByRecursion, list_any, list_all}
use Rattle.std.proofs.Common.{zero, suc, sym, ◌∙◌, subst}
use Rattle.std.proofs.lemmas.List.Folds.{Any-from_list_any, list_any-from_Any}
use Rattle.alias_base.specs.AnswerLaws.{both_true}
use Rattle.alias_base.specs.declared.ids.FunctionId.{FunctionId}
use Rattle.alias_base.specs.declared.ids.InstructionId.{InstructionId}
use Rattle.alias_hir.specs.declared.effect.AliasingEffect.{AliasingEffect}
use Rattle.alias_hir.specs.declared.env.Environment.{Environment}
use Rattle.alias_hir.specs.declared.env.Unit.{Unit as HirUnit}
use Rattle.alias_hir.specs.declared.error.InferError.{InferError}
use Rattle.alias_hir.specs.declared.error.InferError.TheVariants.{UnreplacedApply}
use Rattle.alias_hir.specs.declared.error.Pass.{Pass}
use Rattle.alias_hir.specs.declared.error.Pass.TheVariants.{DeadCodeElimination}
use Rattle.alias_hir.specs.declared.error.Pass.TheVariants.{RewriteInstructionKindsBasedOnReassignment}
use Rattle.alias_hir.specs.declared.error.Pass.TheVariants.{InferReactiveScopeVariables}
use Rattle.alias_hir.specs.declared.hir.HirFunction.{HirFunction}
use Rattle.alias_hir.specs.declared.hir.Instruction.{Instruction}
use Rattle.alias_hir.specs.declared.report.Report.{Report}
use Rattle.alias_rules.specs.function_rules.Rules.{instruction_is_uninferred, function_is_uninferred}
use Rattle.alias_rules.specs.Fitting.{is_apply}
use Rattle.alias_rules.specs.Functions.{rules_hold}
use Rattle.alias_rules.specs.RuleLaws.{parts_of_rules}
use Rattle.alias_effects.specs.Inference.{pass_end, env_after}
use Rattle.alias_effects.specs.declared.solved.Solved.{Solved}
use Rattle.alias_inner_passes.specs.Passes.{NoneAdded, effects_in, instruction_effects, Keeps}
use Rattle.alias_range_pass.specs.Passes.{Ranged, range_pass}
use Rattle.alias_range_pass.specs.Refusals.{has_apply}
use Rattle.alias_nesting_laws.specs.PartLaws.{absent, not_both}
use Rattle.alias_nesting_laws.specs.Slots.{with_function}
use Rattle.alias_nested.proofs.Answering.{refusal_answers}
use Rattle.alias_nested.proofs.Evolving.{passed_contexts}
use Rattle.alias_nested.specs.Analysis.{Analysed, Analysis, analysis, most_levels, naming, effects_analysed, put_back}
use Rattle.alias_nested.specs.Answers.{Answers, Only, Then, done, refused, Each, Passed, Completed, CompletedWith}
use Rattle.alias_nested.specs.Answers.{FunctionAnalysed, TakenAnalysed, FoundAnalysed, SlotAnalysed, AnalysedWith}
use Rattle.alias_nested.specs.Answers.{Analyses, AnalysesInto}
use Rattle.alias_nested.specs.Created.{created_functions}
use Rattle.alias_nested.specs.Refusals.{AnalysisRefused}
use Rattle.alias_nested.specs.Annotating.{annotated}
use Rattle.alias_nested.specs.Slots.{emptied}
use Rattle.alias_answer_laws.specs.answers.Applies.{InstructionsLackApply, NestedLackApply, Leads}
use Rattle.alias_answer_laws.specs.answers.Avoiding.{is_unreplaced, avoids_then, avoids_naming, named_alike}
use Rattle.alias_answer_laws.specs.answers.FunctionLaws.{set_all, got_all, instructions_without_apply, BothLackApply}
use Rattle.alias_answer_laws.specs.answers.FunctionLaws.{RangesPlain, ranges_plain, ranges_own}
use Rattle.alias_answer_laws.specs.answers.PassLaws.{EndsPlain, pass_plain}
use Rattle.alias_answer_laws.specs.answers.UnitLaws.{lacks_alike}

-- ---- answers that may come

-- each answer that may come has the property, and is no refusal since an Apply is left
abbrev pub AllLead : {A : Type 0} → (A → Type 0) → Answers A → Type 0
AllLead {A} P answers = (r : Result A InferError) → answers r → Leads P r

only_leads : {A : Type 0} (P : A → Type 0) (stated : Result A InferError) → Leads P stated → AllLead P (Only stated)
only_leads P stated h r q = subst (Leads P) q h

then_leads : {A B : Type 0} (P : A → Type 0) (Q : B → Type 0) (first : Answers A) (next : A → Answers B)
    → AllLead P first → ((x : A) → P x → AllLead Q (next x)) → AllLead Q (Then first next)
then_leads P Q first next h k r (done x f n) = k x (h (Ok x) f) r n
then_leads P Q first next h k r (refused e f q) = subst (Leads Q) (sym q) (h (Err e) f)

each_leads : {X A : Type 0} (P : A → Type 0) (step : X → A → Answers A) → ((x : X) (a : A) → P a → AllLead P (step x a))
    → (xs : List X) (a : A) → P a → AllLead P (Each step xs a)
each_leads P step h [] a p = only_leads P (Ok a) p
each_leads P step h (x ∷ xs) a p = then_leads P P (step x a) (Each step xs) (h x a p) (each_leads P step h xs)

-- ---- a pass of the caller

-- where no effect is added, no Apply is
none_added : (old new : List AliasingEffect) → ((e : AliasingEffect) → Contains new e → Contains old e)
    → list_any is_apply old ≡ false → list_any is_apply new ≡ false
none_added old new h none =
    absent (list_any is_apply new) (λ some.
    let a = Any-from_list_any is_apply new some in
    let c : Contains old a.1 = h a.1 (a.0, a.2, a.3) in
    not_both (list_any is_apply old) (list_any-from_Any is_apply old (c.0, a.1, c.1, c.2, a.4)) none)

among_effects : (o : Option (List AliasingEffect)) → has_apply o ≡ list_any is_apply (effects_in o)
among_effects None = refl
among_effects (Some es) = refl

carries_still : (old new : Option (List AliasingEffect)) → NoneAdded old new → has_apply old ≡ false → has_apply new
    ≡ false
carries_still old new h none = among_effects new
    ∙ none_added (effects_in old) (effects_in new) h (sym (among_effects old) ∙ none)

abbrev LacksApply : Instruction → Type 0
LacksApply i = has_apply i.effects ≡ false

instructions_still : (is js : List Instruction)
    → ((k : ℕ) → NoneAdded (instruction_effects (slice_get is k)) (instruction_effects (slice_get js k)))
    → AllByRecursion LacksApply is → AllByRecursion LacksApply js
instructions_still is [] h n = tt
instructions_still [] (j ∷ js) h n = (
  carries_still None j.effects (h zero) refl,
  instructions_still [] js (λ k. h (suc k)) tt,
)
instructions_still (i ∷ is) (j ∷ js) h n =
    (carries_still i.effects j.effects (h zero) n.0, instructions_still is js (λ k. h (suc k)) n.1)

pass_lacks : (old new : HirFunction × Environment) → Keeps old.0 old.1 new.0 new.1 → BothLackApply old
    → BothLackApply new
pass_lacks old new k h = (
  instructions_still old.0.instructions new.0.instructions k.added.effects h.0,
  subst (AllByRecursion InstructionsLackApply) (sym k.tables.functions) h.1,
)

passed_leads : (keeps_all : Bool) (id : FunctionId) (pass : Pass) (old : HirFunction × Environment) → BothLackApply old
    → AllLead BothLackApply (Passed keeps_all id pass old)
passed_leads keeps_all id pass old h (Ok new) p = pass_lacks old new p.keeps h
passed_leads keeps_all id pass old h (Err e) q = subst (λ (z : InferError). is_unreplaced z ≡ false) (sym q) refl

-- ---- a nested function

-- no instruction below carries Apply
abbrev Nested : Analysis → Type 0
Nested a = NestedLackApply a.env

-- nor one of the function that is out of its slot
abbrev Taken : HirFunction × Analysis → Type 0
Taken s = InstructionsLackApply s.0 × NestedLackApply s.1.env

effects_lead : (id : FunctionId) (f : HirFunction) (a : Analysis) → InstructionsLackApply f → Nested a
    → Leads Taken (effects_analysed id f a)
effects_lead id f a h n =
    avoids_then is_unreplaced EndsPlain Taken (naming id (pass_end a.env f true)) _
    (avoids_naming is_unreplaced EndsPlain id (pass_end a.env f true) (λ e. (named_alike id e).0)
    (pass_plain a.env f true))
    (λ e p. (
      instructions_without_apply e.solved f p h,
      lacks_alike a.env.functions (env_after a.env e).functions (passed_contexts a.env e) n,
    ))

ranges_lead : (id : FunctionId) (s : HirFunction × Environment) → BothLackApply s
    → Leads RangesPlain (naming id (range_pass true s.0 s.1))
ranges_lead id s h = avoids_naming is_unreplaced RangesPlain id (range_pass true s.0 s.1) (λ e. (named_alike id e).0)
    (ranges_plain true s.0 s.1 h.0 h.1)

module _ (keeps_all : Bool) where
  completed_leads : (id : FunctionId) (s : HirFunction × Environment) → BothLackApply s
      → AllLead BothLackApply (Completed keeps_all id s)
  completed_leads id s h =
      then_leads BothLackApply BothLackApply (Passed keeps_all id DeadCodeElimination s) _
      (passed_leads keeps_all id DeadCodeElimination s h) (λ dead d.
      then_leads RangesPlain BothLackApply (Only (naming id (range_pass true dead.0 dead.1))) _
      (only_leads RangesPlain (naming id (range_pass true dead.0 dead.1)) (ranges_lead id dead d)) (λ r q.
      then_leads BothLackApply BothLackApply (Passed keeps_all id RewriteInstructionKindsBasedOnReassignment r.after) _
      (passed_leads keeps_all id RewriteInstructionKindsBasedOnReassignment r.after q) (λ kinds k.
      then_leads BothLackApply BothLackApply (Passed keeps_all id InferReactiveScopeVariables kinds) _
      (passed_leads keeps_all id InferReactiveScopeVariables kinds k)
      (λ scopes l. only_leads BothLackApply (Ok (annotated r.summary scopes)) l))))

  function_leads : (id : FunctionId) (f : HirFunction) (a : Analysis) → InstructionsLackApply f → Nested a
      → AllLead Taken (FunctionAnalysed keeps_all id f a)
  function_leads id f a h n =
      then_leads Taken Taken (Only (effects_analysed id f a)) (CompletedWith keeps_all id)
      (only_leads Taken (effects_analysed id f a) (effects_lead id f a h n)) (λ s p.
      then_leads BothLackApply Taken (Completed keeps_all id (s.0, s.1.env)) _ (completed_leads id (s.0, s.1.env) p)
      (λ c q. only_leads Taken (Ok (c.0, analysis c.1 s.1.functions)) q))

  module _ (below : HirFunction → Analysis → Answers Analysis)
      (lead : (f : HirFunction) (a : Analysis) → Nested a → AllLead Nested (below f a)) where
    taken_leads : (id : FunctionId) (f : HirFunction) (a : Analysis) → InstructionsLackApply f → Nested a
        → AllLead Taken (TakenAnalysed keeps_all below id f a)
    taken_leads id f a h n = then_leads Nested Taken (below f a) (FunctionAnalysed keeps_all id f) (lead f a n)
        (λ b m. function_leads id f b h m)

    found_leads : (id : FunctionId) (a : Analysis) (o : Option HirFunction) → slice_get a.env.functions id.0 ≡ o
        → Nested a → AllLead Nested (FoundAnalysed keeps_all below id a o)
    found_leads id a None e n = only_leads Nested (Ok a) n
    found_leads id a (Some f) e n =
        let out : Analysis = record a { env = with_function id (emptied f.returns) a.env } in
        then_leads Taken Nested (TakenAnalysed keeps_all below id f out) _
        (taken_leads id f out (got_all InstructionsLackApply a.env.functions id.0 f e n)
        (set_all InstructionsLackApply a.env.functions id.0 (emptied f.returns) tt n))
        (λ s p. only_leads Nested (Ok (put_back id s))
        (set_all InstructionsLackApply s.1.env.functions id.0 s.0 p.0 p.1))

  analysed_leads : (n : ℕ) (f : HirFunction) (a : Analysis) → Nested a → AllLead Nested (AnalysedWith keeps_all n f a)
  unfolding AnalysedWith
  analysed_leads zero f a h = only_leads Nested (Ok a) h
  analysed_leads (suc n) f a h =
      each_leads Nested (SlotAnalysed keeps_all (AnalysedWith keeps_all n))
      (λ id b m. found_leads (AnalysedWith keeps_all n) (analysed_leads n) id b (slice_get b.env.functions id.0)
      refl m) (created_functions f) a h

-- ---- a function alone, whatever those below it carry

abbrev OwnLacks : HirFunction × Environment → Type 0
OwnLacks s = InstructionsLackApply s.0

module _ (keeps_all : Bool) (id : FunctionId) where
  passed_own : (pass : Pass) (old : HirFunction × Environment) → OwnLacks old
      → AllLead OwnLacks (Passed keeps_all id pass old)
  passed_own pass old h (Ok new) p = instructions_still old.0.instructions new.0.instructions p.keeps.added.effects h
  passed_own pass old h (Err e) q = subst (λ (z : InferError). is_unreplaced z ≡ false) (sym q) refl

  ranged_own : (s : HirFunction × Environment) → OwnLacks s
      → Leads (λ (r : Ranged). OwnLacks r.after) (naming id (range_pass true s.0 s.1))
  ranged_own s h = avoids_naming is_unreplaced (λ (r : Ranged). OwnLacks r.after) id (range_pass true s.0 s.1)
      (λ e. (named_alike id e).0) (ranges_own true s.0 s.1 h)

  completed_own : (s : HirFunction × Environment) → OwnLacks s → AllLead OwnLacks (Completed keeps_all id s)
  completed_own s h =
      then_leads OwnLacks OwnLacks (Passed keeps_all id DeadCodeElimination s) _ (passed_own DeadCodeElimination s h)
      (λ dead d.
      then_leads (λ (r : Ranged). OwnLacks r.after) OwnLacks (Only (naming id (range_pass true dead.0 dead.1))) _
      (only_leads (λ (r : Ranged). OwnLacks r.after) (naming id (range_pass true dead.0 dead.1)) (ranged_own dead d))
      (λ r q.
      then_leads OwnLacks OwnLacks (Passed keeps_all id RewriteInstructionKindsBasedOnReassignment r.after) _
      (passed_own RewriteInstructionKindsBasedOnReassignment r.after q) (λ kinds k.
      then_leads OwnLacks OwnLacks (Passed keeps_all id InferReactiveScopeVariables kinds) _
      (passed_own InferReactiveScopeVariables kinds k)
      (λ scopes l. only_leads OwnLacks (Ok (annotated r.summary scopes)) l))))

  -- where no instruction of the function carries Apply, its analysis doesn't say that one is left
  pub function_own : (f : HirFunction) (a : Analysis) → InstructionsLackApply f
      → AllLead (λ (s : HirFunction × Analysis). InstructionsLackApply s.0) (FunctionAnalysed keeps_all id f a)
  function_own f a h =
      let P : HirFunction × Analysis → Type 0 = λ s. InstructionsLackApply s.0 in
      then_leads P P (Only (effects_analysed id f a)) (CompletedWith keeps_all id)
      (only_leads P (effects_analysed id f a)
      (avoids_then is_unreplaced EndsPlain P (naming id (pass_end a.env f true)) _
      (avoids_naming is_unreplaced EndsPlain id (pass_end a.env f true) (λ e. (named_alike id e).0)
      (pass_plain a.env f true)) (λ e p. instructions_without_apply e.solved f p h))) (λ s p.
      then_leads OwnLacks P (Completed keeps_all id (s.0, s.1.env)) _ (completed_own (s.0, s.1.env) p)
      (λ c q. only_leads P (Ok (c.0, analysis c.1 s.1.functions)) q))

-- ---- the analysis of nested functions

module _ (keeps_all : Bool) (n : ℕ) (f : HirFunction) (env : Environment) (fs : List Analysed)
    (none : NestedLackApply env) where
  -- it never says that an Apply is left
  pub never_left : (e : InferError) → AnalysedWith keeps_all n f (analysis env fs) (Err e) → is_unreplaced e ≡ false
  never_left e h = analysed_leads keeps_all n f (analysis env fs) none (Err e) h

  pub never_refused : (e : InferError) (left : Environment) → AnalysisRefused keeps_all n f (analysis env fs) e left
      → is_unreplaced e ≡ false
  never_refused e left h = never_left e (refusal_answers keeps_all n f (analysis env fs) e left h)

  -- and no instruction carries one afterwards
  pub stays_without : (a : Analysis) → AnalysedWith keeps_all n f (analysis env fs) (Ok a) → NestedLackApply a.env
  stays_without a h = analysed_leads keeps_all n f (analysis env fs) none (Ok a) h

-- ---- the calls

not_unreplaced : (i : InstructionId) (report : Report) → is_unreplaced (UnreplacedApply i report) ≡ false → ⊥
not_unreplaced i report h = cc

module _ (keeps_all : Bool) (f : HirFunction) (env : Environment) (none : NestedLackApply env) where
  left_comes_of_none : (i : InstructionId) (report : Report)
      → AnalysedWith keeps_all most_levels f (analysis env []) (Err (UnreplacedApply i report)) → ⊥
  left_comes_of_none i report h = not_unreplaced i report
      (never_left keeps_all most_levels f env [] none (UnreplacedApply i report) h)

  pub certified_without : (r : Result (List Solved) InferError) (after : Environment)
      → Analyses (AnalysedWith keeps_all most_levels f (analysis env [])) r after
      → (i : InstructionId) (report : Report) → r ≢ Err (UnreplacedApply i report)
  certified_without r after h i report = λ q.
      left_comes_of_none i report (subst (λ (z : Result (List Solved) InferError).
      Analyses (AnalysedWith keeps_all most_levels f (analysis env [])) z after) q h refl)

  pub into_without : (r : Result ⊤ InferError) (after : Environment)
      → AnalysesInto (AnalysedWith keeps_all most_levels f (analysis env [])) r after
      → (i : InstructionId) (report : Report) → r ≢ Err (UnreplacedApply i report)
  into_without r after h i report = λ q. left_comes_of_none i report
      (subst (λ (z : Result ⊤ InferError). AnalysesInto (AnalysedWith keeps_all most_levels f (analysis env [])) z
      after) q h refl)

-- ---- a unit in which nothing is inferred

nothing_carried : (o : Option (List AliasingEffect)) → is_none o ≡ true → has_apply o ≡ false
nothing_carried None h = refl
nothing_carried (Some es) h = cc

instructions_without : (is : List Instruction) → list_all instruction_is_uninferred is ≡ true
    → AllByRecursion LacksApply is
instructions_without [] h = tt
instructions_without (i ∷ is) h =
    let b = both_true (instruction_is_uninferred i) _ h in
    (nothing_carried i.effects (both_true (is_none i.effects) _ (both_true _ _ b.0).0).0, instructions_without is b.1)

functions_without : (fs : List HirFunction) → list_all function_is_uninferred fs ≡ true
    → AllByRecursion InstructionsLackApply fs
functions_without [] h = tt
functions_without (f ∷ fs) h =
    let b = both_true (function_is_uninferred f) _ h in (
      instructions_without f.instructions (both_true _ (list_all instruction_is_uninferred f.instructions)
          (both_true _ _ b.0).0).1,
      functions_without fs b.1,
    )

-- which a unit is that is well formed
pub uninferred_without : (u : HirUnit) → rules_hold u ≡ Ok tt → NestedLackApply u.env
uninferred_without u rules = functions_without u.env.functions
    (both_true _ (list_all function_is_uninferred u.env.functions) (parts_of_rules u rules).environment).1
