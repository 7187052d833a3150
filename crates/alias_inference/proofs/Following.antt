-- What follows of the answers of calls that infer a unit, or analyse its nested functions.
use Rattle.std.proofs.Common.{◌≡◌, ◌≢◌, ◌∙◌, Bool, List, [], refl, sym, ap, subst}
use Rattle.std.specs.Prelude.{true, false, Result, Ok, Err, IfOk, IfErr, IsOkAnd, ⊤}
use Rattle.alias_base.specs.declared.ids.IdentifierId.{IdentifierId}
use Rattle.alias_base.specs.declared.ids.InstructionId.{InstructionId}
use Rattle.alias_hir.specs.declared.env.Environment.{Environment}
use Rattle.alias_hir.specs.declared.env.Unit.{Unit as HirUnit}
use Rattle.alias_hir.specs.declared.error.InferError.{InferError}
use Rattle.alias_hir.specs.declared.error.InferError.TheVariants.{UnreplacedApply, EffectsNotInferred}
use Rattle.alias_hir.specs.declared.hir.HirFunction.{HirFunction}
use Rattle.alias_hir.specs.declared.report.Report.{Report}
use Rattle.alias_rules.specs.Fitting.{function_fits}
use Rattle.alias_rules.specs.Functions.{rules_hold}
use Rattle.alias_effects.specs.declared.solved.Solved.{Solved}
use Rattle.alias_answer_laws.specs.answers.Applies.{InstructionsLackApply}
use Rattle.alias_answer_laws.specs.answers.KnownUnitLaws.{no_call_says}
use Rattle.alias_answer_laws.specs.answers.UnitLaws.{no_call_answers}
use Rattle.alias_cause_laws.proofs.causes.Caused.{each_has_cause}
use Rattle.alias_cause_laws.specs.causes.Causes.{EachHasCause}
use Rattle.alias_cause_laws.proofs.handed.HandingOut.{inferred_in_order}
use Rattle.alias_cause_laws.specs.handed.HandedOut.{IsInferredInOrder}
use Rattle.alias_nested.specs.Analysis.{analysis, analysed, most_levels, is_free}
use Rattle.alias_nested.specs.Answers.{AnalysedWith, Analyses, AnalysesInto, AnalysesExactly, AnalysesExactlyInto}
use Rattle.alias_nested.specs.Units.{UnitAnalysis, unit_analysed, InfersUnit}
use Rattle.alias_nested.specs.declared.infer.Inferred.{Inferred}
use Rattle.alias_cause_laws.proofs.nested.Ranging.{nested_are_ranged}
use Rattle.alias_answer_laws.proofs.refusals.Refusing.{never_unknown}
use Rattle.alias_unit_completeness.specs.Complete.{unit_caused, nested_caused_alone, analyses_blame, into_blame}
use Rattle.alias_unit_completeness.specs.Complete.{never_unreplaced}
use Rattle.alias_unit_completeness.specs.Below.{EachBelow, SummaryIsInOrder}
use Rattle.alias_unit_completeness.specs.Refusals.{IsCaused, BlamesRightly, BlamesNoPlain, blames_no_plain}
use Rattle.alias_inference.specs.Inferences.{unit_with, NestedAreRangedIn}

-- ---- a call that infers a unit

module _ (u : HirUnit) (rules : rules_hold u ≡ Ok tt) where
  caused_at : (r : Result Inferred InferError) → InfersUnit (unit_analysed u) r
      → IfErr r (λ e. is_free e ≡ false → IsCaused u e)
  caused_at (Ok i) h = tt
  caused_at (Err e) h = λ free. unit_caused u rules e (h free)

  blameless_at : (r : Result Inferred InferError) → InfersUnit (unit_analysed u) r
      → IfErr r (λ e. is_free e ≡ false → BlamesNoPlain u e)
  blameless_at (Ok i) h = tt
  blameless_at (Err e) h = λ free. blames_no_plain u e (unit_caused u rules e (h free))

  solved_at : (r : Result Inferred InferError) → InfersUnit (unit_analysed u) r → IfOk r (λ i. IsInferredInOrder u i)
  solved_at (Ok i) h = inferred_in_order u i rules h
  solved_at (Err e) h = tt

  explained_at : (r : Result Inferred InferError) → InfersUnit (unit_analysed u) r → IfOk r EachHasCause
  explained_at (Ok i) h = each_has_cause u (record { functions = h.0; inferred = i }) rules h.1
  explained_at (Err e) h = tt

  nested_of : (a : UnitAnalysis) → unit_analysed u ≡ Ok a
      → IsOkAnd (unit_analysed u) (λ (b : UnitAnalysis). NestedAreRangedIn b.functions a.inferred)
  nested_of a q = subst (λ r. IsOkAnd r (λ (b : UnitAnalysis). NestedAreRangedIn b.functions a.inferred)) (sym q)
      (nested_are_ranged u a rules q)

  nested_at : (r : Result Inferred InferError) → InfersUnit (unit_analysed u) r
      → IfOk r (λ i. IsOkAnd (unit_analysed u) (λ a. NestedAreRangedIn a.functions i))
  nested_at (Ok i) h = nested_of (record { functions = h.0; inferred = i }) h.1
  nested_at (Err e) h = tt

-- the unit as a call hands it out that tells that it is well formed
module _ (u v : HirUnit) (same : v ≡ u) (rules : rules_hold v ≡ Ok tt) (r : Result Inferred InferError)
    (h : InfersUnit (unit_analysed u) r) where
  keeps : rules_hold u ≡ Ok tt
  keeps = subst (λ z. rules_hold z ≡ Ok tt) same rules

  pub complete : IfErr r (λ e. is_free e ≡ false → IsCaused u e)
  complete = caused_at u keeps r h

  pub plain : IfErr r (λ e. is_free e ≡ false → BlamesNoPlain u e)
  plain = blameless_at u keeps r h

  pub applies : (i : InstructionId) (report : Report) → r ≢ Err (UnreplacedApply i report)
  applies = no_call_answers u keeps r h

  pub operands : (x : IdentifierId) → r ≢ Err (EffectsNotInferred x)
  operands = no_call_says u r h

  pub solved : IfOk r (λ i. IsInferredInOrder u i)
  solved = solved_at u keeps r h

  pub nested : IfOk r (λ i. IsOkAnd (unit_analysed u) (λ a. NestedAreRangedIn a.functions i))
  nested = nested_at u keeps r h

  pub explained : IfOk r EachHasCause
  explained = explained_at u keeps r h

-- ---- a call that analyses the functions below the root

never_false : true ≡ false → ⊥
never_false h = cc

module _ (keeps_all : Bool) (f : HirFunction) (env : Environment) where
  comes_of_none : (x : IdentifierId) → AnalysedWith keeps_all most_levels f (analysis env [])
      (Err (EffectsNotInferred x)) → ⊥
  comes_of_none x h = never_false (never_unknown keeps_all most_levels f env [] (EffectsNotInferred x) h)

  pub certified_operands : (r : Result (List Solved) InferError) (after : Environment)
      → Analyses (AnalysedWith keeps_all most_levels f (analysis env [])) r after → (x : IdentifierId)
      → r ≢ Err (EffectsNotInferred x)
  certified_operands r after h x = λ q. comes_of_none x
      (subst (λ (z : Result (List Solved) InferError).
      Analyses (AnalysedWith keeps_all most_levels f (analysis env [])) z after) q h refl)

  pub into_operands : (r : Result ⊤ InferError) (after : Environment)
      → AnalysesInto (AnalysedWith keeps_all most_levels f (analysis env [])) r after → (x : IdentifierId)
      → r ≢ Err (EffectsNotInferred x)
  into_operands r after h x = λ q. comes_of_none x
      (subst (λ (z : Result ⊤ InferError). AnalysesInto (AnalysedWith keeps_all most_levels f (analysis env [])) z
      after) q h refl)

-- no instruction of the functions below carries an Apply
module _ (keeps_all : Bool) (f : HirFunction) (env : Environment) (fits : function_fits f env ≡ true)
    (none : EachBelow InstructionsLackApply env f) where
  left_comes_of_none : (i : InstructionId) (report : Report)
      → AnalysedWith keeps_all most_levels f (analysis env []) (Err (UnreplacedApply i report)) → ⊥
  left_comes_of_none i report h = never_false
      (never_unreplaced (unit_with f env) fits none keeps_all (UnreplacedApply i report) h)

  pub certified_applies : (r : Result (List Solved) InferError) (after : Environment)
      → Analyses (AnalysedWith keeps_all most_levels f (analysis env [])) r after
      → (i : InstructionId) (report : Report) → r ≢ Err (UnreplacedApply i report)
  certified_applies r after h i report = λ q. left_comes_of_none i report
      (subst (λ (z : Result (List Solved) InferError).
      Analyses (AnalysedWith keeps_all most_levels f (analysis env [])) z after) q h refl)

  pub into_applies : (r : Result ⊤ InferError) (after : Environment)
      → AnalysesInto (AnalysedWith keeps_all most_levels f (analysis env [])) r after
      → (i : InstructionId) (report : Report) → r ≢ Err (UnreplacedApply i report)
  into_applies r after h i report = λ q. left_comes_of_none i report
      (subst (λ (z : Result ⊤ InferError). AnalysesInto (AnalysedWith keeps_all most_levels f (analysis env [])) z
      after) q h refl)

-- the summaries of the functions below are in order
module _ (f : HirFunction) (env : Environment) (fits : function_fits f env ≡ true)
    (ordered : EachBelow SummaryIsInOrder env f) where
  pub certified_blames : (keeps_all : Bool) (r : Result (List Solved) InferError) (after : Environment)
      → Analyses (AnalysedWith keeps_all most_levels f (analysis env [])) r after
      → IfErr r (λ e. BlamesRightly (unit_with f env) e)
  certified_blames keeps_all (Ok x) after h = tt
  certified_blames keeps_all (Err e) after h =
      analyses_blame (unit_with f env) fits ordered keeps_all (Err e) after h e refl

  pub into_blames : (keeps_all : Bool) (r : Result ⊤ InferError) (after : Environment)
      → AnalysesInto (AnalysedWith keeps_all most_levels f (analysis env [])) r after
      → IfErr r (λ e. BlamesRightly (unit_with f env) e)
  into_blames keeps_all (Ok x) after h = tt
  into_blames keeps_all (Err e) after h = into_blame (unit_with f env) fits ordered keeps_all (Err e) after h e refl

  -- over passes that keep everything
  caused_alone : {A : Type 0} (r : Result A InferError) (e : InferError) → r ≡ Err e
      → ((i : InstructionId) (report : Report) → r ≢ Err (UnreplacedApply i report))
      → ((x : IdentifierId) → r ≢ Err (EffectsNotInferred x)) → analysed most_levels f (analysis env []) ≡ Err e
      → IsCaused (unit_with f env) e
  caused_alone r e is apply operand h =
      nested_caused_alone (unit_with f env) fits ordered e h (λ i report same. apply i report (is ∙ ap Err same))
      (λ x same. operand x (is ∙ ap Err same))

  pub certified_complete : (r : Result (List Solved) InferError) (after : Environment)
      → AnalysesExactly (analysed most_levels f (analysis env [])) r after
      → ((i : InstructionId) (report : Report) → r ≢ Err (UnreplacedApply i report))
      → ((x : IdentifierId) → r ≢ Err (EffectsNotInferred x))
      → IfErr r (λ e. is_free e ≡ false → IsCaused (unit_with f env) e)
  certified_complete (Ok x) after h apply operand = tt
  certified_complete (Err e) after h apply operand = λ free. caused_alone (Err e) e refl apply operand (h free)

  pub into_complete : (r : Result ⊤ InferError) (after : Environment)
      → AnalysesExactlyInto (analysed most_levels f (analysis env [])) r after
      → ((i : InstructionId) (report : Report) → r ≢ Err (UnreplacedApply i report))
      → ((x : IdentifierId) → r ≢ Err (EffectsNotInferred x))
      → IfErr r (λ e. is_free e ≡ false → IsCaused (unit_with f env) e)
  into_complete (Ok x) after h apply operand = tt
  into_complete (Err e) after h apply operand = λ free. caused_alone (Err e) e refl apply operand (h free)
