-- The lints of what is inferred of a unit are there, and without their places they are its reports.
use Rattle.std.specs.Prelude.{◌≡◌, ◌==◌, ◌&&◌, Bool, true, false, List, [], ◌∷◌, ◌++◌, Option, Some, None, Result, Ok}
use Rattle.std.specs.Prelude.{length, option_map, slice_get, refl}
use Rattle.std.specs.List.{list_all}
use Rattle.std.proofs.Common.{ap, sym, ◌∙◌, subst, arith}
use Rattle.std.proofs.lemmas.Bool.{eqb-true}
use Rattle.alias_base.specs.Answer.{◌>>=◌}
use Rattle.alias_base.specs.AnswerLaws.{both_true}
use Rattle.alias_base.specs.declared.ids.FunctionId.{FunctionId}
use Rattle.alias_hir.specs.ReportNumbers.{effect_reports, summary, summary_reports}
use Rattle.alias_hir.specs.declared.env.Environment.{Environment}
use Rattle.alias_hir.specs.declared.env.Unit.{Unit as HirUnit}
use Rattle.alias_hir.specs.declared.error.InferError.{InferError}
use Rattle.alias_hir.specs.declared.hir.HirFunction.{HirFunction}
use Rattle.alias_hir.specs.declared.report.Report.{Report}
use Rattle.alias_rules.specs.function_rules.Rules.{identifier_is_uninferred, function_is_uninferred}
use Rattle.alias_rules.specs.Functions.{rules_hold}
use Rattle.alias_rules.specs.RuleLaws.{parts_of_rules}
use Rattle.alias_effects.specs.Inference.{env_after}
use Rattle.alias_effects.specs.Recording.{with_effects_of}
use Rattle.alias_lint.specs.Lints.{root_lints}
use Rattle.alias_lint.specs.Frozen.{frozen_lints}
use Rattle.alias_lint.specs.Reassigned.{reassigned_lints}
use Rattle.alias_lint.specs.Sites.{reports_of}
use Rattle.alias_lint.specs.WalkLints.{walk_lints}
use Rattle.alias_lint.specs.declared.sites.Lint.{Lint}
use Rattle.alias_lint.proofs.ReassignedLaws.{reassigned_same}
use Rattle.alias_lint.proofs.Rooting.{listed_rest, reported_all, root_reports}
use Rattle.alias_lint.proofs.Unreported.{reassigned_alike}
use Rattle.alias_range_pass.specs.Passes.{Ranged, range_pass}
use Rattle.alias_range_pass.specs.places.Keeping.{but_context}
use Rattle.alias_range_pass.specs.summary.Walking.{mutations_done, renders_done}
use Rattle.alias_validate.specs.Freezing.{frozen_reports}
use Rattle.alias_validate.specs.Reassigning.{reassigned_reports}
use Rattle.alias_validate.specs.Reports.{with_reports, with_errors}
use Rattle.alias_nested.specs.Analysis.{Analysed, analysis, most_levels}
use Rattle.alias_nested.specs.Units.{RootAnalysis, root_finished, UnitAnalysis, handed_out, unit_analysed}
use Rattle.alias_nested.proofs.Changing.{slots_stay}
use Rattle.alias_inferred_laws.specs.inferred.Reports.{LintsAreReports}
use Rattle.alias_inferred_laws.proofs.inferred.Ranging.{PassLeaves, pass_leaves, lists_still}
use Rattle.alias_inferred_laws.proofs.inferred.Rooting.{root_entry, root_begun, root_ended}
use Rattle.alias_range_pass.specs.Laws.{PassKeeps}
use Rattle.alias_inferred_laws.proofs.inferred.Silence.{effects_silent, analysed_silent}

-- ---- reports of summaries

summary_alike : (o p : Option HirFunction) → option_map but_context p ≡ option_map but_context o → summary p ≡ summary o
summary_alike None None h = refl
summary_alike None (Some g) h = cc
summary_alike (Some f) None h = cc
summary_alike (Some f) (Some g) h = let same : but_context g ≡ but_context f = cc in
    ap (λ (z : HirFunction). summary (Some z)) same

-- after the range pass summaries have the reports that they had
same_reports : (begun env : Environment) → PassKeeps begun env → (k : FunctionId) → summary_reports begun k
    ≡ summary_reports env k
same_reports begun env kept k =
    ap (λ (e : Environment). effect_reports e.interned (summary (slice_get begun.functions k.0))) (sym kept.rest)
    ∙ ap (effect_reports env.interned) (sym
    (summary_alike (slice_get begun.functions k.0) (slice_get env.functions k.0)
    (slots_stay begun env (ap (λ (e : Environment). e.functions) kept.rest) k.0)))

-- ---- the root

module _ (begun : Environment) (g : HirFunction) (r : Ranged) (ran : range_pass false g begun ≡ Ok r) (rs : List Report)
    (reported : reassigned_reports r.after.1 r.after.0 ≡ Ok rs) (none : begun.errors ≡ []) where
  abbrev f : HirFunction
  f = r.after.0

  -- what is handed out has no reports in it
  abbrev env : Environment
  env = with_errors r.after.1 []

  p : PassLeaves false g begun r
  p = pass_leaves false g begun r ran

  same : (k : FunctionId) → summary_reports begun k ≡ summary_reports env k
  same k = same_reports begun r.after.1 p.kept k

  -- what is recorded of the root, as both validations end
  abbrev recorded : List Report
  recorded = (r.after.1.errors ++ rs) ++ frozen_reports (with_reports r.after.1 rs) f

  lints_there : (ls : List Lint) × (root_lints f env ≡ Ok ls)
  lints_there =
      let xs = reported_all f env (reassigned_lints env f) rs
      (reassigned_same env f ∙ sym (reassigned_alike env r.after.1.errors f) ∙ reported) in (
        (walk_lints env f p.listing ++ xs.0) ++ frozen_lints env f,
        listed_rest f env p.listing (lists_still false g begun r p)
            ∙ ap (λ (z : Result (List Lint) InferError). z
            >>= (λ ys. Ok ((walk_lints env f p.listing ++ ys) ++ frozen_lints env f))) xs.1,
      )

  walks_there : (let c = env.config.enable_validations in
      (renders_done c p.listing (mutations_done c p.listing begun)).errors) ≡ r.after.1.errors
  walks_there = ap (λ (c : Bool). (renders_done c p.listing (mutations_done c p.listing begun)).errors)
      (ap (λ (e : Environment). e.config.enable_validations) p.kept.rest) ∙ sym p.errors

  lints_recorded : (ls : List Lint) → root_lints f env ≡ Ok ls → reports_of ls ≡ recorded
  lints_recorded ls is =
      ap (λ es. es ++ reports_of ls) (sym none)
      ∙ sym (root_reports f env ls is p.listing begun rs r.after.1.errors (r.after.1.errors ++ rs)
      (lists_still false g begun r p) same (sym (ap (λ (e : Environment). e.interned) p.kept.rest)) reported)
      ∙ ap (λ es. (es ++ rs) ++ frozen_reports (with_reports r.after.1 rs) f) walks_there

-- ---- the unit

no_errors : (es : List Report) → (length es == 0) ≡ true → es ≡ []
no_errors [] h = refl
no_errors (e ∷ es) h = let zero_is : length (e ∷ es) ≡ 0 = eqb-true (length (e ∷ es)) 0 h in absurd (omega arith)

finished_reports : (g : HirFunction) (begun : Environment) (fs : List Analysed) (ra : RootAnalysis) → begun.errors ≡ []
    → root_finished g begun fs ≡ Ok ra → LintsAreReports (handed_out ra).inferred
finished_reports g begun fs ra none h =
    let e = root_ended g begun fs ra h in
    let ls = lints_there begun g e.ranged e.ran e.reassigned e.reported none in
    subst (λ (z : RootAnalysis). LintsAreReports (handed_out z).inferred) e.is
    (record {
      lints = ls.0;
      are = ls.1;
      reports =
          lints_recorded begun g e.ranged e.ran e.reassigned e.reported none ls.0 ls.1;
    })

-- the lints of what is inferred of a unit that is well formed are there, and are its reports
pub unit_lints : (u : HirUnit) (a : UnitAnalysis) → rules_hold u ≡ Ok tt → unit_analysed u ≡ Ok a
    → LintsAreReports a.inferred
unit_lints u a rules h =
    let parts = parts_of_rules u rules in
    let uninferred = both_true ((length u.env.errors == 0) && (length u.env.interned == 0)
    && list_all identifier_is_uninferred u.env.identifiers) (list_all function_is_uninferred u.env.functions)
    parts.environment in
    let empty : u.env.errors ≡ [] = no_errors u.env.errors
    (both_true (length u.env.errors == 0) (length u.env.interned == 0)
    (both_true _ (list_all identifier_is_uninferred u.env.identifiers) uninferred.0).0).0 in
    let b = root_begun u a h in
    let none : (env_after b.nested.env b.end).errors ≡ [] = effects_silent b.nested.env b.end
    ∙ analysed_silent most_levels u.function (analysis u.env []) b.nested b.analyses ∙ empty in
    subst (λ (z : UnitAnalysis). LintsAreReports z.inferred) b.out
    (finished_reports (with_effects_of b.end.solved u.function) (env_after b.nested.env b.end)
    (b.nested.functions ++ root_entry u b.nested b.end ∷ []) b.root none b.finishes)
