-- What the analysis of a unit went through at its root, by its equation.
use Rattle.std.specs.Prelude.{◌≡◌, false, List, [], ◌∷◌, ◌++◌, Ok}
use Rattle.std.proofs.Common.{ap, ◌∙◌}
use Rattle.alias_hir.specs.declared.env.Environment.{Environment}
use Rattle.alias_hir.specs.declared.env.Unit.{Unit as HirUnit}
use Rattle.alias_hir.specs.declared.hir.HirFunction.{HirFunction}
use Rattle.alias_hir.specs.declared.report.Report.{Report}
use Rattle.alias_effects.specs.Inference.{pass_end, env_after}
use Rattle.alias_effects.specs.Recording.{with_effects_of}
use Rattle.alias_effects.specs.declared.output.PassEnd.{PassEnd}
use Rattle.alias_range_pass.specs.Passes.{Ranged, range_pass}
use Rattle.alias_validate.specs.Freezing.{frozen_reports}
use Rattle.alias_validate.specs.Reassigning.{reassigned_reports, with_reassigned}
use Rattle.alias_validate.specs.Reports.{with_reports}
use Rattle.alias_nested.specs.Analysis.{Analysed, Analysis, analysis, most_levels, analysed}
use Rattle.alias_nested.specs.Units.{RootAnalysis, validated, root_finished, root_analysed, all_analysed, UnitAnalysis}
use Rattle.alias_nested.specs.Units.{handed_out, unit_analysed}
use Rattle.alias_answer_laws.proofs.order.Ordering.{went}

-- the root as its effects pass began, with what was solved of it
abbrev pub root_entry : HirUnit → Analysis → PassEnd → Analysed
root_entry u a e = record { env = a.env; func = u.function; is_function_expression = false; solved = e.solved }

-- the functions below the root, the root's effects pass, and what then came of the root
pub record RootBegun (u : HirUnit) (a : UnitAnalysis) : Type 0 where
  pub nested : Analysis
  pub analyses : analysed most_levels u.function (analysis u.env []) ≡ Ok nested
  pub end : PassEnd
  pub root : RootAnalysis
  pub ended : pass_end nested.env u.function false ≡ Ok end
  pub finishes : root_finished (with_effects_of end.solved u.function) (env_after nested.env end)
      (nested.functions ++ root_entry u nested end ∷ []) ≡ Ok root
  pub out : handed_out root ≡ a

pub root_begun : (u : HirUnit) (a : UnitAnalysis) → unit_analysed u ≡ Ok a → RootBegun u a
root_begun u a h =
    let w = went (all_analysed u.function (analysis u.env [])) (λ (r : RootAnalysis). Ok (handed_out r)) a h in
    let v = went (analysed most_levels u.function (analysis u.env [])) (root_analysed u.function) w.0 w.1 in
    let b : Analysis = v.0 in
    let x = went (pass_end b.env u.function false)
    (λ (e : PassEnd). root_finished (with_effects_of e.solved u.function) (env_after b.env e)
    (b.functions ++ root_entry u b e ∷ [])) w.0 v.2 in
    let e : PassEnd = x.0 in
    let out : handed_out w.0 ≡ a = cc in
    record {
      nested = b;
      analyses = v.1;
      end = e;
      root = w.0;
      ended = x.1;
      finishes = x.2;
      out = out;
    }

-- the root as its range pass left it, with what both validations record
abbrev pub root_validated : Ranged → List Report → List Analysed → RootAnalysis
root_validated r rs fs = record {
  summary = r.summary;
  func = r.after.0;
  analysis = analysis (with_reports (with_reports r.after.1 rs)
      (frozen_reports (with_reports r.after.1 rs) r.after.0)) fs;
}

-- the root's range pass and its validations
pub record RootEnded (g : HirFunction) (begun : Environment) (fs : List Analysed) (root : RootAnalysis) : Type 0 where
  pub ranged : Ranged
  pub ran : range_pass false g begun ≡ Ok ranged
  pub reassigned : List Report
  pub reported : reassigned_reports ranged.after.1 ranged.after.0 ≡ Ok reassigned
  pub is : root_validated ranged reassigned fs ≡ root

pub root_ended : (g : HirFunction) (begun : Environment) (fs : List Analysed) (root : RootAnalysis)
    → root_finished g begun fs ≡ Ok root → RootEnded g begun fs root
root_ended g begun fs root h =
    let w = went (range_pass false g begun) _ root h in
    let r : Ranged = w.0 in
    let v = went (validated r.after.0 r.after.1)
    (λ (more : Environment). Ok (record { summary = r.summary; func = r.after.0; analysis = analysis more fs }))
    root w.2 in
    let x = went (with_reassigned r.after.1 (reassigned_reports r.after.1 r.after.0))
    (λ (m : Environment). Ok (with_reports m (frozen_reports m r.after.0))) v.0 v.1 in
    let y = went (reassigned_reports r.after.1 r.after.0) (λ (rs : List Report). Ok (with_reports r.after.1 rs)) x.0
    x.1 in
    let first : with_reports r.after.1 y.0 ≡ x.0 = cc in
    let last : with_reports x.0 (frozen_reports x.0 r.after.0) ≡ v.0 = cc in
    let both : with_reports (with_reports r.after.1 y.0) (frozen_reports (with_reports r.after.1 y.0) r.after.0) ≡ v.0 =
    ap (λ (m : Environment). with_reports m (frozen_reports m r.after.0)) first ∙ last in
    let is : ◌≡◌ {A = RootAnalysis} (record { summary = r.summary; func = r.after.0; analysis = analysis v.0 fs })
    root = cc in
    record {
      ranged = r;
      ran = w.1;
      reassigned = y.0;
      reported = y.1;
      is = ap (λ (m : Environment). let z : RootAnalysis =
          record { summary = r.summary; func = r.after.0; analysis = analysis m fs } in z) both ∙ is;
    }
