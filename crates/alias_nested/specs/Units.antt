-- The inference of a unit.
use Rattle.std.specs.Prelude.{◌≡◌, false, List, [], ◌∷◌, ◌++◌, Result, Ok, Err, map}
use Rattle.std.specs.List.{AllByRecursion}
use Rattle.alias_base.specs.Answer.{◌>>=◌}
use Rattle.alias_hir.specs.declared.effect.AliasingEffect.{AliasingEffect}
use Rattle.alias_hir.specs.declared.env.Environment.{Environment}
use Rattle.alias_hir.specs.declared.env.Unit.{Unit as HirUnit}
use Rattle.alias_hir.specs.declared.error.InferError.{InferError}
use Rattle.alias_hir.specs.declared.hir.HirFunction.{HirFunction}
use Rattle.alias_effects.specs.declared.solved.Solved.{Solved}
use Rattle.alias_effects.specs.Inference.{pass_end, env_after}
use Rattle.alias_effects.specs.Recording.{with_effects_of}
use Rattle.alias_range_pass.specs.Passes.{range_pass}
use Rattle.alias_validate.specs.Freezing.{frozen_reports}
use Rattle.alias_validate.specs.Reassigning.{reassigned_reports, with_reassigned}
use Rattle.alias_validate.specs.Reports.{with_reports, with_errors}
use Rattle.alias_nested.specs.declared.infer.Inferred.{Inferred}
use Rattle.alias_nested.specs.Analysis.{Analysed, Analysis, analysis, most_levels, analysed, is_free, Accounts}
use Rattle.alias_nested.specs.Analysis.{SolvesItsFlow}

-- the root with all that was analysed, and its summary
pub record RootAnalysis : Type 0 where
  pub summary : List AliasingEffect
  pub func : HirFunction
  pub analysis : Analysis

-- the environment with the reports of both validations
abbrev pub validated : HirFunction → Environment → Result Environment InferError
validated f env = do
  more ← with_reassigned env (reassigned_reports env f)
  Ok (with_reports more (frozen_reports more f))

-- the root once its effects are recorded: the range pass and both validations
abbrev pub root_finished : HirFunction → Environment → List Analysed → Result RootAnalysis InferError
root_finished f env fs = do
  r ← range_pass false f env
  more ← validated r.after.0 r.after.1
  Ok (record { summary = r.summary; func = r.after.0; analysis = analysis more fs })

-- the root, once the functions below it are analysed: first the effects pass
abbrev pub root_analysed : HirFunction → Analysis → Result RootAnalysis InferError
root_analysed f a = do
  e ← pass_end a.env f false
  root_finished (with_effects_of e.solved f) (env_after a.env e)
      (a.functions ++ record { env = a.env; func = f; is_function_expression = false; solved = e.solved } ∷ [])

-- the functions below the root, innermost first, and then the root
abbrev pub all_analysed : HirFunction → Analysis → Result RootAnalysis InferError
all_analysed f a = analysed most_levels f a >>= root_analysed f

-- what is inferred of a unit, with each function as its effects pass began
pub record UnitAnalysis : Type 0 where
  pub functions : List Analysed
  pub inferred : Inferred

-- what is handed out: the reports are taken out of the environment
abbrev pub handed_out : RootAnalysis → UnitAnalysis
handed_out r = record {
  functions = r.analysis.functions;
  inferred = record {
    unit = record { function = r.func; env = with_errors r.analysis.env [] };
    solved = map (λ (x : Analysed). x.solved) r.analysis.functions;
    summary = r.summary;
    reports = r.analysis.env.errors;
  };
}

-- what is inferred of a unit, or the first refusal
abbrev pub unit_analysed : HirUnit → Result UnitAnalysis InferError
unit_analysed u = do
  r ← all_analysed u.function (analysis u.env [])
  Ok (handed_out r)

-- ---- what calls answer

abbrev pub RootLeads : Result RootAnalysis InferError → Result (List AliasingEffect) InferError → HirFunction
    → Environment → List Solved → Type 0
RootLeads stated (Ok summary) func env solved = (fs : List Analysed)
    × (stated ≡ Ok (record { summary = summary; func = func; analysis = analysis env fs })) × Accounts fs solved
RootLeads stated (Err e) func env solved = is_free e ≡ false → stated ≡ Err e

-- What is handed out is what is stated, and what is solved of each function solves its flow, or the refusal is the one
-- stated. Out of memory is free,
-- and so is a fault of a pass of the caller.
abbrev pub InfersUnit : Result UnitAnalysis InferError → Result Inferred InferError → Type 0
InfersUnit stated (Ok i) = (fs : List Analysed) × (stated ≡ Ok (record { functions = fs; inferred = i }))
    × AllByRecursion SolvesItsFlow fs
InfersUnit stated (Err e) = is_free e ≡ false → stated ≡ Err e
