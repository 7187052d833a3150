use Rattle.alias_run.proofs.Asking.{inferred_askable}
use Rattle.alias_run.proofs.Refusing.{inference_refused}
use Rattle.alias_run.proofs.finding.inference_of.Goals as goal

pub returns-in-Ok : goal.returns-in-Ok
returns-in-Ok c =
    let rules = c.unit-unit.ensures in
    let is = c.in-Ok.ensures in (
      is.answer,
      inferred_askable c.args.unit c.unit-unit.result.now c.in-Ok.inferred rules.unit rules.checked is.answer
          is.fits,
    )

pub returns-in-Err : goal.returns-in-Err
returns-in-Err c =
    let rules = c.unit-unit.ensures in
    let e = c.in-Err in
    inference_refused c.args.unit c.unit-unit.result.now e.error _ rules.unit rules.checked e.ensures.failed
    e.ensures.answer c.from.ensures
