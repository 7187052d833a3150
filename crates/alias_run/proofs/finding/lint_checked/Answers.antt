use Rattle.alias_run.specs.Findings.{IsLintedOf}
use Rattle.alias_run.proofs.Asking.{memory_lints}
use Rattle.alias_run.proofs.Running.{of_ended, of_inferred}
use Rattle.alias_run.proofs.finding.lint_checked.Goals as goal

pub lint_inferred-requires-clause-fits : goal.lint_inferred-requires-clause-fits
lint_inferred-requires-clause-fits c = c.in-Ok.ensures.1.fits

pub lint_inferred-requires-clause-reports : goal.lint_inferred-requires-clause-reports
lint_inferred-requires-clause-reports c = c.in-Ok.ensures.1.lints

pub returns-in-Ok : goal.returns-in-Ok
returns-in-Ok c =
    let is = c.in-Ok.ensures.0 in
    let o = c.lint_inferred.result in
    of_inferred IsLintedOf memory_lints c.args.unit c.in-Ok.inferred o.status o.answer (is.0, is.1)
    c.lint_inferred.ensures

pub returns-in-Err : goal.returns-in-Err
returns-in-Err c = of_ended IsLintedOf c.args.unit c.in-Err.status c.ended.result c.ended.ensures c.in-Err.ensures
