use Rattle.alias_run.proofs.Asking.{lints_done, lints_fault}
use Rattle.alias_run.proofs.finding.lint_inferred.Goals as goal

pub returns-in-Ok : goal.returns-in-Ok
returns-in-Ok c = lints_done c.args.inferred c.in-Ok.lints c.done.result c.done.ensures c.requires.reports
    c.in-Ok.ensures.lints

pub returns : goal.returns
returns c = lints_fault c.args.inferred c.in-Err.error _ c.ended.result c.ended.ensures c.from.ensures
    c.requires.reports c.in-Err.ensures.lints
