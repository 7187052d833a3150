use Rattle.alias_run.specs.Findings.{IsExplainedOf}
use Rattle.alias_run.proofs.Asking.{memory_explained}
use Rattle.alias_run.proofs.Running.{of_ended, of_inferred}
use Rattle.alias_run.proofs.finding.explain_checked.Goals as goal

pub explain_inferred-requires-clause-numbered : goal.explain_inferred-requires-clause-numbered
explain_inferred-requires-clause-numbered c = c.in-Ok.ensures.1.numbered

pub explain_inferred-requires-clause-caused : goal.explain_inferred-requires-clause-caused
explain_inferred-requires-clause-caused c = c.in-Ok.ensures.1.caused

pub returns-in-Ok : goal.returns-in-Ok
returns-in-Ok c =
    let is = c.in-Ok.ensures.0 in
    let o = c.explain_inferred.result in
    of_inferred (IsExplainedOf c.args.function c.args.identifier) (memory_explained c.args.function c.args.identifier)
    c.args.unit c.in-Ok.inferred o.status o.answer (is.0, is.1) c.explain_inferred.ensures

pub returns-in-Err : goal.returns-in-Err
returns-in-Err c = of_ended (IsExplainedOf c.args.function c.args.identifier) c.args.unit c.in-Err.status c.ended.result
    c.ended.ensures c.in-Err.ensures
