use Rattle.alias_run.specs.Findings.{IsFunctionExplainedOf}
use Rattle.alias_run.proofs.Asking.{memory_function}
use Rattle.alias_run.proofs.Running.{of_ended, of_inferred}
use Rattle.alias_run.proofs.finding.explain_function_checked.Goals as goal

pub explain_function_inferred-requires-clause-numbered : goal.explain_function_inferred-requires-clause-numbered
explain_function_inferred-requires-clause-numbered c = c.in-Ok.ensures.1.numbered

pub explain_function_inferred-requires-clause-caused : goal.explain_function_inferred-requires-clause-caused
explain_function_inferred-requires-clause-caused c = c.in-Ok.ensures.1.caused

pub returns-in-Ok : goal.returns-in-Ok
returns-in-Ok c =
    let is = c.in-Ok.ensures.0 in
    let o = c.explain_function_inferred.result in
    of_inferred (IsFunctionExplainedOf c.args.function) (memory_function c.args.function) c.args.unit c.in-Ok.inferred
    o.status o.answer (is.0, is.1) c.explain_function_inferred.ensures

pub returns-in-Err : goal.returns-in-Err
returns-in-Err c = of_ended (IsFunctionExplainedOf c.args.function) c.args.unit c.in-Err.status c.ended.result
    c.ended.ensures c.in-Err.ensures
