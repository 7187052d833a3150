use Rattle.alias_run.proofs.Asking.{function_done, function_fault}
use Rattle.alias_run.proofs.finding.explain_function_inferred.Goals as goal

pub returns-in-Ok : goal.returns-in-Ok
returns-in-Ok c =
    let e = c.in-Ok.ensures in
    function_done c.args.function c.args.inferred.now c.in-Ok.explained c.done.result c.done.ensures c.requires.caused
    e.explained e.alone

pub returns-in-Err : goal.returns-in-Err
returns-in-Err c = function_fault c.args.function c.args.inferred.now c.in-Err.fault _ c.ended.result c.ended.ensures
    c.from.ensures c.requires.numbered c.in-Err.ensures.explained
