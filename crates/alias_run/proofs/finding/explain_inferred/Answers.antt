use Rattle.alias_run.proofs.Asking.{explanation_done, explanation_fault}
use Rattle.alias_run.proofs.finding.explain_inferred.Goals as goal

pub returns-in-Ok : goal.returns-in-Ok
returns-in-Ok c = explanation_done c.args.function c.args.identifier c.args.inferred.now c.in-Ok.explanation
    c.done.result c.done.ensures c.requires.caused c.in-Ok.ensures.explained

pub returns-in-Err : goal.returns-in-Err
returns-in-Err c =
    explanation_fault c.args.function c.args.identifier c.args.inferred.now c.in-Err.fault _ c.ended.result
    c.ended.ensures c.from.ensures c.requires.numbered c.in-Err.ensures.explained
