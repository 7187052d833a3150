use Rattle.alias_run.proofs.Refusing.{decided_done, decided_fault}
use Rattle.alias_run.proofs.finding.decide_checked.Goals as goal

pub returns-in-Ok : goal.returns-in-Ok
returns-in-Ok c = decided_done c.args.unit c.in-Ok.plainness c.done.result c.done.ensures c.in-Ok.ensures.answer
    c.in-Ok.ensures.tells

pub returns-in-Err : goal.returns-in-Err
returns-in-Err c = decided_fault c.args.unit c.in-Err.fault _ c.ended.result c.ended.ensures c.from.ensures
    c.in-Err.ensures.answer c.in-Err.ensures.tells
