use Rattle.alias_run.proofs.Running.{judged_fault}
use Rattle.alias_run.proofs.finding.judge.Goals as goal

pub returns-in-Err : goal.returns-in-Err
returns-in-Err c = judged_fault c.args.query _ c.in-Err.fault _ c.ended.result c.ended.ensures c.from.ensures
    c.in-Err.ensures.reads

pub judge_unit-requires : goal.judge_unit-requires
judge_unit-requires c = c.requires c.in-Ok.read c.in-Ok.ensures.unit
