use Rattle.alias_run.proofs.Briefs.{briefed_checked, briefed_unfit}
use Rattle.alias_run.proofs.following.brief_unit.Goals as goal

pub returns-in-Ok : goal.returns-in-Ok
returns-in-Ok c = λ rules. briefed_checked c.args.solved.now c.args.unit c.in-Ok.checked c.brief_from.result.status
    c.brief_from.result.answer c.in-Ok.ensures c.brief_from.ensures

pub returns-in-Err : goal.returns-in-Err
returns-in-Err c = briefed_unfit c.args.solved.now c.args.unit c.in-Err.fault _ c.ended.result c.ended.ensures
    c.from.ensures c.in-Err.ensures
