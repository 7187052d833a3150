use Rattle.alias_run.proofs.Briefs.{again_checked}
use Rattle.alias_run.proofs.Running.{judged_answered, judged_unfit}
use Rattle.alias_run.proofs.finding.judge_unit.Goals as goal

pub returns-in-Ok : goal.returns-in-Ok
returns-in-Ok c = judged_answered c.args.query c.args.certificate.now c.args.unit c.in-Ok.checked c.answer.result.status
    c.answer.result.answer c.in-Ok.ensures c.answer.ensures

pub returns-in-Err : goal.returns-in-Err
returns-in-Err c = judged_unfit c.args.query c.args.certificate.now c.args.unit c.in-Err.fault _ c.ended.result
    c.ended.ensures c.from.ensures c.in-Err.ensures

pub answer-requires : goal.answer-requires
answer-requires c = again_checked c.args.query c.args.certificate.now c.args.unit c.in-Ok.checked c.in-Ok.ensures
    c.requires
