use Rattle.alias_run.proofs.Briefs.{verified_done, verified_fault}
use Rattle.alias_run.proofs.following.verify_checked.Goals as goal

pub returns-in-Ok : goal.returns-in-Ok
returns-in-Ok c = verified_done c.args.text.now c.args.unit c.in-Ok.functions c.done.result c.done.ensures
    c.in-Ok.ensures

pub returns-in-Err : goal.returns-in-Err
returns-in-Err c = verified_fault c.args.text.now c.args.unit c.in-Err.fault _ c.ended.result c.ended.ensures
    c.from.ensures c.in-Err.ensures
