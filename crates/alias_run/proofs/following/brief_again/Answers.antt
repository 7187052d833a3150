use Rattle.std.proofs.Common.{refl}
use Rattle.alias_run.proofs.Briefs.{briefed_again, briefed_unread}
use Rattle.alias_run.proofs.following.brief_again.Goals as goal

pub returns-in-Ok : goal.returns-in-Ok
returns-in-Ok c = λ u. briefed_again c.args.again.now c.in-Ok.unit u c.args.solved.now c.args.solved.now
    c.brief_unit.result c.in-Ok.ensures.unit refl c.brief_unit.ensures

pub returns-in-Err : goal.returns-in-Err
returns-in-Err c = λ u reads rules. briefed_unread c.args.again.now u c.args.solved.now c.in-Err.fault _
    c.ended.result c.ended.ensures c.from.ensures c.in-Err.ensures.none reads
