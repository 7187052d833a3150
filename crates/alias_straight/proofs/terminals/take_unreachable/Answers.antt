use Rattle.std.proofs.Common.{ap}
use Rattle.alias_straight.specs.Members.{from_key}
use Rattle.alias_straight.proofs.Ending.{unreachable_taken}
use Rattle.alias_straight.proofs.terminals.take_unreachable.Goals as goal

pub returns : goal.returns
returns c =
    (unreachable_taken c.args.id c.args.depth _ _
    (ap (λ k. from_key k c.args.reader.now) c.in_ok-close_object.ensures))
