use Rattle.std.proofs.Common.{ap}
use Rattle.alias_straight.specs.Members.{from_key}
use Rattle.alias_straight.proofs.Operating.{plain_taken}
use Rattle.alias_straight.proofs.operations.take_plain.Goals as goal

pub returns : goal.returns
returns c =
    rw c.plain_with.ensures (plain_taken c.args.kind c.args.depth _ _
    (ap (λ k. from_key k c.args.reader.now) c.in_ok-close_object.ensures))
