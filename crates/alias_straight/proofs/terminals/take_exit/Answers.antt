use Rattle.std.proofs.Common.{ap}
use Rattle.alias_straight.specs.Members.{from_key}
use Rattle.alias_straight.proofs.Ending.{exit_taken}
use Rattle.alias_straight.proofs.terminals.take_exit.Goals as goal

pub returns : goal.returns
returns c =
    rw c.exit_with.ensures (exit_taken c.args.kind c.args.id c.args.depth _ _ _ c.in_ok-value.value
    c.in_ok-value.ensures
    (ap (λ k. from_key k c.take_member.new.reader) c.in_ok-close_object.ensures))
