use Rattle.std.proofs.Common.{ap}
use Rattle.alias_straight.specs.Members.{from_key}
use Rattle.alias_straight.proofs.Ending.{jump_taken}
use Rattle.alias_straight.proofs.terminals.take_jump.Goals as goal

pub returns : goal.returns
returns c =
    rw c.jump_with.ensures (jump_taken c.args.kind c.args.id c.args.depth _ _ _ _ c.in_ok-block.block c.jump_key.ensures
    c.in_ok-block.ensures
    (ap (λ k. from_key k c.take_member.new.reader) c.in_ok-close_object.ensures))
