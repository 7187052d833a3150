use Rattle.std.proofs.Common.{ap}
use Rattle.alias_straight.specs.Members.{from_key}
use Rattle.alias_straight.proofs.Ending.{maybe_throw_taken}
use Rattle.alias_straight.proofs.terminals.take_maybe_throw.Goals as goal

pub returns : goal.returns
returns c =
    (maybe_throw_taken c.args.id c.args.depth _ _ _ _ c.in_ok-continuation.continuation c.in_ok-handler.handler
    c.in_ok-continuation.ensures c.in_ok-handler.ensures
    (ap (λ k. from_key k c.take_optional.new.reader) c.in_ok-close_object.ensures))
