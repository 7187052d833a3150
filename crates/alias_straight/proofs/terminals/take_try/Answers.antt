use Rattle.std.proofs.Common.{ap}
use Rattle.alias_straight.specs.Members.{from_key}
use Rattle.alias_straight.proofs.Ending.{try_taken}
use Rattle.alias_straight.proofs.terminals.take_try.Goals as goal

pub returns : goal.returns
returns c =
    (try_taken c.args.id c.args.depth _ _ _ _ _ c.in_ok-block.block c.in_ok-handler.handler
    c.in_ok-handler_binding.handler_binding c.in_ok-block.ensures c.in_ok-handler.ensures
    c.in_ok-handler_binding.ensures
    (ap (λ k. from_key k c.take_optional.new.reader) c.in_ok-close_object.ensures))
