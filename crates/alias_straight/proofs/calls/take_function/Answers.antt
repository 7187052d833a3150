use Rattle.std.proofs.Common.{ap}
use Rattle.alias_straight.specs.Members.{from_key}
use Rattle.alias_straight.proofs.Calling.{function_taken}
use Rattle.alias_straight.proofs.calls.take_function.Goals as goal

pub returns : goal.returns
returns c =
    rw c.function_with.ensures (function_taken c.args.kind c.args.depth _ _ _ c.in_ok-func.func c.in_ok-func.ensures
    (ap (λ k. from_key k c.take_member.new.reader) c.in_ok-close_object.ensures))
