use Rattle.std.proofs.Common.{ap}
use Rattle.alias_straight.specs.Members.{from_key}
use Rattle.alias_straight.proofs.Calling.{call_taken}
use Rattle.alias_straight.proofs.calls.take_call.Goals as goal

pub returns : goal.returns
returns c =
    rw c.call_with.ensures (call_taken c.args.kind c.args.depth _ _ _ _ c.in_ok-callee.callee c.in_ok-args.args
    c.in_ok-callee.ensures c.in_ok-args.ensures
    (ap (λ k. from_key k c.take_list.new.reader) c.in_ok-close_object.ensures))
