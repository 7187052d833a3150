use Rattle.std.proofs.Common.{ap}
use Rattle.alias_straight.specs.Members.{from_key}
use Rattle.alias_straight.proofs.Calling.{method_call_taken}
use Rattle.alias_straight.proofs.calls.take_method_call.Goals as goal

pub returns : goal.returns
returns c =
    (method_call_taken c.args.depth _ _ _ _ _ c.in_ok-receiver.receiver c.in_ok-property.property c.in_ok-args.args
    c.in_ok-receiver.ensures c.in_ok-property.ensures c.in_ok-args.ensures
    (ap (λ k. from_key k c.take_list.new.reader) c.in_ok-close_object.ensures))
