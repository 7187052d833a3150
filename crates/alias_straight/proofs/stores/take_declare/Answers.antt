use Rattle.std.proofs.Common.{ap}
use Rattle.alias_straight.specs.Members.{from_key}
use Rattle.alias_straight.proofs.StoringKinds.{declare_taken}
use Rattle.alias_straight.proofs.stores.take_declare.Goals as goal

pub returns : goal.returns
returns c =
    rw c.declare_with.ensures (declare_taken c.args.kind c.args.depth _ _ _ c.in_ok-lvalue.lvalue c.in_ok-lvalue.ensures
    (ap (λ k. from_key k c.take_member.new.reader) c.in_ok-close_object.ensures))
