use Rattle.std.proofs.Common.{ap}
use Rattle.alias_straight.specs.Members.{from_key}
use Rattle.alias_straight.proofs.StoringKinds.{store_taken}
use Rattle.alias_straight.proofs.stores.take_store.Goals as goal

pub returns : goal.returns
returns c =
    rw c.store_with.ensures (store_taken c.args.kind c.args.depth _ _ _ _ c.in_ok-lvalue.lvalue c.in_ok-stored.stored
    c.in_ok-lvalue.ensures c.in_ok-stored.ensures
    (ap (λ k. from_key k c.take_member-2.new.reader) c.in_ok-close_object.ensures))
