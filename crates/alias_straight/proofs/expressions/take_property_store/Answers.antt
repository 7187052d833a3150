use Rattle.std.proofs.Common.{ap}
use Rattle.alias_straight.specs.Members.{from_key}
use Rattle.alias_straight.proofs.Expressing.{property_store_taken}
use Rattle.alias_straight.proofs.expressions.take_property_store.Goals as goal

pub returns : goal.returns
returns c =
    property_store_taken c.args.depth _ _ _ _ _ c.in_ok-object.object c.in_ok-property.property c.in_ok-value.value
    c.in_ok-object.ensures c.in_ok-property.ensures c.in_ok-value.ensures
    (ap (λ k. from_key k c.take_member-3.new.reader) c.in_ok-close_object.ensures)
