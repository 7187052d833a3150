use Rattle.std.proofs.Common.{ap}
use Rattle.alias_straight.specs.Members.{from_key}
use Rattle.alias_straight.proofs.Operating.{list_taken}
use Rattle.alias_straight.proofs.operations.take_place_list.Goals as goal

pub returns : goal.returns
returns c =
    rw c.place_list_with.ensures (list_taken c.args.kind c.args.depth _ _ _ _ c.in_ok-places.places
    c.place_list_key.ensures c.in_ok-places.ensures
    (ap (λ k. from_key k c.take_list.new.reader) c.in_ok-close_object.ensures))
