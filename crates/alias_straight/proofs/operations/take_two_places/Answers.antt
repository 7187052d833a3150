use Rattle.std.proofs.Common.{ap}
use Rattle.alias_straight.specs.Members.{from_key}
use Rattle.alias_straight.proofs.Operating.{two_taken}
use Rattle.alias_straight.proofs.operations.take_two_places.Goals as goal

pub returns : goal.returns
returns c =
    rw c.two_places_with.ensures (two_taken c.args.kind c.args.depth _ _ _ _ _ _ c.in_ok-first.first
    c.in_ok-second.second c.first_key.ensures c.second_key.ensures c.in_ok-first.ensures c.in_ok-second.ensures
    (ap (λ k. from_key k c.take_member-2.new.reader) c.in_ok-close_object.ensures))
