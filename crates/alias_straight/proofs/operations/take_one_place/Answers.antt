use Rattle.std.proofs.Common.{ap}
use Rattle.alias_straight.specs.Members.{from_key}
use Rattle.alias_straight.proofs.Operating.{one_taken}
use Rattle.alias_straight.proofs.operations.take_one_place.Goals as goal

pub returns : goal.returns
returns c =
    rw c.one_place_with.ensures (one_taken c.args.kind c.args.depth _ _ _ _ c.in_ok-place.place c.one_place_key.ensures
    c.in_ok-place.ensures
    (ap (λ k. from_key k c.take_member.new.reader) c.in_ok-close_object.ensures))
