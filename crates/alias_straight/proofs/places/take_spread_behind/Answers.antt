use Rattle.std.proofs.Common.{◌∷◌, ap, arith}
use Rattle.json.specs.Token.{Token}
use Rattle.alias_straight.specs.Members.{from_key}
use Rattle.alias_straight.proofs.Elementing.{spread_taken}
use Rattle.alias_straight.proofs.places.take_spread_behind.Goals as goal

pub returns : goal.returns
returns c =
    spread_taken c.args.depth _ _ _ _ c.in_ok-place.place (omega arith)
    (ap (λ l. Token.begin_object ∷ l) c.in_ok-next.ensures) c.in_ok-place.ensures
    (ap (λ k. from_key k c.take_member.new.reader) c.in_ok-close_object.ensures)
