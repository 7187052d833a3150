use Rattle.std.proofs.Common.{◌≡◌, ◌∷◌, arith}
use Rattle.json.specs.Reads.{token_of}
use Rattle.alias_read.specs.Places.{place_at}
use Rattle.alias_straight.proofs.Elementing.{from_first}
use Rattle.alias_straight.proofs.places.PlaceFromTokens.from_tokens.Goals as goal

pub returns : goal.returns
returns c =
    let first : c.args.reader.now ≡ token_of c.in_ok-token.token ∷ c.next.new.self = grind arith in
    from_first place_at c.args.depth _ _ _ c.in_ok-place.place first c.in_ok-place.ensures
