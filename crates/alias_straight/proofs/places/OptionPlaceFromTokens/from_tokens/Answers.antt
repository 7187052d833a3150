use Rattle.std.proofs.Common.{◌≡◌, ◌∷◌, ap, ◌∙◌, arith}
use Rattle.json.specs.Token.{Token}
use Rattle.json.specs.Reads.{token_of}
use Rattle.alias_read.specs.Places.{place_at}
use Rattle.alias_straight.proofs.Elementing.{from_first, taken_as}
use Rattle.alias_straight.proofs.Ending.{perhaps_place, null_taken}
use Rattle.alias_straight.proofs.places.OptionPlaceFromTokens.from_tokens.Goals as goal

pub returns-in-Null : goal.returns-in-Null
returns-in-Null c =
    let first : c.args.reader.now ≡ token_of c.in_ok-token.token ∷ c.next.new.self = grind arith in
    let begins : c.args.reader.now ≡ Token.null ∷ c.next.new.self = first
    ∙ ap (λ k. token_of k ∷ c.next.new.self) c.in-Null.is in
    null_taken c.args.depth _ _ begins

pub returns-in_ok-place-in_default : goal.returns-in_ok-place-in_default
returns-in_ok-place-in_default c =
    let first : c.args.reader.now ≡ token_of c.in_ok-token.token ∷ c.next.new.self = grind arith in
    taken_as place_at _ c.args.depth _ _ c.in_ok-place-in_default.place _ (perhaps_place c.in_ok-place-in_default.place)
    (from_first place_at c.args.depth _ _ _ c.in_ok-place-in_default.place first c.in_ok-place-in_default.ensures)
