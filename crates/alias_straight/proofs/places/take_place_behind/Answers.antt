use Rattle.std.proofs.Common.{◌≡◌, ◌∷◌, ap, Some, arith}
use Rattle.json.specs.Token.{Token}
use Rattle.json.specs.Json.{after_end_array}
use Rattle.json.specs.Reads.{token_of}
use Rattle.alias_straight.proofs.Placing.{unspanned_taken, spanned_taken}
use Rattle.alias_straight.proofs.places.take_place_behind.Goals as goal

pub returns-in-Some : goal.returns-in-Some
returns-in-Some c =
    let is : token_of c.args.token ∷ c.args.reader.now ≡ Token.number c.in-Number.numeral.now ∷ c.args.reader.now =
    ap (λ k. token_of k ∷ c.args.reader.now) c.in-Number.is in
    rw c.place_of.ensures (unspanned_taken c.args.depth _ c.args.reader.now c.in-Number.numeral.now c.in-Some.identifier
    is c.in-Some.ensures (omega arith))

pub returns-else-not-take_end_array : goal.returns-else-not-take_end_array
returns-else-not-take_end_array c =
    let begins : token_of c.args.token ∷ c.args.reader.now ≡ Token.begin_array ∷ c.args.reader.now =
    ap (λ k. token_of k ∷ c.args.reader.now) c.in-BeginArray.is in
    let ended : after_end_array c.take_number-in-BeginArray-2.new.reader ≡ Some c.take_end_array.new.self =
    grind arith in
    rw c.place_of-in-BeginArray.ensures (spanned_taken c.args.depth c.in_ok-identifier-in-BeginArray.identifier
    c.in_ok-start-in-BeginArray.start c.in_ok-end-in-BeginArray.end _ c.args.reader.now c.take_number.new.reader
    c.take_number-in-BeginArray.new.reader c.take_number-in-BeginArray-2.new.reader c.take_end_array.new.self
    (omega arith) begins c.in_ok-identifier-in-BeginArray.ensures c.in_ok-start-in-BeginArray.ensures
    c.in_ok-end-in-BeginArray.ensures ended (omega arith) (omega arith) (omega arith))
