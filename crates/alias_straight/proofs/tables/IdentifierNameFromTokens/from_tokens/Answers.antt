use Rattle.std.proofs.Common.{◌≡◌, ◌∷◌, ap, ◌∙◌, arith}
use Rattle.json.specs.Token.{Token}
use Rattle.json.specs.Reads.{token_of}
use Rattle.alias_read.specs.Tables.{name_at}
use Rattle.alias_straight.proofs.Elementing.{from_first}
use Rattle.alias_straight.proofs.Identifying.{name_taken}
use Rattle.alias_straight.proofs.tables.IdentifierNameFromTokens.from_tokens.Goals as goal

pub returns-in_ok-name-in-String : goal.returns-in_ok-name-in-String
returns-in_ok-name-in-String c =
    let first : c.args.reader.now ≡ token_of c.in_ok-token.token ∷ c.next.new.self = grind arith in
    let is : c.args.reader.now ≡ Token.string c.in-String.text.now ∷ c.next.new.self = first
    ∙ ap (λ k. token_of k ∷ c.next.new.self) c.in-String.is in
    rw c.in_ok-name-in-String.ensures (name_taken c.args.depth c.args.reader.now c.next.new.self c.in-String.text.now
    is)

pub returns-in_ok-name-in-BeginObject : goal.returns-in_ok-name-in-BeginObject
returns-in_ok-name-in-BeginObject c =
    let first : c.args.reader.now ≡ token_of c.in_ok-token.token ∷ c.next.new.self = grind arith in
    let begins : c.args.reader.now ≡ Token.begin_object ∷ c.next.new.self = first
    ∙ ap (λ k. token_of k ∷ c.next.new.self) c.in-BeginObject.is in
    from_first name_at c.args.depth _ _ _ c.in_ok-name-in-BeginObject.name begins c.in_ok-name-in-BeginObject.ensures
