use Rattle.std.proofs.Common.{◌≡◌, ◌∷◌, ap, ◌∙◌, arith}
use Rattle.json.specs.Token.{Token}
use Rattle.json.specs.Reads.{token_of}
use Rattle.alias_straight.proofs.Literals.{literal_taken, no_literal_taken}
use Rattle.alias_straight.proofs.elements.PropertyLiteralFromTokens.from_tokens.Goals as goal

pub returns-in-Null : goal.returns-in-Null
returns-in-Null c =
    let first : c.args.reader.now ≡ token_of c.in_ok-token.token ∷ c.next.new.self = grind arith in
    let begins : c.args.reader.now ≡ Token.null ∷ c.next.new.self = first
    ∙ ap (λ k. token_of k ∷ c.next.new.self) c.in-Null.is in
    no_literal_taken c.args._depth _ _ begins

pub returns-in_ok-name-in-String : goal.returns-in_ok-name-in-String
returns-in_ok-name-in-String c =
    let first : c.args.reader.now ≡ token_of c.in_ok-token.token ∷ c.next.new.self = grind arith in
    let begins : c.args.reader.now ≡ Token.string c.in-String.text.now ∷ c.next.new.self = first
    ∙ ap (λ k. token_of k ∷ c.next.new.self) c.in-String.is in
    rw c.in_ok-name-in-String.ensures (literal_taken c.args._depth _ _ c.in-String.text.now begins)
