use Rattle.std.proofs.Common.{◌≡◌, ◌∷◌, ap, ◌∙◌, arith}
use Rattle.json.specs.Token.{Token}
use Rattle.json.specs.Reads.{token_of}
use Rattle.alias_straight.proofs.Functioning.{flag_taken}
use Rattle.alias_straight.proofs.tokens.BoolFromTokens.from_tokens.Goals as goal

pub returns-in-Bool : goal.returns-in-Bool
returns-in-Bool c =
    let first : c.args.reader.now ≡ token_of c.in_ok-token.token ∷ c.next.new.self = grind arith in
    let begins : c.args.reader.now ≡ Token.boolean c.in-Bool.flag ∷ c.next.new.self = first
    ∙ ap (λ k. token_of k ∷ c.next.new.self) c.in-Bool.is in
    flag_taken c.args._depth _ _ c.in-Bool.flag begins
