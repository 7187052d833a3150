use Rattle.std.proofs.Common.{◌≡◌, ◌∷◌, ap, ◌∙◌, arith}
use Rattle.json.specs.Token.{Token}
use Rattle.json.specs.Reads.{token_of}
use Rattle.alias_read.specs.Places.{place_at, spread_at}
use Rattle.alias_hir.specs.declared.value.JsxAttribute.TheVariants as attribute
use Rattle.alias_straight.proofs.Elementing.{from_first, taken_as, place_there, attribute_spread_there}
use Rattle.alias_straight.proofs.elements.JsxAttributeFromTokens.from_tokens.Goals as goal

pub returns-in_ok-spread-in-BeginObject : goal.returns-in_ok-spread-in-BeginObject
returns-in_ok-spread-in-BeginObject c =
    let first : c.args.reader.now ≡ token_of c.in_ok-token.token ∷ c.next.new.self = grind arith in
    let begins : c.args.reader.now ≡ Token.begin_object ∷ c.next.new.self = first
    ∙ ap (λ k. token_of k ∷ c.next.new.self) c.in-BeginObject.is in
    taken_as spread_at _ c.args.depth _ _ c.in_ok-spread-in-BeginObject.spread _
    (attribute_spread_there c.in_ok-spread-in-BeginObject.spread)
    (from_first spread_at c.args.depth _ _ _ c.in_ok-spread-in-BeginObject.spread begins
    c.in_ok-spread-in-BeginObject.ensures)

pub returns-in_ok-place-in_default : goal.returns-in_ok-place-in_default
returns-in_ok-place-in_default c =
    let first : c.args.reader.now ≡ token_of c.in_ok-token.token ∷ c.next.new.self = grind arith in
    taken_as place_at _ c.args.depth _ _ c.in_ok-place-in_default.place _
    (place_there attribute.Attribute (λ spread. attribute.Spread spread.place) c.in_ok-place-in_default.place)
    (from_first place_at c.args.depth _ _ _ c.in_ok-place-in_default.place first c.in_ok-place-in_default.ensures)
