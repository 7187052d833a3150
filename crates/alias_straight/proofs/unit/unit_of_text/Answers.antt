use Rattle.std.proofs.Common.{◌≡◌, [], ◌∷◌, ap, sym, ◌∙◌, arith}
use Rattle.json.specs.Json.{value}
use Rattle.json.specs.Lex.{tokens}
use Rattle.json.specs.Reads.{token_of}
use Rattle.serde_json.specs.Read.{of_json, converted}
use Rattle.alias_straight.proofs.Uniting.{text_is_read, none_left}
use Rattle.alias_straight.proofs.unit.unit_of_text.Goals as goal

pub returns : goal.returns
returns c =
    let unit = c.in_ok-unit.ensures in
    let over : c.take_unit.new.reader ≡ [] = none_left c.next.result c.take_unit.new.reader c.next.new.self
    (λ t. c.take_unit.new.reader ≡ token_of t ∷ c.next.new.self) c.next.ensures.value
    (sym c.is_some.ensures ∙ c.if-is_some.false) in
    let first : c.in_ok-reader.reader ≡ tokens c.args.text.now = grind arith in (
      unit.0,
      text_is_read c.args.text.now unit.0 c.take_unit.new.reader
          (ap (λ l. converted of_json (value 127 l)) (sym first) ∙ unit.1) over,
      unit.2,
    )
