use Rattle.std.proofs.Common.{◌≡◌, Some, arith}
use Rattle.json.specs.Json.{after_end_array}
use Rattle.alias_straight.proofs.Placing.{span_taken}
use Rattle.alias_straight.proofs.places.SpanFromTokens.from_tokens.Goals as goal

pub returns : goal.returns
returns c =
    let ended : after_end_array c.take_number-2.new.reader ≡ Some c.take_end_array.new.self = grind arith in
    span_taken c.args.depth c.in_ok-start.start c.in_ok-end.end c.args.reader.now c.open_array.new.reader
    c.take_number.new.reader c.take_number-2.new.reader c.take_end_array.new.self
    (omega arith) c.in_ok-open_array.ensures c.in_ok-start.ensures c.in_ok-end.ensures ended (omega arith) (omega arith)
