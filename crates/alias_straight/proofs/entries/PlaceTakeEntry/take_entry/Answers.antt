use Rattle.std.specs.Prelude.{is_some}
use Rattle.std.proofs.Common.{◌≡◌, Some, false, arith}
use Rattle.json.specs.Json.{after_end_array}
use Rattle.alias_straight.proofs.Entering.{none_there, operand_taken}
use Rattle.alias_straight.proofs.entries.PlaceTakeEntry.take_entry.Goals as goal

pub returns : goal.returns
returns c =
    let none : is_some c.get.result ≡ false = grind arith in
    let ended : after_end_array c.from_tokens.new.reader ≡ Some c.take_end_array.new.self = grind arith in
    operand_taken c.args.found.now c.args.depth c.args.reader.now c.open_array.new.reader c.take_number.new.reader
    c.from_tokens.new.reader c.take_end_array.new.self c.in_ok-number.number c.in_ok-place.place
    (none_there c.get.result _ c.get.ensures none) (omega arith) (omega arith) c.in_ok-open_array.ensures
    c.in_ok-number.ensures c.in_ok-place.ensures ended
