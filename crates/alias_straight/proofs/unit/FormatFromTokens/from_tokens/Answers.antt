use Rattle.alias_json.specs.Reading.{number_at}
use Rattle.alias_read.specs.Units.{format_at}
use Rattle.alias_straight.proofs.Elementing.{taken_as}
use Rattle.alias_straight.proofs.Placing.{number_taken}
use Rattle.std.proofs.Common.{refl, arith}
use Rattle.alias_straight.proofs.Uniting.{first_there, second_there}
use Rattle.alias_straight.proofs.unit.FormatFromTokens.from_tokens.Goals as goal

pub returns-in-1 : goal.returns-in-1
returns-in-1 c = taken_as number_at format_at c.args._depth _ _ c.in_ok-number.number _
    (λ d. first_there c.in_ok-number.number d (grind arith))
    (number_taken c.args._depth c.args.reader.now c.take_number.new.reader c.in_ok-number.number c.in_ok-number.ensures
    (omega arith))

pub returns-in-2 : goal.returns-in-2
returns-in-2 c = taken_as number_at format_at c.args._depth _ _ c.in_ok-number.number _
    (λ d. second_there c.in_ok-number.number d (grind arith))
    (number_taken c.args._depth c.args.reader.now c.take_number.new.reader c.in_ok-number.number c.in_ok-number.ensures
    (omega arith))
