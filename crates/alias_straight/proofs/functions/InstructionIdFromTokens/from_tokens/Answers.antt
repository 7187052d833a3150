use Rattle.alias_json.specs.Reading.{number_at}
use Rattle.alias_read.specs.Functions.{instruction_id_at}
use Rattle.alias_straight.proofs.Elementing.{taken_as}
use Rattle.alias_straight.proofs.Phis.{instruction_id_is}
use Rattle.alias_straight.proofs.functions.InstructionIdFromTokens.from_tokens.Goals as goal

pub returns : goal.returns
returns c = taken_as number_at instruction_id_at c.args.depth _ _ c.in_ok-number.number _
    (instruction_id_is c.in_ok-number.number) c.in_ok-number.ensures
