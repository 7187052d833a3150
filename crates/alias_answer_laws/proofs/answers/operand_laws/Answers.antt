use Rattle.alias_answer_laws.specs.answers.KnownUnitLaws.{unit_always_known, no_call_says}
use Rattle.alias_answer_laws.proofs.answers.operand_laws.Goals as goal

pub returns : goal.returns
returns c = record { unit = unit_always_known c.args.unit.now; calls = no_call_says c.args.unit.now }
