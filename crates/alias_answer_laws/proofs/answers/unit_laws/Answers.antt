use Rattle.alias_answer_laws.specs.answers.UnitLaws.{unit_never_left, no_call_answers}
use Rattle.alias_answer_laws.proofs.answers.unit_laws.Goals as goal

pub returns : goal.returns
returns c = record { unit = unit_never_left c.args.unit.now; calls = no_call_answers c.args.unit.now }
