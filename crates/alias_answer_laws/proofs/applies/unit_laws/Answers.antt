use Rattle.alias_answer_laws.proofs.applies.Calling.{uninferred_without}
use Rattle.alias_answer_laws.proofs.applies.unit_laws.Goals as goal

pub returns : goal.returns
returns c = uninferred_without c.args.unit.now
