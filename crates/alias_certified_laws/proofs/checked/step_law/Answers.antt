use Rattle.alias_certified_laws.proofs.checked.Stepping.{answer_blames}
use Rattle.alias_certified_laws.proofs.checked.step_law.Goals as goal

pub returns : goal.returns
returns c = answer_blames
