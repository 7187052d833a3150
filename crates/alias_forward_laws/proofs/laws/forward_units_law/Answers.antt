use Rattle.alias_forward_laws.proofs.Accepting.{forward_units}
use Rattle.alias_forward_laws.proofs.laws.forward_units_law.Goals as goal

pub returns : goal.returns
returns c = forward_units
