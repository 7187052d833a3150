use Rattle.alias_forward_laws.proofs.Accepting.{forward_units_alike}
use Rattle.alias_forward_laws.proofs.laws.forward_units_alike_law.Goals as goal

pub returns : goal.returns
returns c = forward_units_alike
