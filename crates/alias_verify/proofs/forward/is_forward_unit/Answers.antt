use Rattle.alias_verify.proofs.Units.{unit_is_forward}
use Rattle.alias_verify.proofs.forward.is_forward_unit.Goals as goal

pub returns : goal.returns
returns c = unit_is_forward c.args.unit.now c.unit_goes_forward.result c.unit_goes_forward.ensures
