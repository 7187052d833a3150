use Rattle.alias_inferred_laws.proofs.inferred.Carrying.{solutions_carried}
use Rattle.alias_inferred_laws.proofs.inferred.carry_laws.Goals as goal

pub returns : goal.returns
returns c = solutions_carried c.args.unit.now
