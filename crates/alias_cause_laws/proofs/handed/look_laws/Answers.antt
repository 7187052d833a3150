use Rattle.alias_cause_laws.proofs.handed.HandingOut.{looks_as_handed}
use Rattle.alias_cause_laws.proofs.handed.look_laws.Goals as goal

pub returns : goal.returns
returns c = looks_as_handed c.args.unit.now
