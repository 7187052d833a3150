use Rattle.alias_cause_laws.proofs.handed.HandingOut.{handed_out}
use Rattle.alias_cause_laws.proofs.handed.handed_laws.Goals as goal

pub returns : goal.returns
returns c = handed_out c.args.unit.now
