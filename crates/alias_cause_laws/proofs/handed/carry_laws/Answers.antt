use Rattle.alias_cause_laws.proofs.handed.Carrying.{none_carry_more}
use Rattle.alias_cause_laws.proofs.handed.carry_laws.Goals as goal

pub returns : goal.returns
returns c = none_carry_more c.args.unit.now
