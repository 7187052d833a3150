use Rattle.alias_cause_laws.proofs.handed.Tabling.{declare_as_given}
use Rattle.alias_cause_laws.proofs.handed.table_laws.Goals as goal

pub returns : goal.returns
returns c = declare_as_given c.args.unit.now
