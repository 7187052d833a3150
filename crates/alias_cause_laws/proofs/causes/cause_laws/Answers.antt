use Rattle.alias_cause_laws.proofs.causes.Caused.{each_has_cause}
use Rattle.alias_cause_laws.proofs.causes.cause_laws.Goals as goal

pub returns : goal.returns
returns c = λ a rules is. each_has_cause c.args.unit.now a rules is
