use Rattle.alias_unit_completeness.specs.Moments.{unit_callable}
use Rattle.alias_unit_completeness.proofs.laws.callable_laws.Goals as goal

pub returns : goal.returns
returns c = λ rules levels a h. unit_callable c.args.unit.now rules levels a h
