use Rattle.alias_cause_laws.proofs.handed.Spanning.{params_stay}
use Rattle.alias_cause_laws.proofs.handed.span_laws.Goals as goal

pub returns : goal.returns
returns c = params_stay c.args.unit.now
