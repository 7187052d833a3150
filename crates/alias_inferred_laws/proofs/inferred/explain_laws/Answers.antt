use Rattle.alias_inferred_laws.proofs.inferred.Explaining.{never_too_many}
use Rattle.alias_inferred_laws.proofs.inferred.explain_laws.Goals as goal

pub returns : goal.returns
returns c = never_too_many c.args.unit.now
