use Rattle.alias_inferred_laws.proofs.inferred.Reporting.{unit_lints}
use Rattle.alias_inferred_laws.proofs.inferred.lint_laws.Goals as goal

pub returns : goal.returns
returns c = unit_lints c.args.unit.now
