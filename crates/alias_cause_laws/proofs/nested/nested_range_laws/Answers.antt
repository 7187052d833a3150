use Rattle.alias_cause_laws.proofs.nested.Ranging.{nested_are_ranged}
use Rattle.alias_cause_laws.proofs.nested.nested_range_laws.Goals as goal

pub returns : goal.returns
returns c = λ a rules is. nested_are_ranged c.args.unit.now a rules is
