use Rattle.alias_unit_completeness.specs.Complete.{unit_caused, call_caused}
use Rattle.alias_unit_completeness.specs.Refusals.{blames_no_plain}
use Rattle.alias_unit_completeness.proofs.laws.complete_laws.Goals as goal

pub returns : goal.returns
returns c = record {
  unit = unit_caused c.args.unit.now;
  calls = call_caused c.args.unit.now;
  plain = blames_no_plain c.args.unit.now;
}
