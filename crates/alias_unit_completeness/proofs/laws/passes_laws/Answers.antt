use Rattle.alias_rules.specs.RuleLaws.{rules_make_function_fit}
use Rattle.alias_unit_completeness.specs.Complete.{ordered, unapplied, analyses_blame, into_blame, never_unreplaced}
use Rattle.alias_unit_completeness.proofs.laws.passes_laws.Goals as goal

pub returns : goal.returns
returns c = record {
  units = λ rules. (
    rules_make_function_fit c.args.unit.now rules,
    ordered c.args.unit.now rules,
    unapplied c.args.unit.now rules,
  );
  certified = analyses_blame c.args.unit.now;
  plain = into_blame c.args.unit.now;
  replaced = never_unreplaced c.args.unit.now;
}
