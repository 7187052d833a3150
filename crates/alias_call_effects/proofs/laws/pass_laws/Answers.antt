use Rattle.alias_call_effects.specs.laws.LegacyPassLaws.{same_legacy_expansion}
use Rattle.alias_call_effects.specs.laws.PassLaws.{same_config_expansion, same_summary_names}
use Rattle.alias_call_effects.proofs.laws.pass_laws.Goals as goal

pub returns : goal.returns
returns c = record {
  parts = same_config_expansion c.args.env.now;
  legacy = same_legacy_expansion c.args.env.now;
  summaries = same_summary_names c.args.env.now;
}
