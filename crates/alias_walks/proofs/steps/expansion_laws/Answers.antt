use Rattle.alias_walks.specs.Replaying.{again_config_expansion, again_summary_expansion, again_legacy_expansion}
use Rattle.alias_walks.proofs.steps.expansion_laws.Goals as goal

pub returns : goal.returns
returns c = record {
  configs = again_config_expansion c.args.env.now;
  summaries = again_summary_expansion c.args.env.now;
  legacy = again_legacy_expansion c.args.env.now;
}
