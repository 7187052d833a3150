use Rattle.std.proofs.Common.{[]}
use Rattle.alias_call_effects.specs.laws.RefusalLaws.{caused_config_effects, caused_names_expansion}
use Rattle.alias_call_effects.specs.laws.RefusalLaws.{caused_legacy_expansion}
use Rattle.alias_call_effects.proofs.laws.refusal_laws.Goals as goal

pub returns : goal.returns
returns c = record {
  parts = λ call effects. caused_config_effects c.args.env.now call effects [];
  summaries = caused_names_expansion c.args.env.now;
  legacy = caused_legacy_expansion c.args.env.now;
}
