use Rattle.alias_step.specs.block.Contexts.{held}
use Rattle.alias_step.specs.block.ProperLaws.{proper_initial_state}
use Rattle.alias_step.proofs.block.laws.block_laws.Goals as goal

pub returns : goal.returns
returns c = record { initial = proper_initial_state (held c.args.context.now) }
