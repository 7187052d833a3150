use Rattle.alias_effects_laws.specs.writes.Solutions.{solutions_tell}
use Rattle.alias_effects_laws.proofs.writes.tells_writes.Goals as goal

pub returns : goal.returns
returns c = solutions_tell c.args.env.now c.args.func.now c.args.is_function_expression c.args.solved.now c.requires
