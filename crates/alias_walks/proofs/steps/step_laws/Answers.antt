use Rattle.alias_walks.specs.Blocks.{again_apply_signature, fine_apply_signature}
use Rattle.alias_walks.specs.Proper.{fine_instruction}
use Rattle.alias_walks.specs.Replaying.{again_instruction}
use Rattle.alias_walks.proofs.steps.step_laws.Goals as goal

pub returns : goal.returns
returns c = record {
  replays = again_apply_signature c.args.env.now;
  proper = fine_apply_signature c.args.env.now;
  any_replays = again_instruction;
  any_proper = fine_instruction;
}
