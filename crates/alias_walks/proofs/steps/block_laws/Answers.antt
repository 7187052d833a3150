use Rattle.alias_walks.specs.Blocks.{again_infer_block, proper_infer_block}
use Rattle.alias_walks.proofs.steps.block_laws.Goals as goal

pub returns : goal.returns
returns c = record { replays = again_infer_block; proper = proper_infer_block }
