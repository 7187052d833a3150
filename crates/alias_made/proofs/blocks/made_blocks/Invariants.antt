use Rattle.std.proofs.Common.{◌≡◌, map}
use Rattle.std.specs.List.{range_with_len}
use Rattle.alias_made.specs.Blocks.{block_of}
use Rattle.alias_made.proofs.blocks.made_blocks.Given as goal

abbrev pub invariant-loop-block : goal.invariant-loop-block
invariant-loop-block l = l.blocks ≡ map block_of (range_with_len 0 l.block)
