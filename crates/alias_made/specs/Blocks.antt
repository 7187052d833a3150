-- The blocks of a made unit.
use Rattle.std.specs.Prelude.{ℕ, ◌+◌, ◌-◌, ◌*◌, List, [], ◌∷◌, ◌++◌, None, map}
use Rattle.std.specs.List.{range_with_len}
use Rattle.alias_base.specs.declared.ids.BlockId.{BlockId}
use Rattle.alias_base.specs.declared.ids.InstructionId.{InstructionId}
use Rattle.alias_hir.specs.declared.hir.BasicBlock.{BasicBlock}
use Rattle.alias_hir.specs.declared.terminal.Terminal.{Terminal}
use Rattle.alias_hir.specs.declared.terminal.Terminal.TheVariants.{Goto, Return}
use Rattle.alias_made.specs.Instructions.{object_of, use_of}

-- a block without phis
abbrev pub plain_block : List InstructionId → Terminal → BasicBlock
plain_block listed ending = record { phis = []; instructions = listed; terminal = ending }

-- a block with its three instructions, which goes on to the next one
abbrev pub block_of : ℕ → BlockId × BasicBlock
block_of block = (
  record { 0 = block },
  plain_block (record { 0 = 3 * block } ∷ record { 0 = 3 * block + 1 } ∷ record { 0 = 3 * block + 2 } ∷ [])
      (Goto (record { 0 = 4 * block + 4 }) (record { 0 = block + 1 })),
)

-- the block after so many others, which returns the object of the last of them
abbrev pub last_block : ℕ → BlockId × BasicBlock
last_block size = (
  record { 0 = size },
  plain_block []
      (Return (record { 0 = 4 * size + 1 }) (use_of (object_of (size - 1))) None),
)

-- so many blocks in a row, and the last one
abbrev pub made_blocks : ℕ → List (BlockId × BasicBlock)
made_blocks size = map block_of (range_with_len 0 size) ++ last_block size ∷ []
