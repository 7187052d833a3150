-- The blocks that list instructions, by the numbers of the instructions.
use Rattle.std.specs.Prelude.{◌≡◌, ℕ, ◌==◌, ◌<◌, Bool, true, false, ◌&&◌, if◌then◌else◌, cond, List, Option, Some, None}
use Rattle.std.specs.Prelude.{find, length, nat_lt, option_map, slice_index_or, slice_set}
use Rattle.std.specs.List.{list_any}
use Rattle.alias_base.specs.declared.ids.BlockId.{BlockId}
use Rattle.alias_base.specs.declared.ids.InstructionId.{InstructionId}
use Rattle.alias_hir.specs.declared.hir.BasicBlock.{BasicBlock}
use Rattle.alias_hir.specs.declared.hir.HirFunction.{HirFunction}
use Rattle.alias_lint.specs.Sites.{lists}

-- the block of each number
abbrev pub Table : Type 0
Table = List (Option BlockId)

abbrev pub numbered : ℕ → InstructionId
numbered i = record { 0 = i }

-- the first of the blocks that lists the instruction
abbrev pub first_block : ℕ → List (BlockId × BasicBlock) → Option BlockId
first_block i bs = option_map (λ (e : BlockId × BasicBlock). e.0) (find (lists (numbered i)) bs)

-- for each instruction of the function's table the first block that lists it
pub record IsBlockTable (f : HirFunction) (t : Table) : Type 0 where
  pub size : length t ≡ length f.instructions
  pub first : (i : ℕ) → i < length t → slice_index_or t i None ≡ first_block i f.body.blocks

abbrev pub is_free : Option BlockId → Bool
is_free None = true
is_free (Some b) = false

-- the block is noted for the instruction, unless one is noted
abbrev pub noted : Table → BlockId → InstructionId → Table
noted t b i = cond (nat_lt i.0 (length t) && is_free (slice_index_or t i.0 None)) (slice_set t i.0 (Some b)) t

-- what is noted, or else the block where it lists the instruction
abbrev pub noted_or : Bool → BlockId → Option BlockId → Option BlockId
noted_or listed b None = cond listed (Some b) None
noted_or listed b (Some a) = Some a

-- the block is noted for each of these instructions, unless one is noted
pub record IsNoted (b : BlockId) (ids : List InstructionId) (old new : Table) : Type 0 where
  pub size : length new ≡ length old
  pub each : (i : ℕ) → i < length old → slice_index_or new i None
      ≡ noted_or (list_any (λ (j : InstructionId). j.0 == i) ids) b (slice_index_or old i None)
