-- A part of a block's step that replays, and what a step of an instruction gives as one of its block's.
use Rattle.std.specs.Prelude.{◌≡◌, Result, Ok, Err}
use Rattle.alias_base.specs.declared.ids.InstructionId.{InstructionId}
use Rattle.alias_tables.specs.declared.faults.Refusal.{Refusal}
use Rattle.alias_tables.specs.GrowingLaws.{Extends}
use Rattle.alias_tables.specs.ReplayLaws.{Replays}
use Rattle.alias_tables.specs.Tables.{TableLists}
use Rattle.alias_step.specs.block.Faults.{BlockStep, in_block_at}

-- A part of a block's step repeated under the tables that it left, or under ones that extend them, gives the same and
-- leaves them.
abbrev pub BlockAgain : {A : Type 0} → BlockStep A → Type 0
BlockAgain f = Replays Extends f

-- what it gives there, it gives itself
pub in_block_gives : {A : Type 0} (i : InstructionId) (r : Result (A × TableLists) Refusal) (p : A × TableLists)
    → in_block_at i r ≡ Ok p → r ≡ Ok p
in_block_gives i (Ok q) p e = cc
in_block_gives i (Err c) p e = cc
