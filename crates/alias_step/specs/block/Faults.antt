-- Why the step of a block is refused, and what its parts give over tables.
use Rattle.std.specs.Prelude.{◌≡◌, Result, Ok, Err, ⊤}
use Rattle.alias_base.specs.declared.ids.InstructionId.{InstructionId}
use Rattle.alias_tables.specs.declared.faults.EffectFault.{EffectFault}
use Rattle.alias_tables.specs.declared.faults.EffectFault.TheVariants as effect
use Rattle.alias_tables.specs.declared.faults.Refusal.{Refusal}
use Rattle.alias_tables.specs.Tables.{TableLists, Step}
use Rattle.alias_step.specs.declared.block.faults.BlockRefusal.{BlockRefusal}
use Rattle.alias_step.specs.declared.block.faults.BlockRefusal.TheVariants.{Instruction}
use Rattle.alias_step.specs.declared.block.faults.BlockFault.{BlockFault}
use Rattle.alias_step.specs.declared.block.faults.BlockFault.TheVariants.{Refused, Memory}

-- what a part of a block's step gives from the tables, and the tables that it leaves, or why it is refused
abbrev pub BlockStep : Type 0 → Type 0
BlockStep A = TableLists → Result (A × TableLists) BlockRefusal

abbrev pub in_block_at : {A : Type 0} → InstructionId → Result (A × TableLists) Refusal
    → Result (A × TableLists) BlockRefusal
in_block_at i (Ok p) = Ok p
in_block_at i (Err c) = Err (Instruction i c)

-- a step of the instruction, as one of its block's
abbrev pub in_block : {A : Type 0} → InstructionId → Step A → BlockStep A
in_block i f t = in_block_at i (f t)

-- a fault of the instruction, as one of its block's
abbrev pub fault_at : InstructionId → EffectFault → BlockFault
fault_at i (effect.Refused c) = Refused (Instruction i c)
fault_at i (effect.Memory e) = Memory e

-- After Ok the answer is the one that is stated, and so are the tables. A refusal is the one that is stated. Memory may
-- fail at any time.
abbrev pub BlockLeaves : {A : Type 0} → Result (A × TableLists) BlockRefusal → Result A BlockFault → TableLists → Type 0
BlockLeaves stated (Ok x) t = stated ≡ Ok (x, t)
BlockLeaves stated (Err (Refused c)) t = stated ≡ Err c
BlockLeaves stated (Err (Memory e)) t = ⊤
