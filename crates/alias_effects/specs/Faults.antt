-- How a block's faults are a flow's, and what a call that changes what it is given says of its answer.
use Rattle.std.specs.Prelude.{◌≡◌, Bool, false, Result, Ok, Err, ⊤}
use Rattle.alias_step.specs.declared.block.faults.BlockFault.{BlockFault}
use Rattle.alias_step.specs.declared.block.faults.BlockFault.TheVariants as block
use Rattle.alias_step.specs.declared.block.faults.BlockRefusal.{BlockRefusal}
use Rattle.alias_flow.specs.declared.flow.StepFault.{StepFault}
use Rattle.alias_flow.specs.declared.flow.StepFault.TheVariants as flow

-- a fault of a block's step, as one of the flow's
abbrev pub step_fault : BlockFault → StepFault BlockRefusal
step_fault (block.Refused c) = flow.Refused c
step_fault (block.Memory e) = flow.Memory e

-- at Ok what was given has become what is stated, and an error is the one stated. Out of memory is free: it can come in
-- the place of any answer
abbrev pub GivesInto : {A E : Type 0} → (E → Bool) → Result A E → Result ⊤ E → A → Type 0
GivesInto is_memory stated (Ok u) now = stated ≡ Ok now
GivesInto is_memory stated (Err e) now = is_memory e ≡ false → stated ≡ Err e
