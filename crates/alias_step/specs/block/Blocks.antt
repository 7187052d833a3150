-- The step of a block.
use Rattle.std.specs.Prelude.{List, [], ◌∷◌, ◌++◌, Option, Some, None, slice_get}
use Rattle.alias_base.specs.declared.ids.BlockId.{BlockId}
use Rattle.alias_base.specs.declared.ids.InstructionId.{InstructionId}
use Rattle.alias_hir.specs.declared.hir.BasicBlock.{BasicBlock}
use Rattle.alias_hir.specs.declared.hir.Instruction.{Instruction}
use Rattle.alias_hir.specs.declared.hir.Phi.{Phi}
use Rattle.alias_lattice.specs.declared.lookup.MissingLookup.{MissingLookup}
use Rattle.alias_lattice.specs.States.{State, phied}
use Rattle.alias_tables.specs.Steps.{◌>>=◌, gives, refuses, each}
use Rattle.alias_apply.specs.declared.progress.StepProgress.{StepProgress}
use Rattle.alias_step.specs.Instructions.{apply_signature}
use Rattle.alias_step.specs.declared.block.faults.BlockRefusal.TheVariants.{Uninitialized}
use Rattle.alias_step.specs.declared.block.block.BlockProgress.{BlockProgress}
use Rattle.alias_step.specs.declared.block.recorded.BlockEffects.{BlockEffects}
use Rattle.alias_step.specs.block.Actions.{terminal_action}
use Rattle.alias_step.specs.block.Contexts.{BlockContext}
use Rattle.alias_step.specs.block.Faults.{BlockStep, in_block}
use Rattle.alias_step.specs.block.Recorded.{no_effects, recorded_as, terminal_recorded_as}

-- ---- phis

-- each phi in order takes the values of its operands
abbrev pub infer_phis : List Phi → State → State
infer_phis [] x = x
infer_phis (p ∷ ps) x = infer_phis ps (phied p.place.identifier p.operands x)

-- ---- instructions

-- an instruction and a terminal begin with nothing made and nothing recorded
abbrev pub step_start : BlockProgress → StepProgress
step_start s = record { state = s.state; made = []; recorded = []; missing = s.missing }

-- after an instruction, with what was recorded before it
abbrev pub after_instruction : InstructionId → BlockEffects → StepProgress → BlockProgress
after_instruction i before s = record {
  state = s.state;
  effects = record before { instructions = before.instructions ++ recorded_as i s.recorded };
  missing = s.missing;
}

abbrev pub infer_instruction : BlockContext → InstructionId → Instruction → BlockProgress → BlockStep BlockProgress
infer_instruction c i x s = do
  u ← in_block i (apply_signature c.env c.facts x (step_start s))
  gives (after_instruction i s.effects u)

-- by the instruction's number in its function; nothing is done where there is none
abbrev pub infer_instruction_at : BlockContext → InstructionId → Option Instruction → BlockProgress
    → BlockStep BlockProgress
infer_instruction_at c i None s = gives s
infer_instruction_at c i (Some x) s = infer_instruction c i x s

abbrev pub apply_signatures : BlockContext → List InstructionId → BlockProgress → BlockStep BlockProgress
apply_signatures c = each (λ i. infer_instruction_at c i (slice_get c.func.instructions i.0))

-- ---- the terminal

abbrev pub after_terminal : BlockId → BlockEffects → StepProgress → BlockProgress
after_terminal b before s = record {
  state = s.state;
  effects = record before { terminal = terminal_recorded_as b s.recorded };
  missing = s.missing;
}

abbrev pub apply_terminal : BlockContext → BlockId → BasicBlock → BlockProgress → BlockStep BlockProgress
apply_terminal c b block s = do
  u ← terminal_action c block.instructions block.terminal (step_start s)
  gives (after_terminal b s.effects u)

-- ---- a block

-- a block begins with nothing recorded and no lookup missed
abbrev pub block_start : State → BlockProgress
block_start x = record { state = x; effects = no_effects; missing = None }

abbrev pub finished_at : Option MissingLookup → BlockProgress → BlockStep (State × BlockEffects)
finished_at (Some lookup) s = refuses (Uninitialized lookup)
finished_at None s = gives (s.state, s.effects)

-- the end of a block's step: a missing lookup refuses it
abbrev pub finished : BlockProgress → BlockStep (State × BlockEffects)
finished s = finished_at s.missing s

-- the step of a block from a state: its phis, its instructions, and its terminal
abbrev pub infer_block : BlockContext → BlockId → BasicBlock → State → BlockStep (State × BlockEffects)
infer_block c b block x = do
  s ← apply_signatures c block.instructions (block_start (infer_phis block.phis x))
  u ← apply_terminal c b block s
  finished u
