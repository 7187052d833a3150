-- What blocks record that is alike, and steps of blocks.
use Rattle.std.specs.Prelude.{List, Option}
use Rattle.alias_base.specs.declared.ids.BlockId.{BlockId}
use Rattle.alias_base.specs.declared.ids.InstructionId.{InstructionId}
use Rattle.alias_hir.specs.declared.effect.AliasingEffect.{AliasingEffect}
use Rattle.alias_lattice.specs.declared.lookup.MissingLookup.{MissingLookup}
use Rattle.alias_lattice.specs.States.{State}
use Rattle.alias_step.specs.declared.block.block.BlockProgress.{BlockProgress}
use Rattle.alias_step.specs.declared.block.faults.BlockRefusal.{BlockRefusal}
use Rattle.alias_step.specs.declared.block.faults.BlockRefusal.TheVariants.{Instruction, Uninitialized}
use Rattle.alias_step.specs.declared.block.recorded.BlockEffects.{BlockEffects}
use Rattle.alias_step.specs.declared.block.recorded.InstructionEffects.{InstructionEffects}
use Rattle.alias_step.specs.declared.block.recorded.TerminalEffects.{TerminalEffects}
use Rattle.alias_certificate_laws.specs.accepting.Alike.{Paired, AlikeEffects, AlikeLookup, IsFull}

pub data AlikeInstruction : InstructionEffects → InstructionEffects → Type 0 where
  of_instruction : (i : InstructionId) (es fs : List AliasingEffect) → AlikeEffects es fs
      → AlikeInstruction (record { instruction = i; effects = es }) (record { instruction = i; effects = fs })

pub data AlikeTerminal : TerminalEffects → TerminalEffects → Type 0 where
  of_terminal : (b : BlockId) (es fs : List AliasingEffect) → AlikeEffects es fs
      → AlikeTerminal (record { block = b; effects = es }) (record { block = b; effects = fs })

-- the effects of the same instructions and of the terminal are alike
pub record AlikeRecorded (r q : BlockEffects) : Type 0 where
  pub instructions : Paired AlikeInstruction r.instructions q.instructions
  pub terminal : Paired AlikeTerminal r.terminal q.terminal

-- the state is the same, and what is recorded so far is alike
pub data AlikeSoFar : BlockProgress → BlockProgress → Type 0 where
  so_far : (s : BlockProgress) (effects : BlockEffects) (lookup : Option MissingLookup)
      → AlikeRecorded s.effects effects → AlikeLookup s.missing lookup
      → AlikeSoFar s (record s { effects = effects; missing = lookup })

-- what the step of a block gives
pub data AlikeOut : State × BlockEffects → State × BlockEffects → Type 0 where
  out : (x : State) (r q : BlockEffects) → AlikeRecorded r q → AlikeOut (x, r) (x, q)

-- no number is left for a report of an instruction
abbrev pub IsBlockFull : BlockRefusal → Type 0
IsBlockFull (Instruction i c) = IsFull c
IsBlockFull (Uninitialized lookup) = ⊥
