-- What is recorded of a block: entries of instructions and terminals of which anything is.
use Rattle.std.specs.Prelude.{List, [], ◌∷◌}
use Rattle.alias_base.specs.declared.ids.BlockId.{BlockId}
use Rattle.alias_base.specs.declared.ids.InstructionId.{InstructionId}
use Rattle.alias_hir.specs.declared.effect.AliasingEffect.{AliasingEffect}
use Rattle.alias_step.specs.declared.block.recorded.BlockEffects.{BlockEffects}
use Rattle.alias_step.specs.declared.block.recorded.InstructionEffects.{InstructionEffects}
use Rattle.alias_step.specs.declared.block.recorded.TerminalEffects.{TerminalEffects}

abbrev pub no_effects : BlockEffects
no_effects = record { instructions = []; terminal = [] }

-- what was recorded of the instruction, if anything was
abbrev pub recorded_as : InstructionId → List AliasingEffect → List InstructionEffects
recorded_as i [] = []
recorded_as i (e ∷ es) = record { instruction = i; effects = e ∷ es } ∷ []

-- what was recorded of the block's terminal, if anything was
abbrev pub terminal_recorded_as : BlockId → List AliasingEffect → List TerminalEffects
terminal_recorded_as b [] = []
terminal_recorded_as b (e ∷ es) = record { block = b; effects = e ∷ es } ∷ []
