-- A function with what was recorded of it on its instructions and terminals.
use Rattle.std.specs.Prelude.{ℕ, List, [], ◌∷◌, Some, position, slice_get, slice_set}
use Rattle.std.specs.Option.{option_map_or}
use Rattle.std.specs.Map.{keys_of}
use Rattle.indexmap.specs.IndexMap.{set_value_at}
use Rattle.alias_base.specs.Find.{same_block}
use Rattle.alias_base.specs.declared.ids.BlockId.{BlockId}
use Rattle.alias_hir.specs.Terminals.{with_terminal_effects}
use Rattle.alias_hir.specs.declared.effect.AliasingEffect.{AliasingEffect}
use Rattle.alias_hir.specs.declared.hir.BasicBlock.{BasicBlock}
use Rattle.alias_hir.specs.declared.hir.HirFunction.{HirFunction}
use Rattle.alias_hir.specs.declared.hir.Instruction.{Instruction}
use Rattle.alias_step.specs.declared.block.recorded.InstructionEffects.{InstructionEffects}
use Rattle.alias_step.specs.declared.block.recorded.TerminalEffects.{TerminalEffects}
use Rattle.alias_effects.specs.declared.solved.Solved.{Solved}

-- the instruction of that number carries the effects
abbrev pub with_recorded : InstructionEffects → List Instruction → List Instruction
with_recorded e xs = option_map_or (λ (x : Instruction).
    slice_set xs e.instruction.0 (record x { effects = Some e.effects })) (slice_get xs e.instruction.0) xs

abbrev pub recorded_instructions : List InstructionEffects → List Instruction → List Instruction
recorded_instructions [] xs = xs
recorded_instructions (e ∷ es) xs = with_recorded e (recorded_instructions es xs)

abbrev pub block_with : BasicBlock → List AliasingEffect → BasicBlock
block_with b effects = record b { terminal = with_terminal_effects b.terminal effects }

-- the block at a position carries the effects on its terminal
abbrev pub with_terminal_at : List AliasingEffect → List (BlockId × BasicBlock) → ℕ → List (BlockId × BasicBlock)
with_terminal_at effects blocks i = option_map_or
    (λ (x : BlockId × BasicBlock). set_value_at blocks i (block_with x.1 effects)) (slice_get blocks i) blocks

abbrev pub with_terminal : TerminalEffects → List (BlockId × BasicBlock) → List (BlockId × BasicBlock)
with_terminal e blocks = option_map_or (with_terminal_at e.effects blocks)
    (position (same_block e.block) (keys_of blocks)) blocks

abbrev pub recorded_terminals : List TerminalEffects → List (BlockId × BasicBlock) → List (BlockId × BasicBlock)
recorded_terminals [] blocks = blocks
recorded_terminals (e ∷ es) blocks = with_terminal e (recorded_terminals es blocks)

-- the function with what was recorded; nothing else of it changes
abbrev pub with_effects_of : Solved → HirFunction → HirFunction
with_effects_of s func = record func {
  instructions = recorded_instructions s.effects func.instructions;
  body = record func.body { blocks = recorded_terminals s.terminal_effects func.body.blocks };
}
