-- Recording a list is recording its last item, and then those before it.
use Rattle.std.proofs.Common.{◌≡◌, List, [], ◌∷◌, ◌++◌, refl, ap}
use Rattle.alias_base.specs.declared.ids.BlockId.{BlockId}
use Rattle.alias_hir.specs.declared.hir.BasicBlock.{BasicBlock}
use Rattle.alias_hir.specs.declared.hir.Instruction.{Instruction}
use Rattle.alias_step.specs.declared.block.recorded.InstructionEffects.{InstructionEffects}
use Rattle.alias_step.specs.declared.block.recorded.TerminalEffects.{TerminalEffects}
use Rattle.alias_effects.specs.Recording.{with_recorded, recorded_instructions, with_terminal, recorded_terminals}

pub recorded_instructions_append : (es : List InstructionEffects) (e : InstructionEffects) (xs : List Instruction)
    → recorded_instructions (es ++ e ∷ []) xs ≡ recorded_instructions es (with_recorded e xs)
recorded_instructions_append [] e xs = refl
recorded_instructions_append (f ∷ es) e xs = ap (with_recorded f) (recorded_instructions_append es e xs)

pub recorded_terminals_append : (es : List TerminalEffects) (e : TerminalEffects) (bs : List (BlockId × BasicBlock))
    → recorded_terminals (es ++ e ∷ []) bs ≡ recorded_terminals es (with_terminal e bs)
recorded_terminals_append [] e bs = refl
recorded_terminals_append (f ∷ es) e bs = ap (with_terminal f) (recorded_terminals_append es e bs)
