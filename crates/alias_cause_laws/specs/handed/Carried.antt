-- What the functions of the unit that is handed out carry beside their solutions: nothing.
use Rattle.std.specs.Prelude.{◌≡◌, ℕ, List, Some, None, slice_get}
use Rattle.alias_base.specs.declared.ids.BlockId.{BlockId}
use Rattle.alias_hir.specs.Terminals.{terminal_effects}
use Rattle.alias_hir.specs.declared.hir.BasicBlock.{BasicBlock}
use Rattle.alias_hir.specs.declared.hir.HirFunction.{HirFunction}
use Rattle.alias_hir.specs.declared.hir.Instruction.{Instruction}
use Rattle.alias_step.specs.declared.block.recorded.InstructionEffects.{InstructionEffects}
use Rattle.alias_step.specs.declared.block.recorded.TerminalEffects.{TerminalEffects}
use Rattle.alias_effects.specs.declared.solved.Solved.{Solved}
use Rattle.alias_explain.specs.Explanations.{function_of}
use Rattle.alias_graph.specs.Walks.{IsOneOf}
use Rattle.alias_nested.specs.Analysis.{Analysed}
use Rattle.alias_nested.specs.Units.{UnitAnalysis}

-- effects were recorded of the instruction of the number
abbrev pub AreRecordedOf : ℕ → List InstructionEffects → Type 0
AreRecordedOf n es = (e : InstructionEffects) × IsOneOf e es × (e.instruction.0 ≡ n)

-- effects were recorded of the terminal of the block
abbrev pub AreRecordedOfEnd : BlockId → List TerminalEffects → Type 0
AreRecordedOfEnd b es = (e : TerminalEffects) × IsOneOf e es × (e.block ≡ b)

-- An instruction of which the solution has no effects carries none, and so does a terminal.
pub record CarriesNoMore (s : Solved) (f : HirFunction) : Type 0 where
  pub instructions : (n : ℕ) (i : Instruction) → slice_get f.instructions n ≡ Some i → (AreRecordedOf n s.effects → ⊥)
      → i.effects ≡ None
  pub terminals : (b : BlockId × BasicBlock) → IsOneOf b f.body.blocks → (AreRecordedOfEnd b.0 s.terminal_effects → ⊥)
      → terminal_effects b.1.terminal ≡ None

-- so it is of each function that was analysed, in the unit that is handed out
abbrev pub NoMoreIsCarried : UnitAnalysis → Type 0
NoMoreIsCarried a = (x : Analysed) (f : HirFunction) → IsOneOf x a.functions
    → function_of a.inferred.unit x.solved.function ≡ Some f → CarriesNoMore x.solved f
