-- That no Apply is left among what is recorded, and answers that don't say that one is.
use Rattle.std.specs.Prelude.{◌≡◌, false, List, Result}
use Rattle.std.specs.List.{AllByRecursion, list_any}
use Rattle.alias_base.specs.declared.ids.BlockId.{BlockId}
use Rattle.alias_step.specs.declared.block.recorded.InstructionEffects.{InstructionEffects}
use Rattle.alias_step.specs.declared.block.recorded.TerminalEffects.{TerminalEffects}
use Rattle.alias_effects.specs.declared.solved.Solved.{Solved}
use Rattle.alias_hir.specs.Terminals.{terminal_effects}
use Rattle.alias_hir.specs.declared.effect.AliasingEffect.{AliasingEffect}
use Rattle.alias_hir.specs.declared.env.Environment.{Environment}
use Rattle.alias_hir.specs.declared.error.InferError.{InferError}
use Rattle.alias_hir.specs.declared.hir.BasicBlock.{BasicBlock}
use Rattle.alias_hir.specs.declared.hir.HirFunction.{HirFunction}
use Rattle.alias_hir.specs.declared.hir.Instruction.{Instruction}
use Rattle.alias_rules.specs.Fitting.{is_apply}
use Rattle.alias_range_pass.specs.Refusals.{has_apply}
use Rattle.alias_answer_laws.specs.answers.Avoiding.{is_unreplaced, Avoids}

-- none of the effects is Apply
abbrev pub NoneIsApply : List AliasingEffect → Type 0
NoneIsApply es = list_any is_apply es ≡ false

-- none of what is recorded of instructions is
abbrev pub NoInstructionRecordsApply : List InstructionEffects → Type 0
NoInstructionRecordsApply is = AllByRecursion (λ (i : InstructionEffects). NoneIsApply i.effects) is

-- nor of terminals
abbrev pub NoTerminalRecordsApply : List TerminalEffects → Type 0
NoTerminalRecordsApply ts = AllByRecursion (λ (t : TerminalEffects). NoneIsApply t.effects) ts

-- what is solved of a function records no Apply
abbrev pub RecordsNoApply : Solved → Type 0
RecordsNoApply s = NoInstructionRecordsApply s.effects × NoTerminalRecordsApply s.terminal_effects

-- no instruction of the function carries Apply
abbrev pub InstructionsLackApply : HirFunction → Type 0
InstructionsLackApply f = AllByRecursion (λ (i : Instruction). has_apply i.effects ≡ false) f.instructions

-- nor does a terminal of it
abbrev pub TerminalsLackApply : HirFunction → Type 0
TerminalsLackApply f = AllByRecursion (λ (b : BlockId × BasicBlock). has_apply (terminal_effects b.1.terminal) ≡ false)
    f.body.blocks

-- no instruction of a nested function carries Apply
abbrev pub NestedLackApply : Environment → Type 0
NestedLackApply env = AllByRecursion InstructionsLackApply env.functions

-- no Apply is said to be left, and what is answered has the property
abbrev pub Leads : {A : Type 0} → (A → Type 0) → Result A InferError → Type 0
Leads P r = Avoids is_unreplaced P r
