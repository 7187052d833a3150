-- What a function does, item by item in stored order, as what is recorded of it says.
use Rattle.std.specs.Prelude.{List, [], ◌∷◌, ◌++◌, Option, Some, None, map, slice_get}
use Rattle.std.specs.List.{flat_map}
use Rattle.alias_base.specs.declared.ids.BlockId.{BlockId}
use Rattle.alias_base.specs.declared.ids.EvaluationOrder.{EvaluationOrder}
use Rattle.alias_base.specs.declared.ids.InstructionId.{InstructionId}
use Rattle.alias_hir.specs.declared.effect.AliasingEffect.{AliasingEffect}
use Rattle.alias_hir.specs.declared.effect.AliasingEffect.TheVariants as effect
use Rattle.alias_hir.specs.declared.hir.BasicBlock.{BasicBlock}
use Rattle.alias_hir.specs.declared.hir.HirFunction.{HirFunction}
use Rattle.alias_hir.specs.declared.hir.Instruction.{Instruction}
use Rattle.alias_hir.specs.declared.hir.Phi.{Phi}
use Rattle.alias_hir.specs.declared.place.Place.{Place}
use Rattle.alias_hir.specs.declared.terminal.Terminal.{Terminal}
use Rattle.alias_hir.specs.declared.terminal.Terminal.TheVariants as terminal
use Rattle.alias_hir.specs.Parts.{param_place}
use Rattle.alias_hir.specs.Terminals.{terminal_effects}

-- a place that is there from the start; a phi; an effect of an instruction of this order; an alias at the end of a
-- block
pub data Item : Type 0 where
  Starts : (place : Place) → Item
  Enters : (phi : Phi) → Item
  Does : (instruction : InstructionId) (order : EvaluationOrder) (act : AliasingEffect) → Item
  Ends : (from into : Place) → Item

-- parameters, context places and returns are there from the start
abbrev pub start_items : HirFunction → List Item
start_items f = map (λ p. Starts (param_place p)) f.params ++ map Starts f.context ++ Starts f.returns ∷ []

-- ---- a block

abbrev pub effect_items : InstructionId → EvaluationOrder → Option (List AliasingEffect) → List Item
effect_items i order None = []
effect_items i order (Some es) = map (Does i order) es

abbrev pub recorded_items : InstructionId → Option Instruction → List Item
recorded_items i None = []
recorded_items i (Some n) = effect_items i n.id n.effects

abbrev pub instruction_items : List Instruction → List InstructionId → List Item
instruction_items instructions is = flat_map (λ (i : InstructionId). recorded_items i (slice_get instructions i.0)) is

-- what a block does before its end
abbrev pub body_items : HirFunction → BasicBlock → List Item
body_items f b = map Enters b.phis ++ instruction_items f.instructions b.instructions

-- what is returned is aliased into the place of what is returned
abbrev pub returned : Place → Terminal → List Item
returned returns (terminal.Return id value effects) = Ends value returns ∷ []
returned returns t = []

abbrev pub alias_items : AliasingEffect → List Item
alias_items (effect.Alias a x) = Ends a x ∷ []
alias_items e = []

abbrev pub recorded_aliases : Option (List AliasingEffect) → List Item
recorded_aliases None = []
recorded_aliases (Some es) = flat_map alias_items es

-- of what is recorded of a terminal, aliases alone count
abbrev pub end_items : HirFunction → BasicBlock → List Item
end_items f b = returned f.returns b.terminal ++ recorded_aliases (terminal_effects b.terminal)

abbrev pub block_items : HirFunction → BasicBlock → List Item
block_items f b = body_items f b ++ end_items f b

-- ---- a function

-- all that the function does, in stored order
abbrev pub all_items : HirFunction → List Item
all_items f = start_items f ++ flat_map (λ (b : BlockId × BasicBlock). block_items f b.1) f.body.blocks
