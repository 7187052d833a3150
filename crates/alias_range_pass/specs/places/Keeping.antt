-- What the effects of places and the ranges by default leave as it is.
use Rattle.std.specs.Prelude.{◌≡◌, ℕ, ◌≤◌, List, map}
use Rattle.alias_base.specs.declared.ids.BlockId.{BlockId}
use Rattle.alias_graph.specs.recorded.Fitting.{AllOf, OrderHasNext}
use Rattle.alias_hir.specs.declared.env.Environment.{Environment}
use Rattle.alias_hir.specs.declared.env.Identifier.{Identifier}
use Rattle.alias_hir.specs.declared.hir.BasicBlock.{BasicBlock}
use Rattle.alias_hir.specs.declared.hir.HirFunction.{HirFunction}
use Rattle.alias_hir.specs.declared.hir.Instruction.{Instruction}
use Rattle.alias_hir.specs.declared.hir.Phi.{Phi}
use Rattle.alias_hir.specs.declared.place.Effect.TheVariants.{Unknown}
use Rattle.alias_hir.specs.declared.place.Place.{Place}
use Rattle.alias_hir.specs.declared.terminal.Terminal.{Terminal}
use Rattle.alias_hir.specs.declared.value.InstructionValue.{InstructionValue}
use Rattle.alias_graph.specs.Reach.{end_at}
use Rattle.alias_range_pass.specs.places.Mapped.{map_operands, map_lvalues, map_terminal}

-- ---- the environment

-- all of an identifier but its range
abbrev pub but_range : Identifier → Identifier
but_range x = record x { mutable_range = record { start = record { 0 = 0 }; end = record { 0 = 0 } } }

-- nothing but ranges changes, and no end falls
pub record RangesKept (old new : List Identifier) : Type 0 where
  pub rest : map but_range new ≡ map but_range old
  pub ends : (i : ℕ) → end_at old i ≤ end_at new i

-- all of a place but its effect
abbrev pub but_effect : Place → Place
but_effect p = record p { effect = Unknown }

-- all of a nested function but the effects of its context places
abbrev pub but_context : HirFunction → HirFunction
but_context f = record f { context = map but_effect f.context }

-- all of the environment but ranges and the effects of context places
abbrev pub but_ranges : Environment → Environment
but_ranges env = record env { identifiers = map but_range env.identifiers; functions = map but_context env.functions }

-- nothing but ranges and the effects of context places changes, and no end falls
pub record EnvKept (old new : Environment) : Type 0 where
  pub rest : but_ranges new ≡ but_ranges old
  pub ends : (i : ℕ) → end_at old.identifiers i ≤ end_at new.identifiers i

-- ---- a function but for the effects of the places in its blocks

abbrev pub but_value : InstructionValue → InstructionValue
but_value v = map_operands but_effect (map_lvalues but_effect v)

abbrev pub but_instruction : Instruction → Instruction
but_instruction i = record i { lvalue = but_effect i.lvalue; value = but_value i.value }

abbrev pub but_terminal : Terminal → Terminal
but_terminal t = map_terminal but_effect t

abbrev pub but_operand : BlockId × Place → BlockId × Place
but_operand e = (e.0, but_effect e.1)

abbrev pub but_phi : Phi → Phi
but_phi phi = record phi { place = but_effect phi.place; operands = map but_operand phi.operands }

abbrev pub but_block : BasicBlock → BasicBlock
but_block b = record b { phis = map but_phi b.phis; terminal = but_terminal b.terminal }

abbrev pub but_entry : BlockId × BasicBlock → BlockId × BasicBlock
but_entry e = (e.0, but_block e.1)

-- all of a function but the effects of the places of its phis, instructions and terminals
abbrev pub but_effects : HirFunction → HirFunction
but_effects f = record f {
  body = record f.body { blocks = map but_entry f.body.blocks };
  instructions = map but_instruction f.instructions;
}

-- the order of each instruction has one past it
abbrev pub OrdersFit : List Instruction → Type 0
OrdersFit is = AllOf (λ (i : Instruction). OrderHasNext i.id) is
