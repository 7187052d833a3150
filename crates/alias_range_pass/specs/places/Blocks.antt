-- Phis, terminals and blocks with the effects of their places, and a whole function.
use Rattle.std.specs.Prelude.{ℕ, ◌+◌, Bool, cond, List, [], ◌∷◌, Option, Some, None, map, option_map, slice_get, length}
use Rattle.std.specs.Prelude.{zero, suc}
use Rattle.std.specs.Option.{option_map_or}
use Rattle.alias_base.specs.declared.ids.BlockId.{BlockId}
use Rattle.alias_base.specs.declared.ids.EvaluationOrder.{EvaluationOrder}
use Rattle.alias_base.specs.declared.ids.InstructionId.{InstructionId}
use Rattle.indexmap.specs.IndexMap.{set_value_at}
use Rattle.alias_hir.specs.Terminals.{evaluation_order}
use Rattle.alias_hir.specs.declared.env.Environment.{Environment}
use Rattle.alias_hir.specs.declared.env.Identifier.{Identifier}
use Rattle.alias_hir.specs.declared.hir.BasicBlock.{BasicBlock}
use Rattle.alias_hir.specs.declared.hir.HirFunction.{HirFunction}
use Rattle.alias_hir.specs.declared.hir.Instruction.{Instruction}
use Rattle.alias_hir.specs.declared.hir.Phi.{Phi}
use Rattle.alias_hir.specs.declared.place.Effect.{Effect}
use Rattle.alias_hir.specs.declared.place.Effect.TheVariants.{Freeze, Read, Store}
use Rattle.alias_hir.specs.declared.place.Place.{Place}
use Rattle.alias_hir.specs.declared.terminal.Terminal.{Terminal}
use Rattle.alias_hir.specs.declared.terminal.Terminal.TheVariants as terminal
use Rattle.alias_range_pass.specs.places.Instructions.{instructions_placed, with_identifiers}
use Rattle.alias_range_pass.specs.places.Mapped.{map_terminal}
use Rattle.alias_range_pass.specs.places.Ranges.{phis_merged}
use Rattle.alias_range_pass.specs.places.Tables.{source_effect}

abbrev pub with_effect : Effect → Place → Place
with_effect e p = record p { effect = e }

abbrev pub operand_with : Effect → BlockId × Place → BlockId × Place
operand_with e x = (x.0, with_effect e x.1)

-- the effect of the operand in slot i set
abbrev pub effect_set_at : Effect → ℕ → List (BlockId × Place) → List (BlockId × Place)
effect_set_at e i operands = option_map_or (λ (x : BlockId × Place). set_value_at operands i (with_effect e x.1))
    (slice_get operands i) operands

-- the phi's place gets Store; its operands get Capture where that is written later than the order, else Read
abbrev pub phi_placed : List Identifier → EvaluationOrder → Phi → Phi
phi_placed ids t phi = record phi {
  place = with_effect Store phi.place;
  operands = map (operand_with (source_effect ids t phi.place.identifier)) phi.operands;
}

-- what is returned gets Freeze, and in function expressions Read; other places of terminals get Read
abbrev pub terminal_effect : Bool → Terminal → Effect
terminal_effect is_function_expression (terminal.Return id value effects) = cond is_function_expression Read Freeze
terminal_effect is_function_expression (terminal.Goto id block) = Read
terminal_effect is_function_expression (terminal.If id test consequent alternate) = Read
terminal_effect is_function_expression (terminal.Branch id test consequent alternate) = Read
terminal_effect is_function_expression (terminal.Switch id test cases) = Read
terminal_effect is_function_expression (terminal.For id init) = Read
terminal_effect is_function_expression (terminal.ForOf id init) = Read
terminal_effect is_function_expression (terminal.ForIn id init) = Read
terminal_effect is_function_expression (terminal.DoWhile id loop_block) = Read
terminal_effect is_function_expression (terminal.While id test) = Read
terminal_effect is_function_expression (terminal.Logical id test) = Read
terminal_effect is_function_expression (terminal.Ternary id test) = Read
terminal_effect is_function_expression (terminal.Optional id test) = Read
terminal_effect is_function_expression (terminal.Throw id value) = Read
terminal_effect is_function_expression (terminal.Unreachable id) = Read
terminal_effect is_function_expression (terminal.Try id block handler handler_binding) = Read
terminal_effect is_function_expression (terminal.MaybeThrow id continuation handler effects) = Read
terminal_effect is_function_expression (terminal.Label id block) = Read
terminal_effect is_function_expression (terminal.Sequence id block) = Read
terminal_effect is_function_expression (terminal.Scope id block) = Read
terminal_effect is_function_expression (terminal.PrunedScope id block) = Read

abbrev pub terminal_placed : Bool → Terminal → Terminal
terminal_placed is_function_expression t = map_terminal (with_effect (terminal_effect is_function_expression t)) t

-- phis and terminal of a block, where t is the order of its first instruction
abbrev pub ends_placed : Bool → List Identifier → EvaluationOrder → BasicBlock → BasicBlock
ends_placed is_function_expression ids t b =
    record b { phis = map (phi_placed ids t) b.phis; terminal = terminal_placed is_function_expression b.terminal }

abbrev pub order_or : Option Instruction → EvaluationOrder → EvaluationOrder
order_or None t = t
order_or (Some i) t = i.id

abbrev pub order_of_first : List Instruction → List InstructionId → EvaluationOrder → EvaluationOrder
order_of_first is [] t = t
order_of_first is (id ∷ ids) t = order_or (slice_get is id.0) t

-- the order of a block's first instruction, or of its terminal where it has none
abbrev pub first_order : List Instruction → BasicBlock → EvaluationOrder
first_order is b = order_of_first is b.instructions (evaluation_order b.terminal)

-- a function and its environment
abbrev pub Placed : Type 0
Placed = HirFunction × Environment

abbrev pub with_blocks : List (BlockId × BasicBlock) → HirFunction → HirFunction
with_blocks bs f = record f { body = record f.body { blocks = bs } }

abbrev pub block_merged : HirFunction → BasicBlock → Environment → Environment
block_merged f b env = with_identifiers (phis_merged (first_order f.instructions b) b.phis env.identifiers) env

-- the phis of the block in slot k start their ranges, and then its phis and its terminal have effects
abbrev pub ends_at_slot : Bool → ℕ → BasicBlock → HirFunction → Environment → Placed
ends_at_slot is_function_expression k b f env = (
  with_blocks (set_value_at f.body.blocks k
      (ends_placed is_function_expression (block_merged f b env).identifiers (first_order f.instructions b) b)) f,
  block_merged f b env,
)

abbrev pub with_instructions : List Instruction × Environment → HirFunction → Placed
with_instructions r f = (record f { instructions = r.0 }, r.1)

abbrev pub block_instructions : List InstructionId → Placed → Placed
block_instructions ids s = with_instructions (instructions_placed ids (s.0.instructions, s.1)) s.0

abbrev pub placed_at : Bool → ℕ → Option BasicBlock → Placed → Placed
placed_at is_function_expression k None s = s
placed_at is_function_expression k (Some b) s =
    block_instructions b.instructions (ends_at_slot is_function_expression k b s.0 s.1)

-- the block in slot k
abbrev pub block_placed : Bool → ℕ → Placed → Placed
block_placed is_function_expression k s =
    placed_at is_function_expression k (option_map (λ (e : BlockId × BasicBlock). e.1) (slice_get s.0.body.blocks k)) s

-- n blocks, of which the first is in slot k
abbrev pub blocks_placed : Bool → ℕ → ℕ → Placed → Placed
blocks_placed is_function_expression zero k s = s
blocks_placed is_function_expression (suc n) k s =
    blocks_placed is_function_expression n (k + 1) (block_placed is_function_expression k s)

-- a function and its environment, with the effects of its places and its ranges by default
abbrev pub function_placed : Bool → Placed → Placed
function_placed is_function_expression s = blocks_placed is_function_expression (length s.0.body.blocks) 0 s
