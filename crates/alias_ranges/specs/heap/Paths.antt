-- Paths of blocks, and the moments on them at which an effect comes.
use Rattle.std.specs.Prelude.{◌≡◌, ℕ, Bool, true, nat_lt, List, [], ◌∷◌, ◌++◌, Option, Some}
use Rattle.std.specs.List.{list_all}
use Rattle.alias_base.specs.declared.ids.BlockId.{BlockId}
use Rattle.alias_base.specs.declared.ids.EvaluationOrder.{EvaluationOrder}
use Rattle.alias_base.specs.declared.ids.InstructionId.{InstructionId}
use Rattle.alias_base.specs.Find.{value_at}
use Rattle.alias_hir.specs.declared.effect.AliasingEffect.{AliasingEffect}
use Rattle.alias_hir.specs.declared.hir.BasicBlock.{BasicBlock}
use Rattle.alias_hir.specs.declared.hir.HirFunction.{HirFunction}
use Rattle.alias_hir.specs.Terminals.{successors}
use Rattle.alias_graph.specs.Walks.{IsOneOf}
use Rattle.alias_graph.specs.recorded.BlockListings.{slot_of_block}
use Rattle.alias_ranges.specs.heap.Items.{Item, Does, body_items}
use Rattle.alias_ranges.specs.heap.Heap.{History}
use Rattle.alias_ranges.specs.heap.Histories.{history}

-- the slot is before the other; an edge to no block counts as one
abbrev pub is_before : Option ℕ → Option ℕ → Bool
is_before (Some p) (Some q) = nat_lt p q
is_before p q = true

abbrev pub goes_forward : List (BlockId × BasicBlock) → BlockId × BasicBlock → Bool
goes_forward blocks b = list_all (λ s. is_before (slot_of_block blocks b.0) (slot_of_block blocks s))
    (successors b.1.terminal)

-- each edge goes to a block later in stored order
abbrev pub is_forward : HirFunction → Bool
is_forward f = list_all (goes_forward f.body.blocks) f.body.blocks

-- from block p on these blocks follow by edges
abbrev pub GoesOn : HirFunction → BlockId → List BlockId → Type 0
GoesOn f p [] = Unit {0}
GoesOn f p (q ∷ qs) = (b : BasicBlock) × (value_at f.body.blocks p ≡ Some b) × IsOneOf q (successors b.terminal)
    × GoesOn f q qs

-- a path of blocks from the entry
abbrev pub IsPath : HirFunction → List BlockId → Type 0
IsPath f [] = Unit {0}
IsPath f (p ∷ ps) = (p ≡ f.body.entry) × GoesOn f p ps

-- ---- moments

-- a moment on a path of blocks: it has gone through the blocks `before` and did `done` in the block `here`, and an
-- effect of an instruction comes next
pub record Moment (f : HirFunction) : Type 0 where
  pub before : List BlockId
  pub here : BlockId
  pub block : BasicBlock
  pub done : List Item
  pub instruction : InstructionId
  pub order : EvaluationOrder
  pub next : AliasingEffect
  pub rest : List Item
  pub path : IsPath f (before ++ here ∷ [])
  pub found : value_at f.body.blocks here ≡ Some block
  pub split : body_items f block ≡ done ++ Does instruction order next ∷ rest

-- what was done on the heap until then
abbrev pub history_at : {f : HirFunction} → Moment f → History
history_at {f} m = history f m.before m.done
