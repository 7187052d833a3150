-- What the blocks of a function record, and the function.
use Rattle.std.specs.Prelude.{ℕ, ◌+◌, List, [], ◌∷◌, ◌++◌, Option, Some, None, Result, Ok, if◌then◌else◌, nat_lt, map}
use Rattle.std.specs.Prelude.{position, replicate, length, slice_get, slice_set}
use Rattle.std.specs.Option.{option_map_or}
use Rattle.std.specs.Map.{keys_of}
use Rattle.alias_base.specs.Answer.{◌>>=◌}
use Rattle.alias_base.specs.Find.{same_block}
use Rattle.alias_base.specs.declared.ids.BlockId.{BlockId}
use Rattle.alias_hir.specs.declared.effect.AliasingEffect.{AliasingEffect}
use Rattle.alias_hir.specs.declared.effect.AliasingEffect.TheVariants as effect
use Rattle.alias_hir.specs.declared.error.HirError.{HirError}
use Rattle.alias_hir.specs.declared.hir.BasicBlock.{BasicBlock}
use Rattle.alias_hir.specs.declared.hir.HirFunction.{HirFunction}
use Rattle.alias_hir.specs.declared.hir.Phi.{Phi}
use Rattle.alias_hir.specs.declared.place.Place.{Place}
use Rattle.alias_hir.specs.declared.terminal.Terminal.{Terminal}
use Rattle.alias_hir.specs.declared.terminal.Terminal.TheVariants as terminal
use Rattle.alias_hir.specs.Parts.{param_place}
use Rattle.alias_hir.specs.Terminals.{terminal_effects}
use Rattle.alias_graph.specs.declared.types.EdgeKind.TheVariants.{Alias}
use Rattle.alias_graph.specs.declared.types.NodeValue.TheVariants.{Object, Phi as PhiNode}
use Rattle.alias_graph.specs.declared.events.GraphEvent.{GraphEvent}
use Rattle.alias_graph.specs.declared.events.GraphEvent.TheVariants as event
use Rattle.alias_graph.specs.declared.recorded.listing.Listing.{Listing}
use Rattle.alias_graph.specs.recorded.Each.{each}
use Rattle.alias_graph.specs.recorded.Listings.{position_after, with_event, made, linked, instruction_listed}

-- the events that wait for the end of the block in slot k
abbrev pub pending_at : List (List GraphEvent) → ℕ → List GraphEvent
pending_at pending k = option_map_or (λ es. es) (slice_get pending k) []

abbrev pub pending_more : List (List GraphEvent) → ℕ → GraphEvent → List (List GraphEvent)
pending_more pending k e = option_map_or (λ es. slice_set pending k (es ++ e ∷ [])) (slice_get pending k) pending

-- an event goes in now where its block is done, of which there are k, or waits for the end of its block
abbrev pub added_or_pending : ℕ → Option ℕ → GraphEvent → Listing → Listing
added_or_pending k None e l = l
added_or_pending k (Some p) e l = if nat_lt p k then with_event e l
    else record l { pending = pending_more l.pending p e }

abbrev pub link_of : ℕ → Place → Place → GraphEvent
link_of index a x = event.Link Alias index a.identifier x.identifier

abbrev pub slot_of_block : List (BlockId × BasicBlock) → BlockId → Option ℕ
slot_of_block blocks q = position (same_block q) (keys_of blocks)

-- an operand that comes by the edge from a block, where k blocks are done
abbrev pub operand_listed : List (BlockId × BasicBlock) → ℕ → Place → BlockId × Place → Listing
    → Result Listing HirError
operand_listed blocks k x e l = do
  after ← position_after l.next
  Ok (added_or_pending k (slot_of_block blocks e.0) (link_of l.next e.1 x) (record l { next = after }))

abbrev pub phi_listed : List (BlockId × BasicBlock) → ℕ → Phi → Listing → Result Listing HirError
phi_listed blocks k phi l = each (operand_listed blocks k phi.place) phi.operands (made PhiNode phi.place l)

abbrev pub returns_listed : Place → Terminal → Listing → Result Listing HirError
returns_listed returns (terminal.Return id value effects) l = linked Alias value returns l
returns_listed returns (terminal.Goto id block) l = Ok l
returns_listed returns (terminal.If id test consequent alternate) l = Ok l
returns_listed returns (terminal.Branch id test consequent alternate) l = Ok l
returns_listed returns (terminal.Switch id test cases) l = Ok l
returns_listed returns (terminal.For id init) l = Ok l
returns_listed returns (terminal.ForOf id init) l = Ok l
returns_listed returns (terminal.ForIn id init) l = Ok l
returns_listed returns (terminal.DoWhile id loop_block) l = Ok l
returns_listed returns (terminal.While id test) l = Ok l
returns_listed returns (terminal.Logical id test) l = Ok l
returns_listed returns (terminal.Ternary id test) l = Ok l
returns_listed returns (terminal.Optional id test) l = Ok l
returns_listed returns (terminal.Throw id value) l = Ok l
returns_listed returns (terminal.Unreachable id) l = Ok l
returns_listed returns (terminal.Try id block handler handler_binding) l = Ok l
returns_listed returns (terminal.MaybeThrow id continuation handler effects) l = Ok l
returns_listed returns (terminal.Label id block) l = Ok l
returns_listed returns (terminal.Sequence id block) l = Ok l
returns_listed returns (terminal.Scope id block) l = Ok l
returns_listed returns (terminal.PrunedScope id block) l = Ok l

-- an effect of a terminal
abbrev pub alias_listed : AliasingEffect → Listing → Result Listing HirError
alias_listed (effect.Alias a x) l = linked Alias a x l
alias_listed (effect.Apply receiver function mutates args into signature span) l = Ok l
alias_listed (effect.CreateFrom a x) l = Ok l
alias_listed (effect.ImmutableCapture a x) l = Ok l
alias_listed (effect.Assign a x) l = Ok l
alias_listed (effect.Capture a x) l = Ok l
alias_listed (effect.MaybeAlias a x) l = Ok l
alias_listed (effect.Create x kind reason) l = Ok l
alias_listed (effect.Freeze v reason) l = Ok l
alias_listed (effect.Impure p error) l = Ok l
alias_listed (effect.MutateFrozen p error) l = Ok l
alias_listed (effect.MutateGlobal p error) l = Ok l
alias_listed (effect.Render p) l = Ok l
alias_listed (effect.Mutate v reason) l = Ok l
alias_listed (effect.MutateConditionally v) l = Ok l
alias_listed (effect.MutateTransitive v) l = Ok l
alias_listed (effect.MutateTransitiveConditionally v) l = Ok l
alias_listed (effect.CreateFunction x f captures) l = Ok l

abbrev pub aliases_in : Option (List AliasingEffect) → Listing → Result Listing HirError
aliases_in None l = Ok l
aliases_in (Some es) l = each alias_listed es l

-- what waited for the end of the block in slot k
abbrev pub with_pending : ℕ → Listing → Listing
with_pending k l = record l { events = l.events ++ pending_at l.pending k }

-- the end of the block in slot k: what waited for it, what is returned, and aliases
abbrev pub end_listed : Place → ℕ → Terminal → Listing → Result Listing HirError
end_listed returns k t l = do
  r ← returns_listed returns t (with_pending k l)
  aliases_in (terminal_effects t) r

-- ---- a function

-- the block in slot k
abbrev pub block_listed : HirFunction → ℕ → BasicBlock → Listing → Result Listing HirError
block_listed f k b l = do
  p ← each (phi_listed f.body.blocks k) b.phis l
  q ← each (instruction_listed f.instructions) b.instructions p
  end_listed f.returns k b.terminal q

-- these blocks, of which the first is in slot k
abbrev pub blocks_listed : HirFunction → ℕ → List (BlockId × BasicBlock) → Listing → Result Listing HirError
blocks_listed f k [] l = Ok l
blocks_listed f k (b ∷ bs) l = block_listed f k b.1 l >>= (λ m. blocks_listed f (k + 1) bs m)

abbrev pub object_of : Place → GraphEvent
object_of p = event.Make p.identifier Object

-- parameters, context places and returns are made first
abbrev pub first_events : HirFunction → List GraphEvent
first_events f = map (λ p. object_of (param_place p)) f.params ++ map object_of f.context ++ object_of f.returns ∷ []

abbrev pub first_listing : HirFunction → Listing
first_listing f = record {
  next = 0;
  events = first_events f;
  mutations = [];
  renders = [];
  pending = replicate (length f.body.blocks) [];
  summary = [];
}

-- what the function's effects record
abbrev pub listed : HirFunction → Result Listing HirError
listed f = blocks_listed f 0 f.body.blocks (first_listing f)
