-- Flags of the nodes of a part, and the nodes that are cut off to it.
use Rattle.std.specs.Prelude.{◌≡◌, ℕ, ◌+◌, Bool, true, false, cond, not, ◌||◌, List, [], ◌∷◌, Option, Some, None}
use Rattle.std.specs.Prelude.{length, slice_index_or, zero, suc}
use Rattle.alias_base.specs.declared.ids.IdentifierId.{IdentifierId}
use Rattle.alias_hir.specs.declared.env.Environment.{Environment}
use Rattle.alias_graph.specs.declared.types.Node.{Node as StoredNode}
use Rattle.alias_graph.specs.declared.types.StoredLink.{StoredLink}
use Rattle.alias_graph.specs.Flat.{node_of}
use Rattle.alias_graph.specs.Nodes.{Edge, Source, Node, Entries, slot_of}
use Rattle.alias_graph.specs.Reach.{once}
use Rattle.alias_graph.specs.Reports.{value_reports}
use Rattle.alias_graph.specs.Waiting.{stored_at}

abbrev pub flag_at : List Bool → Option ℕ → Bool
flag_at flags None = false
flag_at flags (Some p) = slice_index_or flags p false

-- whether the node of the identifier is there, and flagged
abbrev pub flagged : Entries StoredNode → List Bool → IdentifierId → Bool
flagged g flags id = flag_at flags (slot_of g id)

module _ (keep : IdentifierId → Bool) where
  abbrev pub any_edge : List Edge → Bool
  any_edge [] = false
  any_edge (l ∷ ls) = cond (keep l.other) true (any_edge ls)

  abbrev pub any_source : List Source → Bool
  any_source [] = false
  any_source (l ∷ ls) = cond (keep l.other) true (any_source ls)

  -- whether a link of the node leads into the part
  abbrev pub leads : Node → Bool
  leads n = any_edge n.forward || (any_source n.created_from
      || (any_source n.captures || (any_source n.aliases || any_source n.maybe_aliases)))

  abbrev pub leads_at : List StoredLink → Option StoredNode → Bool
  leads_at links None = false
  leads_at links (Some n) = leads (node_of links n)

-- no flag is taken away
pub record FlagsGrow (old new : List Bool) : Type 0 where
  pub size : length new ≡ length old
  pub kept : (i : ℕ) → slice_index_or old i false ≡ true → slice_index_or new i false ≡ true

abbrev pub unflagged : List Bool → ℕ
unflagged [] = 0
unflagged (b ∷ bs) = once (not b) + unflagged bs

-- no link of a node without a flag leads to a node with one
abbrev pub IsClosed : List StoredLink → Entries StoredNode → List Bool → Type 0
IsClosed links g flags = (i : ℕ) → slice_index_or flags i false ≡ false
    → leads_at (flagged g flags) links (stored_at g i) ≡ false

-- the nodes without a flag have no report
abbrev pub stored_value_quiet : Environment → Option StoredNode → Type 0
stored_value_quiet env None = Unit {0}
stored_value_quiet env (Some n) = value_reports env n.value ≡ []

abbrev pub stored_bare : StoredNode → StoredNode
stored_bare n = record n { forward = []; created_from = []; captures = []; aliases = []; maybe_aliases = [] }

-- the node at a slot without its links
abbrev pub bare_at : ℕ → Entries StoredNode → Entries StoredNode
bare_at i [] = []
bare_at zero (e ∷ g) = (e.0, stored_bare e.1) ∷ g
bare_at (suc i) (e ∷ g) = e ∷ bare_at i g

-- the nodes without a flag have no link
abbrev pub cut_to : List Bool → Entries StoredNode → Entries StoredNode
cut_to [] g = g
cut_to (b ∷ bs) [] = []
cut_to (b ∷ bs) (e ∷ g) = (e.0, cond b e.1 (stored_bare e.1)) ∷ cut_to bs g
