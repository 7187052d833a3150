-- Nodes by their identifiers, as the list of entries in their order.
use Rattle.std.specs.Prelude.{◌≡◌, ℕ, ◌<◌, ◌||◌, Bool, IsTrue, List, Option, ◌==◌, position, is_some}
use Rattle.std.specs.Map.{lookup, keys_of}
use Rattle.indexmap.specs.IndexMap.{insert_entry}
use Rattle.alias_base.specs.declared.ids.IdentifierId.{IdentifierId}
use Rattle.alias_graph.specs.declared.types.EdgeKind.{EdgeKind}
use Rattle.alias_graph.specs.declared.types.NodeValue.{NodeValue}
use Rattle.alias_graph.specs.declared.types.MutationInfo.{MutationInfo}
use Rattle.alias_hir.specs.declared.effect.MutationReason.{MutationReason}

-- a link to the node that a value flows into
pub record Edge : Type 0 where
  pub index : ℕ
  pub other : IdentifierId
  pub kind : EdgeKind

-- a link to the node that a value comes from
pub record Source : Type 0 where
  pub index : ℕ
  pub other : IdentifierId

pub record Node : Type 0 where
  pub value : NodeValue
  pub local : Option MutationInfo
  pub transitive : Option MutationInfo
  pub last_mutated : Option ℕ
  pub mutation_reason : Option MutationReason
  pub forward : List Edge
  pub created_from : List Source
  pub captures : List Source
  pub aliases : List Source
  pub maybe_aliases : List Source

abbrev pub Entries : Type 0 → Type 0
Entries V = List (IdentifierId × V)

abbrev pub Nodes : Type 0
Nodes = Entries Node

abbrev pub same_id : IdentifierId → IdentifierId → Bool
same_id a b = a.0 == b.0

module _ {V : Type 0} where
  -- the node of the identifier
  abbrev pub node_at : Entries V → IdentifierId → Option V
  node_at g id = lookup (same_id id) g

  abbrev pub has_node : Entries V → IdentifierId → Bool
  has_node g id = is_some (node_at g id)

  -- where the node of the identifier is
  abbrev pub slot_of : Entries V → IdentifierId → Option ℕ
  slot_of g id = position (same_id id) (keys_of g)

  abbrev pub with_node : Entries V → IdentifierId → V → Entries V
  with_node g id node = insert_entry same_id g id node

-- each identifier with a node is below n
abbrev pub Within : ℕ → Nodes → Type 0
Within n g = (id : IdentifierId) → IsTrue (has_node g id) → id.0 < n

-- the identifiers with a node are those of before
abbrev pub SameIds : Nodes → Nodes → Type 0
SameIds old new = (id : IdentifierId) → has_node new id ≡ has_node old id

-- this identifier has a node now, and the others as before
abbrev pub OneMore : IdentifierId → Nodes → Nodes → Type 0
OneMore made old new = (id : IdentifierId) → has_node new id ≡ (same_id id made || has_node old id)
