-- The graph that a list of events makes.
use Rattle.std.specs.Prelude.{ℕ, Bool, cond, ◌&&◌, List, [], ◌∷◌, ◌++◌, None, fold}
use Rattle.std.specs.List.{list_any}
use Rattle.alias_base.specs.declared.ids.IdentifierId.{IdentifierId}
use Rattle.alias_graph.specs.declared.types.EdgeKind.{EdgeKind}
use Rattle.alias_graph.specs.declared.types.EdgeKind.TheVariants.{Capture, Alias, MaybeAlias}
use Rattle.alias_graph.specs.declared.types.NodeValue.{NodeValue}
use Rattle.alias_graph.specs.declared.types.NodeValue.TheVariants.{Object}
use Rattle.alias_graph.specs.Nodes.{Edge}
use Rattle.alias_graph.specs.Nodes.{Source}
use Rattle.alias_graph.specs.Nodes.{Node}
use Rattle.alias_graph.specs.Nodes.{Entries, Nodes, has_node, with_node, same_id}

-- a node with no mark and no link
abbrev pub fresh : NodeValue → Node
fresh value = record {
  value = value;
  local = None;
  transitive = None;
  last_mutated = None;
  mutation_reason = None;
  forward = [];
  created_from = [];
  captures = [];
  aliases = [];
  maybe_aliases = [];
}

abbrev pub created : Nodes → IdentifierId → NodeValue → Nodes
created g id value = with_node g id (fresh value)

-- the node of the identifier changed, where there is one
abbrev pub changed : {V : Type 0} → Entries V → IdentifierId → (V → V) → Entries V
changed [] id f = []
changed (p ∷ g) id f = cond (same_id id p.0) ((p.0, f p.1) ∷ g) (p ∷ changed g id f)

abbrev pub with_edge : Edge → Node → Node
with_edge edge n = record n { forward = n.forward ++ edge ∷ [] }

abbrev pub has_source : IdentifierId → List Source → Bool
has_source id ss = list_any (λ (s : Source). same_id id s.other) ss

-- the first index stays
abbrev pub noted : Source → List Source → List Source
noted s ss = cond (has_source s.other ss) ss (ss ++ s ∷ [])

abbrev pub with_created_from : Source → Node → Node
with_created_from s n = record n { created_from = noted s n.created_from }

-- the source in the list that an edge of this kind has
abbrev pub with_source : EdgeKind → Source → Node → Node
with_source Capture s n = record n { captures = noted s n.captures }
with_source Alias s n = record n { aliases = noted s n.aliases }
with_source MaybeAlias s n = record n { maybe_aliases = noted s n.maybe_aliases }

abbrev pub edge : ℕ → IdentifierId → EdgeKind → Edge
edge index other kind = record { index = index; other = other; kind = kind }

abbrev pub source : ℕ → IdentifierId → Source
source index other = record { index = index; other = other }

abbrev pub made_from : Nodes → ℕ → IdentifierId → IdentifierId → Nodes
made_from g index from into = changed (changed (created g into Object) from (with_edge (edge index into Alias))) into
    (with_created_from (source index from))

-- both nodes have to be there
abbrev pub linked : EdgeKind → Nodes → ℕ → IdentifierId → IdentifierId → Nodes
linked kind g index from into = cond (has_node g from && has_node g into)
    (changed (changed g from (with_edge (edge index into kind))) into (with_source kind (source index from))) g

pub data Event : Type 0 where
  made : IdentifierId → NodeValue → Event
  created_out : ℕ → IdentifierId → IdentifierId → Event
  joined : EdgeKind → ℕ → IdentifierId → IdentifierId → Event

abbrev pub after : Nodes → Event → Nodes
after g (made id value) = created g id value
after g (created_out index from into) = made_from g index from into
after g (joined kind index from into) = linked kind g index from into

abbrev pub graph_of : List Event → Nodes
graph_of events = fold after [] events
