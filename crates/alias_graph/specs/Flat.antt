-- Nodes that have the slots of their links, as nodes with links.
use Rattle.std.specs.Prelude.{◌≡◌, ℕ, ◌+◌, ◌*◌, ◌<◌, ◌≤◌, Bool, true, false, cond, List, [], ◌∷◌, ◌++◌, None}
use Rattle.std.specs.Prelude.{slice_index_or, length}
use Rattle.std.specs.Option.{option_map_or}
use Rattle.alias_base.specs.declared.ids.IdentifierId.{IdentifierId}
use Rattle.alias_graph.specs.declared.types.EdgeKind.{EdgeKind}
use Rattle.alias_graph.specs.declared.types.EdgeKind.TheVariants.{Capture, Alias, MaybeAlias}
use Rattle.alias_graph.specs.declared.types.NodeValue.{NodeValue}
use Rattle.alias_graph.specs.declared.types.NodeValue.TheVariants.{Object}
use Rattle.alias_graph.specs.declared.types.MutationInfo.{MutationInfo}
use Rattle.alias_graph.specs.declared.types.Origin.{Origin}
use Rattle.alias_graph.specs.declared.types.Entry.{Entry}
use Rattle.alias_graph.specs.NodeMarks.{remarked, info, later, first_reason}
use Rattle.alias_graph.specs.declared.types.StoredLink.{StoredLink}
use Rattle.alias_graph.specs.declared.types.Node.{Node as StoredNode}
use Rattle.alias_graph.specs.Nodes.{Edge, Source, Node, Entries, Nodes, node_at, with_node}
use Rattle.alias_graph.specs.Graph.{has_source, changed}

abbrev pub no_link : StoredLink
no_link = record {
  index = 0;
  from = record { 0 = 0 };
  into = record { 0 = 0 };
  kind = Capture;
  from_hint = record { 0 = 0 };
  into_hint = record { 0 = 0 };
}

abbrev pub link_at : List StoredLink → ℕ → StoredLink
link_at links p = slice_index_or links p no_link

abbrev pub edge_of : StoredLink → Edge
edge_of l = record { index = l.index; other = l.into; kind = l.kind }

abbrev pub source_of : StoredLink → Source
source_of l = record { index = l.index; other = l.from }

abbrev pub edges_at : List StoredLink → List ℕ → List Edge
edges_at links [] = []
edges_at links (p ∷ ps) = edge_of (link_at links p) ∷ edges_at links ps

abbrev pub sources_at : List StoredLink → List ℕ → List Source
sources_at links [] = []
sources_at links (p ∷ ps) = source_of (link_at links p) ∷ sources_at links ps

abbrev pub node_of : List StoredLink → StoredNode → Node
node_of links n = record {
  value = n.value;
  local = n.local;
  transitive = n.transitive;
  last_mutated = n.last_mutated;
  mutation_reason = n.mutation_reason;
  forward = edges_at links n.forward;
  created_from = sources_at links n.created_from;
  captures = sources_at links n.captures;
  aliases = sources_at links n.aliases;
  maybe_aliases = sources_at links n.maybe_aliases;
}

abbrev pub nodes_of : List StoredLink → Entries StoredNode → Nodes
nodes_of links [] = []
nodes_of links (e ∷ g) = (e.0, node_of links e.1) ∷ nodes_of links g

abbrev pub AllBelow : ℕ → List ℕ → Type 0
AllBelow n [] = Unit {0}
AllBelow n (p ∷ ps) = (p < n) × AllBelow n ps

-- each slot of a node's lists is below n
pub record NodeFits (n : ℕ) (k : StoredNode) : Type 0 where
  pub forward : AllBelow n k.forward
  pub created_from : AllBelow n k.created_from
  pub captures : AllBelow n k.captures
  pub aliases : AllBelow n k.aliases
  pub maybe_aliases : AllBelow n k.maybe_aliases

abbrev pub AllFit : ℕ → Entries StoredNode → Type 0
AllFit n [] = Unit {0}
AllFit n (e ∷ g) = NodeFits n e.1 × AllFit n g

abbrev pub stored_links : StoredNode → ℕ
stored_links n = length n.forward + length n.created_from + length n.aliases + length n.maybe_aliases
    + length n.captures

abbrev pub all_stored_links : Entries StoredNode → ℕ
all_stored_links [] = 0
all_stored_links (e ∷ g) = stored_links e.1 + all_stored_links g

-- the slots of the nodes are of these links, and there are at most twice as many
pub record LinksFit (links : List StoredLink) (g : Entries StoredNode) : Type 0 where
  pub within : AllFit (length links) g
  pub twice : all_stored_links g ≤ 2 * length links

-- a slot more, unless a link from the same node is there
abbrev pub noted_slot : List StoredLink → ℕ → List ℕ → List ℕ
noted_slot links p ps = cond (has_source (link_at links p).from (sources_at links ps)) ps (ps ++ p ∷ [])

-- the slots of the links of a kind that enter a node
abbrev pub stored_sources : EdgeKind → StoredNode → List ℕ
stored_sources Capture n = n.captures
stored_sources Alias n = n.aliases
stored_sources MaybeAlias n = n.maybe_aliases

abbrev pub stored_sources_into : Entries StoredNode → IdentifierId → EdgeKind → List ℕ
stored_sources_into g id kind = option_map_or (stored_sources kind) (node_at g id) []

-- no link of the kind from the same node as the link at p enters the node
abbrev pub IsFirst : List StoredLink → ℕ → List ℕ → Type 0
IsFirst links p ps = has_source (link_at links p).from (sources_at links ps) ≡ false

abbrev pub stored_marked_by : Bool → MutationInfo → StoredNode → StoredNode
stored_marked_by true i n = record n { transitive = remarked i n.transitive }
stored_marked_by false i n = record n { local = remarked i n.local }

abbrev pub stored_visited : ℕ → Origin → Entry → StoredNode → StoredNode
stored_visited index origin e n = record (stored_marked_by e.transitive (info e.kind origin.span) n)
    { last_mutated = later index n.last_mutated; mutation_reason = first_reason origin.reason n.mutation_reason }

abbrev pub stored_fresh : NodeValue → StoredNode
stored_fresh value = record {
  value = value;
  local = None;
  transitive = None;
  last_mutated = None;
  mutation_reason = None;
  forward = [];
  created_from = [];
  captures = [];
  aliases = [];
  maybe_aliases = [];
}

abbrev pub with_forward_slot : ℕ → StoredNode → StoredNode
with_forward_slot p n = record n { forward = n.forward ++ p ∷ [] }

abbrev pub with_created_slot : List StoredLink → ℕ → StoredNode → StoredNode
with_created_slot links p n = record n { created_from = noted_slot links p n.created_from }

abbrev pub with_source_slot : EdgeKind → List StoredLink → ℕ → StoredNode → StoredNode
with_source_slot Capture links p n = record n { captures = noted_slot links p n.captures }
with_source_slot Alias links p n = record n { aliases = noted_slot links p n.aliases }
with_source_slot MaybeAlias links p n = record n { maybe_aliases = noted_slot links p n.maybe_aliases }

abbrev pub but_last_from : ℕ → List ℕ → List ℕ
but_last_from p [] = []
but_last_from p (q ∷ ps) = p ∷ but_last_from q ps

-- all but the last
abbrev pub but_last : List ℕ → List ℕ
but_last [] = []
but_last (p ∷ ps) = but_last_from p ps

abbrev pub without_last_edge : StoredNode → StoredNode
without_last_edge n = record n { forward = but_last n.forward }

-- the node that the link at p makes, which is its own source where the flag is set
abbrev pub stored_created : Bool → ℕ → StoredNode
stored_created true p = record (stored_fresh Object) { created_from = p ∷ []; forward = p ∷ [] }
stored_created false p = record (stored_fresh Object) { created_from = p ∷ [] }

-- the nodes after the link at p makes its target
abbrev pub IsCreated : Entries StoredNode → IdentifierId → IdentifierId → ℕ → Entries StoredNode → Type 0
IsCreated g from into p new = (links : List StoredLink) → new
    ≡ changed (changed (with_node g into (stored_fresh Object)) from (with_forward_slot p)) into
    (with_created_slot links p)

-- a node without its links
abbrev pub marks_of : Node → Node
marks_of n = record n { forward = []; created_from = []; captures = []; aliases = []; maybe_aliases = [] }

abbrev pub stored_marks : StoredNode → Node
stored_marks n = marks_of (node_of [] n)
