-- The alias graph of what a function's effects record.
use Rattle.std.specs.Prelude.{◌≡◌, Result, Ok, Err, ⊤}
use Rattle.alias_base.specs.declared.ids.IdentifierId.{IdentifierId}
use Rattle.alias_hir.specs.declared.error.HirError.{HirError}
use Rattle.alias_hir.specs.declared.error.HirError.TheVariants.{TooMany, Memory}
use Rattle.alias_graph.specs.Events.{events_of}
use Rattle.alias_graph.specs.Graph.{graph_of}
use Rattle.alias_graph.specs.Nodes.{Nodes, node_at}
use Rattle.alias_graph.specs.RemainingLinks.{remaining_at}
use Rattle.alias_graph.specs.declared.recorded.listing.Listing.{Listing}
use Rattle.alias_graph.specs.declared.recorded.recording.RecordedGraph.{RecordedGraph}

abbrev pub graph_listed : Listing → Nodes
graph_listed l = graph_of (events_of l.events)

-- the graph has at each node exactly the links of the events that remain, and the mutations and renders are those
-- listed
pub record IsGraphOf (l : Listing) (r : RecordedGraph) : Type 0 where
  pub graph : r.graph ≡ graph_listed l
  pub remaining : (id : IdentifierId) → node_at r.graph id ≡ remaining_at (events_of l.events) id
  pub mutations : r.mutations ≡ l.mutations
  pub renders : r.renders ≡ l.renders

-- The graph of what is listed, or the refusal. Memory may fail at any time.
abbrev pub GraphGives : Result Listing HirError → Result RecordedGraph HirError → Type 0
GraphGives stated (Ok r) = (l : Listing) × (stated ≡ Ok l) × IsGraphOf l r
GraphGives stated (Err (TooMany c)) = stated ≡ Err (TooMany c)
GraphGives stated (Err (Memory e)) = ⊤
