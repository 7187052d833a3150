-- What the nodes end as, where a `&mut` to one of them is returned.
use Rattle.std.specs.Prelude.{ℕ, Option}
use Rattle.std.specs.Borrow.{LendsIf, Fml, MutBor}
use Rattle.indexmap.specs.IndexMap.{set_value_at}
use Rattle.alias_graph.specs.declared.types.Node.{Node}
use Rattle.alias_graph.specs.Nodes.{Entries}
use Rattle.alias_graph.specs.contracts.types.Node as node
use Rattle.alias_graph.specs.contracts.node_map.NodeMap as node_map

-- once the borrow r ends, the node at the slot is the last one written through r, and at `None` the nodes stay as they
-- are
abbrev pub LendsNode : MutBor (Entries Node) → ℕ → Option (MutBor Node) → Fml
LendsNode m i r = LendsIf node_map.the_row node.the_row m r (set_value_at m.now i) m.now
