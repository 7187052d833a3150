use Rattle.std.proofs.Common.{◌≡◌, drop, length}
use Rattle.alias_graph.specs.Graph.{has_source}
use Rattle.alias_graph.specs.Flat.{AllBelow, sources_at}
use Rattle.alias_graph.proofs.adjacency.has_source.Given as goal

abbrev pub invariant-loop-slot : goal.invariant-loop-slot
invariant-loop-slot l =
    (has_source l.from (sources_at l.links (drop l.slot-index l.slots))
    ≡ has_source l.from (sources_at l.links l.slots))
    × AllBelow (length l.links) (drop l.slot-index l.slots)
