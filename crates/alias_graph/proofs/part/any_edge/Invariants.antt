use Rattle.std.proofs.Common.{◌≡◌, drop, length}
use Rattle.alias_graph.specs.Cutting.{flagged, any_edge}
use Rattle.alias_graph.specs.Flat.{AllBelow, edges_at}
use Rattle.alias_graph.proofs.part.any_edge.Given as goal

abbrev pub invariant-loop-slot : goal.invariant-loop-slot
invariant-loop-slot l =
    (any_edge (flagged l.nodes l.flags) (edges_at l.links (drop l.slot-index l.slots))
    ≡ any_edge (flagged l.nodes l.flags) (edges_at l.links l.slots))
    × AllBelow (length l.links) (drop l.slot-index l.slots)
