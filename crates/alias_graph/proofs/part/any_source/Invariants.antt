use Rattle.std.proofs.Common.{◌≡◌, drop, length}
use Rattle.alias_graph.specs.Cutting.{flagged, any_source}
use Rattle.alias_graph.specs.Flat.{AllBelow, sources_at}
use Rattle.alias_graph.proofs.part.any_source.Given as goal

abbrev pub invariant-loop-slot : goal.invariant-loop-slot
invariant-loop-slot l =
    (any_source (flagged l.nodes l.flags) (sources_at l.links (drop l.slot-index l.slots))
    ≡ any_source (flagged l.nodes l.flags) (sources_at l.links l.slots))
    × AllBelow (length l.links) (drop l.slot-index l.slots)
