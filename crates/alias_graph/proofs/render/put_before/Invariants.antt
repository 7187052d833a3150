use Rattle.std.proofs.Common.{◌≡◌, ◌+◌, ◌≤◌, ◌++◌, drop, length, vec_len, vec_capacity}
use Rattle.alias_graph.specs.Flat.{AllBelow, sources_at}
use Rattle.alias_graph.specs.Renders.{before}
use Rattle.alias_graph.proofs.render.put_before.Given as goal

abbrev pub invariant-loop-slot : goal.invariant-loop-slot
invariant-loop-slot l =
    (l.stack.items ++ before l.index (sources_at l.links (drop l.slot-index l.slots)) ≡ l.initial.stack.items
    ++ before l.index (sources_at l.links l.slots))
    × (vec_len l.stack + length (before l.index (sources_at l.links (drop l.slot-index l.slots)))
    ≤ vec_capacity l.stack)
    × (vec_capacity l.initial.stack ≤ vec_capacity l.stack)
    × AllBelow (length l.links) (drop l.slot-index l.slots)
