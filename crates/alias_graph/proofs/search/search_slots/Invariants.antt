use Rattle.std.proofs.Common.{◌≡◌, ◌+◌, ◌≤◌, ◌++◌, List, length, take}
use Rattle.alias_graph.specs.declared.types.Entry.{Entry}
use Rattle.alias_graph.specs.Waiting.{led_entries, AllOld}
use Rattle.alias_graph.proofs.search.search_slots.Given as goal

abbrev pub invariant-scan : goal.invariant-scan
invariant-scan g l =
    (old : List Entry)
    × (led_entries l.fn.pending.list l.index l.fn.pending.transitive l.fn.pending.kind l.links (take l.left l.slots)
    ++ old ≡ led_entries l.fn.pending.list l.index l.fn.pending.transitive l.fn.pending.kind l.links
    (take l.fn.pending.left l.slots))
    × AllOld l.nodes l.seen old
    × (l.steps ≡ l.fn.steps + length old)
    × (l.left ≤ length l.slots)

abbrev pub decreases-scan : goal.decreases-scan
decreases-scan g l = l.left
