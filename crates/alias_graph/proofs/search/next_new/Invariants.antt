use Rattle.std.proofs.Common.{◌≡◌, ◌+◌, ◌≤◌, ◌++◌, List, length, vec_len, vec_capacity}
use Rattle.alias_graph.specs.declared.types.Entry.{Entry}
use Rattle.alias_graph.specs.Waiting.{waiting, AllOld}
use Rattle.alias_graph.proofs.search.next_new.Given as goal

abbrev pub invariant-search : goal.invariant-search
invariant-search g l =
    (old : List Entry)
    × (waiting l.links l.nodes l.index l.stack.items ++ old ≡ waiting l.links l.nodes l.index l.fn.stack.items)
    × AllOld l.nodes l.seen old
    × (l.steps ≡ l.fn.steps + length old)
    × (vec_len l.stack ≤ vec_len l.fn.stack)
    × (vec_capacity l.fn.stack ≤ vec_capacity l.stack)

abbrev pub decreases-search : goal.decreases-search
decreases-search g l = vec_len l.stack
