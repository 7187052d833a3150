use Rattle.std.proofs.Common.{◌≡◌, ◌+◌, false}
use Rattle.alias_graph.specs.Cutting.{FlagsGrow, unflagged, IsClosed}
use Rattle.alias_graph.specs.Reach.{once}
use Rattle.alias_graph.proofs.part.flag_part.Given as goal

abbrev pub invariant-part : goal.invariant-part
invariant-part l =
    FlagsGrow l.fn.flags.items l.flags.items
    × (l.more ≡ false → IsClosed l.links l.nodes l.flags.items)

abbrev pub decreases-part : goal.decreases-part
decreases-part l = unflagged l.flags.items + once l.more
