use Rattle.std.proofs.Common.{◌+◌, ◌≤◌, vec_len}
use Rattle.alias_graph.specs.Cutting.{FlagsGrow, unflagged}
use Rattle.alias_graph.proofs.part.spread.Given as goal

abbrev pub invariant-spread : goal.invariant-spread
invariant-spread l =
    FlagsGrow l.fn.flags.items l.flags.items
    × (vec_len l.stack + unflagged l.flags.items ≤ vec_len l.fn.stack + unflagged l.fn.flags.items)

abbrev pub decreases-spread : goal.decreases-spread
decreases-spread l = vec_len l.stack + unflagged l.flags.items
