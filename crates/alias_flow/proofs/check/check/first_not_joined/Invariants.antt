use Rattle.std.proofs.Common.{◌≡◌, ◌-◌}
use Rattle.alias_flow.specs.Machine.{up}
use Rattle.alias_flow.specs.check.Checks.{first_not_joined}
use Rattle.alias_flow.proofs.check.check.first_not_joined.Given as goal

abbrev pub invariant-loop-block : goal.invariant-loop-block
invariant-loop-block g l =
    first_not_joined g.S.Lattice.below l.entries l.arriving (up l.block (l.count - l.block))
    ≡ first_not_joined g.S.Lattice.below l.entries l.arriving (up 0 l.count)
