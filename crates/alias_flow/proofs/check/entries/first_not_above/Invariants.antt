use Rattle.std.proofs.Common.{◌≡◌, drop}
use Rattle.alias_flow.specs.check.Checks.{first_not_above}
use Rattle.alias_flow.proofs.check.entries.first_not_above.Given as goal

abbrev pub invariant-loop-block : goal.invariant-loop-block
invariant-loop-block g l =
    first_not_above g.S.Lattice.below l.entries l.state (drop l.block-index l.blocks)
    ≡ first_not_above g.S.Lattice.below l.entries l.state l.blocks
