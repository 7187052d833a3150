use Rattle.std.proofs.Common.{◌≡◌, drop}
use Rattle.alias_flow.specs.check.Checks.{first_not_above}
use Rattle.alias_passage.specs.Passes.{back_edges}
use Rattle.alias_passage.proofs.arriving.first_not_above.Given as goal

abbrev pub invariant-loop-edge : goal.invariant-loop-edge
invariant-loop-edge g l =
    first_not_above g.S.Lattice.below l.entries l.state (back_edges l.block (drop l.edge-index l.edges))
    ≡ first_not_above g.S.Lattice.below l.entries l.state (back_edges l.block l.edges)
