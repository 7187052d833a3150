use Rattle.std.proofs.Common.{◌≡◌, drop, length}
use Rattle.alias_flow.specs.Machine.{send_all}
use Rattle.alias_passage.specs.Passes.{forward_edges}
use Rattle.alias_passage.proofs.arriving.arrive_copied.Given as goal

abbrev pub invariant-loop-edge : goal.invariant-loop-edge
invariant-loop-edge g l =
    (length l.arriving ≡ length l.initial.arriving)
    × (send_all g.S.Lattice.join l.state l.arriving (forward_edges l.block (drop l.edge-index l.edges))
    ≡ send_all g.S.Lattice.join l.state l.initial.arriving (forward_edges l.block l.edges))
