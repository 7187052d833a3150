use Rattle.std.proofs.Common.{◌≡◌, ◌-◌, length}
use Rattle.alias_flow.specs.Machine.{up}
use Rattle.alias_flow.specs.Runs.{solver_state}
use Rattle.alias_flow.specs.check.Checks.{blocks_checked}
use Rattle.alias_flow.specs.check.Claims.{AreClaims}
use Rattle.alias_flow.proofs.check.claims.check_blocks.Given as goal

abbrev pub invariant-loop-block : goal.invariant-loop-block
invariant-loop-block g l =
    let rules = g.F.Flow.rules l.flow in
    let lattice = g.F.State.Lattice in
    (rules ≡ g.F.Flow.rules l.initial.flow)
    × (g.F.Flow.borrows l.flow ≡ g.F.Flow.borrows l.initial.flow)
    × (length l.arriving ≡ rules.blocks)
    × ((differs : _) → AreClaims g.F.Flow.tables g.F.Flow.recorded g.F.ClaimedFlow.found l.claims differs
    → blocks_checked lattice.join lattice.below rules differs l.entries (up l.block (l.count - l.block))
    (solver_state l.arriving (g.F.Flow.tables l.flow) (g.F.Flow.recorded l.flow))
    ≡ blocks_checked lattice.join lattice.below (g.F.Flow.rules l.initial.flow) differs l.entries (up 0 l.count)
    (solver_state l.initial.arriving (g.F.Flow.tables l.initial.flow) (g.F.Flow.recorded l.initial.flow)))
