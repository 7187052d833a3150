use Rattle.std.proofs.Common.{◌≡◌, ◌-◌, length}
use Rattle.alias_flow.specs.Machine.{up}
use Rattle.alias_flow.specs.ForwardPasses.{forward_round}
use Rattle.alias_flow.specs.Runs.{solver_state}
use Rattle.alias_flow.proofs.forward.forward_round.Given as goal

abbrev pub invariant-loop-block : goal.invariant-loop-block
invariant-loop-block g l =
    let rules = g.F.Flow.rules l.flow in
    let lattice = g.F.State.Lattice in
    (rules ≡ g.F.Flow.rules l.initial.flow)
    × (g.F.Flow.borrows l.flow ≡ g.F.Flow.borrows l.initial.flow)
    × (length l.waiting ≡ rules.blocks)
    × (forward_round lattice.join rules (solver_state l.waiting (g.F.Flow.tables l.flow) (g.F.Flow.recorded l.flow))
    (up l.block (l.count - l.block))
    ≡ forward_round lattice.join (g.F.Flow.rules l.initial.flow)
    (solver_state l.initial.waiting (g.F.Flow.tables l.initial.flow) (g.F.Flow.recorded l.initial.flow))
    (up 0 l.count))
