use Rattle.std.proofs.Common.{◌≡◌, ◌-◌, length}
use Rattle.alias_flow.specs.Machine.{up}
use Rattle.alias_flow.specs.Runs.{solver_state}
use Rattle.alias_passage.specs.Givens.{Lacks}
use Rattle.alias_passage.specs.Passes.{blocks_passed}
use Rattle.alias_passage.proofs.steps.pass_all.Given as goal

abbrev pub invariant-loop-block : goal.invariant-loop-block
invariant-loop-block g l =
    let rules = g.F.Flow.rules l.flow in
    let lattice = g.F.State.Lattice in
    (rules ≡ g.F.Flow.rules l.initial.flow)
    × (g.F.Flow.borrows l.flow ≡ g.F.Flow.borrows l.initial.flow)
    × (length l.passage.arriving ≡ rules.blocks)
    × (length l.passage.entries ≡ rules.blocks)
    × ((lacks : _) → Lacks g.F.Flow.tables (g.G.Given.lacking l.given) lacks
    → blocks_passed lattice.join lattice.below l.empty rules (g.G.Given.entering l.given) g.G.Given.unentered lacks
    l.marks (up l.block (l.count - l.block))
    (solver_state l.passage (g.F.Flow.tables l.flow) (g.F.Flow.recorded l.flow))
    ≡ blocks_passed lattice.join lattice.below l.empty (g.F.Flow.rules l.initial.flow) (g.G.Given.entering l.given)
    g.G.Given.unentered lacks l.marks (up 0 l.count)
    (solver_state l.initial.passage (g.F.Flow.tables l.initial.flow) (g.F.Flow.recorded l.initial.flow)))
