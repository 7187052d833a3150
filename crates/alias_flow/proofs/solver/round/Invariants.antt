use Rattle.std.proofs.Common.{◌≡◌, ◌-◌, vec_len}
use Rattle.alias_flow.specs.Machine.{up}
use Rattle.alias_flow.specs.WorkLists.{work_list_round}
use Rattle.alias_flow.specs.WorkListViews.{work_list_of}
use Rattle.alias_flow.specs.Runs.{solver_state}
use Rattle.alias_flow.proofs.solver.round.Given as goal

abbrev pub invariant-loop-block : goal.invariant-loop-block
invariant-loop-block g l =
    let rules = g.F.Flow.rules l.flow in
    let lattice = g.F.State.Lattice in
    (rules ≡ g.F.Flow.rules l.initial.flow)
    × (g.F.Flow.borrows l.flow ≡ g.F.Flow.borrows l.initial.flow)
    × (vec_len l.work_list.joined_input ≡ rules.blocks)
    × (vec_len l.work_list.dirty ≡ rules.blocks)
    × (work_list_round lattice.join lattice.below rules
    (solver_state (work_list_of l.work_list) (g.F.Flow.tables l.flow) (g.F.Flow.recorded l.flow))
    (up l.block (l.count - l.block))
    ≡ work_list_round lattice.join lattice.below (g.F.Flow.rules l.initial.flow)
    (solver_state (work_list_of l.initial.work_list) (g.F.Flow.tables l.initial.flow)
    (g.F.Flow.recorded l.initial.flow)) (up 0 l.count))
