use Rattle.std.proofs.Common.{◌+◌, ◌-◌, ap, sym, ◌∙◌, arith}
use Rattle.alias_flow.specs.WorkLists.{work_list_round, work_list_rounds}
use Rattle.alias_flow.specs.Machine.{up, ending}
use Rattle.alias_flow.specs.WorkListViews.{work_list_of}
use Rattle.alias_flow.specs.Runs.{solver_state}
use Rattle.alias_flow.proofs.Ending.{rounds_stopped}
use Rattle.alias_flow.proofs.Rounds.{rounds_more, rounds_settled}
use Rattle.alias_flow.proofs.solver.rounds.Goals as goal

-- with nothing dirty no round is left to do
pub returns-then-not-any_dirty-clause-run : goal.returns-then-not-any_dirty-clause-run
returns-then-not-any_dirty-clause-run g c =
    let l = g.F.State.Lattice in
    let f = c.rounds.flow in
    let w = solver_state (work_list_of c.rounds.work_list) (g.F.Flow.tables f) (g.F.Flow.recorded f) in
    let clean = sym c.if-not-any_dirty.ensures in
    sym c.rounds.invariant.4 ∙ rounds_settled l.join l.below (g.F.Flow.rules f) _ w clean
    ∙ sym (rounds_settled l.join l.below (g.F.Flow.rules c.args.flow.now) 0 w clean)

pub returns-in_err-round-clause-run : goal.returns-in_err-round-clause-run
returns-in_err-round-clause-run g c =
    let l = g.F.State.Lattice in
    let f = c.rounds.flow in
    let w = solver_state (work_list_of c.rounds.work_list) (g.F.Flow.tables f) (g.F.Flow.recorded f) in
    let rest = work_list_rounds l.join l.below (g.F.Flow.rules f) (100 - (c.rounds.counter + 1)) in
    rounds_stopped g.F.Flow.cause _ rest _
    (sym c.rounds.invariant.4 ∙ rounds_more l.join l.below (g.F.Flow.rules f) c.rounds.counter w (omega arith)
    (sym c.if-not-any_dirty.ensures)
    ∙ ap (λ n. ending (work_list_round l.join l.below (g.F.Flow.rules f) w (up 0 n)) rest) (sym c.rounds.invariant.1))
    c.in_err-round.field-0.0 c.in_err-round.ensures.run _ c.from_residual.ensures.1 _
