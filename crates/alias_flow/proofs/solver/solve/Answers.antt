use Rattle.std.proofs.Common.{ap, sym, ◌∙◌}
use Rattle.alias_flow.specs.WorkLists.{work_list_rounds}
use Rattle.alias_flow.specs.WorkListViews.{work_list_of}
use Rattle.alias_flow.specs.Runs.{solver_state}
use Rattle.alias_flow.proofs.Ending.{passed_on}
use Rattle.alias_flow.proofs.Rounds.{solution_is}
use Rattle.alias_flow.proofs.Settling.{all_claims}
use Rattle.alias_flow.proofs.solver.solve.Goals as goal

pub returns : goal.returns
returns g c =
    let l = g.F.State.Lattice in
    let start = c.args.flow.now in
    let f = c.rounds.new.flow in
    let tables = g.F.Flow.tables start in
    let begun = rw (
      c.in_ok-work_list.ensures.visits,
      c.in_ok-work_list.ensures.joined_input,
      c.in_ok-work_list.ensures.dirty,
      c.in_ok-initial.ensures,
      c.entry-entry.ensures,
      c.blocks-count.ensures,
    ) at
    c.in_ok-send_state.ensures.joined_input in
    let whole =
    solution_is l.join l.below (g.F.Flow.rules start) tables (g.F.Flow.recorded start)
    ∙ sym (ap (λ d. work_list_rounds l.join l.below (g.F.Flow.rules start) 100
    (solver_state d tables (g.F.Flow.recorded start))) begun)
    ∙ c.in_ok-rounds.ensures.run in
    let v = solver_state (work_list_of c.rounds.new.work_list) (g.F.Flow.tables f) (g.F.Flow.recorded f) in
    let all = all_claims g.met.F.State.Lattice.laws (g.met.F.Flow.laws start) tables g.F.Flow.cause (g.F.Flow.rules f)
    c.in_ok-rounds.ensures.same v whole c.settled.result c.settled.ensures in
    record {
      end = all.ends;
      solves = all.solves;
      keeps = all.keeps;
      others = all.others;
      count = all.count;
      same = c.in_ok-rounds.ensures.same;
      joins = all.joins;
      settles = all.settles;
      borrows = c.in_ok-rounds.ensures.borrows;
    }

pub returns-in_err-rounds-clause-end : goal.returns-in_err-rounds-clause-end
returns-in_err-rounds-clause-end g c =
    let l = g.F.State.Lattice in
    let start = c.args.flow.now in
    let tables = g.F.Flow.tables start in
    let begun = rw (
      c.in_ok-work_list.ensures.visits,
      c.in_ok-work_list.ensures.joined_input,
      c.in_ok-work_list.ensures.dirty,
      c.in_ok-initial.ensures,
      c.entry-entry.ensures,
      c.blocks-count.ensures,
    ) at
    c.in_ok-send_state.ensures.joined_input in
    let whole =
    solution_is l.join l.below (g.F.Flow.rules start) tables (g.F.Flow.recorded start)
    ∙ sym (ap (λ d. work_list_rounds l.join l.below (g.F.Flow.rules start) 100
    (solver_state d tables (g.F.Flow.recorded start))) begun) in
    passed_on g.met.F.State.Lattice.laws (g.met.F.Flow.laws start) tables g.F.Flow.cause _ whole
    c.in_err-rounds.field-0.0 c.in_err-rounds.ensures.run _ c.from_residual-in_err-rounds.ensures.1 _ _
