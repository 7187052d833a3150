use Rattle.std.proofs.Common.{subst}
use Rattle.alias_flow.specs.Machine.{up}
use Rattle.alias_flow.specs.ForwardPasses.{forward_round}
use Rattle.alias_flow.specs.Runs.{solver_state, RunGives}
use Rattle.alias_flow.proofs.ForwardRuns.{forward_gives}
use Rattle.alias_flow.proofs.forward.solve_forward.Goals as goal

-- the one round answers for the whole
pub returns-clause-end : goal.returns-clause-end
returns-clause-end g c =
    let l = g.F.State.Lattice in
    let f = c.args.flow.now in
    let tables = g.F.Flow.tables f in
    let recorded = g.F.Flow.recorded f in
    let left = solver_state c.forward_round.new.waiting (g.F.Flow.tables c.forward_round.new.flow)
    (g.F.Flow.recorded c.forward_round.new.flow) in
    let begun = rw (
      c.as_mut_slice-waiting.ensures.value,
      c.in_ok-states.ensures.items,
      c.in_ok-initial.ensures,
      c.entry-entry.ensures,
      c.blocks-count.ensures,
    ) at c.in_ok-send_state.ensures in
    let all = subst (λ n. RunGives g.F.Flow.cause
    (forward_round l.join (g.F.Flow.rules f) (solver_state c.send_state.new.joined_input tables recorded) (up 0 n))
    c.forward_round.result left) c.blocks-count.ensures c.forward_round.ensures.run in
    let run = subst (λ s. RunGives g.F.Flow.cause
    (forward_round l.join (g.F.Flow.rules f) (solver_state s tables recorded) (up 0 (g.F.Flow.rules f).blocks))
    c.forward_round.result left) begun all in
    forward_gives g.met.F.State.Lattice.laws (g.met.F.Flow.laws f) c.requires.forward tables g.F.Flow.cause
    c.forward_round.result left run
