use Rattle.std.proofs.Common.{rules, ◌≡◌, ◌-◌, ◌+◌, ◌<◌, Err, ap, sym, ◌∙◌}
use Rattle.std.specs.Prelude.{⊤}
use Rattle.alias_flow.specs.Machine.{up}
use Rattle.alias_flow.specs.Runs.{solver_state}
use Rattle.alias_flow.proofs.check.Checking.{checks_along, fault_result}
use Rattle.alias_passage.specs.Passes.{blocks_passed}
use Rattle.alias_passage.proofs.Passing.{turns_next, turns_fault}
use Rattle.alias_passage.proofs.steps.pass_all.Goals as goal

pub returns-in_err-pass_turn-clause-passes : goal.returns-in_err-pass_turn-clause-passes
returns-in_err-pass_turn-clause-passes g c =
    let l = g.F.State.Lattice in
    let first = c.args.flow.now in
    let f = c.loop-block.flow in
    let now = c.pass_turn.new.flow in
    let i = c.loop-block.block in
    let n = c.blocks-count.result in
    let enter = g.G.Given.entering c.args.given.now in
    let w = solver_state c.loop-block.passage (g.F.Flow.tables f) (g.F.Flow.recorded f) in
    let v = solver_state c.pass_turn.new.passage (g.F.Flow.tables now) (g.F.Flow.recorded now) in
    let e = c.in_err-pass_turn.field-0.0 in
    let same : c.from_residual.result ≡ Err e = search rules in
    let lt : i < n = c.loop-block-test.true in
    λ lacks said.
    let all = blocks_passed l.join l.below c.args.empty.now (g.F.Flow.rules first) enter g.G.Given.unentered lacks
    c.args.marks.now (up 0 (g.F.Flow.rules first).blocks)
    (solver_state c.args.passage.now (g.F.Flow.tables first) (g.F.Flow.recorded first)) in
    let left = blocks_passed l.join l.below c.args.empty.now (g.F.Flow.rules f) enter g.G.Given.unentered lacks
    c.args.marks.now (up i (n - i)) w in
    fault_result g.F.Flow.cause all c.from_residual.result e v same
    (checks_along {B = ⊤} g.F.Flow.cause all left (Err e) v
    (ap (λ k. blocks_passed l.join l.below c.args.empty.now (g.F.Flow.rules first) enter g.G.Given.unentered lacks
    c.args.marks.now (up 0 k)
    (solver_state c.args.passage.now (g.F.Flow.tables first) (g.F.Flow.recorded first))) (sym c.blocks-count.ensures)
    ∙ sym (c.loop-block.invariant.4 lacks said))
    (turns_fault l.join l.below c.args.empty.now (g.F.Flow.rules f) enter g.G.Given.unentered lacks c.args.marks.now
    ⊤ ⊤ g.F.Flow.cause i n w v v e lt (c.in_err-pass_turn.ensures.passes lacks said)))

pub loop-block-preserved : goal.loop-block-preserved
loop-block-preserved g c =
    let l = g.F.State.Lattice in
    let f = c.loop-block.flow in
    let now = c.pass_turn.new.flow in
    let i = c.loop-block.block in
    let n = c.blocks-count.result in
    let enter = g.G.Given.entering c.args.given.now in
    let w = solver_state c.loop-block.passage (g.F.Flow.tables f) (g.F.Flow.recorded f) in
    let v = solver_state c.pass_turn.new.passage (g.F.Flow.tables now) (g.F.Flow.recorded now) in
    let p = c.in_ok-pass_turn.ensures in
    let inv = c.loop-block.invariant in
    let lt : i < n = c.loop-block-test.true in (
      p.same ∙ inv.0,
      p.borrows ∙ inv.1,
      p.arriving ∙ inv.2 ∙ ap (λ r. r.blocks) (sym p.same),
      p.entries ∙ inv.3 ∙ ap (λ r. r.blocks) (sym p.same),
      λ lacks said.
          ap (λ r. blocks_passed l.join l.below c.args.empty.now r enter g.G.Given.unentered lacks c.args.marks.now
          (up (i + 1) (n - (i + 1))) v) p.same
          ∙ turns_next l.join l.below c.args.empty.now (g.F.Flow.rules f) enter g.G.Given.unentered lacks
          c.args.marks.now i n w v lt (p.passes lacks said)
          ∙ inv.4 lacks said,
    )
