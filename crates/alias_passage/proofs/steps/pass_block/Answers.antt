use Rattle.std.proofs.Common.{rules, ◌≡◌, ◌++◌, ◌∷◌, [], Some, None, ap, sym, ◌∙◌, subst}
use Rattle.std.specs.Prelude.{slice_set}
use Rattle.alias_lattice.specs.Flows.{Stepped}
use Rattle.alias_flow.specs.Runs.{solver_state}
use Rattle.alias_flow.specs.check.Checks.{ChecksInto}
use Rattle.alias_flow.proofs.check.Checking.{checks_along}
use Rattle.alias_passage.specs.Passes.{outcome_passed, block_passed, entered}
use Rattle.alias_passage.proofs.Passing.{block_enters}
use Rattle.alias_passage.proofs.steps.pass_block.Goals as goal

pub returns-in-Ok-clause-passes : goal.returns-in-Ok-clause-passes
returns-in-Ok-clause-passes g c =
    let l = g.F.State.Lattice in
    let f = c.args.flow.now in
    let r = g.F.Flow.rules f in
    let b = c.args.block in
    let p = c.args.passage.now in
    let w = solver_state p (g.F.Flow.tables f) (g.F.Flow.recorded f) in
    let s = c.in-Ok.ensures.outcome in
    let now = c.step.new.self in
    let o = Stepped c.step.new.state (g.F.Flow.tables now) s.0 in
    let enter = g.G.Given.entering c.args.given.now in
    let is : Some (c.in-Some.entered, c.in-Some.more) ≡ enter b c.in_ok-arrived.arrived = search rules in
    let noted : c.note_entry.new.passage ≡ record {
      arriving = slice_set p.arriving b None;
      entries = slice_set p.entries b (Some c.in-Some.entered);
      beyond = p.beyond ++ c.in-Some.more ∷ [];
    } = c.in_ok-note_entry.ensures ∙ ap (λ q. record {
      arriving = q.arriving;
      entries = slice_set q.entries b (Some c.in-Some.entered);
      beyond = q.beyond ++ c.in-Some.more ∷ [];
    }) c.in_ok-arrived.ensures.taken in
    λ lacks said.
    let out = subst (λ q. ChecksInto g.F.Flow.cause
    (outcome_passed l.join l.below c.args.empty.now q enter g.G.Given.unentered lacks b
    (solver_state c.note_entry.new.passage (g.F.Flow.tables now) (g.F.Flow.recorded f)) o) c.pass_out.result
    (solver_state c.pass_out.new.passage (g.F.Flow.tables now) (g.F.Flow.recorded now))) c.in-Ok.ensures.same
    (c.pass_out.ensures.passes c.args.empty.now lacks (g.F.Flow.recorded f) s.0 said s.2) in
    checks_along g.F.Flow.cause
    (block_passed l.join l.below c.args.empty.now r enter g.G.Given.unentered lacks b w)
    (outcome_passed l.join l.below c.args.empty.now r enter g.G.Given.unentered lacks b
    (entered l.join l.below c.args.empty.now r enter g.G.Given.unentered lacks b
    (c.in-Some.entered, c.in-Some.more) w) o) c.pass_out.result
    (solver_state c.pass_out.new.passage (g.F.Flow.tables now) (g.F.Flow.recorded now))
    (block_enters l.join l.below c.args.empty.now r enter g.G.Given.unentered lacks b w c.in_ok-arrived.arrived
    (c.in-Some.entered, c.in-Some.more) o
    c.in_ok-arrived.ensures.arrived is
    (ap (λ x. r.flow.step (g.F.Flow.tables f) b x) (sym c.in_ok-out.ensures) ∙ s.1))
    (subst (λ q. ChecksInto g.F.Flow.cause
    (outcome_passed l.join l.below c.args.empty.now r enter g.G.Given.unentered lacks b
    (solver_state q (g.F.Flow.tables f) (g.F.Flow.recorded f)) o) c.pass_out.result
    (solver_state c.pass_out.new.passage (g.F.Flow.tables now) (g.F.Flow.recorded now))) noted out)
