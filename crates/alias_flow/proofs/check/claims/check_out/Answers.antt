use Rattle.std.proofs.Common.{rules, ◌≡◌, None, Some, Err, sym, ◌∙◌}
use Rattle.alias_lattice.specs.Flows.{Stepped}
use Rattle.alias_flow.specs.Runs.{solver_state}
use Rattle.alias_flow.specs.check.Checks.{outcome_checked}
use Rattle.alias_flow.specs.declared.check.fault.Unsolved.TheVariants as fault
use Rattle.alias_flow.proofs.check.Checking.{memory_result, passed_is, differs_is, out_passes}
use Rattle.alias_flow.proofs.check.claims.check_out.Goals as goal

pub returns-in_err-difference : goal.returns-in_err-difference
returns-in_err-difference g c =
    let l = g.F.State.Lattice in
    let f = c.args.flow.now in
    let e = c.in_err-difference.field-0.0 in
    let same : c.from_residual.result ≡ Err (fault.Memory e) = search rules in
    λ differs before k claims here was.
    memory_result g.F.Flow.cause (outcome_checked l.join l.below (g.F.Flow.rules f) differs c.args.entries.now
    c.args.block (solver_state c.args.arriving.now (g.F.Flow.tables f) before)
    (Stepped c.args.out.now (g.F.Flow.tables f) k))
    c.from_residual.result e (solver_state c.args.arriving.now (g.F.Flow.tables f) (g.F.Flow.recorded f)) same

pub returns-in-Some : goal.returns-in-Some
returns-in-Some g c =
    let l = g.F.State.Lattice in
    let f = c.args.flow.now in
    λ differs before k claims here was.
    differs_is l.join l.below (g.F.Flow.rules f) differs c.args.entries.now c.args.block
    (solver_state c.args.arriving.now (g.F.Flow.tables f) before) c.args.out.now (g.F.Flow.tables f) k
    c.in-Some.difference
    (sym c.in-Some.is ∙ c.in_ok-difference.ensures ∙ claims f c.args.block k here)

pub returns-in_err-successor : goal.returns-in_err-successor
returns-in_err-successor g c =
    let l = g.F.State.Lattice in
    let f = c.args.flow.now in
    let e = c.in_err-successor.field-0.0 in
    let same : c.from_residual-in_err-successor.result ≡ Err (fault.Memory e) = search rules in
    λ differs before k claims here was.
    memory_result g.F.Flow.cause (outcome_checked l.join l.below (g.F.Flow.rules f) differs c.args.entries.now
    c.args.block (solver_state c.args.arriving.now (g.F.Flow.tables f) before)
    (Stepped c.args.out.now (g.F.Flow.tables f) k))
    c.from_residual-in_err-successor.result e
    (solver_state c.pass_on.new.arriving (g.F.Flow.tables f) (g.F.Flow.recorded f)) same

pub returns-in-Some-2 : goal.returns-in-Some-2
returns-in-Some-2 g c =
    let l = g.F.State.Lattice in
    let f = c.args.flow.now in
    let none : c.in_ok-difference.field-0 ≡ None = search rules in
    λ differs before k claims here was.
    passed_is l.join l.below (g.F.Flow.rules f) differs c.args.entries.now c.args.block
    (solver_state c.args.arriving.now (g.F.Flow.tables f) before) c.args.out.now (g.F.Flow.tables f) k None
    (Some c.in-Some-2.successor)
    (sym none ∙ c.in_ok-difference.ensures ∙ claims f c.args.block k here)
    (sym c.in-Some-2.is ∙ c.in_ok-successor.ensures.answer)

pub returns-in-None : goal.returns-in-None
returns-in-None g c =
    let l = g.F.State.Lattice in
    let f = c.args.flow.now in
    let none : c.in_ok-difference.field-0 ≡ None = search rules in
    λ differs before k claims here was.
    out_passes l.join l.below (g.F.Flow.rules f) differs c.args.entries.now c.args.block c.args.arriving.now
    c.pass_on.new.arriving before (g.F.Flow.recorded f) c.args.out.now (g.F.Flow.tables f) k
    (sym none ∙ c.in_ok-difference.ensures ∙ claims f c.args.block k here)
    (sym c.in-None.is ∙ c.in_ok-successor.ensures.answer) (c.in_ok-successor.ensures.arriving c.in-None.is) was
