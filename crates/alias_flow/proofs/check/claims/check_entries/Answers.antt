use Rattle.std.proofs.Common.{rules, ◌≡◌, [], None, Some, Err}
use Rattle.alias_flow.specs.Runs.{solver_state}
use Rattle.alias_flow.specs.check.Checks.{begins, solution_checked}
use Rattle.alias_flow.specs.check.Claims.{begun_checked}
use Rattle.alias_flow.specs.declared.check.fault.Unsolved.TheVariants as fault
use Rattle.alias_flow.proofs.check.Checking.{checks_along, memory_result, not_begun, has_begun, begun_long}
use Rattle.alias_flow.proofs.check.claims.check_entries.Goals as goal

pub returns-in_err-arriving-clause-checks : goal.returns-in_err-arriving-clause-checks
returns-in_err-arriving-clause-checks g c =
    let l = g.F.State.Lattice in
    let f = c.args.flow.now in
    let e = c.in_err-arriving.field-0.0 in
    let same : c.from_residual.result ≡ Err (fault.Memory e) = search rules in
    λ differs claims. (
      [],
      memory_result g.F.Flow.cause
          (solution_checked l.join l.below (g.F.Flow.rules f) differs c.args.entries.now (g.F.Flow.tables f)
          (g.F.Flow.recorded f)) c.from_residual.result e (solver_state [] (g.F.Flow.tables f) (g.F.Flow.recorded f))
          same,
    )

pub returns-in_default-clause-checks : goal.returns-in_default-clause-checks
returns-in_default-clause-checks g c =
    let l = g.F.State.Lattice in
    let f = c.args.flow.now in
    let none : begins l.join l.below (g.F.Flow.rules f) c.args.entries.now ≡ None = search rules in
    λ differs claims. (
      [],
      not_begun l.join l.below (g.F.Flow.rules f) differs c.args.entries.now (g.F.Flow.tables f)
          (g.F.Flow.recorded f) none,
    )

pub check_begun-requires : goal.check_begun-requires
check_begun-requires g c =
    let l = g.F.State.Lattice in
    let begun : begins l.join l.below (g.F.Flow.rules c.args.flow.now) c.args.entries.now
    ≡ Some c.in-Some.arriving.items = search rules in
    let long = begun_long l.join l.below (g.F.Flow.rules c.args.flow.now) c.args.entries.now c.in-Some.arriving.items
    begun in
    search rules

pub returns-clause-checks : goal.returns-clause-checks
returns-clause-checks g c =
    let l = g.F.State.Lattice in
    let f = c.args.flow.now in
    let r = g.F.Flow.rules f in
    let xs = c.as_mut_slice.result.now in
    let now = c.check_begun.new.flow in
    let begun : begins l.join l.below r c.args.entries.now ≡ Some xs = search rules in
    λ differs claims. (
      c.check_begun.new.arriving,
      checks_along g.F.Flow.cause (solution_checked l.join l.below r differs c.args.entries.now (g.F.Flow.tables f)
          (g.F.Flow.recorded f)) (begun_checked l.join l.below r differs c.args.entries.now
          (solver_state xs (g.F.Flow.tables f) (g.F.Flow.recorded f))) c.check_begun.result
          (solver_state c.check_begun.new.arriving (g.F.Flow.tables now) (g.F.Flow.recorded now))
          (has_begun l.join l.below r differs c.args.entries.now (g.F.Flow.tables f) (g.F.Flow.recorded f) xs begun)
          (c.check_begun.ensures.checks differs claims),
    )
