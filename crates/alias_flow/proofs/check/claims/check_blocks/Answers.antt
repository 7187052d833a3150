use Rattle.std.proofs.Common.{rules, ◌≡◌, ◌-◌, ◌+◌, ◌<◌, Err, length, refl, ap, sym, ◌∙◌, arith}
use Rattle.std.specs.Prelude.{⊤}
use Rattle.alias_flow.specs.Machine.{up}
use Rattle.alias_flow.specs.Runs.{solver_state}
use Rattle.alias_flow.specs.check.Checks.{blocks_checked}
use Rattle.alias_flow.proofs.check.Checking.{checks_along, fault_result, blocks_next, blocks_fault}
use Rattle.alias_flow.proofs.check.claims.check_blocks.Goals as goal

pub loop-block-init : goal.loop-block-init
loop-block-init g c =
    let l = g.F.State.Lattice in
    let f = c.args.flow.now in
    let e : c.args.count - 0 ≡ c.args.count = omega arith in (
      refl,
      refl,
      c.requires.arriving,
      λ differs claims.
          ap (λ n. blocks_checked l.join l.below (g.F.Flow.rules f) differs c.args.entries.now (up 0 n)
          (solver_state c.args.arriving.now (g.F.Flow.tables f) (g.F.Flow.recorded f))) e,
    )

pub returns-in_err-check_block-clause-checks : goal.returns-in_err-check_block-clause-checks
returns-in_err-check_block-clause-checks g c =
    let l = g.F.State.Lattice in
    let first = c.args.flow.now in
    let f = c.loop-block.flow in
    let now = c.check_block.new.flow in
    let i = c.loop-block.block in
    let n = c.args.count in
    let w = solver_state c.loop-block.arriving (g.F.Flow.tables f) (g.F.Flow.recorded f) in
    let v = solver_state c.check_block.new.arriving (g.F.Flow.tables now) (g.F.Flow.recorded now) in
    let e = c.in_err-check_block.field-0.0 in
    let same : c.from_residual.result ≡ Err e = search rules in
    let lt : i < n = c.loop-block-test.true in
    λ differs claims.
    let all = blocks_checked l.join l.below (g.F.Flow.rules first) differs c.args.entries.now (up 0 n)
    (solver_state c.args.arriving.now (g.F.Flow.tables first) (g.F.Flow.recorded first)) in
    let left = blocks_checked l.join l.below (g.F.Flow.rules f) differs c.args.entries.now (up i (n - i)) w in
    fault_result g.F.Flow.cause all c.from_residual.result e v same
    (checks_along {B = ⊤} g.F.Flow.cause all left (Err e) v (sym (c.loop-block.invariant.3 differs claims))
    (blocks_fault l.join l.below (g.F.Flow.rules f) differs c.args.entries.now ⊤ ⊤ g.F.Flow.cause i n w v v e lt
    (c.in_err-check_block.ensures.checks differs claims)))

pub loop-block-preserved : goal.loop-block-preserved
loop-block-preserved g c =
    let l = g.F.State.Lattice in
    let f = c.loop-block.flow in
    let now = c.check_block.new.flow in
    let i = c.loop-block.block in
    let n = c.args.count in
    let w = solver_state c.loop-block.arriving (g.F.Flow.tables f) (g.F.Flow.recorded f) in
    let v = solver_state c.check_block.new.arriving (g.F.Flow.tables now) (g.F.Flow.recorded now) in
    let p = c.in_ok-check_block.ensures in
    let inv = c.loop-block.invariant in
    let lt : i < n = c.loop-block-test.true in
    let long : length c.check_block.new.arriving ≡ (g.F.Flow.rules f).blocks = search rules in (
      p.same ∙ inv.0,
      p.borrows ∙ inv.1,
      long ∙ ap (λ r. r.blocks) (sym p.same),
      λ differs claims.
          ap (λ r. blocks_checked l.join l.below r differs c.args.entries.now (up (i + 1) (n - (i + 1))) v) p.same
          ∙ blocks_next l.join l.below (g.F.Flow.rules f) differs c.args.entries.now i n w v lt
          (p.checks differs claims)
          ∙ inv.3 differs claims,
    )

pub returns-clause-checks : goal.returns-clause-checks
returns-clause-checks g c =
    let l = g.F.State.Lattice in
    let f = c.loop-block.flow in
    let i = c.loop-block.block in
    let n = c.args.count in
    let none : n - i ≡ 0 = omega arith in
    λ differs claims.
    sym (c.loop-block.invariant.3 differs claims)
    ∙ ap (λ k. blocks_checked l.join l.below (g.F.Flow.rules f) differs c.args.entries.now (up i k)
    (solver_state c.loop-block.arriving (g.F.Flow.tables f) (g.F.Flow.recorded f))) none
