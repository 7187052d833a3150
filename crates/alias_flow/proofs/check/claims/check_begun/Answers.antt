use Rattle.std.proofs.Common.{rules, ◌≡◌, None, Some, Err, ap, sym, ◌∙◌, subst}
use Rattle.std.specs.Prelude.{⊤}
use Rattle.alias_base.specs.Answer.{◌>>=◌}
use Rattle.alias_flow.specs.Machine.{up}
use Rattle.alias_flow.specs.Runs.{solver_state}
use Rattle.alias_flow.specs.check.Checks.{ChecksInto, blocks_checked, joins_checked, not_joined}
use Rattle.alias_flow.specs.declared.check.fault.Unsolved.TheVariants as fault
use Rattle.alias_flow.proofs.check.Checking.{memory_result, fault_result, fault_first, joins_decide}
use Rattle.alias_flow.proofs.check.claims.check_begun.Goals as goal

pub returns-in_err-check_blocks-clause-checks : goal.returns-in_err-check_blocks-clause-checks
returns-in_err-check_blocks-clause-checks g c =
    let l = g.F.State.Lattice in
    let f = c.args.flow.now in
    let r = g.F.Flow.rules f in
    let now = c.check_blocks.new.flow in
    let w = solver_state c.args.arriving.now (g.F.Flow.tables f) (g.F.Flow.recorded f) in
    let v = solver_state c.check_blocks.new.arriving (g.F.Flow.tables now) (g.F.Flow.recorded now) in
    let e = c.in_err-check_blocks.field-0.0 in
    let same : c.from_residual.result ≡ Err e = search rules in
    λ differs claims.
    let joins = joins_checked l.join l.below r differs c.args.entries.now in
    fault_result g.F.Flow.cause (blocks_checked l.join l.below r differs c.args.entries.now (up 0 r.blocks) w >>= joins)
    c.from_residual.result e v same
    (fault_first ⊤ ⊤ g.F.Flow.cause (blocks_checked l.join l.below r differs c.args.entries.now (up 0 r.blocks) w) joins
    e v v
    (subst (λ n. ChecksInto {B = ⊤} g.F.Flow.cause
    (blocks_checked l.join l.below r differs c.args.entries.now (up 0 n) w) (Err e) v) c.blocks-count.ensures
    (c.in_err-check_blocks.ensures.checks differs claims)))

pub returns-in_err-block-clause-checks : goal.returns-in_err-block-clause-checks
returns-in_err-block-clause-checks g c =
    let l = g.F.State.Lattice in
    let f = c.args.flow.now in
    let r = g.F.Flow.rules f in
    let now = c.check_blocks.new.flow in
    let w = solver_state c.args.arriving.now (g.F.Flow.tables f) (g.F.Flow.recorded f) in
    let v = solver_state c.check_blocks.new.arriving (g.F.Flow.tables now) (g.F.Flow.recorded now) in
    let e = c.in_err-block.field-0.0 in
    let same : c.from_residual-in_err-block.result ≡ Err (fault.Memory e) = search rules in
    λ differs claims.
    memory_result g.F.Flow.cause (blocks_checked l.join l.below r differs c.args.entries.now (up 0 r.blocks) w
    >>= joins_checked l.join l.below r differs c.args.entries.now) c.from_residual-in_err-block.result e v same

pub returns-in-Some-clause-checks : goal.returns-in-Some-clause-checks
returns-in-Some-clause-checks g c =
    let l = g.F.State.Lattice in
    let f = c.args.flow.now in
    let r = g.F.Flow.rules f in
    let now = c.check_blocks.new.flow in
    let w = solver_state c.args.arriving.now (g.F.Flow.tables f) (g.F.Flow.recorded f) in
    let v = solver_state c.check_blocks.new.arriving (g.F.Flow.tables now) (g.F.Flow.recorded now) in
    λ differs claims.
    joins_decide l.join l.below r differs c.args.entries.now (up 0 r.blocks) w v (Some c.in-Some.block)
    (ap (λ n. blocks_checked l.join l.below r differs c.args.entries.now (up 0 n) w) (sym c.blocks-count.ensures)
    ∙ c.in_ok-check_blocks.ensures.checks differs claims)
    (sym c.in-Some.is ∙ c.in_ok-block.ensures
    ∙ ap (λ q. not_joined l.below q c.args.entries.now c.check_blocks.new.arriving)
    c.in_ok-check_blocks.ensures.same)

pub returns-in-None-clause-checks : goal.returns-in-None-clause-checks
returns-in-None-clause-checks g c =
    let l = g.F.State.Lattice in
    let f = c.args.flow.now in
    let r = g.F.Flow.rules f in
    let now = c.check_blocks.new.flow in
    let w = solver_state c.args.arriving.now (g.F.Flow.tables f) (g.F.Flow.recorded f) in
    let v = solver_state c.check_blocks.new.arriving (g.F.Flow.tables now) (g.F.Flow.recorded now) in
    λ differs claims.
    joins_decide l.join l.below r differs c.args.entries.now (up 0 r.blocks) w v None
    (ap (λ n. blocks_checked l.join l.below r differs c.args.entries.now (up 0 n) w) (sym c.blocks-count.ensures)
    ∙ c.in_ok-check_blocks.ensures.checks differs claims)
    (sym c.in-None.is ∙ c.in_ok-block.ensures
    ∙ ap (λ q. not_joined l.below q c.args.entries.now c.check_blocks.new.arriving)
    c.in_ok-check_blocks.ensures.same)
