use Rattle.std.proofs.Common.{rules, ◌≡◌, ◌<◌, None, Some, Err, length, get_or, ap, sym, ◌∙◌, subst}
use Rattle.std.specs.Prelude.{⊤}
use Rattle.std.proofs.lemmas.List.{get_or-set_same}
use Rattle.alias_lattice.specs.Flows.{Stepped}
use Rattle.alias_flow.specs.Runs.{solver_state}
use Rattle.alias_flow.specs.Solutions.{entry_at}
use Rattle.alias_flow.specs.check.Checks.{ChecksInto, outcome_checked, block_checked}
use Rattle.alias_flow.specs.declared.check.fault.Unsolved.TheVariants as fault
use Rattle.alias_flow.proofs.check.Checking.{checks_along, memory_result, block_steps, block_skipped, refused_checks}
use Rattle.alias_flow.proofs.check.claims.check_block.Goals as goal

pub returns-in_default-clause-checks : goal.returns-in_default-clause-checks
returns-in_default-clause-checks g c =
    let l = g.F.State.Lattice in
    let f = c.args.flow.now in
    let none : entry_at c.args.entries.now c.args.block ≡ None = first_of (cc (c.in_default.ensures), search rules) in
    λ differs claims. block_skipped l.join l.below (g.F.Flow.rules f) differs c.args.entries.now c.args.block
    (solver_state c.args.arriving.now (g.F.Flow.tables f) (g.F.Flow.recorded f)) none

pub returns-in_err-out-clause-checks : goal.returns-in_err-out-clause-checks
returns-in_err-out-clause-checks g c =
    let l = g.F.State.Lattice in
    let f = c.args.flow.now in
    let w = solver_state c.args.arriving.now (g.F.Flow.tables f) (g.F.Flow.recorded f) in
    let e = c.in_err-out.field-0.0 in
    let same : c.from_residual.result ≡ Err (fault.Memory e) = search rules in
    λ differs claims. memory_result g.F.Flow.cause
    (block_checked l.join l.below (g.F.Flow.rules f) differs c.args.entries.now c.args.block w)
    c.from_residual.result e w same

pub returns-in-Ok-clause-checks : goal.returns-in-Ok-clause-checks
returns-in-Ok-clause-checks g c =
    let l = g.F.State.Lattice in
    let f = c.args.flow.now in
    let r = g.F.Flow.rules f in
    let b = c.args.block in
    let w = solver_state c.args.arriving.now (g.F.Flow.tables f) (g.F.Flow.recorded f) in
    let s = c.in-Ok.ensures.outcome in
    let now = c.step.new.self in
    let o = Stepped c.step.new.state (g.F.Flow.tables now) s.0 in
    let long : length (g.F.Flow.recorded f) ≡ r.blocks = (g.met.F.Flow.laws f).recorded_length in
    let within : b < length (g.F.Flow.recorded f) = subst (λ n. b < n) (sym long) c.requires.block in
    let here : get_or (g.F.Flow.recorded now) b None ≡ Some s.0 = ap (λ ks. get_or ks b None) s.2
    ∙ get_or-set_same (g.F.Flow.recorded f) b (Some s.0) None within in
    λ differs claims.
    checks_along g.F.Flow.cause (block_checked l.join l.below r differs c.args.entries.now b w)
    (outcome_checked l.join l.below r differs c.args.entries.now b w o) c.check_out.result
    (solver_state c.check_out.new.arriving (g.F.Flow.tables now) (g.F.Flow.recorded now))
    (block_steps l.join l.below r differs c.args.entries.now b w c.in-Some.state.now o (sym c.in-Some.ensures)
    (ap (λ x. r.flow.step (g.F.Flow.tables f) b x) (sym c.in_ok-out.ensures) ∙ s.1))
    (subst (λ q. ChecksInto g.F.Flow.cause
    (outcome_checked l.join l.below q differs c.args.entries.now b
    (solver_state c.args.arriving.now (g.F.Flow.tables now) (g.F.Flow.recorded f)) o) c.check_out.result
    (solver_state c.check_out.new.arriving (g.F.Flow.tables now) (g.F.Flow.recorded now))) c.in-Ok.ensures.same
    (c.check_out.ensures differs (g.F.Flow.recorded f) s.0 claims here s.2))

pub returns-clause-checks : goal.returns-clause-checks
returns-clause-checks g c =
    let l = g.F.State.Lattice in
    let f = c.args.flow.now in
    let r = g.F.Flow.rules f in
    let b = c.args.block in
    let w = solver_state c.args.arriving.now (g.F.Flow.tables f) (g.F.Flow.recorded f) in
    let now = c.step.new.self in
    let v = solver_state c.args.arriving.now (g.F.Flow.tables now) (g.F.Flow.recorded now) in
    let o = r.flow.step (g.F.Flow.tables f) b c.in_ok-out.out in
    λ differs claims.
    checks_along {B = ⊤} g.F.Flow.cause (block_checked l.join l.below r differs c.args.entries.now b w)
    (outcome_checked l.join l.below r differs c.args.entries.now b w o) (Err c.refused.result) v
    (block_steps l.join l.below r differs c.args.entries.now b w c.in-Some.state.now o (sym c.in-Some.ensures)
    (ap (λ x. r.flow.step (g.F.Flow.tables f) b x) (sym c.in_ok-out.ensures)))
    (subst (λ z. ChecksInto {B = ⊤} g.F.Flow.cause (outcome_checked l.join l.below r differs c.args.entries.now b w o)
    (Err z) v) (sym c.refused.ensures)
    (refused_checks l.join l.below r differs c.args.entries.now ⊤ g.F.Flow.cause b w v o c.in-Err.fault c.step.new.state
    (g.F.Flow.tables now) (g.F.Flow.recorded f) (g.F.Flow.recorded now) c.in-Err.ensures.outcome))
