use Rattle.std.proofs.Common.{◌≡◌, false, None, Ok, Err, sym, subst, rules}
use Rattle.alias_base.specs.Answer.{Gives}
use Rattle.alias_certificate.specs.declared.fault.CheckFault.{CheckFault}
use Rattle.alias_cert.specs.function.Faults.{is_memory}
use Rattle.alias_cert.specs.Functions.{checking, said, summary_checked, root_checked}
use Rattle.alias_cert.proofs.Coming.{comes_with_fault, no_want, said_here, root_unsaid, root_refused, root_unfinished}
use Rattle.alias_cert.proofs.Coming.{root_comes}
use Rattle.alias_cert.proofs.functions.check_root.Goals as goal

pub returns-in_err-claimed : goal.returns-in_err-claimed
returns-in_err-claimed c =
    let functions = c.args.functions.now in
    let e : CheckFault = c.in_err-claimed.field-0.0 in
    let same : c.from_residual.result ≡ Err e = search rules in
    λ fs a. comes_with_fault (root_checked functions c.args.func.now (checking c.args.env.now fs))
    c.from_residual.result e c.args.func.now c.args.env.now c.args.solved.now same
    (λ free. root_unsaid functions c.args.func.now c.args.env.now fs e
    (said_here functions fs c.args.solved.now None (Err e) a
    (subst (λ n. said functions n None ≡ Err e) c.len.ensures c.in_err-claimed.ensures)))

pub returns-in_err-check_effects : goal.returns-in_err-check_effects
returns-in_err-check_effects c =
    let functions = c.args.functions.now in
    let claimed = c.in_ok-claimed.claimed.now in
    let e : CheckFault = c.in_err-check_effects.field-0.0 in
    let same : c.from_residual-in_err-check_effects.result ≡ Err e = search rules in
    λ fs a. comes_with_fault (root_checked functions c.args.func.now (checking c.args.env.now fs))
    c.from_residual-in_err-check_effects.result e c.check_effects.new.func c.check_effects.new.env
    c.check_effects.new.solved same
    (λ free. root_refused functions c.args.func.now c.args.env.now fs claimed
    (said_here functions fs c.args.solved.now None (Ok claimed) a
    (subst (λ n. said functions n None ≡ Ok claimed) c.len.ensures c.in_ok-claimed.ensures)) e
    (c.in_err-check_effects.ensures.run fs a free))

pub returns-in-Ok : goal.returns-in-Ok
returns-in-Ok c =
    let functions = c.args.functions.now in
    let claimed = c.in_ok-claimed.claimed.now in
    let p = c.check_effects in
    let q = c.infer_mutation_aliasing_ranges in
    λ fs a.
    let l = c.in_ok-check_effects.ensures.run fs a in
    root_comes functions c.args.func.now c.args.env.now fs claimed
    (said_here functions fs c.args.solved.now None (Ok claimed) a
    (subst (λ n. said functions n None ≡ Ok claimed) c.len.ensures c.in_ok-claimed.ensures))
    p.new.func p.new.env l.0 l.1 c.in-Ok.summary q.new.func q.new.env p.new.solved c.check_summary.result
    c.in-Ok.ensures.pass l.2
    (subst (λ s. Gives is_memory (summary_checked claimed s) c.check_summary.result) c.as_slice.ensures
    c.check_summary.ensures)

pub returns-in-Err : goal.returns-in-Err
returns-in-Err c =
    let functions = c.args.functions.now in
    let claimed = c.in_ok-claimed.claimed.now in
    let p = c.check_effects in
    λ fs a free.
    let l = c.in_ok-check_effects.ensures.run fs a in
    let not = subst (λ z. is_memory z ≡ false) c.range_fault.ensures free in
    subst (λ z. root_checked functions c.args.func.now (checking c.args.env.now fs) ≡ Err z) (sym c.range_fault.ensures)
    (root_unfinished functions c.args.func.now c.args.env.now fs claimed
    (said_here functions fs c.args.solved.now None (Ok claimed) a
    (subst (λ n. said functions n None ≡ Ok claimed) c.len.ensures c.in_ok-claimed.ensures))
    p.new.func p.new.env l.0 l.1 c.in-Err.error (c.in-Err.ensures.pass (no_want None c.in-Err.error not)).0)
