use Rattle.std.proofs.Common.{◌≡◌, false, Some, Ok, Err, refl, sym, subst, rules}
use Rattle.alias_certificate.specs.declared.fault.CheckFault.{CheckFault}
use Rattle.alias_cert.specs.function.Faults.{is_memory}
use Rattle.alias_nested.proofs.Keeping.{kept_pruned, kept_unchanged}
use Rattle.alias_fitting_laws.specs.pruning.PruningLaws.{function_through}
use Rattle.alias_cert.specs.Functions.{checking, said, nested_checked}
use Rattle.alias_cert.proofs.Coming.{comes_with_fault, no_want, said_here, nested_unsaid, nested_refused}
use Rattle.alias_cert.proofs.Coming.{nested_unfinished, nested_comes}
use Rattle.alias_cert.proofs.functions.check_nested.Goals as goal

pub returns-in_err-claimed-clause-run : goal.returns-in_err-claimed-clause-run
returns-in_err-claimed-clause-run c =
    let functions = c.args.functions.now in
    let e : CheckFault = c.in_err-claimed.field-0.0 in
    let same : c.from_residual.result ≡ Err e = search rules in
    λ fs a. comes_with_fault (nested_checked functions c.args.id c.args.func.now (checking c.args.env.now fs))
    c.from_residual.result e c.args.func.now c.args.env.now c.args.solved.now same
    (λ free. nested_unsaid functions c.args.id c.args.func.now c.args.env.now fs e
    (said_here functions fs c.args.solved.now (Some c.args.id) (Err e) a
    (subst (λ n. said functions n (Some c.args.id) ≡ Err e) c.len.ensures c.in_err-claimed.ensures)))

pub returns-in_err-claimed-clause-kept : goal.returns-in_err-claimed-clause-kept
returns-in_err-claimed-clause-kept c = kept_pruned c.args.func.now c.args.env.now c.args.func.now c.args.env.now
    (kept_unchanged c.args.func.now c.args.func.now c.args.env.now c.args.env.now refl refl c.requires)

pub returns-in_err-check_effects-clause-run : goal.returns-in_err-check_effects-clause-run
returns-in_err-check_effects-clause-run c =
    let functions = c.args.functions.now in
    let claimed = c.in_ok-claimed.claimed.now in
    let e : CheckFault = c.in_err-check_effects.field-0.0 in
    let same : c.from_residual-in_err-check_effects.result ≡ Err e = search rules in
    λ fs a. comes_with_fault (nested_checked functions c.args.id c.args.func.now (checking c.args.env.now fs))
    c.from_residual-in_err-check_effects.result e c.check_effects.new.func c.check_effects.new.env
    c.check_effects.new.solved same
    (λ free. nested_refused functions c.args.id c.args.func.now c.args.env.now fs claimed
    (said_here functions fs c.args.solved.now (Some c.args.id) (Ok claimed) a
    (subst (λ n. said functions n (Some c.args.id) ≡ Ok claimed) c.len.ensures c.in_ok-claimed.ensures))
    e (c.in_err-check_effects.ensures.run fs a free))

pub returns-in_err-check_effects-clause-kept : goal.returns-in_err-check_effects-clause-kept
returns-in_err-check_effects-clause-kept c =
    kept_pruned c.args.func.now c.args.env.now c.check_effects.new.func c.check_effects.new.env
    c.check_effects.ensures.kept

pub returns-in-Ok-clause-run : goal.returns-in-Ok-clause-run
returns-in-Ok-clause-run c =
    let functions = c.args.functions.now in
    let claimed = c.in_ok-claimed.claimed.now in
    let p = c.check_effects in
    let q = c.finish_function in
    λ fs a.
    let l = c.in_ok-check_effects.ensures.run fs a in
    nested_comes functions c.args.id c.args.func.now c.args.env.now fs claimed
    (said_here functions fs c.args.solved.now (Some c.args.id) (Ok claimed) a
    (subst (λ n. said functions n (Some c.args.id) ≡ Ok claimed) c.len.ensures c.in_ok-claimed.ensures))
    p.new.func p.new.env l.0 l.1 q.new.func q.new.env p.new.solved c.check_stored.result c.in-Ok.ensures.answer l.2
    c.check_stored.ensures

pub returns-in-Ok-clause-kept : goal.returns-in-Ok-clause-kept
returns-in-Ok-clause-kept c =
    let p = c.check_effects in
    let q = c.finish_function in
    function_through c.args.func.now p.new.func q.new.func c.args.env.now p.new.env q.new.env
    (kept_pruned c.args.func.now c.args.env.now p.new.func p.new.env p.ensures.kept)
    (kept_pruned p.new.func p.new.env q.new.func q.new.env q.ensures.kept)

pub returns-in-Err-clause-run : goal.returns-in-Err-clause-run
returns-in-Err-clause-run c =
    let functions = c.args.functions.now in
    let claimed = c.in_ok-claimed.claimed.now in
    let p = c.check_effects in
    λ fs a free.
    let l = c.in_ok-check_effects.ensures.run fs a in
    let not = subst (λ z. is_memory z ≡ false) c.range_fault.ensures free in
    subst (λ z. nested_checked functions c.args.id c.args.func.now (checking c.args.env.now fs) ≡ Err z)
    (sym c.range_fault.ensures)
    (nested_unfinished functions c.args.id c.args.func.now c.args.env.now fs claimed
    (said_here functions fs c.args.solved.now (Some c.args.id) (Ok claimed) a
    (subst (λ n. said functions n (Some c.args.id) ≡ Ok claimed) c.len.ensures c.in_ok-claimed.ensures))
    p.new.func p.new.env l.0 l.1 c.in-Err.error
    (c.in-Err.ensures.answer (no_want (Some c.args.id) c.in-Err.error not)).0)

pub returns-in-Err-clause-kept : goal.returns-in-Err-clause-kept
returns-in-Err-clause-kept c =
    let p = c.check_effects in
    let q = c.finish_function in
    function_through c.args.func.now p.new.func q.new.func c.args.env.now p.new.env q.new.env
    (kept_pruned c.args.func.now c.args.env.now p.new.func p.new.env p.ensures.kept)
    (kept_pruned p.new.func p.new.env q.new.func q.new.env q.ensures.kept)
