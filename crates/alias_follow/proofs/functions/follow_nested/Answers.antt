use Rattle.std.proofs.Common.{◌≡◌, false, Some, Err, sym, subst, rules}
use Rattle.alias_certificate.specs.declared.fault.CheckFault.{CheckFault}
use Rattle.alias_cert.specs.function.Faults.{is_memory}
use Rattle.alias_cert.proofs.Coming.{no_want}
use Rattle.alias_nested.proofs.Keeping.{kept_pruned}
use Rattle.alias_fitting_laws.specs.pruning.PruningLaws.{function_through}
use Rattle.alias_follow.specs.Functions.{following, nested_followed}
use Rattle.alias_follow.proofs.Coming.{comes_with_fault, nested_refused, nested_unfinished, nested_comes}
use Rattle.alias_follow.proofs.functions.follow_nested.Goals as goal

pub returns-in_err-follow_effects-clause-run : goal.returns-in_err-follow_effects-clause-run
returns-in_err-follow_effects-clause-run c =
    let given = c.args.given.now in
    let func = c.args.func.now in
    let env = c.args.env.now in
    let p = c.follow_effects in
    let e : CheckFault = c.in_err-follow_effects.field-0.0 in
    let same : c.from_residual.result ≡ Err e = search rules in
    λ fs a. comes_with_fault (nested_followed given c.args.id func (following env fs)) c.from_residual.result e
    p.new.func p.new.env p.new.handed.solved p.new.handed.beyond same
    (λ free. nested_refused given c.args.id func env fs e (c.in_err-follow_effects.ensures.run fs a free))

pub returns-in_err-follow_effects-clause-kept : goal.returns-in_err-follow_effects-clause-kept
returns-in_err-follow_effects-clause-kept c =
    let p = c.follow_effects in
    kept_pruned c.args.func.now c.args.env.now p.new.func p.new.env p.ensures.kept

pub returns-in-Ok-clause-run : goal.returns-in-Ok-clause-run
returns-in-Ok-clause-run c =
    let p = c.follow_effects in
    let q = c.finish_function in
    λ fs a.
    let l = c.in_ok-follow_effects.ensures.run fs a in (
      l.0,
      nested_comes c.args.given.now c.args.id c.args.func.now c.args.env.now fs p.new.func p.new.env l.0 l.1 q.new.func
          q.new.env c.in-Ok.ensures.answer,
      l.2,
    )

pub returns-in-Ok-clause-kept : goal.returns-in-Ok-clause-kept
returns-in-Ok-clause-kept c =
    let p = c.follow_effects in
    let q = c.finish_function in
    function_through c.args.func.now p.new.func q.new.func c.args.env.now p.new.env q.new.env
    (kept_pruned c.args.func.now c.args.env.now p.new.func p.new.env p.ensures.kept)
    (kept_pruned p.new.func p.new.env q.new.func q.new.env q.ensures.kept)

pub returns-in-Err-clause-run : goal.returns-in-Err-clause-run
returns-in-Err-clause-run c =
    let given = c.args.given.now in
    let func = c.args.func.now in
    let env = c.args.env.now in
    let p = c.follow_effects in
    λ fs a free.
    let l = c.in_ok-follow_effects.ensures.run fs a in
    let not = subst (λ z. is_memory z ≡ false) c.range_fault.ensures free in
    subst (λ z. nested_followed given c.args.id func (following env fs) ≡ Err z) (sym c.range_fault.ensures)
    (nested_unfinished given c.args.id func env fs p.new.func p.new.env l.0 l.1 c.in-Err.error
    (c.in-Err.ensures.answer (no_want (Some c.args.id) c.in-Err.error not)).0)

pub returns-in-Err-clause-kept : goal.returns-in-Err-clause-kept
returns-in-Err-clause-kept c =
    let p = c.follow_effects in
    let q = c.finish_function in
    function_through c.args.func.now p.new.func q.new.func c.args.env.now p.new.env q.new.env
    (kept_pruned c.args.func.now c.args.env.now p.new.func p.new.env p.ensures.kept)
    (kept_pruned p.new.func p.new.env q.new.func q.new.env q.ensures.kept)
