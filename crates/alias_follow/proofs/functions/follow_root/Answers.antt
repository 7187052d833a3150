use Rattle.std.proofs.Common.{◌≡◌, false, None, Err, sym, subst, rules}
use Rattle.alias_certificate.specs.declared.fault.CheckFault.{CheckFault}
use Rattle.alias_cert.specs.function.Faults.{is_memory}
use Rattle.alias_cert.proofs.Coming.{no_want}
use Rattle.alias_follow.specs.Functions.{following, root_followed}
use Rattle.alias_follow.proofs.Coming.{root_fault, root_refused, root_unfinished, root_comes}
use Rattle.alias_follow.proofs.functions.follow_root.Goals as goal

pub returns-in_err-follow_effects : goal.returns-in_err-follow_effects
returns-in_err-follow_effects c =
    let given = c.args.given.now in
    let func = c.args.func.now in
    let env = c.args.env.now in
    let p = c.follow_effects in
    let e : CheckFault = c.in_err-follow_effects.field-0.0 in
    let same : c.from_residual.result ≡ Err e = search rules in
    λ fs a. root_fault (root_followed given func (following env fs)) c.from_residual.result e p.new.func p.new.env
    p.new.handed.solved p.new.handed.beyond same
    (λ free. root_refused given func env fs e (c.in_err-follow_effects.ensures.run fs a free))

pub returns-in-Ok : goal.returns-in-Ok
returns-in-Ok c =
    let p = c.follow_effects in
    let q = c.finish_root in
    λ fs a.
    let l = c.in_ok-follow_effects.ensures.run fs a in (
      l.0,
      root_comes c.args.given.now c.args.func.now c.args.env.now fs p.new.func p.new.env l.0 l.1 c.in-Ok.summary
          q.new.func q.new.env c.in-Ok.ensures,
      l.2,
    )

pub returns-in-Err : goal.returns-in-Err
returns-in-Err c =
    let given = c.args.given.now in
    let func = c.args.func.now in
    let env = c.args.env.now in
    let p = c.follow_effects in
    λ fs a free.
    let l = c.in_ok-follow_effects.ensures.run fs a in
    let not = subst (λ z. is_memory z ≡ false) c.range_fault.ensures free in
    subst (λ z. root_followed given func (following env fs) ≡ Err z) (sym c.range_fault.ensures)
    (root_unfinished given func env fs p.new.func p.new.env l.0 l.1 c.in-Err.error
    (c.in-Err.ensures (no_want None c.in-Err.error not)))
