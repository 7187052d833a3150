use Rattle.std.proofs.Common.{◌≡◌, ◌∙◌, [], ◌∷◌, ◌++◌, Ok, Err, ap, sym, subst, rules}
use Rattle.alias_certificate.specs.declared.fault.CheckFault.{CheckFault}
use Rattle.alias_follow.specs.Functions.{following, followed_function, effects_followed}
use Rattle.alias_follow.specs.function.Functions.{function_followed}
use Rattle.alias_follow.specs.function.Givens.{given_of}
use Rattle.alias_follow.proofs.Coming.{comes_with_fault, effects_refused, effects_come, effects_accounted, left_kept}
use Rattle.alias_follow.proofs.functions.follow_effects.Goals as goal

pub returns-in_err-followed-clause-run : goal.returns-in_err-followed-clause-run
returns-in_err-followed-clause-run c =
    let given = c.args.given.now in
    let id = c.args.function in
    let func = c.args.func.now in
    let env = c.args.env.now in
    let b = c.args.is_function_expression in
    let e : CheckFault = c.in_err-followed.field-0.0 in
    let same : c.from_residual.result ≡ Err e = search rules in
    λ fs a. comes_with_fault (effects_followed given id b func (following env fs)) c.from_residual.result e func env
    c.args.handed.now.solved c.args.handed.now.beyond same
    (λ free. effects_refused given id b func env fs e
    (ap (λ g. function_followed g id env func b) (sym c.given_of-said.ensures)
    ∙ c.in_err-followed.ensures.answer free))

pub returns-in_err-note-clause-kept : goal.returns-in_err-note-clause-kept
returns-in_err-note-clause-kept c = left_kept c.args.func.now c.leave.new.func c.args.env.now c.leave.new.env
    c.in_ok-followed.followed c.in_ok-followed.ensures.keeps c.in_ok-found.ensures.func c.in_ok-found.ensures.env

pub returns-clause-run : goal.returns-clause-run
returns-clause-run c =
    let given = c.args.given.now in
    let id = c.args.function in
    let func = c.args.func.now in
    let env = c.args.env.now in
    let b = c.args.is_function_expression in
    let e = c.in_ok-followed.followed in
    let here : function_followed (given_of given id) id env func b ≡ Ok e =
    ap (λ g. function_followed g id env func b) (sym c.given_of-said.ensures) ∙ c.in_ok-followed.ensures.answer in
    λ fs a. (
      fs ++ followed_function id b func env e ∷ [],
      effects_come given id b func env fs e c.leave.new.func c.leave.new.env here c.in_ok-found.ensures.func
          c.in_ok-found.ensures.env,
      effects_accounted given id b func env fs e c.args.handed.now.solved c.note.new.handed.solved
          c.args.handed.now.beyond c.note.new.handed.beyond c.in_ok-followed.ensures.solves a
          (subst (λ s. c.note.new.handed.solved ≡ c.args.handed.now.solved ++ record s { function = id } ∷ [])
          c.in_ok-found.ensures.solved c.in_ok-note.ensures.solved) c.in_ok-note.ensures.beyond,
    )

pub returns-clause-kept : goal.returns-clause-kept
returns-clause-kept c = left_kept c.args.func.now c.leave.new.func c.args.env.now c.leave.new.env
    c.in_ok-followed.followed c.in_ok-followed.ensures.keeps c.in_ok-found.ensures.func c.in_ok-found.ensures.env
