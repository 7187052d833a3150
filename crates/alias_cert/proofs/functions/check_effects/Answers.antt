use Rattle.std.proofs.Common.{◌≡◌, subst, [], ◌∷◌, ◌++◌}
use Rattle.alias_cert.proofs.Coming.{effects_come, effects_accounted}
use Rattle.alias_cert.proofs.Recording.{left_kept}
use Rattle.alias_cert.proofs.functions.check_effects.Goals as goal

pub returns-in_err-push-clause-kept : goal.returns-in_err-push-clause-kept
returns-in_err-push-clause-kept c =
    left_kept c.args.said.now c.args.env.now c.args.func.now c.args.is_function_expression c.requires c.in_ok-end.end
    c.as_slice.result.now c.leave.new.func c.leave.new.env
    c.in_ok-end.ensures.answer c.as_slice.ensures c.entries_known.ensures c.in_ok-found.ensures.func
    c.in_ok-found.ensures.env

pub returns-clause-run : goal.returns-clause-run
returns-clause-run c =
    let end = c.in_ok-end.end in
    λ fs a. (
      _,
      effects_come c.args.function c.args.is_function_expression c.args.func.now c.args.env.now c.args.said.now fs end
          c.leave.new.func c.leave.new.env c.in_ok-end.ensures.answer c.in_ok-found.ensures.func
          c.in_ok-found.ensures.env,
      effects_accounted c.args.function c.args.is_function_expression c.args.func.now c.args.env.now c.args.said.now fs
          end c.args.solved.now c.push.new.self c.in_ok-end.ensures.solves a
          (subst (λ s. c.push.new.self ≡ c.args.solved.now ++ record s { function = c.args.function } ∷ [])
          c.in_ok-found.ensures.solved c.in_ok-push.ensures.items),
    )

pub returns-clause-kept : goal.returns-clause-kept
returns-clause-kept c =
    left_kept c.args.said.now c.args.env.now c.args.func.now c.args.is_function_expression c.requires c.in_ok-end.end
    c.as_slice.result.now c.leave.new.func c.leave.new.env
    c.in_ok-end.ensures.answer c.as_slice.ensures c.entries_known.ensures c.in_ok-found.ensures.func
    c.in_ok-found.ensures.env
