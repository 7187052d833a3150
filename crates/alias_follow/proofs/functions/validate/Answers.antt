use Rattle.std.proofs.Common.{◌≡◌, Err, rules}
use Rattle.alias_hir.specs.declared.error.InferError.{InferError}
use Rattle.alias_follow.proofs.Coming.{validated_refused, validated_comes}
use Rattle.alias_follow.proofs.functions.validate.Goals as goal

pub returns-in_err-validate_locals_not_reassigned_after_render :
    goal.returns-in_err-validate_locals_not_reassigned_after_render
returns-in_err-validate_locals_not_reassigned_after_render c =
    let e : InferError = c.in_err-validate_locals_not_reassigned_after_render.field-0.0 in
    let same : c.from_residual.result ≡ Err e = search rules in
    validated_refused c.args.func.now c.args.env.now c.from_residual.result e
    c.validate_locals_not_reassigned_after_render.new.env same
    c.in_err-validate_locals_not_reassigned_after_render.ensures.reports

pub returns : goal.returns
returns c = validated_comes c.args.func.now c.args.env.now c.validate_locals_not_reassigned_after_render.new.env
    c.validate_no_freezing_known_mutable_functions.new.env
    c.in_ok-validate_locals_not_reassigned_after_render.ensures.reports
    c.in_ok-validate_no_freezing_known_mutable_functions.ensures.reports
