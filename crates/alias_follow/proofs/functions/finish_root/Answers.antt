use Rattle.std.proofs.Common.{◌≡◌, Err, rules}
use Rattle.alias_hir.specs.declared.error.InferError.{InferError}
use Rattle.alias_follow.specs.Functions.{root_ended}
use Rattle.alias_follow.proofs.Coming.{root_end_fault, unranged, invalid, ends}
use Rattle.alias_follow.proofs.functions.finish_root.Goals as goal

pub returns-in_err-summary : goal.returns-in_err-summary
returns-in_err-summary c =
    let func = c.args.func.now in
    let env = c.args.env.now in
    let q = c.infer_mutation_aliasing_ranges in
    let e : InferError = c.in_err-summary.field-0.0 in
    let same : c.from_residual.result ≡ Err e = search rules in
    root_end_fault (root_ended func env) c.from_residual.result e q.new.func q.new.env same
    (λ free. unranged func env e (c.in_err-summary.ensures.pass free).0)

pub returns-in_err-validate : goal.returns-in_err-validate
returns-in_err-validate c =
    let func = c.args.func.now in
    let env = c.args.env.now in
    let q = c.infer_mutation_aliasing_ranges in
    let e : InferError = c.in_err-validate.field-0.0 in
    let same : c.from_residual-in_err-validate.result ≡ Err e = search rules in
    root_end_fault (root_ended func env) c.from_residual-in_err-validate.result e q.new.func c.validate.new.env same
    (λ free. invalid func env c.in_ok-summary.summary q.new.func q.new.env c.in_ok-summary.ensures.pass e
    (c.in_err-validate.ensures free))

pub returns : goal.returns
returns c =
    let q = c.infer_mutation_aliasing_ranges in
    ends c.args.func.now c.args.env.now c.in_ok-summary.summary q.new.func q.new.env c.in_ok-summary.ensures.pass
    c.validate.new.env c.in_ok-validate.ensures
