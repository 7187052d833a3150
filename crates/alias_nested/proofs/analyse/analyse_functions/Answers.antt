use Rattle.std.proofs.Common.{◌≡◌, [], Err, rules}
use Rattle.alias_hir.specs.declared.error.InferError.{InferError}
use Rattle.alias_nested.specs.Analysis.{analysis, analysed}
use Rattle.alias_nested.specs.Answers.{AnalysedWith}
use Rattle.alias_nested.specs.Order.{below_innermost_first}
use Rattle.alias_nested.specs.Refusals.{AnalysisRefused}
use Rattle.alias_nested.proofs.Answering.{into_error, exactly_error, leaves_error}
use Rattle.alias_nested.proofs.Changing.{handed_on, handed_out}
use Rattle.alias_nested.specs.Faults.{IsNamedFault}
use Rattle.alias_nested.proofs.Faulting.{err_on}
use Rattle.alias_nested.proofs.analyse.analyse_functions.Goals as goal

pub returns-in_err-analyse_functions_certified-clause-answer :
    goal.returns-in_err-analyse_functions_certified-clause-answer
returns-in_err-analyse_functions_certified-clause-answer g c =
    let e : InferError = c.in_err-analyse_functions_certified.field-0.0 in
    let same : c.from_residual.result ≡ Err e = search rules in
    into_error (AnalysedWith g.P.InnerPasses.keeps_all 63 c.args.func.now (analysis c.args.env.now []))
    c.from_residual.result e c.analyse_functions_certified.new.env same
    c.in_err-analyse_functions_certified.ensures.answer

pub returns-in_err-analyse_functions_certified-clause-exact :
    goal.returns-in_err-analyse_functions_certified-clause-exact
returns-in_err-analyse_functions_certified-clause-exact g c =
    let e : InferError = c.in_err-analyse_functions_certified.field-0.0 in
    let same : c.from_residual.result ≡ Err e = search rules in
    λ keeps_all. exactly_error (analysed 63 c.args.func.now (analysis c.args.env.now [])) c.from_residual.result e
    c.analyse_functions_certified.new.env same (c.in_err-analyse_functions_certified.ensures.exact keeps_all)

pub returns-in_err-analyse_functions_certified-clause-left : goal.returns-in_err-analyse_functions_certified-clause-left
returns-in_err-analyse_functions_certified-clause-left g c =
    let e : InferError = c.in_err-analyse_functions_certified.field-0.0 in
    let same : c.from_residual.result ≡ Err e = search rules in
    leaves_error (AnalysisRefused g.P.InnerPasses.keeps_all 63 c.args.func.now (analysis c.args.env.now []))
    c.from_residual.result e c.analyse_functions_certified.new.env same
    c.in_err-analyse_functions_certified.ensures.left

pub returns-clause-answer : goal.returns-clause-answer
returns-clause-answer g c = let l = c.in_ok-analyse_functions_certified.ensures.answer in (l.0, l.1)

pub returns-clause-exact : goal.returns-clause-exact
returns-clause-exact g c = λ keeps_all. let l = c.in_ok-analyse_functions_certified.ensures.exact keeps_all in
    (l.0, l.1)

pub returns-in_err-analyse_functions_certified-clause-order :
    goal.returns-in_err-analyse_functions_certified-clause-order
returns-in_err-analyse_functions_certified-clause-order g c =
    let e : InferError = c.in_err-analyse_functions_certified.field-0.0 in
    let same : c.from_residual.result ≡ Err e = search rules in
    handed_on (below_innermost_first 63 c.args.func.now c.args.env.now) c.from_residual.result e c.args.env.now
    c.analyse_functions_certified.new.env same c.in_err-analyse_functions_certified.ensures.order

pub returns-clause-order : goal.returns-clause-order
returns-clause-order g c = handed_out (below_innermost_first 63 c.args.func.now c.args.env.now) _ tt c.args.env.now
    c.analyse_functions_certified.new.env c.in_ok-analyse_functions_certified.ensures.order

pub returns-in_err-analyse_functions_certified-clause-last : goal.returns-in_err-analyse_functions_certified-clause-last
returns-in_err-analyse_functions_certified-clause-last g c =
    let e : InferError = c.in_err-analyse_functions_certified.field-0.0 in
    let same : c.from_residual.result ≡ Err e = search rules in
    err_on (IsNamedFault (g.P.InnerPasses.failed_last c.analyse_functions_certified.new.passes)
    c.analyse_functions_certified.new.env) c.from_residual.result e same
    c.in_err-analyse_functions_certified.ensures.last
