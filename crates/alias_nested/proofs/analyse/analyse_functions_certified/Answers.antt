use Rattle.std.proofs.Common.{◌≡◌, ◌∙◌, List, [], ◌++◌, Ok, Err, Some, map, ap, sym, rules}
use Rattle.alias_effects.specs.declared.solved.Solved.{Solved}
use Rattle.alias_hir.specs.declared.error.InferError.{InferError}
use Rattle.alias_nested.specs.Analysis.{analysis}
use Rattle.alias_nested.specs.Answers.{AnalysedWith}
use Rattle.alias_nested.specs.Order.{below_innermost_first, functions_of}
use Rattle.alias_nested.specs.Refusals.{AnalysisRefused}
use Rattle.alias_nested.proofs.Answering.{analyses_error, analyses_exactly, leaves_error, refusal_answers}
use Rattle.alias_nested.proofs.Changing.{handed_on, handed_out}
use Rattle.alias_nested.specs.Faults.{IsNamedFault}
use Rattle.alias_nested.proofs.Faulting.{err_on}
use Rattle.alias_nested.proofs.InOrder.{once_below}
use Rattle.alias_nested.proofs.Keeping.{pruned_fits}
use Rattle.alias_nested.proofs.analyse.analyse_functions_certified.Goals as goal

pub returns-in_err-analyse_created-clause-answer : goal.returns-in_err-analyse_created-clause-answer
returns-in_err-analyse_created-clause-answer g c =
    let e : InferError = c.in_err-analyse_created.field-0.0 in
    let same : c.from_residual.result ≡ Err e = search rules in
    analyses_error (AnalysedWith g.P.InnerPasses.keeps_all 63 c.args.func.now (analysis c.args.env.now []))
    c.from_residual.result e c.analyse_created.new.env same
    (λ free. refusal_answers g.P.InnerPasses.keeps_all 63 c.args.func.now (analysis c.args.env.now []) e
    c.analyse_created.new.env (c.in_err-analyse_created.ensures.run []
    (record { same = sym c.new-solved.ensures; solve = tt }) free))

pub returns-in_err-analyse_created-clause-left : goal.returns-in_err-analyse_created-clause-left
returns-in_err-analyse_created-clause-left g c =
    let e : InferError = c.in_err-analyse_created.field-0.0 in
    let same : c.from_residual.result ≡ Err e = search rules in
    leaves_error (AnalysisRefused g.P.InnerPasses.keeps_all 63 c.args.func.now (analysis c.args.env.now []))
    c.from_residual.result e c.analyse_created.new.env same
    (λ free. c.in_err-analyse_created.ensures.run [] (record { same = sym c.new-solved.ensures; solve = tt }) free)

pub returns-in_err-analyse_created-clause-exact : goal.returns-in_err-analyse_created-clause-exact
returns-in_err-analyse_created-clause-exact g c =
    λ keeps_all. analyses_exactly g.P.InnerPasses.keeps_all keeps_all 63 c.args.func.now (analysis c.args.env.now [])
    c.from_residual.result c.analyse_created.new.env (returns-in_err-analyse_created-clause-answer g c)

pub returns-in_err-analyse_created-clause-fits : goal.returns-in_err-analyse_created-clause-fits
returns-in_err-analyse_created-clause-fits g c =
    pruned_fits c.args.env.now c.analyse_created.new.env c.analyse_created.ensures.kept c.args.func.now c.requires.fits

pub returns-in_err-analyse_created-clause-slots : goal.returns-in_err-analyse_created-clause-slots
returns-in_err-analyse_created-clause-slots g c = c.analyse_created.ensures.kept.prunes.slots

pub returns-in_err-analyse_created-clause-count : goal.returns-in_err-analyse_created-clause-count
returns-in_err-analyse_created-clause-count g c = c.analyse_created.ensures.kept.prunes.count

pub returns-clause-answer : goal.returns-clause-answer
returns-clause-answer g c = c.in_ok-analyse_created.ensures.run []
    (record { same = sym c.new-solved.ensures; solve = tt })

pub returns-clause-exact : goal.returns-clause-exact
returns-clause-exact g c =
    λ keeps_all. analyses_exactly g.P.InnerPasses.keeps_all keeps_all 63 c.args.func.now (analysis c.args.env.now [])
    (Ok c.analyse_created.new.solved) c.analyse_created.new.env (returns-clause-answer g c)

pub returns-clause-fits : goal.returns-clause-fits
returns-clause-fits g c = pruned_fits c.args.env.now c.analyse_created.new.env c.analyse_created.ensures.kept
    c.args.func.now c.requires.fits

pub returns-clause-slots : goal.returns-clause-slots
returns-clause-slots g c = c.analyse_created.ensures.kept.prunes.slots

pub returns-clause-count : goal.returns-clause-count
returns-clause-count g c = c.analyse_created.ensures.kept.prunes.count

pub returns-in_err-analyse_created-clause-order : goal.returns-in_err-analyse_created-clause-order
returns-in_err-analyse_created-clause-order g c =
    let e : InferError = c.in_err-analyse_created.field-0.0 in
    let same : c.from_residual.result ≡ Err e = search rules in
    handed_on (below_innermost_first 63 c.args.func.now c.args.env.now) c.from_residual.result e c.args.env.now
    c.analyse_created.new.env same c.in_err-analyse_created.ensures.order

pub returns-in_err-analyse_created-clause-once : goal.returns-in_err-analyse_created-clause-once
returns-in_err-analyse_created-clause-once g c = λ k. once_below c.args.func.now c.args.env.now c.requires.fits 63 k

pub returns-clause-order : goal.returns-clause-order
returns-clause-order g c = handed_out (below_innermost_first 63 c.args.func.now c.args.env.now) tt
    c.analyse_created.new.solved c.args.env.now c.analyse_created.new.env c.in_ok-analyse_created.ensures.order

pub returns-clause-once : goal.returns-clause-once
returns-clause-once g c = λ k. once_below c.args.func.now c.args.env.now c.requires.fits 63 k

pub returns-clause-functions : goal.returns-clause-functions
returns-clause-functions g c = c.in_ok-analyse_created.ensures.noted
    ∙ ap (λ (ss : List Solved). functions_of ss ++ map Some (below_innermost_first 63 c.args.func.now c.args.env.now))
    c.new-solved.ensures

pub returns-in_err-analyse_created-clause-last : goal.returns-in_err-analyse_created-clause-last
returns-in_err-analyse_created-clause-last g c =
    let e : InferError = c.in_err-analyse_created.field-0.0 in
    let same : c.from_residual.result ≡ Err e = search rules in
    err_on (IsNamedFault (g.P.InnerPasses.failed_last c.analyse_created.new.passes) c.analyse_created.new.env)
    c.from_residual.result e same c.in_err-analyse_created.ensures.last
