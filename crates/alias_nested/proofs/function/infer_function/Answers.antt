use Rattle.std.proofs.Common.{◌≡◌, ◌∙◌, [], ◌∷◌, Err, rules}
use Rattle.alias_hir.specs.declared.error.InferError.{InferError}
use Rattle.alias_nested.specs.Analysis.{analysis}
use Rattle.alias_nested.specs.Answers.{FunctionAnalysed}
use Rattle.alias_nested.specs.Refusals.{FunctionRefused}
use Rattle.alias_nested.proofs.Answering.{function_refused, function_leads, leads_with_error}
use Rattle.alias_nested.specs.Order.{Notes}
use Rattle.alias_nested.proofs.Changing.{names_on, always_ok}
use Rattle.alias_nested.proofs.Keeping.{kept_pruned}
use Rattle.alias_fitting_laws.specs.pruning.PruningLaws.{function_through}
use Rattle.alias_nested.specs.Faults.{IsFaultOf}
use Rattle.alias_nested.proofs.Faulting.{err_on, unfailed}
use Rattle.alias_nested.proofs.function.infer_function.Goals as goal

pub returns-in_err-infer_effects-clause-run : goal.returns-in_err-infer_effects-clause-run
returns-in_err-infer_effects-clause-run g c =
    let e : InferError = c.in_err-infer_effects.field-0.0 in
    let same : c.from_residual.result ≡ Err e = search rules in
    let k = g.P.InnerPasses.keeps_all in
    λ fs a.
    leads_with_error (FunctionAnalysed k c.args.id c.args.func.now (analysis c.args.env.now fs))
    (FunctionRefused k c.args.id c.args.func.now (analysis c.args.env.now fs)) c.from_residual.result e
    c.infer_effects.new.func c.infer_effects.new.env c.infer_effects.new.solved same
    (λ free.
    let stays = c.in_err-infer_effects.ensures.unchanged free in
    function_refused k c.args.id c.args.func.now (analysis c.args.env.now fs) c.infer_effects.new.func
    c.infer_effects.new.env e (c.in_err-infer_effects.ensures.run fs a free) stays.0 stays.1)

pub returns-in_err-infer_effects-clause-kept : goal.returns-in_err-infer_effects-clause-kept
returns-in_err-infer_effects-clause-kept g c =
    kept_pruned c.args.func.now c.args.env.now c.infer_effects.new.func c.infer_effects.new.env
    c.infer_effects.ensures.kept

pub complete-requires-clause-fits : goal.complete-requires-clause-fits
complete-requires-clause-fits g c = c.infer_effects.ensures.kept.fits

pub returns-clause-run : goal.returns-clause-run
returns-clause-run g c =
    λ fs a.
    let l = c.in_ok-infer_effects.ensures.run fs a in
    function_leads g.P.InnerPasses.keeps_all c.args.id c.args.func.now (analysis c.args.env.now fs)
    c.infer_effects.new.func c.complete.new.func c.infer_effects.new.env c.complete.new.env l.0
    c.infer_effects.new.solved c.complete.result l.1 l.2 c.complete.ensures.run

pub returns-clause-kept : goal.returns-clause-kept
returns-clause-kept g c =
    function_through c.args.func.now c.infer_effects.new.func c.complete.new.func c.args.env.now c.infer_effects.new.env
    c.complete.new.env
    (kept_pruned c.args.func.now c.args.env.now c.infer_effects.new.func c.infer_effects.new.env
    c.infer_effects.ensures.kept) c.complete.ensures.kept

pub returns-in_err-infer_effects-clause-names : goal.returns-in_err-infer_effects-clause-names
returns-in_err-infer_effects-clause-names g c =
    let e : InferError = c.in_err-infer_effects.field-0.0 in
    let same : c.from_residual.result ≡ Err e = search rules in
    names_on c.args.id c.from_residual.result e same
    (c.in_err-infer_effects.ensures.names c.in_err-infer_effects.ensures.no_fault)

pub returns-clause-slots : goal.returns-clause-slots
returns-clause-slots g c = c.complete.ensures.slots ∙ c.infer_effects.ensures.slots

pub returns-clause-noted : goal.returns-clause-noted
returns-clause-noted g c = always_ok (Notes (c.args.id ∷ []) c.args.solved.now c.infer_effects.new.solved)
    c.complete.result c.in_ok-infer_effects.ensures.noted

pub returns-in_err-infer_effects-clause-last : goal.returns-in_err-infer_effects-clause-last
returns-in_err-infer_effects-clause-last g c =
    let e : InferError = c.in_err-infer_effects.field-0.0 in
    let same : c.from_residual.result ≡ Err e = search rules in
    let last = g.P.InnerPasses.failed_last c.args.passes.now in
    err_on (IsFaultOf last c.args.id c.infer_effects.new.func) c.from_residual.result e same
    (unfailed last c.args.id c.infer_effects.new.func e c.in_err-infer_effects.ensures.no_fault)
