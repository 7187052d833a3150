use Rattle.std.proofs.Common.{◌≡◌, Err, rules}
use Rattle.alias_hir.specs.declared.error.InferError.{InferError}
use Rattle.alias_nested.specs.Analysis.{analysis}
use Rattle.alias_nested.specs.Faults.{IsNamedFault}
use Rattle.alias_nested.specs.Units.{root_analysed}
use Rattle.alias_nested.proofs.Keeping.{pruned_fits}
use Rattle.alias_nested.proofs.Ranging.{then_ranged, at_summary}
use Rattle.alias_nested.proofs.Faulting.{err_on, unfailed_result}
use Rattle.alias_nested.proofs.infer.infer_all.Goals as goal

pub infer_root-requires : goal.infer_root-requires
infer_root-requires g c = pruned_fits c.args.env.now c.analyse_kept.new.env c.analyse_kept.ensures.kept c.args.func.now
    c.requires.fits

pub returns-clause-ranged : goal.returns-clause-ranged
returns-clause-ranged g c =
    at_summary c.infer_root.result
    (λ after fs a.
    let l = c.in_ok-analyse_kept.ensures.run fs a in
    then_ranged _ (root_analysed c.args.func.now) (analysis c.analyse_kept.new.env l.0) l.1 (after l.0))
    c.infer_root.ensures.ranged

pub returns-clause-last : goal.returns-clause-last
returns-clause-last g c = unfailed_result (g.P.InnerPasses.failed_last c.analyse_kept.new.passes) c.infer_root.new.env
    c.infer_root.result c.infer_root.ensures.no_fault

pub returns-in_err-analyse_kept-clause-last : goal.returns-in_err-analyse_kept-clause-last
returns-in_err-analyse_kept-clause-last g c =
    let e : InferError = c.in_err-analyse_kept.field-0.0 in
    let same : c.from_residual.result ≡ Err e = search rules in
    err_on (IsNamedFault (g.P.InnerPasses.failed_last c.analyse_kept.new.passes) c.analyse_kept.new.env)
    c.from_residual.result e same c.in_err-analyse_kept.ensures.last
