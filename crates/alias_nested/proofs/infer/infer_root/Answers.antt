use Rattle.std.specs.Prelude.{[]}
use Rattle.std.proofs.Common.{◌≡◌, ◌∙◌, ap, sym, subst, false, rules, Err}
use Rattle.alias_effects.specs.Inference.{inferred}
use Rattle.alias_hir.specs.declared.env.Environment.{Environment}
use Rattle.alias_hir.specs.declared.error.InferError.{InferError}
use Rattle.alias_range_pass.specs.Passes.{range_pass}
use Rattle.alias_validate.specs.Reports.{with_errors}
use Rattle.alias_nested.specs.Analysis.{IsPassFault}
use Rattle.alias_nested.proofs.Ending.{ended, root_begins, root_refused, root_error, unranged, unvalidated, finished}
use Rattle.alias_nested.proofs.Ending.{unfree, accounts_more}
use Rattle.alias_nested.proofs.Faultless.{effects_faultless, faultless_error, ranges_faultless, refused_faultless}
use Rattle.alias_nested.proofs.Keeping.{unreported_fits}
use Rattle.alias_nested.proofs.Ranging.{root_is_ranged}
use Rattle.alias_nested.proofs.infer.infer_root.Goals as goal

pub returns-in_err-found-clause-run : goal.returns-in_err-found-clause-run
returns-in_err-found-clause-run c =
    let e : InferError = c.in_err-found.field-0.0 in
    let same : c.from_residual.result ≡ Err e = search rules in
    λ fs a. root_error _ _ e _ _ _ same (λ free.
    root_refused c.args.env.now c.args.func.now fs e (c.in_err-found.ensures.answer (unfree e free)))

pub returns-in_err-summary-clause-run : goal.returns-in_err-summary-clause-run
returns-in_err-summary-clause-run c =
    let e : InferError = c.in_err-summary.field-0.0 in
    let same : c.from_residual-in_err-summary.result ≡ Err e = search rules in
    let p = c.infer_effects_certified in
    let x = ended c.args.env.now c.args.func.now false c.in_ok-found.found p.new.env c.in_ok-found.ensures.answer
    c.in_ok-found.ensures.env in
    λ fs a. root_error _ _ e _ _ _ same
    (λ free. root_begins c.args.env.now c.args.func.now c.in_ok-found.found p.new.env x p.new.func
    c.in_ok-found.ensures.recorded fs
    ∙ unranged p.new.func p.new.env _ e (c.in_err-summary.ensures.pass (unfree e free)).0)

pub returns-in_err-validate_locals_not_reassigned_after_render-clause-run :
    goal.returns-in_err-validate_locals_not_reassigned_after_render-clause-run
returns-in_err-validate_locals_not_reassigned_after_render-clause-run c =
    let e : InferError = c.in_err-validate_locals_not_reassigned_after_render.field-0.0 in
    let same : (c.from_residual-in_err-validate_locals_not_reassigned_after_render).result ≡ Err e = search rules in
    let p = c.infer_effects_certified in
    let x = ended c.args.env.now c.args.func.now false c.in_ok-found.found p.new.env c.in_ok-found.ensures.answer
    c.in_ok-found.ensures.env in
    λ fs a. root_error _ _ e _ _ _ same
    (λ free. root_begins c.args.env.now c.args.func.now c.in_ok-found.found p.new.env x p.new.func
    c.in_ok-found.ensures.recorded fs
    ∙ unvalidated p.new.func p.new.env _ (record {
      summary = c.in_ok-summary.summary;
      after =
          (c.infer_mutation_aliasing_ranges.new.func, c.infer_mutation_aliasing_ranges.new.env);
    }) e
    c.in_ok-summary.ensures.pass (c.in_err-validate_locals_not_reassigned_after_render.ensures.reports
    (unfree e free)))

pub returns-in_err-found-clause-no_fault : goal.returns-in_err-found-clause-no_fault
returns-in_err-found-clause-no_fault c =
    let e : InferError = c.in_err-found.field-0.0 in
    let same : c.from_residual.result ≡ Err e = search rules in
    let stated = inferred c.args.env.now c.args.func.now false in
    subst (λ r. IsPassFault r → ⊥) (sym same)
    (refused_faultless stated (effects_faultless c.args.env.now c.args.func.now false) e
    c.in_err-found.ensures.answer)

pub returns-in_err-summary-clause-no_fault : goal.returns-in_err-summary-clause-no_fault
returns-in_err-summary-clause-no_fault c =
    let e : InferError = c.in_err-summary.field-0.0 in
    let same : c.from_residual-in_err-summary.result ≡ Err e = search rules in
    let p = c.infer_effects_certified in
    subst (λ r. IsPassFault r → ⊥) (sym same)
    (refused_faultless (range_pass false p.new.func p.new.env) (ranges_faultless false p.new.func p.new.env) e
    (λ free. (c.in_err-summary.ensures.pass free).0))

pub returns-in_err-validate_locals_not_reassigned_after_render-clause-no_fault :
    goal.returns-in_err-validate_locals_not_reassigned_after_render-clause-no_fault
returns-in_err-validate_locals_not_reassigned_after_render-clause-no_fault c =
    let e : InferError = c.in_err-validate_locals_not_reassigned_after_render.field-0.0 in
    let same : (c.from_residual-in_err-validate_locals_not_reassigned_after_render).result ≡ Err e = search rules in
    subst (λ r. IsPassFault r → ⊥) (sym same)
    (faultless_error c.infer_mutation_aliasing_ranges.new.env c.infer_mutation_aliasing_ranges.new.func e
    c.in_err-validate_locals_not_reassigned_after_render.ensures.reports)

pub returns-clause-run : goal.returns-clause-run
returns-clause-run c =
    let p = c.infer_effects_certified in
    let x = ended c.args.env.now c.args.func.now false c.in_ok-found.found p.new.env c.in_ok-found.ensures.answer
    c.in_ok-found.ensures.env in
    λ fs a. (
      _,
      root_begins c.args.env.now c.args.func.now c.in_ok-found.found p.new.env x p.new.func
          c.in_ok-found.ensures.recorded fs
          ∙ finished p.new.func p.new.env _ (record {
            summary = c.in_ok-summary.summary;
            after = (c.infer_mutation_aliasing_ranges.new.func, c.infer_mutation_aliasing_ranges.new.env);
          })
          c.validate_locals_not_reassigned_after_render.new.env
          c.validate_no_freezing_known_mutable_functions.new.env c.in_ok-summary.ensures.pass
          c.in_ok-validate_locals_not_reassigned_after_render.ensures.reports
          c.in_ok-validate_no_freezing_known_mutable_functions.ensures.reports,
      accounts_more fs c.args.solved.now c.push.new.self
          (record {
            env = c.args.env.now;
            func = c.args.func.now;
            is_function_expression = false;
            solved = c.in_ok-found.found;
          }) a c.in_ok-push.ensures.items c.in_ok-found.ensures.solves,
    )

pub returns-clause-fits : goal.returns-clause-fits
returns-clause-fits c =
    let p = c.infer_mutation_aliasing_ranges in
    let first = c.validate_locals_not_reassigned_after_render.new.env in
    let last = c.validate_no_freezing_known_mutable_functions.new.env in
    let one : with_errors first [] ≡ with_errors p.new.env [] =
    ap (λ e. with_errors e []) c.validate_locals_not_reassigned_after_render.ensures.others in
    let two : with_errors last [] ≡ with_errors first [] =
    ap (λ e. with_errors e []) c.validate_no_freezing_known_mutable_functions.ensures.others in
    unreported_fits p.new.func p.new.env last p.ensures.fits (two ∙ one)

pub returns-clause-ranged : goal.returns-clause-ranged
returns-clause-ranged c =
    let p = c.infer_effects_certified in
    let r = c.infer_mutation_aliasing_ranges in
    let x = ended c.args.env.now c.args.func.now false c.in_ok-found.found p.new.env c.in_ok-found.ensures.answer
    c.in_ok-found.ensures.env in
    let first = c.validate_locals_not_reassigned_after_render.new.env in
    let last = c.validate_no_freezing_known_mutable_functions.new.env in
    let one : first.identifiers ≡ r.new.env.identifiers =
    ap (λ (e : Environment). e.identifiers) c.validate_locals_not_reassigned_after_render.ensures.others in
    let two : last.identifiers ≡ first.identifiers =
    ap (λ (e : Environment). e.identifiers) c.validate_no_freezing_known_mutable_functions.ensures.others in
    λ fs. root_is_ranged c.args.env.now c.args.func.now c.in_ok-found.found p.new.func c.in_ok-found.ensures.recorded
    p.new.env c.in_ok-found.ensures.env r.new.env last c.in_ok-summary.summary (two ∙ one) _ r.new.func fs
    (root_begins c.args.env.now c.args.func.now c.in_ok-found.found p.new.env x p.new.func
    c.in_ok-found.ensures.recorded fs
    ∙ finished p.new.func p.new.env _ (record { summary = c.in_ok-summary.summary; after = (r.new.func, r.new.env) })
    first last c.in_ok-summary.ensures.pass c.in_ok-validate_locals_not_reassigned_after_render.ensures.reports
    c.in_ok-validate_no_freezing_known_mutable_functions.ensures.reports)
    c.in_ok-summary.ensures.cover c.in_ok-summary.ensures.heap c.in_ok-summary.ensures.cause
    c.in_ok-summary.ensures.flows
