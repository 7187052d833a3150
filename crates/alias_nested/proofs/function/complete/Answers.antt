use Rattle.std.proofs.Common.{◌≡◌, ◌∙◌, Err, rules}
use Rattle.alias_hir.specs.declared.error.InferError.{InferError}
use Rattle.alias_nested.specs.Answers.{Completed}
use Rattle.alias_nested.specs.Refusals.{CompletionRefused}
use Rattle.alias_nested.proofs.Answering.{completes, completes_refused, completes_error, first_refused, second_refused}
use Rattle.alias_nested.proofs.Answering.{third_refused}
use Rattle.alias_nested.proofs.Changing.{names_on, passed_slots, annotated_slots}
use Rattle.alias_nested.proofs.Keeping.{passed_pruned, range_pruned, more_pruned, annotated_pruned}
use Rattle.alias_nested.specs.Faults.{IsFaultOf}
use Rattle.alias_nested.proofs.Faulting.{err_on, unfailed}
use Rattle.alias_nested.proofs.function.complete.Goals as goal

pub returns-in_err-run_pass-clause-kept : goal.returns-in_err-run_pass-clause-kept
returns-in_err-run_pass-clause-kept g c =
    passed_pruned g.P.InnerPasses.keeps_all c.args.func.now c.args.env.now c.run_pass.new.func c.run_pass.new.env
    c.run_pass.ensures.passed

pub infer_ranges-requires : goal.infer_ranges-requires
infer_ranges-requires g c = c.run_pass.ensures.passed.keeps.fits

pub returns-in_err-summary-clause-run : goal.returns-in_err-summary-clause-run
returns-in_err-summary-clause-run g c =
    let e : InferError = c.in_err-summary.field-0.0 in
    let same : c.from_residual-in_err-summary.result ≡ Err e = search rules in
    let k = g.P.InnerPasses.keeps_all in
    completes_error (Completed k c.args.id (c.args.func.now, c.args.env.now))
    (CompletionRefused k c.args.id (c.args.func.now, c.args.env.now)) c.from_residual-in_err-summary.result e
    c.infer_ranges.new.func c.infer_ranges.new.env same
    (λ free.
    let stays = c.in_err-summary.ensures.run free in
    completes_refused k c.args.id c.args.func.now c.run_pass.new.func c.args.env.now c.run_pass.new.env
    c.run_pass.ensures.passed c.infer_ranges.new.func c.infer_ranges.new.env e stays.0 stays.1 stays.2)

pub returns-in_err-summary-clause-kept : goal.returns-in_err-summary-clause-kept
returns-in_err-summary-clause-kept g c =
    range_pruned g.P.InnerPasses.keeps_all c.args.func.now c.run_pass.new.func c.infer_ranges.new.func c.args.env.now
    c.run_pass.new.env c.infer_ranges.new.env c.run_pass.ensures.passed c.infer_ranges.ensures.kept

pub returns-in_err-run_pass-2-clause-kept : goal.returns-in_err-run_pass-2-clause-kept
returns-in_err-run_pass-2-clause-kept g c =
    let ranged = range_pruned g.P.InnerPasses.keeps_all c.args.func.now c.run_pass.new.func c.infer_ranges.new.func
    c.args.env.now c.run_pass.new.env c.infer_ranges.new.env c.run_pass.ensures.passed
    c.infer_ranges.ensures.kept in
    more_pruned g.P.InnerPasses.keeps_all c.args.func.now c.infer_ranges.new.func c.run_pass-2.new.func c.args.env.now
    c.infer_ranges.new.env c.run_pass-2.new.env ranged c.run_pass-2.ensures.passed

pub returns-in_err-run_pass-3-clause-kept : goal.returns-in_err-run_pass-3-clause-kept
returns-in_err-run_pass-3-clause-kept g c =
    let ranged = range_pruned g.P.InnerPasses.keeps_all c.args.func.now c.run_pass.new.func c.infer_ranges.new.func
    c.args.env.now c.run_pass.new.env c.infer_ranges.new.env c.run_pass.ensures.passed
    c.infer_ranges.ensures.kept in
    let second = more_pruned g.P.InnerPasses.keeps_all c.args.func.now c.infer_ranges.new.func c.run_pass-2.new.func
    c.args.env.now c.infer_ranges.new.env c.run_pass-2.new.env ranged c.run_pass-2.ensures.passed in
    more_pruned g.P.InnerPasses.keeps_all c.args.func.now c.run_pass-2.new.func c.run_pass-3.new.func c.args.env.now
    c.run_pass-2.new.env c.run_pass-3.new.env second c.run_pass-3.ensures.passed

pub returns-clause-run : goal.returns-clause-run
returns-clause-run g c =
    completes g.P.InnerPasses.keeps_all c.args.id c.args.func.now c.run_pass.new.func c.args.env.now c.run_pass.new.env
    c.run_pass.ensures.passed
    c.infer_ranges.new.func c.run_pass-2.new.func c.run_pass-3.new.func c.annotate_logged.new.func
    c.infer_ranges.new.env c.run_pass-2.new.env c.run_pass-3.new.env c.annotate_logged.new.env
    c.in_ok-summary.summary
    c.in_ok-summary.ensures.run c.run_pass-2.ensures.passed c.run_pass-3.ensures.passed c.annotate_logged.ensures

pub returns-clause-kept : goal.returns-clause-kept
returns-clause-kept g c =
    annotated_pruned g.P.InnerPasses.keeps_all c.args.func.now c.run_pass.new.func c.infer_ranges.new.func
    c.run_pass-2.new.func c.run_pass-3.new.func c.annotate_logged.new.func c.args.env.now c.run_pass.new.env
    c.infer_ranges.new.env c.run_pass-2.new.env c.run_pass-3.new.env c.annotate_logged.new.env
    c.in_ok-summary.summary
    c.run_pass.ensures.passed c.infer_ranges.ensures.kept c.in_ok-summary.ensures.summary c.run_pass-2.ensures.passed
    c.run_pass-3.ensures.passed c.annotate_logged.ensures

pub returns-in_err-run_pass-clause-slots : goal.returns-in_err-run_pass-clause-slots
returns-in_err-run_pass-clause-slots g c =
    passed_slots g.P.InnerPasses.keeps_all c.args.func.now c.args.env.now c.run_pass.new.func c.run_pass.new.env
    c.run_pass.ensures.passed

pub returns-in_err-run_pass-clause-names : goal.returns-in_err-run_pass-clause-names
returns-in_err-run_pass-clause-names g c =
    let e : InferError = c.in_err-run_pass.field-0.0 in
    let same : c.from_residual.result ≡ Err e = search rules in
    names_on c.args.id c.from_residual.result e same (c.in_err-run_pass.ensures.names)

pub returns-in_err-summary-clause-slots : goal.returns-in_err-summary-clause-slots
returns-in_err-summary-clause-slots g c =
    let first = passed_slots g.P.InnerPasses.keeps_all c.args.func.now c.args.env.now c.run_pass.new.func
    c.run_pass.new.env c.run_pass.ensures.passed in
    c.infer_ranges.ensures.slots ∙ first

pub returns-in_err-summary-clause-names : goal.returns-in_err-summary-clause-names
returns-in_err-summary-clause-names g c =
    let e : InferError = c.in_err-summary.field-0.0 in
    let same : c.from_residual-in_err-summary.result ≡ Err e = search rules in
    names_on c.args.id c.from_residual-in_err-summary.result e same
    (c.in_err-summary.ensures.names c.in_err-summary.ensures.no_fault)

pub returns-in_err-run_pass-2-clause-slots : goal.returns-in_err-run_pass-2-clause-slots
returns-in_err-run_pass-2-clause-slots g c =
    let first = passed_slots g.P.InnerPasses.keeps_all c.args.func.now c.args.env.now c.run_pass.new.func
    c.run_pass.new.env c.run_pass.ensures.passed in
    let second = passed_slots g.P.InnerPasses.keeps_all c.infer_ranges.new.func c.infer_ranges.new.env
    c.run_pass-2.new.func c.run_pass-2.new.env c.run_pass-2.ensures.passed in
    second ∙ c.infer_ranges.ensures.slots ∙ first

pub returns-in_err-run_pass-2-clause-names : goal.returns-in_err-run_pass-2-clause-names
returns-in_err-run_pass-2-clause-names g c =
    let e : InferError = c.in_err-run_pass-2.field-0.0 in
    let same : c.from_residual-in_err-run_pass-2.result ≡ Err e = search rules in
    names_on c.args.id c.from_residual-in_err-run_pass-2.result e same (c.in_err-run_pass-2.ensures.names)

pub returns-in_err-run_pass-3-clause-slots : goal.returns-in_err-run_pass-3-clause-slots
returns-in_err-run_pass-3-clause-slots g c =
    let first = passed_slots g.P.InnerPasses.keeps_all c.args.func.now c.args.env.now c.run_pass.new.func
    c.run_pass.new.env c.run_pass.ensures.passed in
    let second = passed_slots g.P.InnerPasses.keeps_all c.infer_ranges.new.func c.infer_ranges.new.env
    c.run_pass-2.new.func c.run_pass-2.new.env c.run_pass-2.ensures.passed in
    let third = passed_slots g.P.InnerPasses.keeps_all c.run_pass-2.new.func c.run_pass-2.new.env c.run_pass-3.new.func
    c.run_pass-3.new.env c.run_pass-3.ensures.passed in
    third ∙ second ∙ c.infer_ranges.ensures.slots ∙ first

pub returns-in_err-run_pass-3-clause-names : goal.returns-in_err-run_pass-3-clause-names
returns-in_err-run_pass-3-clause-names g c =
    let e : InferError = c.in_err-run_pass-3.field-0.0 in
    let same : c.from_residual-in_err-run_pass-3.result ≡ Err e = search rules in
    names_on c.args.id c.from_residual-in_err-run_pass-3.result e same (c.in_err-run_pass-3.ensures.names)

pub returns-clause-slots : goal.returns-clause-slots
returns-clause-slots g c =
    let first = passed_slots g.P.InnerPasses.keeps_all c.args.func.now c.args.env.now c.run_pass.new.func
    c.run_pass.new.env c.run_pass.ensures.passed in
    let second = passed_slots g.P.InnerPasses.keeps_all c.infer_ranges.new.func c.infer_ranges.new.env
    c.run_pass-2.new.func c.run_pass-2.new.env c.run_pass-2.ensures.passed in
    let third = passed_slots g.P.InnerPasses.keeps_all c.run_pass-2.new.func c.run_pass-2.new.env c.run_pass-3.new.func
    c.run_pass-3.new.env c.run_pass-3.ensures.passed in
    annotated_slots c.in_ok-summary.summary c.run_pass-3.new.func c.run_pass-3.new.env c.annotate_logged.new.func
    c.annotate_logged.new.env c.annotate_logged.ensures ∙ third ∙ second ∙ c.infer_ranges.ensures.slots ∙ first

pub returns-in_err-run_pass-clause-run : goal.returns-in_err-run_pass-clause-run
returns-in_err-run_pass-clause-run g c =
    let k = g.P.InnerPasses.keeps_all in
    let e : InferError = c.in_err-run_pass.field-0.0 in
    let same : c.from_residual.result ≡ Err e = search rules in
    completes_error (Completed k c.args.id (c.args.func.now, c.args.env.now))
    (CompletionRefused k c.args.id (c.args.func.now, c.args.env.now)) c.from_residual.result e c.run_pass.new.func
    c.run_pass.new.env same
    (λ no. first_refused k c.args.id (c.args.func.now, c.args.env.now) (c.run_pass.new.func, c.run_pass.new.env) e
    (c.in_err-run_pass.ensures.fault no) c.run_pass.ensures.passed)

pub returns-in_err-run_pass-2-clause-run : goal.returns-in_err-run_pass-2-clause-run
returns-in_err-run_pass-2-clause-run g c =
    let k = g.P.InnerPasses.keeps_all in
    let e : InferError = c.in_err-run_pass-2.field-0.0 in
    let same : c.from_residual-in_err-run_pass-2.result ≡ Err e = search rules in
    completes_error (Completed k c.args.id (c.args.func.now, c.args.env.now))
    (CompletionRefused k c.args.id (c.args.func.now, c.args.env.now)) c.from_residual-in_err-run_pass-2.result e
    c.run_pass-2.new.func c.run_pass-2.new.env same
    (λ no. second_refused k c.args.id c.args.func.now c.run_pass.new.func c.args.env.now c.run_pass.new.env
    c.run_pass.ensures.passed
    c.infer_ranges.new.func c.run_pass-2.new.func c.infer_ranges.new.env c.run_pass-2.new.env c.in_ok-summary.summary e
    c.in_ok-summary.ensures.run (c.in_err-run_pass-2.ensures.fault no) c.run_pass-2.ensures.passed)

pub returns-in_err-run_pass-3-clause-run : goal.returns-in_err-run_pass-3-clause-run
returns-in_err-run_pass-3-clause-run g c =
    let k = g.P.InnerPasses.keeps_all in
    let e : InferError = c.in_err-run_pass-3.field-0.0 in
    let same : c.from_residual-in_err-run_pass-3.result ≡ Err e = search rules in
    completes_error (Completed k c.args.id (c.args.func.now, c.args.env.now))
    (CompletionRefused k c.args.id (c.args.func.now, c.args.env.now)) c.from_residual-in_err-run_pass-3.result e
    c.run_pass-3.new.func c.run_pass-3.new.env same
    (λ no. third_refused k c.args.id c.args.func.now c.run_pass.new.func c.args.env.now c.run_pass.new.env
    c.run_pass.ensures.passed
    c.infer_ranges.new.func c.run_pass-2.new.func c.run_pass-3.new.func c.infer_ranges.new.env c.run_pass-2.new.env
    c.run_pass-3.new.env c.in_ok-summary.summary e c.in_ok-summary.ensures.run c.run_pass-2.ensures.passed
    (c.in_err-run_pass-3.ensures.fault no) c.run_pass-3.ensures.passed)

pub returns-in_err-run_pass-clause-last : goal.returns-in_err-run_pass-clause-last
returns-in_err-run_pass-clause-last g c =
    let e : InferError = c.in_err-run_pass.field-0.0 in
    let same : c.from_residual.result ≡ Err e = search rules in
    err_on (IsFaultOf (g.P.InnerPasses.failed_last c.run_pass.new.passes) c.args.id c.run_pass.new.func)
    c.from_residual.result e same c.in_err-run_pass.ensures.last

pub returns-in_err-summary-clause-last : goal.returns-in_err-summary-clause-last
returns-in_err-summary-clause-last g c =
    let e : InferError = c.in_err-summary.field-0.0 in
    let same : c.from_residual-in_err-summary.result ≡ Err e = search rules in
    let last = g.P.InnerPasses.failed_last c.run_pass.new.passes in
    err_on (IsFaultOf last c.args.id c.infer_ranges.new.func) c.from_residual-in_err-summary.result e same
    (unfailed last c.args.id c.infer_ranges.new.func e c.in_err-summary.ensures.no_fault)

pub returns-in_err-run_pass-2-clause-last : goal.returns-in_err-run_pass-2-clause-last
returns-in_err-run_pass-2-clause-last g c =
    let e : InferError = c.in_err-run_pass-2.field-0.0 in
    let same : c.from_residual-in_err-run_pass-2.result ≡ Err e = search rules in
    err_on (IsFaultOf (g.P.InnerPasses.failed_last c.run_pass-2.new.passes) c.args.id c.run_pass-2.new.func)
    c.from_residual-in_err-run_pass-2.result e same c.in_err-run_pass-2.ensures.last

pub returns-in_err-run_pass-3-clause-last : goal.returns-in_err-run_pass-3-clause-last
returns-in_err-run_pass-3-clause-last g c =
    let e : InferError = c.in_err-run_pass-3.field-0.0 in
    let same : c.from_residual-in_err-run_pass-3.result ≡ Err e = search rules in
    err_on (IsFaultOf (g.P.InnerPasses.failed_last c.run_pass-3.new.passes) c.args.id c.run_pass-3.new.func)
    c.from_residual-in_err-run_pass-3.result e same c.in_err-run_pass-3.ensures.last
