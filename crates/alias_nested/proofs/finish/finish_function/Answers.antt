use Rattle.std.proofs.Common.{◌≡◌, ◌∙◌, Err, true, rules}
use Rattle.alias_hir.specs.declared.error.InferError.{InferError}
use Rattle.alias_ranges.specs.laws.SummaryLaws.{summary_fits}
use Rattle.alias_nested.proofs.Changing.{ranged_slots, annotated_slots}
use Rattle.alias_nested.proofs.Finished.{finishes, finish_refused, finish_keeps}
use Rattle.alias_nested.proofs.Keeping.{ranged_keeps, summary_kept}
use Rattle.alias_nested.proofs.finish.finish_function.Goals as goal

pub returns-in_err-summary-clause-answer : goal.returns-in_err-summary-clause-answer
returns-in_err-summary-clause-answer c =
    let e : InferError = c.in_err-summary.field-0.0 in
    let same : c.from_residual.result ≡ Err e = search rules in
    let p = c.infer_mutation_aliasing_ranges in
    finish_refused c.args.func.now p.new.func c.args.env.now p.new.env c.from_residual.result e same
    c.in_err-summary.ensures.pass

pub returns-in_err-summary-clause-kept : goal.returns-in_err-summary-clause-kept
returns-in_err-summary-clause-kept c =
    let p = c.infer_mutation_aliasing_ranges in
    ranged_keeps c.args.func.now p.new.func c.args.env.now p.new.env p.ensures.fits p.ensures.still p.ensures.kept

pub returns-in_err-summary-clause-slots : goal.returns-in_err-summary-clause-slots
returns-in_err-summary-clause-slots c = let p = c.infer_mutation_aliasing_ranges in
    ranged_slots c.args.env.now p.new.env p.ensures.kept

pub returns-clause-answer : goal.returns-clause-answer
returns-clause-answer c =
    let p = c.infer_mutation_aliasing_ranges in
    finishes c.args.func.now p.new.func c.annotate.new.func c.args.env.now p.new.env c.annotate.new.env
    c.in_ok-summary.summary c.in_ok-summary.ensures.pass c.annotate.ensures

pub returns-clause-kept : goal.returns-clause-kept
returns-clause-kept c =
    let p = c.infer_mutation_aliasing_ranges in
    let ranged = ranged_keeps c.args.func.now p.new.func c.args.env.now p.new.env p.ensures.fits p.ensures.still
    p.ensures.kept in
    let fits = summary_fits true c.args.func.now c.args.env.now _ c.in_ok-summary.ensures.pass c.requires in
    let summarized = summary_kept c.args.env.now p.new.env c.args.func.now ranged.evolves.effects c.requires
    c.in_ok-summary.summary (record { within = fits.0; no_call = fits.1 }) in
    finish_keeps c.args.func.now p.new.func c.annotate.new.func c.args.env.now p.new.env c.annotate.new.env
    c.in_ok-summary.summary ranged summarized c.annotate.ensures

pub returns-clause-slots : goal.returns-clause-slots
returns-clause-slots c =
    let p = c.infer_mutation_aliasing_ranges in
    annotated_slots c.in_ok-summary.summary p.new.func p.new.env c.annotate.new.func c.annotate.new.env
    c.annotate.ensures ∙ ranged_slots c.args.env.now p.new.env p.ensures.kept
