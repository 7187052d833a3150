use Rattle.std.proofs.Common.{rules, ◌≡◌, false, ap, sym, ◌∙◌, subst, Ok, Err}
use Rattle.alias_hir.specs.declared.report.Report.{Report}
use Rattle.alias_tables.specs.Tables.{Leaves, intern_report}
use Rattle.alias_calls.specs.Legacy.{legacy}
use Rattle.alias_call_effects.specs.Answers.{has_numbers, is_memory, fault_error, tables_with}
use Rattle.alias_call_effects.specs.Legacy.{legacy_called}
use Rattle.alias_call_effects.specs.LegacyLaws.{reported_ok, reported_length, reported_err, reported_refused}
use Rattle.alias_call_effects.proofs.legacy.reported_expansion.Goals as goal

pub returns-in_err-legacy-clause-answer : goal.returns-in_err-legacy-clause-answer
returns-in_err-legacy-clause-answer c =
    let room = ap (λ r. has_numbers c.args.site.receiver.identifier r c.args.env.now.interned)
    (sym c.in_ok-report.ensures) ∙ sym c.has_numbers.ensures ∙ c.if-not-has_numbers.false in
    let refused : is_memory c.in_err-legacy.field-0.0 ≡ false
    → legacy_called c.args.signature.now c.args.site c.args.args.now c.args.state.now c.args.env.now
    ≡ Err c.in_err-legacy.field-0.0 =
    λ m. reported_err c.args.env.now c.args.signature.now c.args.site c.args.args.now c.args.state.now c.requires
    c.in_err-legacy.field-0.0 (c.in_err-legacy.ensures m) room in
    search (rules, refused)

pub returns-in_err-error-clause-answer : goal.returns-in_err-error-clause-answer
returns-in_err-error-clause-answer c =
    let before = tables_with c.args.env.now.interned in
    let after = tables_with c.intern_report.new.reports in
    let fault = c.in_err-error.field-0.0 in
    let is = subst (λ (r : Report). Leaves (intern_report c.args.site.receiver.identifier r before) (Err fault) after)
    c.in_ok-report.ensures (c.in_err-error.ensures.answer before) in
    let refused : is_memory (fault_error fault) ≡ false
    → legacy_called c.args.signature.now c.args.site c.args.args.now c.args.state.now c.args.env.now
    ≡ Err (fault_error fault) =
    λ m. reported_refused c.args.env.now c.args.signature.now c.args.site c.args.args.now c.args.state.now c.requires
    fault after is m in
    search (rules, refused)

-- the expansion of a call that is reported has two effects or more
pub number_report-requires : goal.number_report-requires
number_report-requires c = reported_length c.args.env.now c.args.signature.now c.args.site c.args.args.now
    c.args.state.now c.requires c.in_ok-legacy.legacy c.in_ok-legacy.ensures

-- with the numbers of its report it is the one stated
pub returns-clause-answer : goal.returns-clause-answer
returns-clause-answer c =
    reported_ok c.args.env.now c.args.signature.now c.args.site c.args.args.now c.args.state.now c.requires
    c.in_ok-legacy.legacy c.in_ok-legacy.ensures c.in_ok-error.error c.intern_report.new.reports
    (ap (λ r. intern_report c.args.site.receiver.identifier r (tables_with c.args.env.now.interned))
    (sym c.in_ok-report.ensures) ∙ c.in_ok-error.ensures.answer (tables_with c.args.env.now.interned))
    ∙ ap (λ es. Ok (
      legacy es c.in_ok-legacy.legacy.missing,
      record c.args.env.now { interned = c.intern_report.new.reports },
    )) (sym c.number_report.ensures)
