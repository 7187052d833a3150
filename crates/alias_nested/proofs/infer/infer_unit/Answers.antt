use Rattle.std.proofs.Common.{ap, sym}
use Rattle.std.specs.Prelude.{[]}
use Rattle.alias_hir.specs.declared.env.Environment.{Environment}
use Rattle.alias_rules.specs.RuleLaws.{rules_make_function_fit}
use Rattle.alias_nested.specs.Analysis.{Accounts}
use Rattle.alias_nested.proofs.Ending.{unit_leads, unit_as}
use Rattle.alias_nested.proofs.Ranging.{unit_covered, unit_covers_heap, unit_caused, unit_flows}
use Rattle.std.proofs.Common.{◌≡◌, Err, rules}
use Rattle.alias_hir.specs.declared.error.InferError.{InferError}
use Rattle.alias_nested.specs.Faults.{NamesItsPass}
use Rattle.alias_nested.proofs.Faulting.{err_on, names_its_pass}
use Rattle.alias_nested.proofs.infer.infer_unit.Goals as goal

pub infer_all-requires-clause-fits : goal.infer_all-requires-clause-fits
infer_all-requires-clause-fits g c = rules_make_function_fit c.into_unit-function.result
    c.into_unit-function.ensures.checked

pub returns-clause-answer : goal.returns-clause-answer
returns-clause-answer g c =
    let l = c.in_ok-summary.ensures.run [] (record { same = sym c.new-solved.ensures; solve = tt }) in (
      l.0,
      unit_as c.args.unit l.0 c.infer_all.new.func c.infer_all.new.env c.in_ok-summary.summary c.infer_all.new.solved
          c.take_reports-reports.new.env c.take_reports-reports.result
          (unit_leads c.into_unit-function.result c.args.unit _ c.into_unit-function.ensures.unit l.1) l.2.same
          c.take_reports-reports.ensures.taken c.take_reports-reports.ensures.reports,
      l.2.solve,
    )

pub returns-clause-cover : goal.returns-clause-cover
returns-clause-cover g c =
    let none : Accounts [] c.new-solved.result = record { same = sym c.new-solved.ensures; solve = tt } in
    let l = c.in_ok-summary.ensures.run [] none in
    unit_covered c.args.unit l.0 _
    (unit_as c.args.unit l.0 c.infer_all.new.func c.infer_all.new.env c.in_ok-summary.summary c.infer_all.new.solved
    c.take_reports-reports.new.env c.take_reports-reports.result
    (unit_leads c.into_unit-function.result c.args.unit _ c.into_unit-function.ensures.unit l.1) l.2.same
    c.take_reports-reports.ensures.taken c.take_reports-reports.ensures.reports)
    _ c.infer_all.new.func c.infer_all.new.env l.1
    (ap (λ (e : Environment). e.identifiers) c.take_reports-reports.ensures.taken)
    (c.in_ok-summary.ensures.ranged [] none)

pub returns-clause-heap : goal.returns-clause-heap
returns-clause-heap g c =
    let none : Accounts [] c.new-solved.result = record { same = sym c.new-solved.ensures; solve = tt } in
    let l = c.in_ok-summary.ensures.run [] none in
    unit_covers_heap c.args.unit l.0 _
    (unit_as c.args.unit l.0 c.infer_all.new.func c.infer_all.new.env c.in_ok-summary.summary c.infer_all.new.solved
    c.take_reports-reports.new.env c.take_reports-reports.result
    (unit_leads c.into_unit-function.result c.args.unit _ c.into_unit-function.ensures.unit l.1) l.2.same
    c.take_reports-reports.ensures.taken c.take_reports-reports.ensures.reports)
    _ c.infer_all.new.func c.infer_all.new.env l.1
    (ap (λ (e : Environment). e.identifiers) c.take_reports-reports.ensures.taken)
    (c.in_ok-summary.ensures.ranged [] none)

pub returns-clause-cause : goal.returns-clause-cause
returns-clause-cause g c =
    let none : Accounts [] c.new-solved.result = record { same = sym c.new-solved.ensures; solve = tt } in
    let l = c.in_ok-summary.ensures.run [] none in
    unit_caused c.args.unit l.0 _
    (unit_as c.args.unit l.0 c.infer_all.new.func c.infer_all.new.env c.in_ok-summary.summary c.infer_all.new.solved
    c.take_reports-reports.new.env c.take_reports-reports.result
    (unit_leads c.into_unit-function.result c.args.unit _ c.into_unit-function.ensures.unit l.1) l.2.same
    c.take_reports-reports.ensures.taken c.take_reports-reports.ensures.reports)
    _ c.infer_all.new.func c.infer_all.new.env l.1
    (ap (λ (e : Environment). e.identifiers) c.take_reports-reports.ensures.taken)
    (c.in_ok-summary.ensures.ranged [] none)

pub returns-clause-flows : goal.returns-clause-flows
returns-clause-flows g c =
    let none : Accounts [] c.new-solved.result = record { same = sym c.new-solved.ensures; solve = tt } in
    let l = c.in_ok-summary.ensures.run [] none in
    unit_flows c.args.unit l.0 _
    (unit_as c.args.unit l.0 c.infer_all.new.func c.infer_all.new.env c.in_ok-summary.summary c.infer_all.new.solved
    c.take_reports-reports.new.env c.take_reports-reports.result
    (unit_leads c.into_unit-function.result c.args.unit _ c.into_unit-function.ensures.unit l.1) l.2.same
    c.take_reports-reports.ensures.taken c.take_reports-reports.ensures.reports)
    _ c.infer_all.new.func c.infer_all.new.env l.1
    (ap (λ (e : Environment). e.identifiers) c.take_reports-reports.ensures.taken)
    (c.in_ok-summary.ensures.ranged [] none)

pub returns-in_err-summary-clause-last : goal.returns-in_err-summary-clause-last
returns-in_err-summary-clause-last g c =
    let e : InferError = c.in_err-summary.field-0.0 in
    let same : c.from_residual.result ≡ Err e = search rules in
    let last = g.P.InnerPasses.failed_last c.infer_all.new.passes in
    err_on (NamesItsPass last) c.from_residual.result e same
    (names_its_pass last c.infer_all.new.env e c.in_err-summary.ensures.last)
