use Rattle.std.proofs.Common.{◌≡◌, ℕ, ◌+◌, true, false, [], length, Some, Ok, Err, refl, ap, sym, ◌∙◌, subst, rules}
use Rattle.alias_lattice.specs.ProperStates.{StateProper}
use Rattle.alias_lattice.specs.States.{State}
use Rattle.alias_flow.specs.Solutions.{entry_at}
use Rattle.alias_rules.specs.RuleLaws.{fitting_entry, fitting_successors}
use Rattle.alias_certificate.specs.declared.fault.CheckFault.{CheckFault}
use Rattle.alias_step.specs.block.Contexts.{held}
use Rattle.alias_tables.specs.write_back.WriteBack.{tables_of}
use Rattle.alias_effects.specs.Inference.{end_of, end_tables}
use Rattle.alias_effects.specs.Numbered.{numbered}
use Rattle.alias_effects.specs.declared.output.PassEnd.{PassEnd}
use Rattle.alias_effects.proofs.Solving.{Numbers}
use Rattle.alias_flow.specs.Runs.{solver_state}
use Rattle.alias_flow.specs.check.Reached.{reached_marks}
use Rattle.alias_nested.specs.Created.{created_functions}
use Rattle.alias_cert.specs.function.Blocks.{line_numbers, are_lines}
use Rattle.alias_cert.specs.function.Entries.{entries_stated}
use Rattle.alias_cert.specs.function.Functions.{flow_rules, marks, numbers, marked_positions, entries_checked}
use Rattle.alias_cert.specs.function.Functions.{steps_checked, checked_end, function_solved}
use Rattle.alias_cert.specs.function.Temporaries.{temporaries_stated}
use Rattle.alias_cert.proofs.function.Answering.{gives_fault, lines_fail, entries_fail, temporaries_fail, steps_fail}
use Rattle.alias_cert.proofs.function.Answering.{steps_pass, steps_at}
use Rattle.alias_cert.proofs.function.SolvesFunction.{stated_long, end_solves}
use Rattle.alias_cert.proofs.function.function.check_with.Goals as goal

pub are_lines-requires : goal.are_lines-requires
are_lines-requires c = c.as_slice-numbers.ensures.value ∙ c.in_ok-found.ensures

pub returns-then-not-are_lines-clause-answer : goal.returns-then-not-are_lines-clause-answer
returns-then-not-are_lines-clause-answer c =
    let said = c.args.said.now in
    let env = c.args.env.now in
    let func = c.args.func.now in
    let e = c.args.is_function_expression in
    let reached_are : c.as_slice-reached.result.now ≡ marks said env func e = c.as_slice-reached.ensures.value
    ∙ c.in_ok-marks.ensures.marks ∙ ap reached_marks c.in_ok-flow.ensures.rules in
    let lines : are_lines said.blocks func.body.blocks (marks said env func e) ≡ false =
    sym (c.if-not-are_lines.ensures ∙ ap (λ z. are_lines z func.body.blocks c.as_slice-reached.result.now)
    c.as_slice-lines.ensures ∙ ap (are_lines said.blocks func.body.blocks) reached_are) in
    λ m. lines_fail said env func e lines

pub returns-in_err-entries-clause-answer : goal.returns-in_err-entries-clause-answer
returns-in_err-entries-clause-answer c =
    let said = c.args.said.now in
    let env = c.args.env.now in
    let func = c.args.func.now in
    let e = c.args.is_function_expression in
    let reached_are : c.as_slice-reached.result.now ≡ marks said env func e = c.as_slice-reached.ensures.value
    ∙ c.in_ok-marks.ensures.marks ∙ ap reached_marks c.in_ok-flow.ensures.rules in
    let numbers_are : c.as_slice-numbers.result.now ≡ numbers said env func e = c.as_slice-numbers.ensures.value
    ∙ c.in_ok-found.ensures ∙ ap (line_numbers 0) reached_are in
    let lines : are_lines said.blocks func.body.blocks (marks said env func e) ≡ true =
    sym (c.if-not-are_lines.ensures ∙ ap (λ z. are_lines z func.body.blocks c.as_slice-reached.result.now)
    c.as_slice-lines.ensures ∙ ap (are_lines said.blocks func.body.blocks) reached_are) in
    let fault : CheckFault = c.in_err-entries.field-0.0 in
    let same : c.from_residual-in_err-entries.result ≡ Err fault = search rules in
    gives_fault (function_solved said env func e) c.from_residual-in_err-entries.result fault same
    (entries_fail said env func e lines fault
    (λ m. ap (entries_stated said.function (length env.identifiers + length said.temporaries)
    (created_functions func) said.blocks []) (sym numbers_are) ∙ c.in_err-entries.ensures m))

pub returns-in_err-state_temporaries-clause-answer : goal.returns-in_err-state_temporaries-clause-answer
returns-in_err-state_temporaries-clause-answer c =
    let said = c.args.said.now in
    let env = c.args.env.now in
    let func = c.args.func.now in
    let e = c.args.is_function_expression in
    let reached_are : c.as_slice-reached.result.now ≡ marks said env func e = c.as_slice-reached.ensures.value
    ∙ c.in_ok-marks.ensures.marks ∙ ap reached_marks c.in_ok-flow.ensures.rules in
    let numbers_are : c.as_slice-numbers.result.now ≡ numbers said env func e = c.as_slice-numbers.ensures.value
    ∙ c.in_ok-found.ensures ∙ ap (line_numbers 0) reached_are in
    let lines : are_lines said.blocks func.body.blocks (marks said env func e) ≡ true =
    sym (c.if-not-are_lines.ensures ∙ ap (λ z. are_lines z func.body.blocks c.as_slice-reached.result.now)
    c.as_slice-lines.ensures ∙ ap (are_lines said.blocks func.body.blocks) reached_are) in
    let stated : entries_checked said env func e ≡ Ok c.in_ok-entries.entries =
    ap (entries_stated said.function (length env.identifiers + length said.temporaries) (created_functions func)
    said.blocks []) (sym numbers_are) ∙ c.in_ok-entries.ensures in
    let fault : CheckFault = c.in_err-state_temporaries.field-0.0 in
    let same : c.from_residual-in_err-state_temporaries.result ≡ Err fault = search rules in
    gives_fault (function_solved said env func e) c.from_residual-in_err-state_temporaries.result fault same
    (temporaries_fail said env func e lines c.in_ok-entries.entries stated fault
    (λ m. ap (λ ts. temporaries_stated said.function env ts (tables_of env)) (sym c.as_slice-temporaries.ensures)
    ∙ ap (temporaries_stated said.function env c.as_slice-temporaries.result.now) (sym c.in_ok-flow.ensures.tables)
    ∙ c.in_err-state_temporaries.ensures.tables m))

pub returns-in_err-check_steps-clause-answer : goal.returns-in_err-check_steps-clause-answer
returns-in_err-check_steps-clause-answer c =
    let said = c.args.said.now in
    let env = c.args.env.now in
    let func = c.args.func.now in
    let e = c.args.is_function_expression in
    let flow = c.state_temporaries.new.flow in
    let entries = c.in_ok-entries.entries in
    let reached_are : c.as_slice-reached.result.now ≡ marks said env func e = c.as_slice-reached.ensures.value
    ∙ c.in_ok-marks.ensures.marks ∙ ap reached_marks c.in_ok-flow.ensures.rules in
    let numbers_are : c.as_slice-numbers.result.now ≡ numbers said env func e = c.as_slice-numbers.ensures.value
    ∙ c.in_ok-found.ensures ∙ ap (line_numbers 0) reached_are in
    let lines : are_lines said.blocks func.body.blocks (marks said env func e) ≡ true =
    sym (c.if-not-are_lines.ensures ∙ ap (λ z. are_lines z func.body.blocks c.as_slice-reached.result.now)
    c.as_slice-lines.ensures ∙ ap (are_lines said.blocks func.body.blocks) reached_are) in
    let stated : entries_checked said env func e ≡ Ok entries =
    ap (entries_stated said.function (length env.identifiers + length said.temporaries) (created_functions func)
    said.blocks []) (sym numbers_are) ∙ c.in_ok-entries.ensures in
    let given : temporaries_stated said.function env said.temporaries (tables_of env) ≡ Ok flow.tables =
    ap (λ ts. temporaries_stated said.function env ts (tables_of env)) (sym c.as_slice-temporaries.ensures)
    ∙ ap (temporaries_stated said.function env c.as_slice-temporaries.result.now) (sym c.in_ok-flow.ensures.tables)
    ∙ c.in_ok-state_temporaries.ensures.tables in
    let began = c.in_ok-state_temporaries.ensures.same in
    let fault : CheckFault = c.in_err-check_steps.field-0.0 in
    let same : c.from_residual-in_err-check_steps.result ≡ Err fault = search rules in
    gives_fault (function_solved said env func e) c.from_residual-in_err-check_steps.result fault same
    (steps_fail said env func e lines entries stated flow.tables given fault
    (λ m. sym (ap (λ es. steps_checked said env func e es flow.tables) c.as_slice-states.ensures)
    ∙ sym (steps_at said env func e c.as_slice-states.result.now flow.tables flow.tables (numbered (held flow.context))
    c.as_slice-numbers.result.now flow.recorded.items
    (ap (λ x. numbered (held x)) began.context ∙ c.in_ok-flow.ensures.rules) numbers_are refl
    (began.recorded ∙ c.in_ok-flow.ensures.recorded))
    ∙ c.in_err-check_steps.ensures.steps.1 m))

pub into_end-requires : goal.into_end-requires
into_end-requires c =
    let said = c.args.said.now in
    let env = c.args.env.now in
    let func = c.args.func.now in
    let e = c.args.is_function_expression in
    let marks_are : c.in_ok-marks.marks.items ≡ marks said env func e = c.in_ok-marks.ensures.marks
    ∙ ap reached_marks c.in_ok-flow.ensures.rules in
    let numbers_are : c.as_slice-numbers.result.now ≡ numbers said env func e = c.as_slice-numbers.ensures.value
    ∙ c.in_ok-found.ensures ∙ ap (line_numbers 0) (c.as_slice-reached.ensures.value ∙ marks_are) in
    let stated : entries_checked said env func e ≡ Ok c.in_ok-entries.entries =
    ap (entries_stated said.function (length env.identifiers + length said.temporaries) (created_functions func)
    said.blocks []) (sym numbers_are) ∙ c.in_ok-entries.ensures in
    let fits : Numbers func = record {
      distinct = c.in_ok-flow.ensures.distinct;
      entry = fitting_entry func env c.requires.fits;
      successors = λ n b x h. fitting_successors func env n b x c.requires.fits h;
    } in
    let marks_long : length (marks said env func e) ≡ length func.body.blocks = ap length (sym marks_are)
    ∙ sym c.in_ok-marks.marks.ok.0 ∙ c.in_ok-marks.ensures.count ∙ ap (λ r. r.blocks) c.in_ok-flow.ensures.rules in
    let func_is : c.check_steps.new.flow.context.func.now ≡ func =
    ap (λ p. p.now) c.in_ok-check_steps.ensures.func
    ∙ ap (λ x. x.func.now) c.in_ok-state_temporaries.ensures.same.context ∙ c.in_ok-flow.ensures.func in
    stated_long env func e fits said.function (length env.identifiers + length said.temporaries)
    (created_functions func) said.blocks c.in_ok-entries.entries stated marks_long
    ∙ sym (ap (λ f. length f.body.blocks) func_is)

pub returns-clause-answer : goal.returns-clause-answer
returns-clause-answer c =
    let said = c.args.said.now in
    let env = c.args.env.now in
    let func = c.args.func.now in
    let e = c.args.is_function_expression in
    let flow = c.state_temporaries.new.flow in
    let left = c.check_steps.new.flow in
    let entries = c.in_ok-entries.entries in
    let reached_are : c.as_slice-reached.result.now ≡ marks said env func e = c.as_slice-reached.ensures.value
    ∙ c.in_ok-marks.ensures.marks ∙ ap reached_marks c.in_ok-flow.ensures.rules in
    let numbers_are : c.as_slice-numbers.result.now ≡ numbers said env func e = c.as_slice-numbers.ensures.value
    ∙ c.in_ok-found.ensures ∙ ap (line_numbers 0) reached_are in
    let lines : are_lines said.blocks func.body.blocks (marks said env func e) ≡ true =
    sym (c.if-not-are_lines.ensures ∙ ap (λ z. are_lines z func.body.blocks c.as_slice-reached.result.now)
    c.as_slice-lines.ensures ∙ ap (are_lines said.blocks func.body.blocks) reached_are) in
    let stated : entries_checked said env func e ≡ Ok entries =
    ap (entries_stated said.function (length env.identifiers + length said.temporaries) (created_functions func)
    said.blocks []) (sym numbers_are) ∙ c.in_ok-entries.ensures in
    let given : temporaries_stated said.function env said.temporaries (tables_of env) ≡ Ok flow.tables =
    ap (λ ts. temporaries_stated said.function env ts (tables_of env)) (sym c.as_slice-temporaries.ensures)
    ∙ ap (temporaries_stated said.function env c.as_slice-temporaries.result.now) (sym c.in_ok-flow.ensures.tables)
    ∙ c.in_ok-state_temporaries.ensures.tables in
    let began = c.in_ok-state_temporaries.ensures.same in
    let h = c.in_ok-check_steps.ensures.steps in
    let w = solver_state h.0 left.tables left.recorded.items in
    let steps : steps_checked said env func e entries flow.tables ≡ Ok w =
    sym (ap (λ es. steps_checked said env func e es flow.tables) c.as_slice-states.ensures)
    ∙ sym (steps_at said env func e c.as_slice-states.result.now flow.tables flow.tables (numbered (held flow.context))
    c.as_slice-numbers.result.now flow.recorded.items
    (ap (λ x. numbered (held x)) began.context ∙ c.in_ok-flow.ensures.rules) numbers_are refl
    (began.recorded ∙ c.in_ok-flow.ensures.recorded))
    ∙ h.1 in
    let func_is : left.context.func.now ≡ func = ap (λ p. p.now) c.in_ok-check_steps.ensures.func
    ∙ ap (λ x. x.func.now) began.context ∙ c.in_ok-flow.ensures.func in
    let visits_are : c.in_ok-visits.visits ≡ marked_positions 0 (marks said env func e) = c.in_ok-visits.ensures
    ∙ ap (marked_positions 0) reached_are in
    let end_is : c.in_ok-end.end ≡ checked_end said env func e entries w =
    c.in_ok-end.ensures
    ∙ ap (λ f. end_of f (record {
      progress =
          record { visits = c.in_ok-visits.visits; joined_input = entries; last_input = [] };
      tables = left.tables;
      recorded = left.recorded.items;
    })) func_is
    ∙ ap (λ vs. end_of func (record {
      progress = record { visits = vs; joined_input = entries; last_input = [] };
      tables = left.tables;
      recorded = left.recorded.items;
    })) visits_are in
    steps_pass said env func e lines entries stated flow.tables given w steps ∙ ap Ok (sym end_is)

pub returns-clause-solves : goal.returns-clause-solves
returns-clause-solves c =
    let said = c.args.said.now in
    let env = c.args.env.now in
    let func = c.args.func.now in
    let e = c.args.is_function_expression in
    let flow = c.state_temporaries.new.flow in
    let left = c.check_steps.new.flow in
    let entries = c.in_ok-entries.entries in
    let marks_are : c.in_ok-marks.marks.items ≡ marks said env func e = c.in_ok-marks.ensures.marks
    ∙ ap reached_marks c.in_ok-flow.ensures.rules in
    let reached_are : c.as_slice-reached.result.now ≡ marks said env func e = c.as_slice-reached.ensures.value
    ∙ marks_are in
    let numbers_are : c.as_slice-numbers.result.now ≡ numbers said env func e = c.as_slice-numbers.ensures.value
    ∙ c.in_ok-found.ensures ∙ ap (line_numbers 0) reached_are in
    let stated : entries_checked said env func e ≡ Ok entries =
    ap (entries_stated said.function (length env.identifiers + length said.temporaries) (created_functions func)
    said.blocks []) (sym numbers_are) ∙ c.in_ok-entries.ensures in
    let began = c.in_ok-state_temporaries.ensures.same in
    let h = c.in_ok-check_steps.ensures.steps in
    let w = solver_state h.0 left.tables left.recorded.items in
    let steps : steps_checked said env func e entries flow.tables ≡ Ok w =
    sym (ap (λ es. steps_checked said env func e es flow.tables) c.as_slice-states.ensures)
    ∙ sym (steps_at said env func e c.as_slice-states.result.now flow.tables flow.tables (numbered (held flow.context))
    c.as_slice-numbers.result.now flow.recorded.items
    (ap (λ x. numbered (held x)) began.context ∙ c.in_ok-flow.ensures.rules) numbers_are refl
    (began.recorded ∙ c.in_ok-flow.ensures.recorded))
    ∙ h.1 in
    let func_is : left.context.func.now ≡ func = ap (λ p. p.now) c.in_ok-check_steps.ensures.func
    ∙ ap (λ x. x.func.now) began.context ∙ c.in_ok-flow.ensures.func in
    let visits_are : c.in_ok-visits.visits ≡ marked_positions 0 (marks said env func e) = c.in_ok-visits.ensures
    ∙ ap (marked_positions 0) reached_are in
    let end_is : c.in_ok-end.end ≡ checked_end said env func e entries w =
    c.in_ok-end.ensures
    ∙ ap (λ f. end_of f (record {
      progress =
          record { visits = c.in_ok-visits.visits; joined_input = entries; last_input = [] };
      tables = left.tables;
      recorded = left.recorded.items;
    })) func_is
    ∙ ap (λ vs. end_of func (record {
      progress = record { visits = vs; joined_input = entries; last_input = [] };
      tables = left.tables;
      recorded = left.recorded.items;
    })) visits_are in
    let fits : Numbers func = record {
      distinct = c.in_ok-flow.ensures.distinct;
      entry = fitting_entry func env c.requires.fits;
      successors = λ n b x k. fitting_successors func env n b x c.requires.fits k;
    } in
    let marks_long : length (marks said env func e) ≡ length func.body.blocks = ap length (sym marks_are)
    ∙ sym c.in_ok-marks.marks.ok.0 ∙ c.in_ok-marks.ensures.count ∙ ap (λ r. r.blocks) c.in_ok-flow.ensures.rules in
    let known : (b : ℕ) (s : State) → entry_at entries b ≡ Some s → StateProper s =
    subst (λ es. (b : ℕ) (s : State) → entry_at es b ≡ Some s → StateProper s) c.as_slice-states.ensures
    c.all_known.ensures in
    end_solves env func e fits said entries stated known marks_long flow.tables w steps c.in_ok-end.end end_is
