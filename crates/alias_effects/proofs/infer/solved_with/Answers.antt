use Rattle.std.proofs.Common.{◌≡◌, ◌∙◌, ap, sym, subst, length}
use Rattle.alias_lattice.specs.Flows.{IsSolution, AreJoins}
use Rattle.alias_lattice.specs.States.{state_below, state_join}
use Rattle.alias_lattice.specs.ProperStates.{StateProper}
use Rattle.alias_flow.specs.Machine.{solution}
use Rattle.alias_flow.specs.Solutions.{entry_at, RecordsSteps, KeepsOthers, IsForward}
use Rattle.alias_rules.specs.RuleLaws.{fitting_entry, fitting_successors}
use Rattle.alias_step.specs.block.Contexts.{context_of}
use Rattle.alias_tables.specs.write_back.WriteBack.{tables_of}
use Rattle.alias_effects.specs.Numbered.{numbered, tables_at, tables_left}
use Rattle.alias_effects.specs.Output.{solver_state_with}
use Rattle.alias_effects.specs.Solutions.{IsSolved}
use Rattle.alias_effects.specs.declared.output.PassEnd.{PassEnd}
use Rattle.alias_effects.proofs.Solving.{Numbers, solved_over}
use Rattle.alias_effects.proofs.infer.solved_with.Goals as goal

pub returns-in_ok-end_of-in-Ok-clause-solves : goal.returns-in_ok-end_of-in-Ok-clause-solves
returns-in_ok-end_of-in-Ok-clause-solves c =
    let func = c.args.func.now in
    let env = c.args.env.now in
    let e = c.args.is_function_expression in
    let context = context_of env func e in
    let said = c.in-Ok.ensures in
    let begun = c.in_ok-pass.ensures in
    let entries = c.in-Ok.solution.entries in
    let flow = c.solve-answer.new.flow in
    let recorded = flow.recorded in
    let before = begun.rules in
    let now = said.same ∙ before in
    let ending = said.end in
    let fits : Numbers func = record {
      distinct = begun.distinct;
      entry = fitting_entry func env c.requires.fits;
      successors = λ n b x h. fitting_successors func env n b x c.requires.fits h;
    } in
    let long : length recorded.items ≡ length func.body.blocks = sym recorded.ok.0 ∙ flow.recorded_long
    ∙ ap (λ r. r.blocks) now in
    let whole = sym (
    ap (λ r. solution state_join state_below r c.in_ok-pass.pass.tables c.in_ok-pass.pass.recorded.items) before
    ∙ ap (λ t. solution state_join state_below (numbered context) t c.in_ok-pass.pass.recorded.items) begun.tables
    ∙ ap (λ k. solution state_join state_below (numbered context) (tables_of env) k) begun.recorded) ∙ ending.1 in
    let left : flow.tables ≡ tables_left context = ending.4 ∙ sym (ap (tables_at (tables_of env)) whole) in
    subst (λ (p : PassEnd). IsSolved env func e p.solved) (sym c.in_ok-end_of-in-Ok.ensures)
    (solved_over env func e (tables_left context) fits (solver_state_with c.in-Ok.solution flow.tables recorded.items)
    left (said.count ∙ ap (λ r. r.blocks) before) long
    (subst (λ t. IsSolution state_below (numbered context).flow t (entry_at entries)) left
    (subst (λ r. IsSolution state_below r.flow flow.tables (entry_at entries)) now said.solves))
    (subst (λ t. RecordsSteps (numbered context).flow t (entry_at entries) recorded.items) left
    (subst (λ r. RecordsSteps r.flow flow.tables (entry_at entries) recorded.items) now said.keeps))
    (subst (λ k. KeepsOthers (entry_at entries) k recorded.items) begun.recorded said.others)
    (subst (λ t. IsForward (numbered context)
    → AreJoins state_below (numbered context).flow StateProper t (entry_at entries)) left
    (subst (λ r. IsForward r → AreJoins state_below r.flow StateProper flow.tables (entry_at entries)) before
    said.joins)))
