-- What follows for a function solves its flow.
use Rattle.std.proofs.Common.{◌≡◌, ℕ, ◌+◌, Bool, true, false, List, [], length, replicate, get_or, Option, Some, None, Ok}
use Rattle.std.proofs.Common.{refl, sym, ◌∙◌, subst}
use Rattle.alias_base.specs.declared.ids.FunctionId.{FunctionId}
use Rattle.alias_hir.specs.declared.env.Environment.{Environment}
use Rattle.alias_hir.specs.declared.hir.HirFunction.{HirFunction}
use Rattle.alias_lattice.specs.Flows.{IsOneOf, IsReached, at_entry, by_edge}
use Rattle.alias_lattice.specs.JoinLaws.{state_laws}
use Rattle.alias_lattice.specs.ProperLaws.{proper-empty_state}
use Rattle.alias_lattice.specs.ProperStates.{StateProper}
use Rattle.alias_lattice.specs.States.{State, empty_state, state_join, state_below}
use Rattle.alias_flow.proofs.EachEdge.{forward_is}
use Rattle.alias_flow.proofs.check.Marks.{marked_is_reached, reached_is_marked}
use Rattle.alias_flow.proofs.check.Solves.{check_solves, check_keeps, check_keeps_others, check_keeps_count}
use Rattle.alias_flow.proofs.check.Solves.{check_joins}
use Rattle.alias_flow.specs.Runs.{solver_state}
use Rattle.alias_flow.specs.check.Checks.{not_joined}
use Rattle.alias_step.specs.declared.block.recorded.BlockEffects.{BlockEffects}
use Rattle.alias_tables.specs.Tables.{TableLists}
use Rattle.alias_effects.specs.Inference.{end_tables}
use Rattle.alias_effects.specs.Solutions.{IsSolvedUnder}
use Rattle.alias_effects.proofs.Solving.{Numbers, solved_over}
use Rattle.alias_nested.specs.Created.{created_functions}
use Rattle.alias_certificate.specs.declared.beyond.Beyond.{Beyond}
use Rattle.alias_certificate.specs.declared.certificate.CertFunction.{CertFunction}
use Rattle.alias_cert.specs.function.Functions.{marked_positions}
use Rattle.alias_cert.proofs.Running.{after}
use Rattle.alias_cert.proofs.function.SolvesFunction.{laws}
use Rattle.alias_passage.specs.Givens.{Raises}
use Rattle.alias_passage.specs.Passes.{Passing, flow_passed}
use Rattle.alias_passage.proofs.Solves.{no_claim, known, entries_long, all_checked, check_passes, loops_join}
use Rattle.alias_passage.proofs.Solves.{bare_joins}
use Rattle.alias_follow.specs.declared.function.follow.FunctionEnd.{FunctionEnd}
use Rattle.alias_follow.specs.declared.lines.entering.Unfollowed.{Unfollowed}
use Rattle.alias_follow.specs.declared.lines.entering.Unfollowed.TheVariants as unfollowed
use Rattle.alias_follow.specs.function.Functions.{flow_rules, is_forward, marks, steps_followed, followed_end}
use Rattle.alias_follow.specs.function.Givens.{kept, limit, lacking, blocks_given, temporaries_given, tables_begun}
use Rattle.alias_follow.specs.function.Givens.{entering}
use Rattle.alias_follow.specs.lines.First.{first_lines}
use Rattle.alias_follow.specs.lines.Known.{AreLinesKnown}
use Rattle.alias_follow.proofs.function.Answering.{unfaulted, its_pass}
use Rattle.alias_follow.proofs.lines.Raising.{entering_raises, entering_nothing}

module _ (given : Option CertFunction) (id : Option FunctionId) (env : Environment) (f : HirFunction)
    (is_function_expression : Bool) (fits : Numbers f)
    (lines : AreLinesKnown (blocks_given (kept (is_forward given id env f is_function_expression) given)))
    (tables : TableLists) (v : Passing State Beyond TableLists BlockEffects)
    (h : flow_passed state_join state_below empty_state (flow_rules given id env f is_function_expression)
    (entering (kept (is_forward given id env f is_function_expression) given) id env f) unfollowed.State
    (lacking (limit (is_forward given id env f is_function_expression) given))
    (marks given id env f is_function_expression) tables (replicate (length f.body.blocks) None) ≡ Ok v) where
  abbrev enter : ℕ → State → Option (State × Beyond)
  enter = entering (kept (is_forward given id env f is_function_expression) given) id env f

  abbrev missing : TableLists → Option Unfollowed
  missing = lacking (limit (is_forward given id env f is_function_expression) given)

  abbrev reached : List Bool
  reached = marks given id env f is_function_expression

  raises : Raises StateProper state_below enter
  raises b x s m p e =
      let r = entering_raises (λ g. Unit {0})
      (length env.identifiers
      + length (temporaries_given (kept (is_forward given id env f is_function_expression) given)))
      (created_functions f) (λ g i. tt)
      (blocks_given (kept (is_forward given id env f is_function_expression) given))
      (first_lines (blocks_given (kept (is_forward given id env f is_function_expression) given)) f.body.blocks) b x s m
      lines p e in
      (r.is_proper, r.above)

  is_marked : (b : ℕ) → IsReached (flow_rules given id env f is_function_expression).flow b
      → get_or reached b false ≡ true
  is_marked = reached_is_marked (laws env f is_function_expression fits)

  is_reached : (b : ℕ) → get_or reached b false ≡ true
      → IsReached (flow_rules given id env f is_function_expression).flow b
  is_reached = marked_is_reached (laws env f is_function_expression fits)

  marked : (b e : ℕ) → get_or reached b false ≡ true
      → IsOneOf e ((flow_rules given id env f is_function_expression).flow.edges b) → get_or reached e false ≡ true
  marked b e m one = is_marked e (by_edge b e (is_reached b m) one)

  abbrev entry_marked : get_or reached (flow_rules given id env f is_function_expression).flow.entry false ≡ true
  entry_marked = is_marked (flow_rules given id env f is_function_expression).flow.entry at_entry

  -- where all edges go forward nothing is said, so that blocks are entered with what arrives
  bare : (t : Bool) → is_forward given id env f is_function_expression ≡ t → t ≡ true
      → (b : ℕ) (x s : State) (m : Beyond) → enter b x ≡ Some (s, m) → s ≡ x
  bare t is all b x s m e =
      entering_nothing (length env.identifiers + length (temporaries_given None)) (created_functions f) f.body.blocks
      b x s m (subst (λ z. entering (kept z given) id env f b x ≡ Some (s, m)) (is ∙ all) e)

  joins : (marks_long : length reached ≡ length f.body.blocks) (t : Bool)
      → is_forward given id env f is_function_expression ≡ t
      → not_joined state_below (flow_rules given id env f is_function_expression) v.progress.entries
      (all_checked state_laws (laws env f is_function_expression fits) empty_state enter unfollowed.State missing reached
      proper-empty_state raises marked tables v entry_marked h).arriving ≡ None
  joins marks_long true is =
      bare_joins state_laws (laws env f is_function_expression fits) empty_state enter unfollowed.State missing reached
      proper-empty_state raises marked tables v entry_marked h
      (record { forward = forward_is (flow_rules given id env f is_function_expression) is; enters = bare true is refl })
      marks_long is_marked is_reached
  joins marks_long false is =
      loops_join state_laws (laws env f is_function_expression fits) empty_state enter unfollowed.State missing reached
      proper-empty_state raises marked tables v entry_marked h is

  pub pass_solves : length reached ≡ length f.body.blocks → (e : FunctionEnd)
      → e ≡ followed_end given id env f is_function_expression v
      → IsSolvedUnder env f is_function_expression (end_tables e.end) e.end.solved
  pass_solves marks_long e is =
      let all = known state_laws (laws env f is_function_expression fits) empty_state enter unfollowed.State missing
      reached proper-empty_state raises marked tables v entry_marked h in
      let checked = all_checked state_laws (laws env f is_function_expression fits) empty_state enter unfollowed.State
      missing reached proper-empty_state raises marked tables v entry_marked h in
      let w = solver_state checked.arriving v.tables v.recorded in
      let long = entries_long state_laws (laws env f is_function_expression fits) empty_state enter unfollowed.State
      missing reached proper-empty_state raises marked tables v entry_marked h in
      let claims = no_claim state_laws (laws env f is_function_expression fits) empty_state enter unfollowed.State missing
      reached in
      let passes = check_passes state_laws (laws env f is_function_expression fits) empty_state enter unfollowed.State
      missing reached proper-empty_state raises marked tables v entry_marked h
      (joins marks_long (is_forward given id env f is_function_expression) refl) in
      subst (λ (z : FunctionEnd). IsSolvedUnder env f is_function_expression (end_tables z.end) z.end.solved) (sym is)
      (solved_over env f is_function_expression v.tables fits
      (record {
        progress = record { visits = marked_positions 0 reached; joined_input = v.progress.entries; last_input = [] };
        tables = v.tables;
        recorded = v.recorded;
      }) refl
      (entries_long state_laws (laws env f is_function_expression fits) empty_state enter unfollowed.State missing
      reached proper-empty_state raises marked tables v entry_marked h)
      (check_keeps_count state_laws (laws env f is_function_expression fits) claims v.progress.entries
      (λ b s at. (all b s at).0) long (λ b s at. is_reached b (all b s at).1) tables w passes)
      (check_solves state_laws (laws env f is_function_expression fits) claims v.progress.entries
      (λ b s at. (all b s at).0) long (λ b s at. is_reached b (all b s at).1) tables w passes)
      (check_keeps state_laws (laws env f is_function_expression fits) claims v.progress.entries
      (λ b s at. (all b s at).0) long (λ b s at. is_reached b (all b s at).1) tables w passes)
      (check_keeps_others state_laws (laws env f is_function_expression fits) claims v.progress.entries
      (λ b s at. (all b s at).0) long (λ b s at. is_reached b (all b s at).1) tables w passes)
      (check_joins state_laws (laws env f is_function_expression fits) claims v.progress.entries
      (λ b s at. (all b s at).0) long (λ b s at. is_reached b (all b s at).1) tables w passes))

-- so does what is handed out of the function
pub end_solves : (given : Option CertFunction) (id : Option FunctionId) (env : Environment) (f : HirFunction)
    (is_function_expression : Bool) (fits : Numbers f)
    (lines : AreLinesKnown (blocks_given (kept (is_forward given id env f is_function_expression) given)))
    (marks_long : length (marks given id env f is_function_expression) ≡ length f.body.blocks) (tables : TableLists)
    (v : Passing State Beyond TableLists BlockEffects)
    → steps_followed given id env f is_function_expression tables ≡ Ok v → (e : FunctionEnd)
    → e ≡ followed_end given id env f is_function_expression v
    → IsSolvedUnder env f is_function_expression (end_tables e.end) e.end.solved
end_solves given id env f is_function_expression fits lines marks_long tables v h e is =
    pass_solves given id env f is_function_expression fits lines tables v
    (unfaulted id env f.body.blocks (flow_passed state_join state_below empty_state
    (flow_rules given id env f is_function_expression)
    (entering (kept (is_forward given id env f is_function_expression) given) id env f) unfollowed.State
    (lacking (limit (is_forward given id env f is_function_expression) given))
    (marks given id env f is_function_expression) tables (replicate (length f.body.blocks) None)) v h) marks_long e is

-- and so does what the function's pass comes to
pub pass_end_solves : (given : Option CertFunction) (id : Option FunctionId) (env : Environment) (f : HirFunction)
    (is_function_expression : Bool) (fits : Numbers f)
    (lines : AreLinesKnown (blocks_given (kept (is_forward given id env f is_function_expression) given)))
    (marks_long : length (marks given id env f is_function_expression) ≡ length f.body.blocks)
    (v : Passing State Beyond TableLists BlockEffects) → its_pass given id env f is_function_expression ≡ Ok v
    → (e : FunctionEnd) → e ≡ followed_end given id env f is_function_expression v
    → IsSolvedUnder env f is_function_expression (end_tables e.end) e.end.solved
pass_end_solves given id env f is_function_expression fits lines marks_long v h e is =
    let a = after (tables_begun (kept (is_forward given id env f is_function_expression) given) id env f)
    (steps_followed given id env f is_function_expression) v h in
    end_solves given id env f is_function_expression fits lines marks_long a.was v a.then_is e is
