-- The inference takes a function that is followed again, with what its steps record, in the environment that took over
-- what they added.
use Rattle.std.specs.Prelude.{replicate}
use Rattle.std.proofs.Common.{◌≡◌, ℕ, ◌+◌, Bool, true, [], length, Option, Some, None, Ok, sym, subst}
use Rattle.alias_base.specs.declared.ids.FunctionId.{FunctionId}
use Rattle.alias_hir.specs.declared.env.Environment.{Environment}
use Rattle.alias_hir.specs.declared.hir.HirFunction.{HirFunction}
use Rattle.alias_rules.specs.Fitting.{function_fits}
use Rattle.alias_fitting_laws.specs.bare.BareLaws.{bare_of_effects}
use Rattle.alias_fitting_laws.specs.bare.RangedLaws.{evolves_with_contexts}
use Rattle.alias_lattice.specs.JoinLaws.{state_laws}
use Rattle.alias_lattice.specs.ProperLaws.{proper-empty_state}
use Rattle.alias_lattice.specs.States.{State, empty_state, state_join, state_below}
use Rattle.alias_flow.specs.RecordingLaws.{AllHold}
use Rattle.alias_tables.specs.Tables.{TableLists}
use Rattle.alias_tables.specs.write_back.WriteBack.{tables_of}
use Rattle.alias_step.specs.block.Contexts.{context_of}
use Rattle.alias_step.specs.block.ProperLaws.{proper_initial_state}
use Rattle.alias_step.specs.declared.block.recorded.BlockEffects.{BlockEffects}
use Rattle.alias_step_laws.specs.steps.FunctionSiteLaws.{has_empty, has_join}
use Rattle.alias_step_laws.specs.steps.Within.{FunctionWithin, TablesWithin}
use Rattle.alias_step_laws.specs.blocks.BlockLaws.{BlockEffectsWithin, StateWithin}
use Rattle.alias_step_laws.specs.blocks.EntryLaws.{has_initial_state}
use Rattle.alias_step_laws.specs.blocks.WrittenLaws.{tables_extended}
use Rattle.alias_effects.specs.Inference.{end_tables, env_after}
use Rattle.alias_effects.specs.Recording.{with_effects_of}
use Rattle.alias_effects.proofs.RecordedDiffers.{recorded_differs}
use Rattle.alias_effects.proofs.StillFits.{begun_within, none_hold, position_within, recorded_fits}
use Rattle.alias_nested.specs.Created.{created_functions}
use Rattle.alias_nested.specs.Fitting.{FunctionKept}
use Rattle.alias_nested.proofs.Evolving.{passed_contexts}
use Rattle.alias_certificate.specs.declared.beyond.Beyond.{Beyond}
use Rattle.alias_certificate.specs.declared.certificate.CertFunction.{CertFunction}
use Rattle.alias_cert.specs.function.Functions.{marked_positions}
use Rattle.alias_cert.proofs.Recording.{temporaries_within}
use Rattle.alias_cert.proofs.Running.{after}
use Rattle.alias_cert.proofs.Stated.{created_within}
use Rattle.alias_passage.specs.Passes.{Passing, flow_passed}
use Rattle.alias_follow.specs.declared.function.follow.FunctionEnd.{FunctionEnd}
use Rattle.alias_follow.specs.declared.lines.entering.Unfollowed.TheVariants as unfollowed
use Rattle.alias_follow.specs.function.Functions.{flow_rules, is_forward, marks, steps_followed, followed_end}
use Rattle.alias_follow.specs.function.Functions.{function_followed}
use Rattle.alias_follow.specs.function.Givens.{kept, limit, lacking, blocks_given, temporaries_given, tables_begun}
use Rattle.alias_follow.specs.function.Givens.{entering}
use Rattle.alias_follow.specs.lines.First.{first_lines}
use Rattle.alias_follow.specs.lines.Known.{AreLinesKnown}
use Rattle.alias_follow.proofs.Running.{pass_stands}
use Rattle.alias_follow.proofs.function.Answering.{unfaulted}
use Rattle.alias_follow.proofs.lines.Raising.{entering_raises}

module _ (given : Option CertFunction) (id : Option FunctionId) (env : Environment) (f : HirFunction) (b : Bool)
    (fits : function_fits f env ≡ true)
    (lines : AreLinesKnown (blocks_given (kept (is_forward given id env f b) given))) where
  joins_within : (x y : State) → StateWithin env x → StateWithin env y → StateWithin env (state_join x y)
  joins_within x y p q = (state_laws.closed x y p.0 q.0, has_join (FunctionWithin env) x y p.0 q.0 p.1 q.1)

  enters_within : (n : ℕ) (x s : State) (m : Beyond) → StateWithin env x
      → entering (kept (is_forward given id env f b) given) id env f n x ≡ Some (s, m) → StateWithin env s
  enters_within n x s m p e =
      let r = entering_raises (FunctionWithin env)
      (length env.identifiers + length (temporaries_given (kept (is_forward given id env f b) given)))
      (created_functions f) (created_within f env b fits) (blocks_given (kept (is_forward given id env f b) given))
      (first_lines (blocks_given (kept (is_forward given id env f b) given)) f.body.blocks) n x s m lines p.0 e in
      (r.is_proper, r.has p.1)

  module _ (tables : TableLists) (w : Passing State Beyond TableLists BlockEffects)
      (begun : tables_begun (kept (is_forward given id env f b) given) id env f ≡ Ok tables)
      (stepped : steps_followed given id env f b tables ≡ Ok w) where
    ran : TablesWithin env w.tables × AllHold (BlockEffectsWithin env w.tables) w.recorded
    ran =
        let r = pass_stands state_join state_below empty_state (flow_rules given id env f b)
        (entering (kept (is_forward given id env f b) given) id env f) unfollowed.State
        (lacking (limit (is_forward given id env f b) given)) (marks given id env f b) (TablesWithin env)
        (StateWithin env) (BlockEffectsWithin env) joins_within
        (proper-empty_state, has_empty (FunctionWithin env)) enters_within
        (λ t n x y u k i g s. position_within f env b fits n t x y u k i g s) tables
        (replicate (length f.body.blocks) None) w
        (proper_initial_state (context_of env f b), has_initial_state (FunctionWithin env) (context_of env f b))
        (temporaries_within id env (temporaries_given (kept (is_forward given id env f b) given)) (tables_of env) tables
        (begun_within f env b fits) begun)
        (none_hold (BlockEffectsWithin env tables) (length f.body.blocks))
        (unfaulted id env f.body.blocks (flow_passed state_join state_below empty_state (flow_rules given id env f b)
        (entering (kept (is_forward given id env f b) given) id env f) unfollowed.State
        (lacking (limit (is_forward given id env f b) given)) (marks given id env f b) tables
        (replicate (length f.body.blocks) None)) w stepped) in
        (r.tables, r.recorded)

    module _ (e : FunctionEnd) (ended : followed_end given id env f b w ≡ e) where
      tables_there : TablesWithin env (end_tables e.end)
      tables_there = subst (λ (z : FunctionEnd). TablesWithin env (end_tables z.end)) ended ran.0

      end_keeps : FunctionKept f env (with_effects_of e.end.solved f) (env_after env e.end)
      end_keeps = record {
        evolves = evolves_with_contexts env (env_after env e.end)
            (tables_extended env (end_tables e.end) tables_there).wider (passed_contexts env e.end);
        still = sym (bare_of_effects f (with_effects_of e.end.solved f) (recorded_differs e.end.solved f));
        fits = subst (λ (z : FunctionEnd). function_fits (with_effects_of z.end.solved f) (env_after env z.end) ≡ true)
            ended (recorded_fits f env b fits (record {
              progress = record {
                visits = marked_positions 0 (marks given id env f b);
                joined_input = w.progress.entries;
                last_input = [];
              };
              tables = w.tables;
              recorded = w.recorded;
            }) ran);
      }

  -- what is handed out of a function
  pub followed_keeps : (e : FunctionEnd) → function_followed given id env f b ≡ Ok e
      → FunctionKept f env (with_effects_of e.end.solved f) (env_after env e.end)
  followed_keeps e h =
      let begun = after (tables_begun (kept (is_forward given id env f b) given) id env f) _ e h in
      let steps = after (steps_followed given id env f b begun.was) _ e begun.then_is in
      let ended : followed_end given id env f b steps.was ≡ e = cc in
      end_keeps begun.was steps.was begun.first steps.first e ended
