-- What follows for one function from what is given of it: the first fault, or what is handed out of the function.
use Rattle.std.specs.Prelude.{ℕ, Bool, List, [], length, replicate, Option, None, Result, Ok, Err}
use Rattle.alias_base.specs.Answer.{◌>>=◌}
use Rattle.alias_base.specs.declared.ids.FunctionId.{FunctionId}
use Rattle.alias_hir.specs.declared.env.Environment.{Environment}
use Rattle.alias_hir.specs.declared.hir.HirFunction.{HirFunction}
use Rattle.alias_lattice.specs.States.{State, empty_state, state_join, state_below}
use Rattle.alias_flow.specs.Machine.{Rules}
use Rattle.alias_flow.specs.Runs.{solver_state}
use Rattle.alias_flow.specs.Solutions.{goes_forward}
use Rattle.alias_flow.specs.check.Reached.{reached_marks}
use Rattle.alias_tables.specs.Tables.{TableLists}
use Rattle.alias_step.specs.block.Contexts.{context_of}
use Rattle.alias_step.specs.declared.block.faults.BlockRefusal.{BlockRefusal}
use Rattle.alias_step.specs.declared.block.recorded.BlockEffects.{BlockEffects}
use Rattle.alias_effects.specs.Inference.{end_of}
use Rattle.alias_effects.specs.Numbered.{numbered}
use Rattle.alias_certificate.specs.declared.certificate.CertFunction.{CertFunction}
use Rattle.alias_certificate.specs.declared.fault.CheckFault.{CheckFault}
use Rattle.alias_cert.specs.function.Functions.{marked_positions}
use Rattle.alias_cert.specs.function.Temporaries.{temporaries_stated}
use Rattle.alias_follow.specs.declared.function.follow.FunctionEnd.{FunctionEnd}
use Rattle.alias_certificate.specs.declared.beyond.Beyond.{Beyond}
use Rattle.alias_follow.specs.function.Faults.{faulted}
use Rattle.alias_follow.specs.declared.lines.entering.Unfollowed.TheVariants as unfollowed
use Rattle.alias_follow.specs.function.Givens.{kept, limit, lacking, temporaries_given, tables_begun, entering}
use Rattle.alias_passage.specs.declared.passage.Passage.{Passage}
use Rattle.alias_passage.specs.Passes.{Passing, flow_passed}

-- the passage, with these tables and what is recorded
abbrev pub passed_with : TableLists → List (Option BlockEffects) → Result (Passage State Beyond) CheckFault
    → Result (Passing State Beyond TableLists BlockEffects) CheckFault
passed_with tables recorded (Ok p) = Ok (solver_state p tables recorded)
passed_with tables recorded (Err e) = Err e

-- from these tables and what is recorded, first the temporaries that are given, and then each marked block steps once, in
-- stored order, from what is given of it
abbrev pub given_passed : Option CertFunction → Option ℕ → Option FunctionId → Environment → HirFunction
    → Rules State TableLists BlockEffects BlockRefusal → List Bool → TableLists → List (Option BlockEffects)
    → Result (Passing State Beyond TableLists BlockEffects) CheckFault
given_passed given most id env f rules marks tables recorded =
    temporaries_stated id env (temporaries_given given) tables
    >>= (λ begun. faulted id env f.body.blocks (flow_passed state_join state_below empty_state rules
    (entering given id env f) unfollowed.State (lacking most) marks begun recorded))

module _ (given : Option CertFunction) (id : Option FunctionId) (env : Environment) (f : HirFunction)
    (is_function_expression : Bool) where
  -- the function as a flow over the positions of its blocks
  abbrev pub flow_rules : Rules State TableLists BlockEffects BlockRefusal
  flow_rules = numbered (context_of env f is_function_expression)

  -- each edge of each block goes to a later block
  abbrev pub is_forward : Bool
  is_forward = goes_forward flow_rules

  -- which blocks are reached
  abbrev pub marks : List Bool
  marks = reached_marks flow_rules

  -- from these tables, with nothing recorded yet: each reached block steps once, in stored order
  abbrev pub steps_followed : TableLists → Result (Passing State Beyond TableLists BlockEffects) CheckFault
  steps_followed tables =
      faulted id env f.body.blocks (flow_passed state_join state_below empty_state flow_rules
      (entering (kept is_forward given) id env f) unfollowed.State (lacking (limit is_forward given)) marks tables
      (replicate (length f.body.blocks) None))

  -- what is handed out: the states that blocks were entered with, with what the pass comes to; the visits are the
  -- reached blocks in stored order
  abbrev pub followed_end : Passing State Beyond TableLists BlockEffects → FunctionEnd
  followed_end w = record {
    end = end_of f (record {
      progress = record { visits = marked_positions 0 marks; joined_input = w.progress.entries; last_input = [] };
      tables = w.tables;
      recorded = w.recorded;
    });
    beyond = record { is_forward = is_forward; blocks = w.progress.beyond };
  }

  abbrev pub function_followed : Result FunctionEnd CheckFault
  function_followed = do
    tables ← tables_begun (kept is_forward given) id env f
    w ← steps_followed tables
    Ok (followed_end w)
