-- What the effects pass of a function ends with is a solution, and its certificate is accepted.
use Rattle.std.specs.Prelude.{replicate}
use Rattle.std.proofs.Common.{◌≡◌, ℕ, Bool, true, length, Some, None, refl, ap, ◌∙◌, subst}
use Rattle.std.proofs.lemmas.List.{length-replicate}
use Rattle.std.specs.Option.{is_some}
use Rattle.alias_base.specs.Find.{value_at}
use Rattle.alias_hir.specs.declared.env.Environment.{Environment}
use Rattle.alias_hir.specs.declared.hir.HirFunction.{HirFunction}
use Rattle.alias_lattice.specs.JoinLaws.{state_laws}
use Rattle.alias_lattice.specs.ProperStates.{StateProper}
use Rattle.alias_lattice.specs.States.{State, state_join, state_below}
use Rattle.alias_flow.specs.Machine.{FlowLaws, SolverState, VisitLog, Solved}
use Rattle.alias_flow.specs.RecordingLaws.{HoldsOf, AllHold}
use Rattle.alias_flow.specs.Solutions.{entry_at}
use Rattle.alias_flow.specs.WorkLists.{work_list_solution}
use Rattle.alias_flow.proofs.DirtyFlags.{as_work_list_state, as_work_list_end, solution_work_list}
use Rattle.alias_flow.proofs.OneRound.{forward_joins}
use Rattle.alias_flow.proofs.Solving.{Solves, solution_solves}
use Rattle.alias_tables.specs.GrowingLaws.{Extends}
use Rattle.alias_tables.specs.Tables.{TableLists}
use Rattle.alias_step.specs.block.Contexts.{context_of}
use Rattle.alias_step.specs.declared.block.recorded.BlockEffects.{BlockEffects}
use Rattle.alias_tables.specs.write_back.WriteBack.{tables_of}
use Rattle.alias_effects.specs.Numbered.{numbered, visits_end}
use Rattle.alias_effects.specs.PassLaws.{pass_laws}
use Rattle.alias_certificate_laws.specs.accepting.Accepting.{SolvesUnder}
use Rattle.alias_certificate_laws.specs.accepting.Certifying.{NamesItsOwn, IsAcceptedAsSaid}
use Rattle.alias_certificate_laws.proofs.accepting.Certifying.{accepted_as_said}
use Rattle.alias_effects_laws.proofs.entries.Keeping.{at_holds, solution_keeps}

module _ (env : Environment) (func : HirFunction) (e : Bool)
    (entered : is_some (value_at func.body.blocks func.body.entry) ≡ true)
    (w : SolverState (VisitLog State) TableLists BlockEffects)
    (ends : visits_end (context_of env func e) ≡ Solved w) where
  pub laws : FlowLaws StateProper Extends (numbered (context_of env func e)) (replicate (length func.body.blocks) None)
  laws = pass_laws (context_of env func e) entered (replicate (length func.body.blocks) None)
      (length-replicate (length func.body.blocks) None)

  by_work_list : work_list_solution state_join state_below (numbered (context_of env func e)) (tables_of env)
      (replicate (length func.body.blocks) None) ≡ Solved (as_work_list_state state_below w)
  by_work_list = solution_work_list state_laws laws (tables_of env) ∙ ap (as_work_list_end state_below) ends

  pub solves : Solves state_laws laws (tables_of env) (as_work_list_state state_below w)
  solves = solution_solves state_laws laws (tables_of env) (as_work_list_state state_below w) by_work_list

  -- each entry state is proper, and so many blocks have a record
  pub kept : Unit {0} × AllHold StateProper w.progress.joined_input × (length w.recorded ≡ length func.body.blocks)
  kept =
      solution_keeps state_join state_below (numbered (context_of env func e)) (λ t. Unit {0}) (λ t x. StateProper x)
      (length func.body.blocks) (λ t x y p q. state_laws.closed x y p q)
      (λ b. Unit {0}) tt (λ b c r one. tt)
      (λ t b x y u k r i p step. record { tables = tt; state = laws.step_proper t b x y u k p step; still = λ z q. q })
      (tables_of env) (replicate (length func.body.blocks) None) w tt laws.initial_proper
      (length-replicate (length func.body.blocks) None) ends

  proper_at : (b : ℕ) (s : State) → entry_at w.progress.joined_input b ≡ Some s → StateProper s
  proper_at b s is = subst (HoldsOf StateProper) is (at_holds StateProper w.progress.joined_input b kept.1)

  pub pass_solves : SolvesUnder env func e w.tables w.progress.joined_input
  pass_solves = record {
    count = solves.length;
    proper = proper_at;
    solves = solves.solves;
    joins = λ forward. forward_joins state_laws laws forward (tables_of env) (as_work_list_state state_below w)
        by_work_list w.progress.joined_input refl;
  }

  pub pass_accepted : NamesItsOwn env func e w.tables w.progress.joined_input
      → IsAcceptedAsSaid env func e w.tables w.progress.joined_input w.recorded
  pass_accepted names =
      accepted_as_said env func e entered w.tables w.progress.joined_input w.recorded
      (record { solved = pass_solves; records = solves.keeps; count = kept.2; names = names })
