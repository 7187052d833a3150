-- What the scan of a function says of the function, by paths.
use Rattle.std.specs.Prelude.{◌≡◌, ℕ, List, length, Option, None, Ok, Err, ⊤, replicate, refl}
use Rattle.std.specs.List.{IsDistinct}
use Rattle.std.specs.Map.{keys_of}
use Rattle.std.proofs.Common.{ap, ◌∙◌}
use Rattle.std.proofs.lemmas.List.{length-replicate}
use Rattle.alias_base.specs.Find.{same_block}
use Rattle.alias_base.specs.declared.ids.InstructionId.{InstructionId}
use Rattle.alias_hir.specs.declared.env.Environment.{Environment}
use Rattle.alias_hir.specs.declared.hir.HirFunction.{HirFunction}
use Rattle.alias_lattice.specs.Flows.{IsSolution}
use Rattle.alias_flow.specs.Machine.{VisitLog, SolverState, End, FlowLaws}
use Rattle.alias_flow.specs.Machine as end
use Rattle.alias_flow.specs.Solutions.{entry_at}
use Rattle.alias_flow.proofs.DirtyFlags.{as_work_list_state, as_work_list_end, solution_work_list}
use Rattle.alias_flow.proofs.Solving.{solution_solves}
use Rattle.alias_tables.specs.Tables.{TableLists}
use Rattle.alias_plainness.specs.Plainness.{IsPlain, BreaksFirst}
use Rattle.alias_plain.specs.declared.laws.stop.Stop.TheVariants as stop
use Rattle.alias_plain.specs.laws.FlowLaws.{unsure_laws}
use Rattle.alias_plain.specs.laws.PlainLaws.{scanned_is_plain, stopped_breaks_first}
use Rattle.alias_plain.specs.laws.RuleFacts.{Looks}
use Rattle.alias_plain.specs.laws.Scans.{scan_after, scan_function}
use Rattle.alias_plain.specs.laws.Scopes.{Scope, scope_of}
use Rattle.alias_plain.specs.unsure.WayLaws.{state_laws}
use Rattle.alias_plain.specs.unsure.Ways.{UnsureState, StateProper, state_below}
use Rattle.alias_plain.specs.laws.UnsureFlow.{unsure_flow, unsure_end}

-- no two blocks of the function have one name
abbrev pub NamesDiffer : HirFunction → Type 0
NamesDiffer func = IsDistinct same_block (keys_of func.body.blocks)

module _ (func : HirFunction) (env : Environment) (distinct : NamesDiffer func) (looks : Looks func env) where
  abbrev c : Scope
  c = scope_of func env

  abbrev none_yet : List (Option (Unit {0}))
  none_yet = replicate (length func.body.blocks) None

  pub flow_laws : FlowLaws StateProper (λ (t u : Unit {0}). Unit {0}) (unsure_flow c) none_yet
  flow_laws = unsure_laws c looks.entry none_yet (length-replicate (length func.body.blocks) None)

  pub solves : (w : SolverState (VisitLog UnsureState) (Unit {0}) (Unit {0})) → unsure_end c ≡ end.Solved w
      → IsSolution state_below (unsure_flow c).flow tt (entry_at w.progress.joined_input)
  solves w e = (solution_solves state_laws flow_laws tt (as_work_list_state state_below w)
      (solution_work_list state_laws flow_laws tt ∙ ap (as_work_list_end state_below) e)).solves

  plain_case : (t : TableLists) (p : ⊤ × TableLists) (e : End (VisitLog UnsureState) (Unit {0}) (Unit {0}) (Unit {0}))
      → unsure_end c ≡ e → scan_after c e t ≡ Ok p → IsPlain func env
  plain_case t p (end.Solved w) g h = scanned_is_plain func env distinct looks.entry w g (solves w g) looks.phis
      looks.needs t p h
  plain_case t p (end.Fault b u) g h = cc
  plain_case t p (end.NotSettled n) g h = cc

  -- a function that is gone through is plain
  pub function_is_plain : (t : TableLists) (p : ⊤ × TableLists) → scan_function c t ≡ Ok p → IsPlain func env
  function_is_plain t p h = plain_case t p (unsure_end c) refl h

  breaks_case : (t : TableLists) (i : InstructionId) (rule : ℕ)
      (e : End (VisitLog UnsureState) (Unit {0}) (Unit {0}) (Unit {0})) → unsure_end c ≡ e → scan_after c e t
      ≡ Err (stop.Broken i rule) → BreaksFirst func env i rule
  breaks_case t i rule (end.Solved w) g h =
      stopped_breaks_first func env distinct looks.entry w g (solves w g) looks.phis looks.needs t i rule h
  breaks_case t i rule (end.Fault b u) g h = cc
  breaks_case t i rule (end.NotSettled n) g h = cc

  -- one that is stopped at an instruction breaks a condition there first
  pub function_breaks_first : (t : TableLists) (i : InstructionId) (rule : ℕ) → scan_function c t
      ≡ Err (stop.Broken i rule) → BreaksFirst func env i rule
  function_breaks_first t i rule h = breaks_case t i rule (unsure_end c) refl h
