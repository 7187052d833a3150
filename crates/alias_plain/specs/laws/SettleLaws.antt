-- When the sequence of visits isn't settled.
use Rattle.std.specs.Prelude.{◌≡◌, ℕ, ◌+◌, Bool, true, false, if◌then◌else◌, List, [], ◌∷◌, length, Option, Some, None}
use Rattle.std.specs.Prelude.{Result, Ok, Err, ⊤, slice_get, slice_index_or, replicate, refl}
use Rattle.std.proofs.Common.{zero, suc, ap, sym, ◌∙◌, subst}
use Rattle.alias_base.specs.declared.ids.BlockId.{BlockId}
use Rattle.alias_base.specs.declared.ids.IdentifierId.{IdentifierId}
use Rattle.alias_base.specs.declared.ids.InstructionId.{InstructionId}
use Rattle.alias_hir.specs.declared.env.Environment.{Environment}
use Rattle.alias_hir.specs.declared.hir.BasicBlock.{BasicBlock}
use Rattle.alias_hir.specs.declared.hir.HirFunction.{HirFunction}
use Rattle.alias_hir.specs.declared.hir.Instruction.{Instruction}
use Rattle.alias_hir.specs.declared.report.Report.{Report}
use Rattle.alias_hir.specs.declared.signature.AliasingSignatureConfig.{AliasingSignatureConfig}
use Rattle.alias_hir.specs.declared.signature.FunctionSignature.{FunctionSignature}
use Rattle.alias_signature.specs.Globals.{instruction_report}
use Rattle.alias_tables.specs.declared.faults.Refusal.{Refusal}
use Rattle.alias_tables.specs.declared.faults.Refusal.TheVariants as refusal
use Rattle.alias_tables.specs.Steps.{and_then}
use Rattle.alias_tables.specs.Tables.{TableLists, intern_report}
use Rattle.alias_calls.specs.Configs.{config_expansion}
use Rattle.alias_flow.specs.Machine.{VisitLog, SolverState, Run, Going, Stopped, End, after, ending, up, visit}
use Rattle.alias_flow.specs.Machine.{visit_at, turn, round, any_dirty, rounds, start, solution, dirty}
use Rattle.alias_flow.specs.Machine as end
use Rattle.alias_flow.specs.Solutions.{IsForward}
use Rattle.alias_flow.proofs.DirtyFlags.{as_work_list_end, solution_work_list}
use Rattle.alias_flow.proofs.OneRound.{forward_settles}
use Rattle.alias_plainness.specs.Calls.{Called, called_by, row_of}
use Rattle.alias_plain.specs.unsure.Sets.{Rows}
use Rattle.alias_plain.specs.declared.laws.stop.Stop.{Stop}
use Rattle.alias_plain.specs.declared.laws.stop.Stop.TheVariants as stop
use Rattle.alias_plain.specs.laws.RuleFacts.{Looks}
use Rattle.alias_plain.specs.laws.Scans.{counted, count_reported, count_part, count_row, count_call, failing_of}
use Rattle.alias_plain.specs.laws.Scans.{stops_at, check, check_at, scan_instructions, scan_block, scan_from}
use Rattle.alias_plain.specs.laws.Scans.{scan_after, scan_function}
use Rattle.alias_plain.specs.laws.ScanLaws.{Scanned}
use Rattle.alias_plain.specs.laws.Scopes.{Scope, scope_of}
use Rattle.alias_plain.specs.laws.FunctionLaws.{NamesDiffer, flow_laws}
use Rattle.alias_plain.specs.unsure.WayLaws.{state_laws}
use Rattle.alias_plain.specs.unsure.Ways.{UnsureState, state_join, state_below}
use Rattle.alias_plain.specs.laws.UnsureFlow.{unsure_flow, unsure_end, list_in, through, entered}

-- ---- no step is refused

module _ (c : Scope) where
  abbrev W : Type 0
  W = SolverState (VisitLog UnsureState) (Unit {0}) (Unit {0})

  abbrev Goes : Run (VisitLog UnsureState) (Unit {0}) (Unit {0}) (Unit {0}) → Type 0
  Goes r = (w : W) × (r ≡ Going w)

  visit_goes : (w : W) (b : ℕ) (o : Option UnsureState) → Goes (visit_at state_join state_below (unsure_flow c) w b o)
  visit_goes w b None = (w, refl)
  visit_goes w b (Some x) = (_, refl)

  turn_goes : (w : W) (b : ℕ) (wish : Bool)
      → Goes (if wish then visit state_join state_below (unsure_flow c) w b else Going w)
  turn_goes w b true = visit_goes w b (slice_index_or w.progress.joined_input b None)
  turn_goes w b false = (w, refl)

  after_goes : (r : Run (VisitLog UnsureState) (Unit {0}) (Unit {0}) (Unit {0}))
      (f : W → Run (VisitLog UnsureState) (Unit {0}) (Unit {0}) (Unit {0})) → Goes r → ((w : W) → Goes (f w))
      → Goes (after r f)
  after_goes r f h g = let k = g h.0 in (
    k.0,
    ap (λ (x : Run (VisitLog UnsureState) (Unit {0}) (Unit {0}) (Unit {0})). after x f) h.1 ∙ k.1,
  )

  round_goes : (bs : List ℕ) (w : W) → Goes (round state_join state_below (unsure_flow c) w bs)
  round_goes [] w = (w, refl)
  round_goes (b ∷ bs) w = after_goes (turn state_join state_below (unsure_flow c) w b)
      (λ v. round state_join state_below (unsure_flow c) v bs) (turn_goes w b (dirty state_below w.progress b))
      (λ v. round_goes bs v)

  abbrev Ends : Type 0
  Ends = End (VisitLog UnsureState) (Unit {0}) (Unit {0}) (Unit {0})

  last_fault : (w : W) (t : Bool) (b : ℕ) (u : Unit {0})
      → ◌≡◌ {A = Ends} (if t then end.NotSettled (length w.progress.visits) else end.Solved w) (end.Fault b u) → ⊥
  last_fault w true b u h = cc
  last_fault w false b u h = cc

  more_fault : (w : W) (t : Bool) (f : W → Ends) (b : ℕ) (u : Unit {0}) → ((v : W) → f v ≡ end.Fault b u → ⊥)
      → (if t then ending (round state_join state_below (unsure_flow c) w (up 0 (unsure_flow c).blocks)) f
      else end.Solved w) ≡ end.Fault b u → ⊥
  more_fault w true f b u k h = let g = round_goes (up 0 (unsure_flow c).blocks) w in
      k g.0 (sym (ap (λ (x : Run (VisitLog UnsureState) (Unit {0}) (Unit {0}) (Unit {0})). ending x f) g.1) ∙ h)
  more_fault w false f b u k h = cc

  rounds_fault : (n : ℕ) (w : W) (b : ℕ) (u : Unit {0}) → rounds state_join state_below (unsure_flow c) n w
      ≡ end.Fault b u → ⊥
  unfolding rounds
  rounds_fault zero w b u h = last_fault w (any_dirty state_join state_below (unsure_flow c) w) b u h
  rounds_fault (suc n) w b u h = more_fault w (any_dirty state_join state_below (unsure_flow c) w)
      (rounds state_join state_below (unsure_flow c) n) b u (λ v k. rounds_fault n v b u k) h

  pub never_refused : (b : ℕ) (u : Unit {0}) → unsure_end c ≡ end.Fault b u → ⊥
  unfolding solution
  never_refused b u h = rounds_fault 100 (start state_join state_below (unsure_flow c) tt
      (replicate (length c.func.body.blocks) None)) b u h

-- ---- scans stop for other causes

one_unsettled : (r : Scanned) (f : ⊤ → TableLists → Scanned) → (r ≡ Err stop.NotSettled → ⊥)
    → ((q : ⊤ × TableLists) → f q.0 q.1 ≡ Err stop.NotSettled → ⊥) → and_then r f ≡ Err stop.NotSettled → ⊥
one_unsettled (Ok q) f h k e = k q e
one_unsettled (Err d) f h k e = h e

counted_settles : {A : Type 0} (r : Result (A × TableLists) Refusal) → counted r ≡ Err stop.NotSettled → ⊥
counted_settles (Ok p) h = cc
counted_settles (Err (refusal.TooMany which)) h = cc
counted_settles (Err (refusal.Reinitialized x)) h = cc
counted_settles (Err (refusal.AliasBeforeCreate x)) h = cc
counted_settles (Err (refusal.IncompatibleLibrary report)) h = cc
counted_settles (Err (refusal.SpreadArgument span report)) h = cc

reported_settles : (o : Option (IdentifierId × Report)) (t : TableLists) → count_reported o t ≡ Err stop.NotSettled → ⊥
reported_settles None t h = cc
reported_settles (Some reported) t h = counted_settles (intern_report reported.0 reported.1 t) h

part_settles : (env : Environment) (c : Called) (o : Option AliasingSignatureConfig) (t : TableLists)
    → count_part env c o t ≡ Err stop.NotSettled → ⊥
part_settles env c None t h = cc
part_settles env c (Some part) t h = counted_settles (config_expansion env part c.site c.args t) h

row_settles : (env : Environment) (c : Called) (o : Option FunctionSignature) (t : TableLists) → count_row env c o t
    ≡ Err stop.NotSettled → ⊥
row_settles env c None t h = cc
row_settles env c (Some s) t h = part_settles env c s.aliasing t h

call_settles : (env : Environment) (o : Option Called) (t : TableLists) → count_call env o t ≡ Err stop.NotSettled → ⊥
call_settles env None t h = cc
call_settles env (Some c) t h = row_settles env c (row_of env c) t h

stop_settles : (i : InstructionId) (o : Option ℕ) (t : TableLists) → stops_at i o t ≡ Err stop.NotSettled → ⊥
stop_settles i None t h = cc
stop_settles i (Some rule) t h = cc

module _ (c : Scope) where
  at_settles : (s : Rows) (id : InstructionId) (o : Option Instruction) (t : TableLists) → check_at c s id o t
      ≡ Err stop.NotSettled → ⊥
  at_settles s id None t h = cc
  at_settles s id (Some x) t h =
      one_unsettled (count_reported (instruction_report x.value x.span) t) _
      (reported_settles (instruction_report x.value x.span) t)
      (λ q. one_unsettled (count_call c.env (called_by (list_in c x)) q.1) _
      (call_settles c.env (called_by (list_in c x)) q.1)
      (λ r. stop_settles id (failing_of c.env s x (list_in c x)) r.1)) h

  instructions_settle : (ids : List InstructionId) (s : Rows) (t : TableLists) → scan_instructions c ids s t
      ≡ Err stop.NotSettled → ⊥
  instructions_settle [] s t h = cc
  instructions_settle (i ∷ ids) s t h =
      one_unsettled (check_at c s i (slice_get c.func.instructions i.0) t) _
      (at_settles s i (slice_get c.func.instructions i.0) t) (λ q. instructions_settle ids (through c s i) q.1) h

  block_settles : (b : BasicBlock) (o : Option UnsureState) (t : TableLists) → scan_block c b o t ≡ Err stop.NotSettled
      → ⊥
  block_settles b None t h = cc
  block_settles b (Some x) t h = instructions_settle b.instructions (entered c.func.body.blocks b.phis x) t h

  blocks_settle : (entries : List (Option UnsureState)) (n : ℕ) (bs : List (BlockId × BasicBlock)) (t : TableLists)
      → scan_from c entries n bs t ≡ Err stop.NotSettled → ⊥
  blocks_settle entries n [] t h = cc
  blocks_settle entries n (b ∷ bs) t h =
      one_unsettled (scan_block c b.1 (slice_index_or entries n None) t) _
      (block_settles b.1 (slice_index_or entries n None) t) (λ q. blocks_settle entries (n + 1) bs q.1) h

-- ---- so

-- the sequence of visits is over after 100 rounds with a dirty block, which doesn't come where all edges go forward
pub record NeverSettles (func : HirFunction) (env : Environment) : Type 0 where
  pub visits : ℕ
  pub ends : unsure_end (scope_of func env) ≡ end.NotSettled visits
  pub not_forward : IsForward (unsure_flow (scope_of func env)) → ⊥

module _ (func : HirFunction) (env : Environment) (distinct : NamesDiffer func) (looks : Looks func env) where
  unsettled_case : (t : TableLists) (e : End (VisitLog UnsureState) (Unit {0}) (Unit {0}) (Unit {0}))
      → unsure_end (scope_of func env) ≡ e → scan_after (scope_of func env) e t ≡ Err stop.NotSettled
      → NeverSettles func env
  unsettled_case t (end.Solved w) g h = absurd
      (blocks_settle (scope_of func env) w.progress.joined_input 0 func.body.blocks t h)
  unsettled_case t (end.Fault b u) g h = absurd (never_refused (scope_of func env) b u g)
  unsettled_case t (end.NotSettled n) g h = record {
    visits = n;
    ends = g;
    not_forward = λ forward. forward_settles state_laws (flow_laws func env distinct looks) forward tt n
        (solution_work_list state_laws (flow_laws func env distinct looks) tt ∙ ap (as_work_list_end state_below) g);
  }

  -- a function that isn't settled is one of which the sequence isn't
  pub function_never_settles : (t : TableLists) → scan_function (scope_of func env) t ≡ Err stop.NotSettled
      → NeverSettles func env
  function_never_settles t h = unsettled_case t (unsure_end (scope_of func env)) refl h
