-- What `solve` answers is how the sequence of visits ends.
use Rattle.std.proofs.Common.{◌≡◌, Bool, true, false, List, length, Option, Result, Ok, Err, IsErrAnd, refl, ap, sym}
use Rattle.std.proofs.Common.{subst, ◌∙◌, if◌then◌else◌}
use Rattle.std.specs.List.{list_any}
use Rattle.alias_lattice.specs.Laws.{LatticeLaws}
use Rattle.alias_flow.specs.declared.flow.SolveFault.{SolveFault}
use Rattle.alias_flow.specs.declared.flow.SolveFault.TheVariants.{Step, NotSettled as Unsettled, Memory}
use Rattle.alias_flow.specs.declared.flow.Solution.{Solution}
use Rattle.alias_flow.specs.Machine.{Rules, SolverState, Run, Stopped, End, Solved, Fault, ending, solution, FlowLaws}
use Rattle.alias_flow.specs.WorkLists.{WorkList, work_list_rounds, work_list_solution}
use Rattle.alias_flow.specs.Runs.{settled, MatchFault, RoundsGive, EndGives}
use Rattle.alias_flow.proofs.DirtyFlags.{solved_by_work_list, fault_by_work_list, unsettled_by_work_list}
use Rattle.alias_flow.proofs.Rounds.{rounds_settled, rounds_over}

-- a fault of a round is one of the rounds
rounds_refused : {D T K C E : Type 0} (cause : E → C) (run : Run D T K C) (g : SolverState D T K → End D T K C)
    (whole : End D T K C) → whole ≡ ending run g
    → (e : SolveFault E) → MatchFault cause e (λ b c. run ≡ Stopped b c) (λ n. ⊥)
    → MatchFault cause e (λ b c. whole ≡ Fault b c) (λ n. ⊥)
rounds_refused cause run g whole is (Step b x) gives = is ∙ ap (λ r. ending r g) gives
rounds_refused cause run g whole is (Unsettled n) gives = absurd gives
rounds_refused cause run g whole is (Memory e) gives = tt

-- the same of an error that was passed on
pub rounds_stopped : {D T K C E : Type 0} (cause : E → C) (run : Run D T K C) (g : SolverState D T K → End D T K C)
    (whole : End D T K C) → whole ≡ ending run g
    → (e : SolveFault E) → MatchFault cause e (λ b c. run ≡ Stopped b c) (λ n. ⊥)
    → (r : Result (Unit {0}) (SolveFault E)) → IsErrAnd r (λ x. x ≡ e) → (left : End D T K C)
    → RoundsGive cause whole r left
rounds_stopped cause run g whole is e gives (Ok s) h left = absurd h
rounds_stopped cause run g whole is e gives (Err x) h left =
    rounds_refused cause run g whole is x (subst (λ i. MatchFault cause i (λ b c. run ≡ Stopped b c) (λ n. ⊥)) (sym h)
    gives)

-- the last round leaves a solution or a dirty block
either_settled : {P E : Type 0} (w : WorkList P) (b : Bool) → list_any (λ x. x) w.dirty ≡ b
    → (r : Result (Solution P) (SolveFault E))
    → r ≡ (if b then Err (Unsettled (length w.visits)) else Ok (record { visits = w.visits; entries = w.joined_input }))
    → (Q : Result (Solution P) (SolveFault E) → Type 0)
    → (list_any (λ x. x) w.dirty ≡ false → Q (Ok (record { visits = w.visits; entries = w.joined_input })))
    → (list_any (λ x. x) w.dirty ≡ true → Q (Err (Unsettled (length w.visits)))) → Q r
either_settled w true h r is Q clean dirty = subst Q (sym is) (dirty h)
either_settled w false h r is Q clean dirty = subst Q (sym is) (clean h)

pub settled_case : {P E : Type 0} (w : WorkList P) (r : Result (Solution P) (SolveFault E)) → r ≡ settled w
    → (Q : Result (Solution P) (SolveFault E) → Type 0)
    → (list_any (λ x. x) w.dirty ≡ false → Q (Ok (record { visits = w.visits; entries = w.joined_input })))
    → (list_any (λ x. x) w.dirty ≡ true → Q (Err (Unsettled (length w.visits)))) → Q r
settled_case w r is Q clean dirty = either_settled w (list_any (λ x. x) w.dirty) refl r is Q clean dirty

module _ {P T K C E : Type 0} {proper : P → Type 0} {join : P → P → P} {below : P → P → Bool} {extends : T → T → Type 0}
    {rules : Rules P T K C} {recorded₀ : List (Option K)}
    (l : LatticeLaws proper join below) (f : FlowLaws proper extends rules recorded₀) (tables : T) (cause : E → C) where
  pub solved_ends : (v : SolverState (WorkList P) T K) → work_list_solution join below rules tables recorded₀ ≡ Solved v
      → (s : Solution P) → s.visits ≡ v.progress.visits → s.entries ≡ v.progress.joined_input
      → EndGives cause (solution join below rules tables recorded₀) (Ok s) v.tables v.recorded
  solved_ends v e s visits entries =
      let it = solved_by_work_list l f tables v e in (
        it.0,
        it.1,
        visits ∙ ap (λ (w : SolverState (WorkList P) T K). w.progress.visits) (sym it.2),
        entries ∙ ap (λ (w : SolverState (WorkList P) T K). w.progress.joined_input) (sym it.2),
        ap (λ (w : SolverState (WorkList P) T K). w.tables) (sym it.2),
        ap (λ (w : SolverState (WorkList P) T K). w.recorded) (sym it.2),
      )

  fault_ends : (whole : End (WorkList P) T K C) → work_list_solution join below rules tables recorded₀ ≡ whole
      → (e : SolveFault E)
      → MatchFault cause e (λ b c. whole ≡ Fault b c) (λ n. ⊥) → (t : T) (k : List (Option K))
      → EndGives cause (solution join below rules tables recorded₀) (Err e) t k
  fault_ends whole is (Step b x) gives t k = fault_by_work_list l f tables b (cause x) (is ∙ gives)
  fault_ends whole is (Unsettled n) gives t k = absurd gives
  fault_ends whole is (Memory e) gives t k = tt

  -- an error of the rounds that was passed on is how the sequence ends
  pub passed_on : (whole : End (WorkList P) T K C) → work_list_solution join below rules tables recorded₀ ≡ whole
      → (e : SolveFault E)
      → MatchFault cause e (λ b c. whole ≡ Fault b c) (λ n. ⊥) → (r : Result (Solution P) (SolveFault E))
      → IsErrAnd r (λ x. x ≡ e) → (t : T) (k : List (Option K))
      → EndGives cause (solution join below rules tables recorded₀) r t k
  passed_on whole is e gives (Ok s) h t k = absurd h
  passed_on whole is e gives (Err x) h t k =
      fault_ends whole is x (subst (λ i. MatchFault cause i (λ b c. whole ≡ Fault b c) (λ n. ⊥)) (sym h) gives) t k

  -- what the last round leaves is how the sequence ends
  pub settled_ends : (v : SolverState (WorkList P) T K) → work_list_solution join below rules tables recorded₀
      ≡ work_list_rounds join below rules 0 v
      → (r : Result (Solution P) (SolveFault E)) → r ≡ settled v.progress
      → EndGives cause (solution join below rules tables recorded₀) r v.tables v.recorded
  settled_ends v whole r is =
      settled_case v.progress r is (λ x. EndGives cause (solution join below rules tables recorded₀) x v.tables
      v.recorded)
      (λ clean. solved_ends v (whole ∙ rounds_settled join below rules 0 v clean) _ refl refl)
      (λ dirty. unsettled_by_work_list l f tables (length v.progress.visits)
      (whole ∙ rounds_over join below rules v dirty))
