-- What a result says of a run of visits.
use Rattle.std.specs.Prelude.{◌≡◌, ◌≢◌, ℕ, List, Option, Result, Ok, Err, length, if◌then◌else◌}
use Rattle.std.specs.List.{list_any}
use Rattle.alias_flow.specs.declared.flow.SolveFault.{SolveFault}
use Rattle.alias_flow.specs.declared.flow.SolveFault.TheVariants.{Step, NotSettled as Unsettled, Memory}
use Rattle.alias_flow.specs.declared.flow.Solution.{Solution}
use Rattle.alias_flow.specs.WorkLists.{WorkList}
use Rattle.alias_flow.specs.Machine.{VisitLog, SolverState, Run, Going, Stopped, End, Solved, Fault, NotSettled}

abbrev pub solver_state : {D T K : Type 0} → D → T → List (Option K) → SolverState D T K
solver_state d t k = record { progress = d; tables = t; recorded = k }

-- what is said of a fault: of a refusal at a block, by its cause, and of being unsettled after so many visits. Out of
-- memory is free: it can come in the place of any answer
abbrev pub MatchFault : {C E : Type 0} → (E → C) → SolveFault E → (ℕ → C → Type 0) → (ℕ → Type 0) → Type 0
MatchFault cause (Step b e) refused unsettled = refused b (cause e)
MatchFault cause (Unsettled n) refused unsettled = unsettled n
MatchFault cause (Memory e) refused unsettled = Unit {0}

-- after Ok the run goes on from the new world, and a refusal is the one that stopped it
abbrev pub RunGives : {D T K C E : Type 0} → (E → C) → Run D T K C → Result (Unit {0}) (SolveFault E)
    → SolverState D T K → Type 0
RunGives cause run (Ok u) w = run ≡ Going w
RunGives cause run (Err fault) w = MatchFault cause fault (λ b c. run ≡ Stopped b c) (λ n. ⊥)

-- after Ok the rounds come to what is left of them, and a refusal is the one that stopped them
abbrev pub RoundsGive : {D T K C E : Type 0} → (E → C) → End D T K C → Result (Unit {0}) (SolveFault E) → End D T K C
    → Type 0
RoundsGive cause rounds (Ok u) left = rounds ≡ left
RoundsGive cause rounds (Err fault) left = MatchFault cause fault (λ b c. rounds ≡ Fault b c) (λ n. ⊥)

-- what the last round leaves: the solution, unless a block is still dirty
abbrev pub settled : {P E : Type 0} → WorkList P → Result (Solution P) (SolveFault E)
settled w = if list_any (λ x. x) w.dirty then Err (Unsettled (length w.visits))
    else Ok (record { visits = w.visits; entries = w.joined_input })

-- the solution, the tables and what is recorded are those that the sequence ends with. A refusal and NotSettled are
-- those of the sequence
abbrev pub EndGives : {P T K C E : Type 0} → (E → C) → End (VisitLog P) T K C → Result (Solution P) (SolveFault E) → T
    → List (Option K) → Type 0
EndGives {P} {T} {K} cause end (Ok solution) tables recorded =
    (w : SolverState (VisitLog P) T K) × (end ≡ Solved w) × (solution.visits ≡ w.progress.visits)
    × (solution.entries ≡ w.progress.joined_input) × (tables ≡ w.tables) × (recorded ≡ w.recorded)
EndGives cause end (Err fault) tables recorded =
    MatchFault cause fault (λ b c. end ≡ Fault b c) (λ n. end ≡ NotSettled n)

-- the same where no solution is handed out: what is claimed holds of the visit log that the sequence ends with, which
-- is never NotSettled
abbrev pub EndsWith : {P T K C E : Type 0} → (E → C) → End (VisitLog P) T K C → Result (Unit {0}) (SolveFault E) → T
    → List (Option K) → (VisitLog P → Type 0) → Type 0
EndsWith {P} {T} {K} cause end (Ok u) tables recorded holds =
    (w : SolverState (VisitLog P) T K) × (end ≡ Solved w) × (tables ≡ w.tables) × (recorded ≡ w.recorded)
    × holds w.progress
EndsWith cause end (Err fault) tables recorded holds = MatchFault cause fault (λ b c. end ≡ Fault b c) (λ n. ⊥)

-- the answer isn't NotSettled
abbrev pub IsSettled : {A E : Type 0} → Result A (SolveFault E) → Type 0
IsSettled r = (n : ℕ) → r ≢ Err (Unsettled n)
