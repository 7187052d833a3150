-- The same sequence of visits, with a flag for each block in place of the state of its last visit: what `solve` works
-- with.
use Rattle.std.specs.Prelude.{ℕ, Bool, true, false, not, if◌then◌else◌, List, [], ◌∷◌, ◌++◌, length, Option, Some, None}
use Rattle.std.specs.Prelude.{slice_index_or, slice_set, replicate}
use Rattle.std.specs.List.{list_any}
use Rattle.std.proofs.Common.{zero, suc}
use Rattle.alias_lattice.specs.Flows.{Outcome, Stepped, Refused}
use Rattle.alias_flow.specs.Machine.{Rules, SolverState, Run, Going, Stopped, End, Solved, NotSettled, after, ending}
use Rattle.alias_flow.specs.Machine.{up, send}

-- what was visited and sent, and which blocks are dirty
pub record WorkList (P : Type 0) : Type 0 where
  pub visits : List ℕ
  pub joined_input : List (Option P)
  pub dirty : List Bool

module _ {P : Type 0} (join : P → P → P) (below : P → P → Bool) where
  -- what was sent before grows by the state
  abbrev pub grows : Option P → P → Bool
  grows None x = true
  grows (Some old) x = not (below x old)

  -- the state is sent to the block, which is dirty if that grew
  abbrev pub work_list_send : P → WorkList P → ℕ → WorkList P
  work_list_send x d to = record {
    visits = d.visits;
    joined_input = send join x d.joined_input to;
    dirty = if grows (slice_index_or d.joined_input to None) x then slice_set d.dirty to true else d.dirty;
  }

  abbrev pub work_list_sends : P → WorkList P → List ℕ → WorkList P
  work_list_sends x d [] = d
  work_list_sends x d (e ∷ es) = work_list_sends x (work_list_send x d e) es

  -- a visit of the block: it is dirty no longer
  abbrev pub work_list_visited : WorkList P → ℕ → WorkList P
  work_list_visited d b = record {
    visits = d.visits ++ b ∷ [];
    joined_input = d.joined_input;
    dirty = slice_set d.dirty b false;
  }

  module _ {T K C : Type 0} (rules : Rules P T K C) where
    abbrev pub work_list_outcome : SolverState (WorkList P) T K → ℕ → Outcome P T K C → Run (WorkList P) T K C
    work_list_outcome w b (Stepped out tables recorded) =
        Going (record {
          progress = work_list_sends out (work_list_visited w.progress b) (rules.flow.edges b);
          tables = tables;
          recorded = slice_set w.recorded b (Some recorded);
        })
    work_list_outcome w b (Refused cause) = Stopped b cause

    abbrev pub work_list_visit_at : SolverState (WorkList P) T K → ℕ → Option P → Run (WorkList P) T K C
    work_list_visit_at w b None = Going w
    work_list_visit_at w b (Some x) = work_list_outcome w b (rules.flow.step w.tables b x)

    abbrev pub work_list_visit : SolverState (WorkList P) T K → ℕ → Run (WorkList P) T K C
    work_list_visit w b = work_list_visit_at w b (slice_index_or w.progress.joined_input b None)

    abbrev pub work_list_turn : SolverState (WorkList P) T K → ℕ → Run (WorkList P) T K C
    work_list_turn w b = if slice_index_or w.progress.dirty b false then work_list_visit w b else Going w

    abbrev pub work_list_round : SolverState (WorkList P) T K → List ℕ → Run (WorkList P) T K C
    work_list_round w [] = Going w
    work_list_round w (b ∷ bs) = after (work_list_turn w b) (λ v. work_list_round v bs)

    unfoldable pub work_list_rounds : ℕ → SolverState (WorkList P) T K → End (WorkList P) T K C
    work_list_rounds zero w = if list_any (λ x. x) w.progress.dirty then NotSettled (length w.progress.visits)
        else Solved w
    work_list_rounds (suc n) w = if list_any (λ x. x) w.progress.dirty
        then ending (work_list_round w (up 0 rules.blocks)) (work_list_rounds n) else Solved w

    abbrev pub work_list_start : T → List (Option K) → SolverState (WorkList P) T K
    work_list_start tables recorded = record {
      progress = work_list_send rules.flow.initial (record {
        visits = [];
        joined_input = replicate rules.blocks None;
        dirty = replicate rules.blocks false;
      }) rules.flow.entry;
      tables = tables;
      recorded = recorded;
    }

    unfoldable pub work_list_solution : T → List (Option K) → End (WorkList P) T K C
    work_list_solution tables recorded = work_list_rounds 100 (work_list_start tables recorded)
