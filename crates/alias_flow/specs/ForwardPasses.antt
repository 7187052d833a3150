-- One round of a flow whose edges all go to later blocks, with the states that wait for a later visit alone: what
-- `solve_forward` works with.
use Rattle.std.specs.Prelude.{ℕ, List, [], ◌∷◌, Option, Some, None, slice_index_or, slice_set, replicate}
use Rattle.alias_lattice.specs.Flows.{Outcome, Stepped, Refused}
use Rattle.alias_flow.specs.Machine.{Rules, SolverState, Run, Going, Stopped, after, send, send_all}

-- the state that waits at each block
abbrev pub ForwardPass : Type 0 → Type 0
ForwardPass P = List (Option P)

module _ {P T K C : Type 0} (join : P → P → P) (rules : Rules P T K C) where
  abbrev pub forward_outcome : SolverState (ForwardPass P) T K → ℕ → Outcome P T K C → Run (ForwardPass P) T K C
  forward_outcome w b (Stepped out tables recorded) =
      Going (record {
        progress = send_all join out w.progress (rules.flow.edges b);
        tables = tables;
        recorded = slice_set w.recorded b (Some recorded);
      })
  forward_outcome w b (Refused cause) = Stopped b cause

  abbrev pub forward_turn_at : SolverState (ForwardPass P) T K → ℕ → Option P → Run (ForwardPass P) T K C
  forward_turn_at w b None = Going w
  forward_turn_at w b (Some x) = forward_outcome w b (rules.flow.step w.tables b x)

  -- nothing waits at the block
  abbrev pub taken : SolverState (ForwardPass P) T K → ℕ → SolverState (ForwardPass P) T K
  taken w b = record { progress = slice_set w.progress b None; tables = w.tables; recorded = w.recorded }

  -- the block steps from the state that waits at it, which is taken away
  abbrev pub forward_turn : SolverState (ForwardPass P) T K → ℕ → Run (ForwardPass P) T K C
  forward_turn w b = forward_turn_at (taken w b) b (slice_index_or w.progress b None)

  abbrev pub forward_round : SolverState (ForwardPass P) T K → List ℕ → Run (ForwardPass P) T K C
  forward_round w [] = Going w
  forward_round w (b ∷ bs) = after (forward_turn w b) (λ v. forward_round v bs)

  abbrev pub forward_start : T → List (Option K) → SolverState (ForwardPass P) T K
  forward_start tables recorded = record {
    progress = send join rules.flow.initial (replicate rules.blocks None) rules.flow.entry;
    tables = tables;
    recorded = recorded;
  }
