-- What a sequence of visits records comes from steps.
use Rattle.std.specs.Prelude.{◌≡◌, ℕ, Bool, true, false, if◌then◌else◌, List, [], ◌∷◌, length, Option, Some, None}
use Rattle.std.specs.Prelude.{slice_index_or, slice_set, refl}
use Rattle.std.specs.List.{AllByRecursion}
use Rattle.std.proofs.Common.{zero, suc, subst}
use Rattle.alias_lattice.specs.Flows.{Outcome, Stepped, Refused}
use Rattle.alias_flow.specs.Machine.{Rules, VisitLog, SolverState, Run, Going, Stopped, End, Solved, NotSettled}
use Rattle.alias_flow.specs.Machine.{after, ending, up, outcome_after, visit_at, visit, turn, round, any_dirty, rounds}
use Rattle.alias_flow.specs.Machine.{start, solution, dirty}

-- what is recorded of a block, if anything is, has the property
abbrev pub HoldsOf : {K : Type 0} → (K → Type 0) → Option K → Type 0
HoldsOf q None = Unit {0}
HoldsOf q (Some k) = q k

-- what is recorded of all blocks has it
abbrev pub AllHold : {K : Type 0} → (K → Type 0) → List (Option K) → Type 0
AllHold q recorded = AllByRecursion (HoldsOf q) recorded

set_holds : {K : Type 0} (q : K → Type 0) (recorded : List (Option K)) (b : ℕ) (k : K) → q k → AllHold q recorded
    → AllHold q (slice_set recorded b (Some k))
set_holds q [] b k h a = tt
set_holds q (x ∷ xs) zero k h a = (h, a.1)
set_holds q (x ∷ xs) (suc b) k h a = (a.0, set_holds q xs b k h a.1)

module _ {P T K C : Type 0} (join : P → P → P) (below : P → P → Bool) (rules : Rules P T K C) (q : K → Type 0)
    (given : (t : T) (b : ℕ) (x y : P) (u : T) (k : K) → rules.flow.step t b x ≡ Stepped y u k → q k) where
  abbrev W : Type 0
  W = SolverState (VisitLog P) T K

  outcome_keeps : (w v : W) (b : ℕ) (x : P) (o : Outcome P T K C) → rules.flow.step w.tables b x ≡ o
      → AllHold q w.recorded → outcome_after join below rules w b x o ≡ Going v → AllHold q v.recorded
  outcome_keeps w v b x (Stepped y t k) step h e =
      let same : slice_set w.recorded b (Some k) ≡ v.recorded = cc in
      subst (AllHold q) same (set_holds q w.recorded b k (given w.tables b x y t k step) h)
  outcome_keeps w v b x (Refused c) step h e = cc

  visit_keeps : (w v : W) (b : ℕ) (o : Option P) → AllHold q w.recorded → visit_at join below rules w b o ≡ Going v
      → AllHold q v.recorded
  visit_keeps w v b None h e = let same : w ≡ v = cc in subst (λ z. AllHold q z.recorded) same h
  visit_keeps w v b (Some x) h e = outcome_keeps w v b x (rules.flow.step w.tables b x) refl h e

  turn_keeps : (w v : W) (b : ℕ) (wish : Bool) → AllHold q w.recorded
      → ◌≡◌ {A = Run (VisitLog P) T K C} (if wish then visit join below rules w b else Going w) (Going v)
      → AllHold q v.recorded
  turn_keeps w v b true h e = visit_keeps w v b (slice_index_or w.progress.joined_input b None) h e
  turn_keeps w v b false h e = let same : w ≡ v = cc in subst (λ z. AllHold q z.recorded) same h

  after_keeps : (r : Run (VisitLog P) T K C) (f : W → Run (VisitLog P) T K C) (v : W)
      → ((u : W) → r ≡ Going u → AllHold q u.recorded)
      → ((u : W) → AllHold q u.recorded → f u ≡ Going v → AllHold q v.recorded) → after r f ≡ Going v
      → AllHold q v.recorded
  after_keeps (Going w) f v now later e = later w (now w refl) e
  after_keeps (Stopped b c) f v now later e = cc

  round_keeps : (bs : List ℕ) (w v : W) → AllHold q w.recorded → round join below rules w bs ≡ Going v
      → AllHold q v.recorded
  round_keeps [] w v h e = let same : w ≡ v = cc in subst (λ z. AllHold q z.recorded) same h
  round_keeps (b ∷ bs) w v h e =
      after_keeps (turn join below rules w b) (λ u. round join below rules u bs) v
      (λ u g. turn_keeps w u b (dirty below w.progress b) h g) (λ u g f. round_keeps bs u v g f) e

  ending_keeps : (r : Run (VisitLog P) T K C) (f : W → End (VisitLog P) T K C) (v : W)
      → ((u : W) → r ≡ Going u → AllHold q u.recorded)
      → ((u : W) → AllHold q u.recorded → f u ≡ Solved v → AllHold q v.recorded) → ending r f ≡ Solved v
      → AllHold q v.recorded
  ending_keeps (Going w) f v now later e = later w (now w refl) e
  ending_keeps (Stopped b c) f v now later e = cc

  last_keeps : (w v : W) (b : Bool) → AllHold q w.recorded
      → ◌≡◌ {A = End (VisitLog P) T K C} (if b then NotSettled (length w.progress.visits) else Solved w) (Solved v)
      → AllHold q v.recorded
  last_keeps w v true h e = cc
  last_keeps w v false h e = let same : w ≡ v = cc in subst (λ z. AllHold q z.recorded) same h

  more_keeps : (w v : W) (f : W → End (VisitLog P) T K C)
      → ((u : W) → AllHold q u.recorded → f u ≡ Solved v → AllHold q v.recorded) → (b : Bool) → AllHold q w.recorded
      → (if b then ending (round join below rules w (up 0 rules.blocks)) f else Solved w) ≡ Solved v
      → AllHold q v.recorded
  more_keeps w v f later true h e = ending_keeps (round join below rules w (up 0 rules.blocks)) f v
      (λ u g. round_keeps (up 0 rules.blocks) w u h g) later e
  more_keeps w v f later false h e = let same : w ≡ v = cc in subst (λ z. AllHold q z.recorded) same h

  rounds_keeps : (n : ℕ) (w v : W) → AllHold q w.recorded → rounds join below rules n w ≡ Solved v
      → AllHold q v.recorded
  unfolding rounds
  rounds_keeps zero w v h e = last_keeps w v (any_dirty join below rules w) h e
  rounds_keeps (suc n) w v h e = more_keeps w v (rounds join below rules n) (λ u g f. rounds_keeps n u v g f)
      (any_dirty join below rules w) h e

  -- what is recorded at the end has the property that all steps give and that was recorded before
  pub solution_keeps : (tables : T) (recorded : List (Option K)) (v : W) → AllHold q recorded
      → solution join below rules tables recorded ≡ Solved v → AllHold q v.recorded
  unfolding solution
  solution_keeps tables recorded v h e = rounds_keeps 100 (start join below rules tables recorded) v h e
