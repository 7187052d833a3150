-- The visits of a flow add no more than so many entries to its tables: a visit adds 24 at most, a round of 1,001 blocks
-- at most 24,024,
-- and there are 100 rounds at most.
use Rattle.std.specs.Prelude.{◌≡◌, ℕ, ◌+◌, ◌*◌, ◌≤◌, Bool, true, false, if◌then◌else◌, List, [], ◌∷◌, length, Option}
use Rattle.std.specs.Prelude.{Some, None, slice_index_or, slice_set, refl}
use Rattle.std.proofs.Common.{zero, suc, arith}
use Rattle.std.specs.List.{AllByRecursion}
use Rattle.alias_lattice.specs.Flows.{Outcome, Stepped, Refused}
use Rattle.alias_flow.specs.Machine.{Rules, VisitLog, SolverState, Run, Going, Stopped, End, Solved, Fault, NotSettled}
use Rattle.alias_flow.specs.Machine.{after, ending, up, outcome_after, visit_at, visit, turn, round, any_dirty, rounds}
use Rattle.alias_flow.specs.Machine.{start, solution, dirty}

length-up : (i n : ℕ) → length (up i n) ≡ n
length-up i zero = refl
length-up i (suc n) = let rest : length (up (i + 1) n) ≡ n = length-up (i + 1) n in omega (arith, rest)

-- all that was recorded of blocks is fine
abbrev pub IsFineAt : {K : Type 0} → (K → Type 0) → Option K → Type 0
IsFineAt fine None = Unit {0}
IsFineAt fine (Some q) = fine q

pub all_set : {A : Type 0} (P : A → Type 0) (xs : List A) (i : ℕ) (y : A) → AllByRecursion P xs → P y
    → AllByRecursion P (slice_set xs i y)
all_set P [] i y h p = h
all_set P (x ∷ xs) zero y h p = (p, h.1)
all_set P (x ∷ xs) (suc i) y h p = (h.0, all_set P xs i y h.1 p)

-- `size` counts the entries of tables, `fine` holds of what is recorded of each visit, and `other` of each refusal
module _ {P T K C : Type 0} (join : P → P → P) (below : P → P → Bool) (rules : Rules P T K C) (size : T → ℕ)
    (fine : K → Type 0) (other : C → Type 0) (most : ℕ) where
  abbrev W : Type 0
  W = SolverState (VisitLog P) T K

  abbrev pub VisitIs : T → Outcome P T K C → Type 0
  VisitIs t (Stepped y u q) = (size u ≤ size t + 24) × fine q
  VisitIs t (Refused c) = other c

  -- n entries at most, and what is recorded is fine
  pub record Held (n : ℕ) (w : W) : Type 0 where
    pub within : size w.tables ≤ n
    pub recorded : AllByRecursion (IsFineAt fine) w.recorded

  abbrev HeldRun : ℕ → Run (VisitLog P) T K C → Type 0
  HeldRun n (Going w) = Held n w
  HeldRun n (Stopped b c) = other c

  abbrev pub HeldEnd : End (VisitLog P) T K C → Type 0
  HeldEnd (Solved w) = AllByRecursion (IsFineAt fine) w.recorded
  HeldEnd (Fault b c) = other c
  HeldEnd (NotSettled n) = Unit {0}

  module _ (few : rules.blocks ≤ 1001) (steps : (t : T) (b : ℕ) (x : P) → size t + 24 ≤ most
      → VisitIs t (rules.flow.step t b x)) where
    held_more : (m n : ℕ) (w : W) → m ≤ n → Held m w → Held n w
    held_more m n w le h = record { within = omega (arith, le, h.within); recorded = h.recorded }

    outcome_held : (n : ℕ) (w : W) (b : ℕ) (x : P) (o : Outcome P T K C) → Held n w → VisitIs w.tables o
        → HeldRun (n + 24) (outcome_after join below rules w b x o)
    outcome_held n w b x (Stepped y u q) h s =
        record {
          within = omega (arith, h.within, s.0);
          recorded = all_set (IsFineAt fine) w.recorded b (Some q) h.recorded s.1;
        }
    outcome_held n w b x (Refused c) h s = s

    visit_held : (n : ℕ) (w : W) (b : ℕ) (o : Option P) → Held n w → n + 24 ≤ most
        → HeldRun (n + 24) (visit_at join below rules w b o)
    visit_held n w b None h room = held_more n (n + 24) w (omega arith) h
    visit_held n w b (Some x) h room = outcome_held n w b x (rules.flow.step w.tables b x) h
        (steps w.tables b x (omega (arith, room, h.within)))

    turn_held : (n : ℕ) (w : W) (b : ℕ) (wish : Bool) → Held n w → n + 24 ≤ most
        → HeldRun (n + 24) (if wish then visit join below rules w b else Going w)
    turn_held n w b true h room = visit_held n w b (slice_index_or w.progress.joined_input b None) h room
    turn_held n w b false h room = held_more n (n + 24) w (omega arith) h

    after_held : (m n : ℕ) (r : Run (VisitLog P) T K C) (f : W → Run (VisitLog P) T K C) → HeldRun m r
        → ((w : W) → Held m w → HeldRun n (f w)) → HeldRun n (after r f)
    after_held m n (Going w) f h g = g w h
    after_held m n (Stopped b c) f h g = h

    run_more : (m n : ℕ) (r : Run (VisitLog P) T K C) → m ≤ n → HeldRun m r → HeldRun n r
    run_more m n (Going w) le h = held_more m n w le h
    run_more m n (Stopped b c) le h = h

    round_held : (bs : List ℕ) (n : ℕ) (w : W) → Held n w → n + 24 * length bs ≤ most
        → HeldRun (n + 24 * length bs) (round join below rules w bs)
    round_held [] n w h room = held_more n (n + 24 * length {A = ℕ} []) w (omega arith) h
    round_held (b ∷ bs) n w h room =
        after_held (n + 24) (n + 24 * length (b ∷ bs)) (turn join below rules w b) (λ v. round join below rules v bs)
        (turn_held n w b (dirty below w.progress b) h (omega (arith, room)))
        (λ v k. run_more ((n + 24) + 24 * length bs) (n + 24 * length (b ∷ bs)) (round join below rules v bs)
        (omega arith) (round_held bs (n + 24) v k (omega (arith, room))))

    whole_round : (n : ℕ) (w : W) → Held n w → n + 24024 ≤ most
        → HeldRun (n + 24024) (round join below rules w (up 0 rules.blocks))
    whole_round n w h room =
        let bs = up 0 rules.blocks in
        run_more (n + 24 * length bs) (n + 24024) (round join below rules w bs)
        (omega (arith, few, length-up 0 rules.blocks))
        (round_held bs n w h (omega (arith, few, room, length-up 0 rules.blocks)))

    ending_held : (m : ℕ) (r : Run (VisitLog P) T K C) (f : W → End (VisitLog P) T K C) → HeldRun m r
        → ((w : W) → Held m w → HeldEnd (f w)) → HeldEnd (ending r f)
    ending_held m (Going w) f h g = g w h
    ending_held m (Stopped b c) f h g = h

    last_held : (n : ℕ) (w : W) (b : Bool) → Held n w
        → HeldEnd (if b then NotSettled (length w.progress.visits) else Solved w)
    last_held n w true h = tt
    last_held n w false h = h.recorded

    more_held : (n : ℕ) (w : W) (f : W → End (VisitLog P) T K C) → ((v : W) → Held (n + 24024) v → HeldEnd (f v))
        → (b : Bool) → Held n w → n + 24024 ≤ most
        → HeldEnd (if b then ending (round join below rules w (up 0 rules.blocks)) f else Solved w)
    more_held n w f g true h room = ending_held (n + 24024) (round join below rules w (up 0 rules.blocks)) f
        (whole_round n w h room) g
    more_held n w f g false h room = h.recorded

    rounds_held : (m n : ℕ) (w : W) → Held n w → n + 24024 * m ≤ most → HeldEnd (rounds join below rules m w)
    unfolding rounds
    rounds_held zero n w h room = last_held n w (any_dirty join below rules w) h
    rounds_held (suc m) n w h room = more_held n w (rounds join below rules m)
        (λ v k. rounds_held m (n + 24024) v k (omega (arith, room))) (any_dirty join below rules w) h
        (omega (arith, room))

    -- how the sequence of visits ends, from tables with n entries at most
    pub solution_held : (n : ℕ) (t : T) (kept : List (Option K)) → size t ≤ n → AllByRecursion (IsFineAt fine) kept → n
        + 2402400 ≤ most → HeldEnd (solution join below rules t kept)
    unfolding solution
    solution_held n t kept h k room = rounds_held 100 n (start join below rules t kept)
        (record { within = h; recorded = k }) (omega (arith, room))
