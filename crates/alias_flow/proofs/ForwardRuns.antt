-- A flow whose edges all go forward ends in one round as in the sequence of visits.
use Rattle.std.proofs.Common.{◌≡◌, ℕ, ◌+◌, ◌<◌, ◌≤◌, ◌≢◌, ⊎_elim, Bool, true, false, if◌then◌else◌, List, [], ◌∷◌}
use Rattle.std.proofs.Common.{length, get_or, set, replicate, Option, Some, None, Result, Ok, Err, refl, ap, sym, ◌∙◌}
use Rattle.std.proofs.Common.{subst, zero, suc, arith}
use Rattle.std.proofs.lemmas.List.{get_or-set_same, get_or-set_other, length-set, length-replicate}
use Rattle.std.proofs.lemmas.Bool.{cases_eq, false≢true}
use Rattle.std.specs.List.{AllByRecursion, list_any}
use Rattle.alias_lattice.specs.Laws.{LatticeLaws}
use Rattle.alias_lattice.specs.Flows.{Outcome, Stepped, Refused}
use Rattle.alias_flow.specs.declared.flow.SolveFault.{SolveFault}
use Rattle.alias_flow.specs.declared.flow.SolveFault.TheVariants.{Step, NotSettled as Unsettled, Memory}
use Rattle.alias_flow.specs.Machine.{Rules, VisitLog, SolverState, Run, Going, Stopped, Solved, Fault, after, ending}
use Rattle.alias_flow.specs.Machine.{up, joined, send, send_all, solution, FlowLaws}
use Rattle.alias_flow.specs.WorkLists.{WorkList, work_list_sends, work_list_visited, work_list_outcome}
use Rattle.alias_flow.specs.WorkLists.{work_list_visit_at, work_list_visit, work_list_turn, work_list_round}
use Rattle.alias_flow.specs.WorkLists.{work_list_rounds, work_list_start, work_list_solution}
use Rattle.alias_flow.specs.ForwardPasses.{ForwardPass, forward_outcome, forward_turn_at, taken, forward_turn}
use Rattle.alias_flow.specs.ForwardPasses.{forward_round, forward_start}
use Rattle.alias_flow.specs.Runs.{RunGives, EndsWith}
use Rattle.alias_flow.specs.Solutions.{IsForward, IsAscending, SolvesInOrder}
use Rattle.alias_flow.proofs.Rounds.{rounds_suc, rounds_settled, solution_is}
use Rattle.alias_flow.proofs.Sends.{at, is_dirty}
use Rattle.alias_flow.proofs.Solving.{none_at, solution_found, recorded_found}
use Rattle.alias_flow.proofs.OneRound.{Ahead, skipped, moved, quiet, begun, input_entry, true_or_false, forward_joins}
use Rattle.alias_flow.proofs.DirtyFlags.{solved_by_work_list, fault_by_work_list}

all_later : (i : ℕ) (es : List ℕ) → AllByRecursion (λ e. i < e) es → AllByRecursion (λ e. i + 1 ≤ e) es
all_later i [] h = tt
all_later i (e ∷ es) h = (omega (arith, h.0), all_later i es h.1)

module _ {P : Type 0} (join : P → P → P) where
  sends_length : (x : P) (es : List ℕ) (xs : List (Option P)) → length (send_all join x xs es) ≡ length xs
  sends_length x [] xs = refl
  sends_length x (e ∷ es) xs = sends_length x es (send join x xs e) ∙ length-set xs e _

  -- where two lists are alike from i on, so they are after sends to later blocks
  send_alike : (x : P) (e n i : ℕ) (xs ys : List (Option P)) → length xs ≡ n → length ys ≡ n → e < n → i ≤ e
      → ((q : ℕ) → i ≤ q → get_or xs q None ≡ get_or ys q None)
      → (q : ℕ) → i ≤ q → get_or (send join x xs e) q None ≡ get_or (send join x ys e) q None
  send_alike x e n i xs ys xs_n ys_n lt later h q le = ⊎_elim
      (λ same.
      let xs_e : e < length xs = omega arith in
      let ys_e : e < length ys = omega arith in
      ap (λ j. get_or (send join x xs e) j None) same ∙ get_or-set_same xs e _ None xs_e
      ∙ ap (λ o. Some (joined join o x)) (h e later)
      ∙ sym (ap (λ j. get_or (send join x ys e) j None) same ∙ get_or-set_same ys e _ None ys_e))
      (λ other. get_or-set_other xs e q _ None other ∙ h q le ∙ sym (get_or-set_other ys e q _ None other))
      (cases_eq q e)

  sends_alike : (x : P) (es : List ℕ) (n i : ℕ) (xs ys : List (Option P)) → length xs ≡ n → length ys ≡ n
      → AllByRecursion (λ e. e < n) es → AllByRecursion (λ e. i ≤ e) es
      → ((q : ℕ) → i ≤ q → get_or xs q None ≡ get_or ys q None) → (q : ℕ) → i ≤ q
      → get_or (send_all join x xs es) q None ≡ get_or (send_all join x ys es) q None
  sends_alike x [] n i xs ys xs_n ys_n lt later h q le = h q le
  sends_alike x (e ∷ es) n i xs ys xs_n ys_n lt later h q le =
      sends_alike x es n i (send join x xs e) (send join x ys e) (length-set xs e _ ∙ xs_n) (length-set ys e _ ∙ ys_n)
      lt.1 later.1
      (send_alike x e n i xs ys xs_n ys_n lt.0 later.0 h) q le

  sends_input : (below : P → P → Bool) (x : P) (es : List ℕ) (d : WorkList P)
      → (work_list_sends join below x d es).joined_input ≡ send_all join x d.joined_input es
  sends_input below x [] d = refl
  sends_input below x (e ∷ es) d = sends_input below x es _

module _ {P T K C : Type 0} {proper : P → Type 0} {join : P → P → P} {below : P → P → Bool} {extends : T → T → Type 0}
    {rules : Rules P T K C} {recorded₀ : List (Option K)}
    (l : LatticeLaws proper join below) (f : FlowLaws proper extends rules recorded₀) (forward : IsForward rules) where
  -- before the turn of i: what waits at it and at the later blocks is what was sent to them
  pub record Alike (i : ℕ) (u : SolverState (ForwardPass P) T K) (w : SolverState (WorkList P) T K) : Type 0 where
    pub waiting : (q : ℕ) → i ≤ q → get_or u.progress q None ≡ at l w.progress q
    pub forward_length : length u.progress ≡ rules.blocks
    pub tables : u.tables ≡ w.tables
    pub recorded : u.recorded ≡ w.recorded
    pub ahead : Ahead l f forward i w

  abbrev RunsAlike : ℕ → Run (ForwardPass P) T K C → Run (WorkList P) T K C → Type 0
  RunsAlike i (Going u) (Going w) = Alike i u w
  RunsAlike i (Going u) (Stopped b c) = ⊥
  RunsAlike i (Stopped b c) (Going w) = ⊥
  RunsAlike i (Stopped b c) (Stopped d e) = (b ≡ d) × (c ≡ e)

  outcome_alike : (i : ℕ) → i < rules.blocks → (u : SolverState (ForwardPass P) T K) (w : SolverState (WorkList P) T K)
      → Alike i u w → (x : P) → at l w.progress i ≡ Some x
      → (o : Outcome P T K C) → rules.flow.step w.tables i x ≡ o
      → RunsAlike (i + 1) (forward_outcome join rules (taken join rules u i) i o)
      (work_list_outcome join below rules w i o)
  outcome_alike i lt u w a x was (Stepped y t k) step = record {
    waiting = λ q le.
        sends_alike join y (rules.flow.edges i) rules.blocks (i + 1) (set u.progress i None) w.progress.joined_input
        (length-set u.progress i None ∙ a.forward_length) a.ahead.holds_invariant.sound.input_length
        (f.edges_below i lt) (all_later i (rules.flow.edges i) (forward i lt))
        (λ p later. let apart : p ≢ i = omega arith in get_or-set_other u.progress i p None None apart
        ∙ a.waiting p (omega arith)) q le
        ∙ sym (ap (λ s. get_or s q None) (sends_input join below y (rules.flow.edges i)
        (work_list_visited join below w.progress i)));
    forward_length = sends_length join y (rules.flow.edges i) (set u.progress i None) ∙ length-set u.progress i None
        ∙ a.forward_length;
    tables = refl;
    recorded = ap (λ ks. set ks i (Some k)) a.recorded;
    ahead = moved l f forward i lt w a.ahead x was y t k step;
  }
  outcome_alike i lt u w a x was (Refused c) step = (refl, refl)

  -- a block that is dirty has a state, which waits at it
  visit_alike : (i : ℕ) → i < rules.blocks → (u : SolverState (ForwardPass P) T K) (w : SolverState (WorkList P) T K)
      → Alike i u w → (x : P) → at l w.progress i ≡ Some x
      → RunsAlike (i + 1) (forward_turn join rules u i) (work_list_visit join below rules w i)
  visit_alike i lt u w a x was =
      subst (λ o. RunsAlike (i + 1) (forward_turn_at join rules (taken join rules u i) i o)
      (work_list_visit join below rules w i)) (sym (a.waiting i (omega arith) ∙ was))
      (subst (λ o. RunsAlike (i + 1) (forward_turn_at join rules (taken join rules u i) i (Some x))
      (work_list_visit_at join below rules w i o)) (sym was)
      (subst (λ t. RunsAlike (i + 1) (forward_outcome join rules (taken join rules u i) i (rules.flow.step t i x))
      (work_list_outcome join below rules w i (rules.flow.step w.tables i x))) (sym a.tables)
      (outcome_alike i lt u w a x was (rules.flow.step w.tables i x) refl)))

  -- at a block that isn't dirty nothing waits
  skip_alike : (i : ℕ) → i < rules.blocks → (u : SolverState (ForwardPass P) T K) (w : SolverState (WorkList P) T K)
      → Alike i u w → is_dirty l w.progress i ≡ false → (o : Option P) → at l w.progress i ≡ o
      → RunsAlike (i + 1) (forward_turn join rules u i) (Going w)
  skip_alike i lt u w a quiet_i None was =
      subst (λ o. RunsAlike (i + 1) (forward_turn_at join rules (taken join rules u i) i o) (Going w))
      (sym (a.waiting i (omega arith) ∙ was))
      (record {
        waiting = λ q le. let apart : q ≢ i = omega arith in get_or-set_other u.progress i q None None apart
            ∙ a.waiting q (omega arith);
        forward_length = length-set u.progress i None ∙ a.forward_length;
        tables = a.tables;
        recorded = a.recorded;
        ahead = skipped l f forward i w a.ahead quiet_i;
      })
  skip_alike i lt u w a quiet_i (Some s) was = absurd (false≢true (sym quiet_i ∙ a.ahead.ahead i s (omega arith) was))

  turn_if : (i : ℕ) → i < rules.blocks → (u : SolverState (ForwardPass P) T K) (w : SolverState (WorkList P) T K)
      → Alike i u w → (wish : Bool) → is_dirty l w.progress i ≡ wish
      → RunsAlike (i + 1) (forward_turn join rules u i) (if wish then work_list_visit join below rules w i else Going w)
  turn_if i lt u w a true is = let had = a.ahead.has_state i is in visit_alike i lt u w a had.0 had.1
  turn_if i lt u w a false is = skip_alike i lt u w a is (at l w.progress i) refl

  after_alike : (i m : ℕ) (r : Run (ForwardPass P) T K C) (s : Run (WorkList P) T K C) → RunsAlike i r s
      → (g : SolverState (ForwardPass P) T K → Run (ForwardPass P) T K C)
      (h : SolverState (WorkList P) T K → Run (WorkList P) T K C)
      → ((u : SolverState (ForwardPass P) T K) (w : SolverState (WorkList P) T K) → Alike i u w
      → RunsAlike m (g u) (h w)) → RunsAlike m (after r g) (after s h)
  after_alike i m (Going u) (Going w) a g h next = next u w a
  after_alike i m (Going u) (Stopped b c) a g h next = absurd a
  after_alike i m (Stopped b c) (Going w) a g h next = absurd a
  after_alike i m (Stopped b c) (Stopped d e) a g h next = a

  round_alike : (i n : ℕ) → i + n ≡ rules.blocks
      → (u : SolverState (ForwardPass P) T K) (w : SolverState (WorkList P) T K) → Alike i u w
      → RunsAlike rules.blocks (forward_round join rules u (up i n)) (work_list_round join below rules w (up i n))
  round_alike i zero all u w a = let done : i ≡ rules.blocks = omega arith in subst (λ m. Alike m u w) done a
  round_alike i (suc n) all u w a =
      after_alike (i + 1) rules.blocks (forward_turn join rules u i) (work_list_turn join below rules w i)
      (turn_if i (omega arith) u w a (is_dirty l w.progress i) refl)
      (λ v. forward_round join rules v (up (i + 1) n)) (λ v. work_list_round join below rules v (up (i + 1) n))
      (λ v x b. round_alike (i + 1) n (omega arith) v x b)

  module _ (tables : T) where
    abbrev begins : SolverState (WorkList P) T K
    begins = work_list_start join below rules tables recorded₀

    forward_of : RunsAlike rules.blocks (forward_round join rules (forward_start join rules tables recorded₀)
        (up 0 rules.blocks)) (work_list_round join below rules begins (up 0 rules.blocks))
    forward_of = round_alike 0 rules.blocks (omega arith) (forward_start join rules tables recorded₀) begins (record {
      waiting = λ q le. refl;
      forward_length = length-set (replicate rules.blocks None) rules.flow.entry _ ∙ length-replicate rules.blocks None;
      tables = refl;
      recorded = refl;
      ahead = begun l f forward tables;
    })

    first_dirty : list_any (λ b. b) begins.progress.dirty ≡ true
    first_dirty = ⊎_elim
        (λ yes. yes)
        (λ no. let at_entry = input_entry l f forward tables in
        absurd (false≢true (sym (none_at l f begins.progress.dirty rules.flow.entry no)
        ∙ (begun l f forward tables).ahead rules.flow.entry at_entry.0 (omega arith) at_entry.1)))
        (true_or_false l f forward (list_any (λ b. b) begins.progress.dirty))

    in_rounds : work_list_solution join below rules tables recorded₀
        ≡ ending (work_list_round join below rules begins (up 0 rules.blocks)) (work_list_rounds join below rules 99)
    in_rounds = solution_is join below rules tables recorded₀ ∙ rounds_suc join below rules 99 begins
        ∙ ap (λ b. if b then ending (work_list_round join below rules begins (up 0 rules.blocks))
        (work_list_rounds join below rules 99) else Solved begins) first_dirty

    forward_solved : (u : SolverState (ForwardPass P) T K) (s : Run (WorkList P) T K C)
        → RunsAlike rules.blocks (Going u) s → work_list_solution join below rules tables recorded₀
        ≡ ending s (work_list_rounds join below rules 99)
        → (v : SolverState (WorkList P) T K) × (work_list_solution join below rules tables recorded₀ ≡ Solved v)
        × (u.tables ≡ v.tables) × (u.recorded ≡ v.recorded) × IsAscending v.progress.visits
    forward_solved u (Going w) a is = (
      w,
      is ∙ rounds_settled join below rules 99 w (quiet l f forward w a.ahead),
      a.tables,
      a.recorded,
      a.ahead.in_order,
    )
    forward_solved u (Stopped b c) a is = absurd a

    forward_stopped : (b : ℕ) (c : C) (s : Run (WorkList P) T K C) → RunsAlike rules.blocks (Stopped b c) s
        → work_list_solution join below rules tables recorded₀ ≡ ending s (work_list_rounds join below rules 99)
        → work_list_solution join below rules tables recorded₀ ≡ Fault b c
    forward_stopped b c (Going w) a is = absurd a
    forward_stopped b c (Stopped d e) a is = is ∙ ap (λ n. Fault n e) (sym a.0) ∙ ap (Fault b) (sym a.1)

    solved_in_order : (v : SolverState (WorkList P) T K) → work_list_solution join below rules tables recorded₀
        ≡ Solved v → IsAscending v.progress.visits → (d : VisitLog P) → d.visits ≡ v.progress.visits → d.joined_input
        ≡ v.progress.joined_input
        → SolvesInOrder proper below rules.flow v.tables v.recorded d
    solved_in_order v e order d visits joined_input = record {
      in_order = subst IsAscending (sym visits) order;
      solves = solution_found l f tables rules refl v e d.joined_input joined_input;
      joins = forward_joins l f forward tables v e d.joined_input joined_input;
      keeps = recorded_found l f tables rules refl v e d.joined_input joined_input;
    }

    -- what the one round answers is how the sequence of visits ends
    pub forward_gives : {E : Type 0} (cause : E → C) (r : Result (Unit {0}) (SolveFault E))
        (u : SolverState (ForwardPass P) T K)
        → RunGives cause (forward_round join rules (forward_start join rules tables recorded₀) (up 0 rules.blocks)) r u
        → EndsWith cause (solution join below rules tables recorded₀) r u.tables u.recorded
        (SolvesInOrder proper below rules.flow u.tables u.recorded)
    forward_gives cause (Ok o) u gives =
        let s = forward_solved u (work_list_round join below rules begins (up 0 rules.blocks))
        (subst (λ r. RunsAlike rules.blocks r (work_list_round join below rules begins (up 0 rules.blocks))) gives
        forward_of) in_rounds in
        let it = solved_by_work_list l f tables s.0 s.1 in (
          it.0,
          it.1,
          s.2 ∙ ap (λ (w : SolverState (WorkList P) T K). w.tables) (sym it.2),
          s.3 ∙ ap (λ (w : SolverState (WorkList P) T K). w.recorded) (sym it.2),
          subst (λ t. SolvesInOrder proper below rules.flow t u.recorded it.0.progress) (sym s.2)
              (subst (λ k. SolvesInOrder proper below rules.flow s.0.tables k it.0.progress) (sym s.3)
              (solved_in_order s.0 s.1 s.4 it.0.progress
              (ap (λ (w : SolverState (WorkList P) T K). w.progress.visits) it.2)
              (ap (λ (w : SolverState (WorkList P) T K). w.progress.joined_input) it.2))),
        )
    forward_gives cause (Err (Step b x)) u gives =
        fault_by_work_list l f tables b (cause x)
        (forward_stopped b (cause x) (work_list_round join below rules begins (up 0 rules.blocks))
        (subst (λ r. RunsAlike rules.blocks r (work_list_round join below rules begins (up 0 rules.blocks))) gives
        forward_of) in_rounds)
    forward_gives cause (Err (Unsettled n)) u gives = absurd gives
    forward_gives cause (Err (Memory e)) u gives = tt
