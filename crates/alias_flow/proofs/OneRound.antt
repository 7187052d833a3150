-- Where each edge goes to a later block, one round is enough, and each state is the join of what arrives.
use Rattle.std.proofs.Common.{◌≡◌, ℕ, ◌+◌, ◌<◌, ◌≤◌, ◌≢◌, ◌⊎◌, inl, inr, ⊎_elim, Bool, true, false, if◌then◌else◌}
use Rattle.std.proofs.Common.{IsTrue, List, [], ◌∷◌, ◌++◌, length, get_or, set, replicate, Option, Some, None, refl, ap}
use Rattle.std.proofs.Common.{sym, ◌∙◌, subst, zero, suc, arith}
use Rattle.std.proofs.lemmas.List.{get_or-set_same, get_or-set_other, length-set}
use Rattle.std.proofs.lemmas.Bool.{cases_eq, false≢true}
use Rattle.std.specs.List.{AllByRecursion, list_any}
use Rattle.alias_lattice.specs.Laws.{LatticeLaws}
use Rattle.alias_lattice.specs.Flows.{Outcome, Stepped, Refused, IsOneOf, ArrivesBelow, IsAbove, IsSolution, AreJoins}
use Rattle.alias_flow.specs.Machine.{Rules, SolverState, Run, Going, Stopped, End, Solved, Fault, NotSettled, after}
use Rattle.alias_flow.specs.Machine.{ending, up, FlowLaws}
use Rattle.alias_flow.specs.WorkLists.{WorkList, work_list_sends, work_list_visited, work_list_outcome}
use Rattle.alias_flow.specs.WorkLists.{work_list_visit_at, work_list_visit, work_list_turn, work_list_round}
use Rattle.alias_flow.specs.WorkLists.{work_list_rounds, work_list_start, work_list_solution}
use Rattle.alias_flow.specs.Solutions.{entry_at, IsForward, IsAscending}
use Rattle.alias_flow.proofs.Sends.{at, is_dirty, Sound, Raised, sends_raise, sends_keep, sends_cover, sends_apart}
use Rattle.alias_flow.proofs.Sends.{sends_dirty, sends_least}
use Rattle.alias_flow.proofs.Solving.{HoldsInvariant, visited, going_is, start_holds, solution_solves, empty}
use Rattle.alias_flow.proofs.Solving.{empty_sound, to_entry, nothing, none_at}
use Rattle.alias_flow.proofs.Rounds.{rounds_suc, rounds_settled, solution_is}

module _ {P T K C : Type 0} {proper : P → Type 0} {join : P → P → P} {below : P → P → Bool} {extends : T → T → Type 0}
    {rules : Rules P T K C} {recorded₀ : List (Option K)}
    (l : LatticeLaws proper join below) (f : FlowLaws proper extends rules recorded₀) (forward : IsForward rules) where
  -- what arrives at b from the blocks before i is below u
  pub record Arrive (i : ℕ) (t : T) (d : WorkList P) (b : ℕ) (u : P) : Type 0 where
    pub initial : b ≡ rules.flow.entry → IsTrue (below rules.flow.initial u)
    pub stepped : (c : ℕ) → c < i → (x y : P) (k : K) → at l d c ≡ Some x → rules.flow.step t c x ≡ Stepped y t k
        → IsOneOf b (rules.flow.edges c) → IsTrue (below y u)

  -- before the turn of i in the first round
  pub record Ahead (i : ℕ) (w : SolverState (WorkList P) T K) : Type 0 where
    pub holds_invariant : HoldsInvariant l f w
    pub behind : (q : ℕ) → q < i → is_dirty l w.progress q ≡ false
    pub ahead : (q : ℕ) (s : P) → i ≤ q → at l w.progress q ≡ Some s → is_dirty l w.progress q ≡ true
    pub has_state : (q : ℕ) → is_dirty l w.progress q ≡ true → (s : P) × (at l w.progress q ≡ Some s)
    pub least : (b : ℕ) (s : P) → at l w.progress b ≡ Some s → (u : P) → proper u → Arrive i w.tables w.progress b u
        → IsTrue (below s u)
    pub visited_before : AllByRecursion (λ v. v < i) w.progress.visits
    pub in_order : IsAscending w.progress.visits

  some_is : (s u : P) → Some s ≡ Some u → s ≡ u
  some_is s u e = cc

  none_some : (s : P) → ◌≡◌ {A = Option P} None (Some s) → ⊥
  none_some s e = cc

  pub true_or_false : (b : Bool) → (b ≡ true) ⊎ (b ≡ false)
  true_or_false true = inl refl
  true_or_false false = inr refl

  all_below : (es : List ℕ) (q i : ℕ) → q ≤ i → AllByRecursion (λ e. i < e) es → AllByRecursion (λ e. q < e) es
  all_below [] q i h a = tt
  all_below (e ∷ es) q i h a = (omega (arith, a.0), all_below es q i h a.1)

  one_more : (vs : List ℕ) (i : ℕ) → AllByRecursion (λ v. v < i) vs → AllByRecursion (λ v. v < i + 1) vs
  one_more [] i h = tt
  one_more (v ∷ vs) i h = (omega (arith, h.0), one_more vs i h.1)

  all_append : (A : ℕ → Type 0) (vs : List ℕ) (i : ℕ) → AllByRecursion A vs → A i → AllByRecursion A (vs ++ i ∷ [])
  all_append A [] i h last = (last, tt)
  all_append A (v ∷ vs) i h last = (h.0, all_append A vs i h.1 last)

  ascends : (vs : List ℕ) (i : ℕ) → AllByRecursion (λ v. v < i) vs → IsAscending vs → IsAscending (vs ++ i ∷ [])
  ascends [] i h a = (tt, tt)
  ascends (v ∷ vs) i h a = (all_append (λ y. v < y) vs i a.0 h.0, ascends vs i h.1 a.1)

  sends_visits : (x : P) (es : List ℕ) (d : WorkList P) → (work_list_sends join below x d es).visits ≡ d.visits
  sends_visits x [] d = refl
  sends_visits x (e ∷ es) d = sends_visits x es _

  -- where i isn't dirty nothing has come to it
  pub skipped : (i : ℕ) (w : SolverState (WorkList P) T K) → Ahead i w → is_dirty l w.progress i ≡ false
      → Ahead (i + 1) w
  skipped i w h quiet = record {
    holds_invariant = h.holds_invariant;
    behind = λ q lt. ⊎_elim (λ same. ap (is_dirty l w.progress) same ∙ quiet) (λ other. h.behind q (omega arith))
        (cases_eq q i);
    ahead = λ q s le is. h.ahead q s (omega arith) is;
    has_state = h.has_state;
    least = λ b s is u p a. h.least b s is u p
        (record {
          initial = a.initial;
          stepped =
              λ c lt x y k at_c step among. a.stepped c (omega arith) x y k at_c step among;
        });
    visited_before = one_more w.progress.visits i h.visited_before;
    in_order = h.in_order;
  }

  module _ (i : ℕ) (lt : i < rules.blocks) (w : SolverState (WorkList P) T K) (h : Ahead i w) (x : P)
      (was : at l w.progress i ≡ Some x) (y : P) (t : T) (k : K)
      (step : rules.flow.step w.tables i x ≡ Stepped y t k) where
    abbrev d : WorkList P
    d = work_list_visited join below w.progress i

    abbrev d' : WorkList P
    d' = work_list_sends join below y d (rules.flow.edges i)

    y_proper : proper y
    y_proper = f.step_proper w.tables i x y t k (h.holds_invariant.sound.proper_at i x was) step

    sound : Sound l rules.blocks d
    sound = record {
      input_length = h.holds_invariant.sound.input_length;
      dirty_length = length-set w.progress.dirty i false ∙ h.holds_invariant.sound.dirty_length;
      proper_at = h.holds_invariant.sound.proper_at;
    }

    edges : AllByRecursion (λ e. e < rules.blocks) (rules.flow.edges i)
    edges = f.edges_below i lt

    unchanged : (q : ℕ) → q ≤ i → (at l d' q ≡ at l w.progress q) × (is_dirty l d' q ≡ is_dirty l d q)
    unchanged q le = sends_apart l y d (rules.flow.edges i) q (all_below (rules.flow.edges i) q i le (forward i lt))

    now_met : is_dirty l d i ≡ false
    now_met = let n : i < length w.progress.dirty = omega (arith, h.holds_invariant.sound.dirty_length) in
        get_or-set_same w.progress.dirty i false false n

    other_dirty : (q : ℕ) → q ≢ i → is_dirty l d q ≡ is_dirty l w.progress q
    other_dirty q n = get_or-set_other w.progress.dirty i q false false n

    from_cover : (q : ℕ) (es : List ℕ) → IsOneOf q es → AllByRecursion (λ e. Raised l d' e y) es → (s : P)
        × (at l d' q ≡ Some s)
    from_cover q [] among h = absurd among
    from_cover q (e ∷ es) (inl same) h = (h.0.0, ap (at l d') same ∙ h.0.1)
    from_cover q (e ∷ es) (inr among) h = from_cover q es among h.1

    arrived : (q : ℕ) → IsOneOf q (rules.flow.edges i) → (s : P) × (at l d' q ≡ Some s)
    arrived q among = from_cover q (rules.flow.edges i) among
        (sends_cover l y d (rules.flow.edges i) rules.blocks y_proper sound edges)

    pub moved : Ahead (i + 1) (record { progress = d'; tables = t; recorded = set w.recorded i (Some k) })
    moved = record {
      holds_invariant = visited l f w h.holds_invariant i lt x was y t k step;
      behind = λ q le. (unchanged q (omega arith)).1
          ∙ ⊎_elim (λ same. ap (is_dirty l d) same ∙ now_met) (λ other. other_dirty q other ∙ h.behind q (omega arith))
          (cases_eq q i);
      ahead = λ q s le is. ⊎_elim
          (λ yes. yes)
          (λ no.
          let keep = sends_keep l y d (rules.flow.edges i) rules.blocks y_proper sound edges q no in
          let apart : q ≢ i = omega arith in
          absurd (false≢true (sym keep.0 ∙ other_dirty q apart ∙ h.ahead q s (omega arith) (sym keep.1 ∙ is))))
          (true_or_false (is_dirty l d' q));
      has_state = λ q yes. ⊎_elim
          (λ before. ⊎_elim
          (λ same. absurd (false≢true (sym now_met ∙ ap (is_dirty l d) (sym same) ∙ before)))
          (λ other.
          let had = h.has_state q (sym (other_dirty q other) ∙ before) in
          let r = sends_raise l y d (rules.flow.edges i) rules.blocks y_proper sound edges q had.0 had.1 in (r.0, r.1))
          (cases_eq q i))
          (λ among. arrived q among)
          (sends_dirty l y d (rules.flow.edges i) q yes);
      least = λ b s is u p a.
          sends_least l y d (rules.flow.edges i) rules.blocks y_proper sound edges b u p
          (λ old at_b. h.least b old at_b u p (record {
            initial = a.initial;
            stepped = λ c c_lt x' y' k' at_c step' among.
                a.stepped c (omega arith) x' y' k' ((unchanged c (omega arith)).0 ∙ at_c)
                (f.replay w.tables c x' y' w.tables t k' step' (f.grow w.tables i x y t k step)) among;
          }))
          (λ among. a.stepped i (omega arith) x y k ((unchanged i (omega arith)).0 ∙ was)
          (f.replay w.tables i x y t t k step (f.reflexive t)) among)
          s is;
      visited_before = subst (AllByRecursion (λ v. v < i + 1)) (sym (sends_visits y (rules.flow.edges i) d))
          (all_append (λ v. v < i + 1) w.progress.visits i (one_more w.progress.visits i h.visited_before)
          (omega arith));
      in_order = subst IsAscending (sym (sends_visits y (rules.flow.edges i) d))
          (ascends w.progress.visits i h.visited_before h.in_order);
    }

  after_going : (run : Run (WorkList P) T K C) (g : SolverState (WorkList P) T K → Run (WorkList P) T K C)
      (v : SolverState (WorkList P) T K) → after run g ≡ Going v → (u : SolverState (WorkList P) T K) × (run ≡ Going u)
      × (g u ≡ Going v)
  after_going (Going u) g v e = (u, refl, e)
  after_going (Stopped b c) g v e = cc

  outcome_ahead : (i : ℕ) → i < rules.blocks → (w v : SolverState (WorkList P) T K) → Ahead i w → (x : P)
      → at l w.progress i ≡ Some x → (o : Outcome P T K C) → rules.flow.step w.tables i x ≡ o
      → work_list_outcome join below rules w i o ≡ Going v → Ahead (i + 1) v
  outcome_ahead i lt w v h x was (Stepped y t k) step e =
      subst (Ahead (i + 1)) (going_is l f _ v e) (moved i lt w h x was y t k step)
  outcome_ahead i lt w v h x was (Refused c) step e = cc

  turn_ahead : (i : ℕ) → i < rules.blocks → (w v : SolverState (WorkList P) T K) → Ahead i w → (wish : Bool)
      → is_dirty l w.progress i ≡ wish → (if wish then work_list_visit join below rules w i else Going w) ≡ Going v
      → Ahead (i + 1) v
  turn_ahead i lt w v h true is e =
      let had = h.has_state i is in
      outcome_ahead i lt w v h had.0 had.1 (rules.flow.step w.tables i had.0) refl
      (ap (work_list_visit_at join below rules w i) (sym had.1) ∙ e)
  turn_ahead i lt w v h false is e = subst (Ahead (i + 1)) (going_is l f w v e) (skipped i w h is)

  round_ahead : (i n : ℕ) → i + n ≡ rules.blocks → (w v : SolverState (WorkList P) T K) → Ahead i w
      → work_list_round join below rules w (up i n) ≡ Going v → Ahead rules.blocks v
  round_ahead i zero all w v h e = let done : i ≡ rules.blocks = omega arith in
      subst (λ m. Ahead m v) done (subst (Ahead i) (going_is l f w v e) h)
  round_ahead i (suc n) all w v h e =
      let s = after_going (work_list_turn join below rules w i) (λ u. work_list_round join below rules u (up (i + 1) n))
      v e in
      round_ahead (i + 1) n (omega arith) s.0 v (turn_ahead i (omega arith) w s.0 h (is_dirty l w.progress i) refl s.1)
      s.2

  any_none : (xs : List Bool) → ((q : ℕ) → q < length xs → get_or xs q false ≡ false) → list_any (λ b. b) xs ≡ false
  any_none [] h = refl
  any_none (true ∷ xs) h = absurd (false≢true (sym (h 0 (omega arith))))
  any_none (false ∷ xs) h = any_none xs (λ q lt. h (suc q) (omega arith))

  pub quiet : (v : SolverState (WorkList P) T K) → Ahead rules.blocks v → list_any (λ b. b) v.progress.dirty ≡ false
  quiet v h = any_none v.progress.dirty (λ q lt. h.behind q (omega (arith, h.holds_invariant.sound.dirty_length)))

  -- each state is below whatever all that arrives is below
  abbrev Least : SolverState (WorkList P) T K → Type 0
  Least v = (b : ℕ) (s : P) → at l v.progress b ≡ Some s → (u : P) → proper u
      → ArrivesBelow below rules.flow v.tables (entry_at v.progress.joined_input) b u → IsTrue (below s u)

  joins : (v : SolverState (WorkList P) T K) → Ahead rules.blocks v → Least v
  joins v h b s is u p a = h.least b s is u p
      (record { initial = a.initial; stepped = λ c lt x y k at_c step among. a.stepped c x y k at_c step among })

  -- how the first round of a forward flow ends
  abbrev Fine : End (WorkList P) T K C → Type 0
  Fine (Solved v) = Least v
  Fine (Fault b c) = Unit {0}
  Fine (NotSettled n) = ⊥

  fine_after : (n : ℕ) (run : Run (WorkList P) T K C) (w : SolverState (WorkList P) T K) → Ahead 0 w
      → work_list_round join below rules w (up 0 rules.blocks) ≡ run
      → Fine (ending run (work_list_rounds join below rules n))
  fine_after n (Going u) w h e =
      let ends = round_ahead 0 rules.blocks (omega arith) w u h e in
      subst Fine (sym (rounds_settled join below rules n u (quiet u ends))) (joins u ends)
  fine_after n (Stopped b c) w h e = tt

  fine_if : (n : ℕ) (w : SolverState (WorkList P) T K) → Ahead 0 w → (b : Bool) → list_any (λ x. x) w.progress.dirty ≡ b
      → Fine (if b then ending (work_list_round join below rules w (up 0 rules.blocks))
      (work_list_rounds join below rules n) else Solved w)
  fine_if n w h true is = fine_after n (work_list_round join below rules w (up 0 rules.blocks)) w h refl
  fine_if n w h false is = λ b s at_b u p a.
      absurd (false≢true (sym (none_at l f w.progress.dirty b is) ∙ h.ahead b s (omega arith) at_b))

  no_wish : (n q : ℕ) → get_or (replicate n false) q false ≡ false
  no_wish zero q = refl
  no_wish (suc n) zero = refl
  no_wish (suc n) (suc q) = no_wish n q

  module _ (tables : T) where
    abbrev pub d₀ : WorkList P
    d₀ = work_list_sends join below rules.flow.initial (empty l f tables) (rules.flow.entry ∷ [])

    pub input_entry : Raised l d₀ rules.flow.entry rules.flow.initial
    input_entry = (sends_cover l rules.flow.initial (empty l f tables) (rules.flow.entry ∷ []) rules.blocks
        f.initial_proper (empty_sound l f tables) (to_entry l f tables)).0

    pub begun : Ahead 0 (work_list_start join below rules tables recorded₀)
    begun = record {
      holds_invariant = start_holds l f tables;
      behind = λ q lt. absurd (omega arith);
      ahead = λ q s le is. ⊎_elim
          (λ yes. yes)
          (λ no. absurd (none_some s (sym (nothing l f rules.blocks q)
          ∙ sym (sends_keep l rules.flow.initial (empty l f tables) (rules.flow.entry ∷ []) rules.blocks
          f.initial_proper (empty_sound l f tables) (to_entry l f tables) q no).1 ∙ is)))
          (true_or_false (is_dirty l d₀ q));
      has_state = λ q yes. ⊎_elim
          (λ before. absurd (false≢true (sym (no_wish rules.blocks q) ∙ before)))
          (λ among. ⊎_elim (λ same. (input_entry.0, ap (at l d₀) same ∙ input_entry.1)) (λ no. absurd no) among)
          (sends_dirty l rules.flow.initial (empty l f tables) (rules.flow.entry ∷ []) q yes);
      least = λ b s is u p a. sends_least l rules.flow.initial (empty l f tables) (rules.flow.entry ∷ []) rules.blocks
          f.initial_proper (empty_sound l f tables) (to_entry l f tables) b u p
          (λ t none. absurd (none_some t (sym (nothing l f rules.blocks b) ∙ none)))
          (λ among. ⊎_elim (λ same. a.initial same) (λ no. absurd no) among) s is;
      visited_before = tt;
      in_order = tt;
    }

    -- a forward flow settles, and its states are joins of what arrives
    pub forward_ends : Fine (work_list_solution join below rules tables recorded₀)
    forward_ends =
        subst Fine (sym (solution_is join below rules tables recorded₀
        ∙ rounds_suc join below rules 99 (work_list_start join below rules tables recorded₀)))
        (fine_if 99 (work_list_start join below rules tables recorded₀) begun _ refl)

    stepped_is : (y z : P) (t : T) (k m : K) → ◌≡◌ {A = Outcome P T K C} (Stepped y t k) (Stepped z t m) → y ≡ z
    stepped_is y z t k m e = cc

    among_all : (A : ℕ → Type 0) (es : List ℕ) (e : ℕ) → AllByRecursion A es → IsOneOf e es → A e
    among_all A (x ∷ es) e h (inl same) = subst A (sym same) h.0
    among_all A (x ∷ es) e h (inr among) = among_all A es e h.1 among
    among_all A [] e h among = absurd among

    at_state : (es : List (Option P)) (y s : P) (b : ℕ) → IsAbove below rules.flow (entry_at es) y b → entry_at es b
        ≡ Some s → IsTrue (below y s)
    at_state es y s b a is = subst (λ u. IsTrue (below y u)) (some_is a.0 s (sym a.1 ∙ is)) a.2

    -- in a solution a state is above what arrives
    arrives : (t : T) (es : List (Option P)) → IsSolution below rules.flow t (entry_at es) → (b : ℕ) (s : P)
        → entry_at es b ≡ Some s → ArrivesBelow below rules.flow t (entry_at es) b s
    arrives t es h b s is = record {
      initial = λ same. at_state es rules.flow.initial s b
          (subst (IsAbove below rules.flow (entry_at es) rules.flow.initial) (sym same) h.initial) is;
      stepped = λ c x y k at_c step among.
          let below_all = h.steps c x at_c in
          let same : below_all.0 ≡ y = stepped_is below_all.0 y t below_all.1 k (sym below_all.2 ∙ step) in
          subst (λ z. IsTrue (below z s)) same
          (at_state es below_all.0 s b (among_all (IsAbove below rules.flow (entry_at es) below_all.0)
          (rules.flow.edges c) b below_all.3 among) is);
    }

    -- a solution that a forward flow ends with
    pub forward_joins : (v : SolverState (WorkList P) T K) → work_list_solution join below rules tables recorded₀
        ≡ Solved v → (es : List (Option P)) → es ≡ v.progress.joined_input
        → AreJoins below rules.flow proper v.tables (entry_at es)
    forward_joins v e es es_is = subst (λ i. AreJoins below rules.flow proper v.tables (entry_at i)) (sym es_is)
        (λ b s is. record {
          above = arrives v.tables v.progress.joined_input (solution_solves l f tables v e).solves b s
              is;
          least = subst Fine e forward_ends b s is;
        })

    pub forward_settles : (n : ℕ) → work_list_solution join below rules tables recorded₀ ≡ NotSettled n → ⊥
    forward_settles n e = subst Fine e forward_ends
