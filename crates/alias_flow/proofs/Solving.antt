-- A sequence of visits that ends with nothing dirty gives a solution.
use Rattle.std.proofs.Common.{◌≡◌, ℕ, ◌+◌, ◌<◌, inl, inr, ⊎_elim, Bool, true, false, if◌then◌else◌, IsTrue, List, []}
use Rattle.std.proofs.Common.{◌∷◌, length, get_or, set, replicate, Option, Some, None, refl, ap, sym, ◌∙◌, subst, zero}
use Rattle.std.proofs.Common.{suc, arith}
use Rattle.std.proofs.lemmas.List.{get_or-set_same, get_or-set_other, length-set, length-replicate}
use Rattle.std.proofs.lemmas.Bool.{cases_eq, false≢true}
use Rattle.std.specs.List.{AllByRecursion, list_any}
use Rattle.std.specs.Option.{is_some}
use Rattle.alias_lattice.specs.Laws.{LatticeLaws}
use Rattle.alias_lattice.specs.Flows.{Outcome, Stepped, Refused, IsOneOf, IsReached, at_entry, by_edge, IsAbove}
use Rattle.alias_lattice.specs.Flows.{IsSolution}
use Rattle.alias_flow.specs.Machine.{Rules, SolverState, Run, Going, Stopped, End, Solved, NotSettled, after, ending}
use Rattle.alias_flow.specs.Machine.{up, FlowLaws}
use Rattle.alias_flow.specs.WorkLists.{WorkList, work_list_sends, work_list_visited, work_list_outcome}
use Rattle.alias_flow.specs.WorkLists.{work_list_visit_at, work_list_visit, work_list_turn, work_list_round}
use Rattle.alias_flow.specs.WorkLists.{work_list_rounds, work_list_start, work_list_solution}
use Rattle.alias_flow.specs.Solutions.{entry_at, RecordsSteps, KeepsOthers}
use Rattle.alias_flow.proofs.Order.{below_trans}
use Rattle.alias_flow.proofs.Sends.{at, is_dirty, Sound, Raised, sends_sound, sends_raise, sends_keep, sends_cover}
use Rattle.alias_flow.proofs.Sends.{sends_source}

module _ {P T K C : Type 0} (below : P → P → Bool) (rules : Rules P T K C) where
  -- the step from the state leaves the tables, gives what is recorded of the block, and a state below that of each
  -- successor
  abbrev pub Settles : T → List (Option P) → List (Option K) → ℕ → P → Type 0
  Settles tables entries recorded b s =
      (y : P) × (k : K) × (rules.flow.step tables b s ≡ Stepped y tables k) × (get_or recorded b None ≡ Some k)
      × AllByRecursion (IsAbove below rules.flow (entry_at entries) y) (rules.flow.edges b)

module _ {P T K C : Type 0} {proper : P → Type 0} {join : P → P → P} {below : P → P → Bool} {extends : T → T → Type 0}
    {rules : Rules P T K C} {recorded₀ : List (Option K)}
    (l : LatticeLaws proper join below) (f : FlowLaws proper extends rules recorded₀) where
  -- what each visit keeps
  pub record HoldsInvariant (w : SolverState (WorkList P) T K) : Type 0 where
    pub sound : Sound l rules.blocks w.progress
    pub recorded_length : length w.recorded ≡ rules.blocks
    pub initial_below : IsAbove below rules.flow (entry_at w.progress.joined_input) rules.flow.initial rules.flow.entry
    pub settled : (b : ℕ) (s : P) → at l w.progress b ≡ Some s → is_dirty l w.progress b ≡ false
        → Settles below rules w.tables w.progress.joined_input w.recorded b s
    pub reached : (b : ℕ) (s : P) → at l w.progress b ≡ Some s → IsReached rules.flow b
    pub others : KeepsOthers (entry_at w.progress.joined_input) recorded₀ w.recorded

  all_map : {A B : ℕ → Type 0} (es : List ℕ) → ((e : ℕ) → A e → B e) → AllByRecursion A es → AllByRecursion B es
  all_map [] g h = tt
  all_map (e ∷ es) g h = (g e h.0, all_map es g h.1)

  some_is : (s u : P) → Some s ≡ Some u → s ≡ u
  some_is s u e = cc

  none_some : (s : P) → ◌≡◌ {A = Option P} None (Some s) → ⊥
  none_some s e = cc

  module _ (w : SolverState (WorkList P) T K) (h : HoldsInvariant w) (b : ℕ) (lt : b < rules.blocks) (x : P)
      (was : at l w.progress b ≡ Some x) (y : P) (t : T) (k : K)
      (step : rules.flow.step w.tables b x ≡ Stepped y t k) where
    abbrev d : WorkList P
    d = work_list_visited join below w.progress b

    abbrev d' : WorkList P
    d' = work_list_sends join below y d (rules.flow.edges b)

    abbrev recorded' : List (Option K)
    recorded' = set w.recorded b (Some k)

    y_proper : proper y
    y_proper = f.step_proper w.tables b x y t k (h.sound.proper_at b x was) step

    sound : Sound l rules.blocks d
    sound = record {
      input_length = h.sound.input_length;
      dirty_length = length-set w.progress.dirty b false ∙ h.sound.dirty_length;
      proper_at = h.sound.proper_at;
    }

    edges : AllByRecursion (λ e. e < rules.blocks) (rules.flow.edges b)
    edges = f.edges_below b lt

    sound' : Sound l rules.blocks d'
    sound' = sends_sound l y d (rules.flow.edges b) rules.blocks y_proper sound edges

    raised : (q : ℕ) (s : P) → at l w.progress q ≡ Some s → Raised l d' q s
    raised = sends_raise l y d (rules.flow.edges b) rules.blocks y_proper sound edges

    -- a state that was below stays below
    still_above : (z : P) (e : ℕ) → proper z → IsAbove below rules.flow (entry_at w.progress.joined_input) z e
        → IsAbove below rules.flow (entry_at d'.joined_input) z e
    still_above z e i a =
        let r = raised e a.0 a.1 in
        (r.0, r.1, below_trans l z a.0 r.0 i (h.sound.proper_at e a.0 a.1) (sound'.proper_at e r.0 r.1) a.2 r.2)

    settles : (q : ℕ) (s : P) → at l d' q ≡ Some s → is_dirty l d' q ≡ false
        → Settles below rules t d'.joined_input recorded' q s
    settles q s is quiet =
        let keep = sends_keep l y d (rules.flow.edges b) rules.blocks y_proper sound edges q quiet in
        let before_it : at l w.progress q ≡ Some s = sym keep.1 ∙ is in
        ⊎_elim
        (λ same.
        let s_is : s ≡ x = some_is s x (sym before_it ∙ ap (at l w.progress) same ∙ was) in
        let again : rules.flow.step t q s ≡ Stepped y t k = ap (λ i. rules.flow.step t i s) same
        ∙ ap (rules.flow.step t b) s_is ∙ f.replay w.tables b x y t t k step (f.reflexive t) in
        let i : b < length w.recorded = omega (arith, h.recorded_length) in (
          y,
          k,
          again,
          ap (λ i. get_or recorded' i None) same ∙ get_or-set_same w.recorded b (Some k) None i,
          subst (λ i. AllByRecursion (IsAbove below rules.flow (entry_at d'.joined_input) y) (rules.flow.edges i))
              (sym same) (sends_cover l y d (rules.flow.edges b) rules.blocks y_proper sound edges),
        ))
        (λ other.
        let had = h.settled q s before_it (sym (get_or-set_other w.progress.dirty b q false false other) ∙ keep.0) in
        let z : P = had.0 in
        let z_proper : proper z = f.step_proper w.tables q s z w.tables had.1 (h.sound.proper_at q s before_it) had.2 in (
          z,
          had.1,
          f.replay w.tables q s z w.tables t had.1 had.2 (f.grow w.tables b x y t k step),
          get_or-set_other w.recorded b q (Some k) None other ∙ had.3,
          all_map (rules.flow.edges q) (λ e a. still_above z e z_proper a) had.4,
        ))
        (cases_eq q b)

    reaches : (q : ℕ) (s : P) → at l d' q ≡ Some s → IsReached rules.flow q
    reaches q s is = ⊎_elim
        (λ v. h.reached q v.0 v.1)
        (λ among. by_edge b q (h.reached b x was) among)
        (sends_source l y d (rules.flow.edges b) q s is)

    -- where nothing was sent, nothing was there before, and no visit was
    untouched : (q : ℕ) (o : Option P) → at l w.progress q ≡ o → at l d' q ≡ None → at l w.progress q ≡ None
    untouched q None was none = was
    untouched q (Some s) was none = let r = raised q s was in absurd (none_some r.0 (sym none ∙ r.1))

    keeps_others : KeepsOthers (entry_at d'.joined_input) recorded₀ recorded'
    keeps_others q none = ⊎_elim
        (λ same. let r = raised b x was in absurd (none_some r.0 (sym none ∙ ap (at l d') same ∙ r.1)))
        (λ other. get_or-set_other w.recorded b q (Some k) None other
        ∙ h.others q (untouched q (at l w.progress q) refl none))
        (cases_eq q b)

    pub visited : HoldsInvariant (record { progress = d'; tables = t; recorded = recorded' })
    visited = record {
      sound = sound';
      recorded_length = length-set w.recorded b (Some k) ∙ h.recorded_length;
      initial_below = still_above rules.flow.initial rules.flow.entry f.initial_proper h.initial_below;
      settled = settles;
      reached = reaches;
      others = keeps_others;
    }

  pub going_is : (u v : SolverState (WorkList P) T K) → ◌≡◌ {A = Run (WorkList P) T K C} (Going u) (Going v) → u ≡ v
  going_is u v e = cc

  solved_is : (u v : SolverState (WorkList P) T K) → ◌≡◌ {A = End (WorkList P) T K C} (Solved u) (Solved v) → u ≡ v
  solved_is u v e = cc

  outcome_holds : (w v : SolverState (WorkList P) T K) → HoldsInvariant w → (b : ℕ) → b < rules.blocks → (x : P)
      → at l w.progress b ≡ Some x → (o : Outcome P T K C) → rules.flow.step w.tables b x ≡ o
      → work_list_outcome join below rules w b o ≡ Going v → HoldsInvariant v
  outcome_holds w v h b lt x was (Stepped y t k) step e =
      subst HoldsInvariant (going_is _ v e) (visited w h b lt x was y t k step)
  outcome_holds w v h b lt x was (Refused c) step e = cc

  visit_holds : (w v : SolverState (WorkList P) T K) → HoldsInvariant w → (b : ℕ) → b < rules.blocks → (o : Option P)
      → at l w.progress b ≡ o → work_list_visit_at join below rules w b o ≡ Going v → HoldsInvariant v
  visit_holds w v h b lt None was e = subst HoldsInvariant (going_is w v e) h
  visit_holds w v h b lt (Some x) was e = outcome_holds w v h b lt x was (rules.flow.step w.tables b x) refl e

  turn_holds : (w v : SolverState (WorkList P) T K) → HoldsInvariant w → (b : ℕ) → b < rules.blocks → (wish : Bool)
      → (if wish then work_list_visit join below rules w b else Going w) ≡ Going v → HoldsInvariant v
  turn_holds w v h b lt true e = visit_holds w v h b lt (at l w.progress b) refl e
  turn_holds w v h b lt false e = subst HoldsInvariant (going_is w v e) h

  pub after_holds : (run : Run (WorkList P) T K C) (g : SolverState (WorkList P) T K → Run (WorkList P) T K C)
      (v : SolverState (WorkList P) T K) → after run g ≡ Going v
      → ((u : SolverState (WorkList P) T K) → run ≡ Going u → g u ≡ Going v → HoldsInvariant v) → HoldsInvariant v
  after_holds (Going u) g v e next = next u refl e
  after_holds (Stopped b c) g v e next = cc

  round_holds : (bs : List ℕ) → AllByRecursion (λ b. b < rules.blocks) bs → (w v : SolverState (WorkList P) T K)
      → HoldsInvariant w → work_list_round join below rules w bs ≡ Going v → HoldsInvariant v
  round_holds [] lt w v h e = subst HoldsInvariant (going_is w v e) h
  round_holds (b ∷ bs) lt w v h e =
      after_holds (work_list_turn join below rules w b) (λ u. work_list_round join below rules u bs) v e
      (λ u run rest. round_holds bs lt.1 u v (turn_holds w u h b lt.0 (is_dirty l w.progress b) run) rest)

  pub up_below : (i n m : ℕ) → i + n ≡ m → AllByRecursion (λ b. b < m) (up i n)
  up_below i zero m e = tt
  up_below i (suc n) m e = (omega arith, up_below (i + 1) n m (omega arith))

  Ends : SolverState (WorkList P) T K → Type 0
  Ends v = HoldsInvariant v × (list_any (λ b. b) v.progress.dirty ≡ false)

  ending_ends : (run : Run (WorkList P) T K C) (g : SolverState (WorkList P) T K → End (WorkList P) T K C)
      (v : SolverState (WorkList P) T K) → ending run g ≡ Solved v
      → ((u : SolverState (WorkList P) T K) → run ≡ Going u → g u ≡ Solved v → Ends v) → Ends v
  ending_ends (Going u) g v e next = next u refl e
  ending_ends (Stopped b c) g v e next = cc

  last_ends : (w v : SolverState (WorkList P) T K) → HoldsInvariant w → (b : Bool) → list_any (λ x. x) w.progress.dirty
      ≡ b → ◌≡◌ {A = End (WorkList P) T K C} (if b then NotSettled (length w.progress.visits) else Solved w) (Solved v)
      → Ends v
  unfolding Ends
  last_ends w v h true is e = cc
  last_ends w v h false is e = subst (λ u. HoldsInvariant u × (list_any (λ b. b) u.progress.dirty ≡ false))
      (solved_is w v e) (h, is)

  more_ends : (w v : SolverState (WorkList P) T K) → HoldsInvariant w
      → (g : SolverState (WorkList P) T K → End (WorkList P) T K C)
      → ((u : SolverState (WorkList P) T K) → HoldsInvariant u → g u ≡ Solved v → Ends v) → (b : Bool)
      → list_any (λ x. x) w.progress.dirty ≡ b
      → (if b then ending (work_list_round join below rules w (up 0 rules.blocks)) g else Solved w) ≡ Solved v → Ends v
  unfolding Ends
  more_ends w v h g next true is e = ending_ends (work_list_round join below rules w (up 0 rules.blocks)) g v e
      (λ u run rest. next u (round_holds (up 0 rules.blocks) (up_below 0 rules.blocks rules.blocks (omega arith)) w u h
      run) rest)
  more_ends w v h g next false is e = subst (λ u. HoldsInvariant u × (list_any (λ b. b) u.progress.dirty ≡ false))
      (solved_is w v e) (h, is)

  rounds_ends : (n : ℕ) (w v : SolverState (WorkList P) T K) → HoldsInvariant w → work_list_rounds join below rules n w
      ≡ Solved v → Ends v
  unfolding work_list_rounds
  rounds_ends zero w v h e = last_ends w v h (list_any (λ x. x) w.progress.dirty) refl e
  rounds_ends (suc n) w v h e = more_ends w v h (work_list_rounds join below rules n) (λ u s r. rounds_ends n u v s r)
      (list_any (λ x. x) w.progress.dirty) refl e

  pub none_at : (xs : List Bool) (i : ℕ) → list_any (λ b. b) xs ≡ false → get_or xs i false ≡ false
  none_at [] i h = refl
  none_at (true ∷ xs) i h = absurd (false≢true (sym h))
  none_at (false ∷ xs) zero h = refl
  none_at (false ∷ xs) (suc i) h = none_at xs i h

  all_at : (A : ℕ → Type 0) (es : List ℕ) (e : ℕ) → AllByRecursion A es → IsOneOf e es → A e
  all_at A (x ∷ es) e h (inl same) = subst A (sym same) h.0
  all_at A (x ∷ es) e h (inr among) = all_at A es e h.1 among
  all_at A [] e h among = absurd among

  state_at : (v : SolverState (WorkList P) T K) → HoldsInvariant v → list_any (λ b. b) v.progress.dirty ≡ false
      → (b : ℕ) → IsReached rules.flow b → (s : P) × (at l v.progress b ≡ Some s)
  state_at v h none _ at_entry = (h.initial_below.0, h.initial_below.1)
  state_at v h none _ (by_edge b e r among) =
      let before = state_at v h none b r in
      let y : P = (h.settled b before.0 before.1 (none_at v.progress.dirty b none)).0 in
      let above = all_at (IsAbove below rules.flow (entry_at v.progress.joined_input) y) (rules.flow.edges b) e
      (h.settled b before.0 before.1 (none_at v.progress.dirty b none)).4 among in
      (above.0, above.1)

  pub nothing : (n q : ℕ) → ◌≡◌ {A = Option P} (get_or (replicate n None) q None) None
  nothing zero q = refl
  nothing (suc n) zero = refl
  nothing (suc n) (suc q) = nothing n q

  module _ (tables : T) where
    abbrev pub empty : WorkList P
    empty = record { visits = []; joined_input = replicate rules.blocks None; dirty = replicate rules.blocks false }

    pub empty_sound : Sound l rules.blocks empty
    empty_sound = record {
      input_length = length-replicate rules.blocks None;
      dirty_length = length-replicate rules.blocks false;
      proper_at = λ q s e. absurd (none_some s (sym (nothing rules.blocks q) ∙ e));
    }

    abbrev pub to_entry : AllByRecursion (λ e. e < rules.blocks) (rules.flow.entry ∷ [])
    to_entry = (f.entry_below, tt)

    pub start_holds : HoldsInvariant (work_list_start join below rules tables recorded₀)
    start_holds = record {
      sound = sends_sound l rules.flow.initial empty (rules.flow.entry ∷ []) rules.blocks f.initial_proper empty_sound
          to_entry;
      recorded_length = f.recorded_length;
      initial_below = (sends_cover l rules.flow.initial empty (rules.flow.entry ∷ []) rules.blocks f.initial_proper
          empty_sound to_entry).0;
      settled = λ b s is quiet. absurd (none_some s
          (sym (nothing rules.blocks b) ∙ sym (sends_keep l rules.flow.initial empty (rules.flow.entry ∷ [])
          rules.blocks f.initial_proper empty_sound to_entry b quiet).1 ∙ is));
      reached = λ b s is. ⊎_elim
          (λ v. absurd (none_some v.0 (sym (nothing rules.blocks b) ∙ v.1)))
          (λ among. ⊎_elim (λ same. subst (IsReached rules.flow) (sym same) at_entry) (λ no. absurd no) among)
          (sends_source l rules.flow.initial empty (rules.flow.entry ∷ []) b s is);
      others = λ b none. refl;
    }

    -- what the sequence ends with: entry states that solve the flow under its tables, and what their steps give is
    -- recorded
    pub record Solves (v : SolverState (WorkList P) T K) : Type 0 where
      pub solves : IsSolution below rules.flow v.tables (entry_at v.progress.joined_input)
      pub keeps : RecordsSteps rules.flow v.tables (entry_at v.progress.joined_input) v.recorded
      pub others : KeepsOthers (entry_at v.progress.joined_input) recorded₀ v.recorded
      pub length : length v.progress.joined_input ≡ rules.blocks

    pub solution_solves : (v : SolverState (WorkList P) T K) → work_list_solution join below rules tables recorded₀
        ≡ Solved v → Solves v
    unfolding work_list_solution Ends
    solution_solves v e =
        let ends = rounds_ends 100 (work_list_start join below rules tables recorded₀) v start_holds e in
        let settled = λ (b : ℕ) (s : P) (is : at l v.progress b ≡ Some s).
        ends.0.settled b s is (none_at v.progress.dirty b ends.1) in
        record {
          solves = record {
            reached = λ b r. let h = state_at v ends.0 ends.1 b r in subst (λ o. IsTrue (is_some o)) (sym h.1) refl;
            only_reached = ends.0.reached;
            initial = ends.0.initial_below;
            steps = λ b s is. let h = settled b s is in (h.0, h.1, h.2, h.4);
          };
          keeps = λ b s is. let h = settled b s is in (h.0, h.1, h.2, h.3);
          others = ends.0.others;
          length = ends.0.sound.input_length;
        }

    -- the same of the parts of what is handed out
    pub solution_found : (now : Rules P T K C) → now ≡ rules → (v : SolverState (WorkList P) T K)
        → work_list_solution join below rules tables recorded₀ ≡ Solved v
        → (es : List (Option P)) → es ≡ v.progress.joined_input → IsSolution below now.flow v.tables (entry_at es)
    solution_found now r v e es es_is =
        subst (λ i. IsSolution below i.flow v.tables (entry_at es)) (sym r)
        (subst (λ i. IsSolution below rules.flow v.tables (entry_at i)) (sym es_is) (solution_solves v e).solves)

    pub recorded_found : (now : Rules P T K C) → now ≡ rules → (v : SolverState (WorkList P) T K)
        → work_list_solution join below rules tables recorded₀ ≡ Solved v
        → (es : List (Option P)) → es ≡ v.progress.joined_input
        → RecordsSteps now.flow v.tables (entry_at es) v.recorded
    recorded_found now r v e es es_is =
        subst (λ i. RecordsSteps i.flow v.tables (entry_at es) v.recorded) (sym r)
        (subst (λ i. RecordsSteps rules.flow v.tables (entry_at i) v.recorded) (sym es_is)
        (solution_solves v e).keeps)

    pub others_found : (v : SolverState (WorkList P) T K) → work_list_solution join below rules tables recorded₀
        ≡ Solved v → (es : List (Option P)) → es ≡ v.progress.joined_input
        → KeepsOthers (entry_at es) recorded₀ v.recorded
    others_found v e es es_is = subst (λ i. KeepsOthers (entry_at i) recorded₀ v.recorded) (sym es_is)
        (solution_solves v e).others

    pub length_found : (v : SolverState (WorkList P) T K) → work_list_solution join below rules tables recorded₀
        ≡ Solved v → (es : List (Option P)) → es ≡ v.progress.joined_input → length es ≡ rules.blocks
    length_found v e es es_is = ap length es_is ∙ (solution_solves v e).length
