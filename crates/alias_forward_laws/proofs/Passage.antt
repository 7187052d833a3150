-- Where all edges go forward, and each block is entered with what arrives, one pass over the blocks does what the
-- rounds do.
use Rattle.std.proofs.Common.{◌≡◌, ℕ, ◌+◌, ◌<◌, ◌≤◌, ◌≢◌, ⊎_elim, inl, inr, Bool, true, false, if◌then◌else◌}
use Rattle.std.proofs.Common.{List, [], ◌∷◌, ◌++◌, length, get_or, set, replicate, ext_get_or, Option, Some, None}
use Rattle.std.proofs.Common.{Result, Ok, Err, zero, suc, refl, ap, sym, ◌∙◌, subst, arith, append-nil, append_assoc}
use Rattle.std.proofs.lemmas.List.{get_or-set_same, get_or-set_other, length-set, length-replicate}
use Rattle.std.proofs.lemmas.Bool.{cases_eq, false≢true, lt-ltb}
use Rattle.std.specs.List.{AllByRecursion, list_any}
use Rattle.alias_base.specs.Answer.{◌>>=◌}
use Rattle.alias_lattice.specs.Laws.{LatticeLaws}
use Rattle.alias_lattice.specs.Flows.{Outcome, Stepped, Refused, IsOneOf, IsReached, at_entry, by_edge}
use Rattle.alias_flow.specs.Machine.{Rules, VisitLog, SolverState, Run, Going, Stopped, End, Solved, Fault, after}
use Rattle.alias_flow.specs.Machine.{ending, up, send_all, solution, FlowLaws}
use Rattle.alias_flow.specs.WorkLists.{WorkList, work_list_sends, work_list_visited, work_list_outcome}
use Rattle.alias_flow.specs.WorkLists.{work_list_visit_at, work_list_visit, work_list_turn, work_list_round}
use Rattle.alias_flow.specs.WorkLists.{work_list_rounds, work_list_start, work_list_solution}
use Rattle.alias_flow.specs.Runs.{solver_state}
use Rattle.alias_flow.specs.Solutions.{entry_at, IsForward}
use Rattle.alias_flow.specs.check.Checks.{first_not_above}
use Rattle.alias_flow.specs.check.Reached.{reached_marks}
use Rattle.alias_flow.specs.declared.check.fault.Unsolved.{Unsolved}
use Rattle.alias_flow.specs.declared.check.fault.Unsolved.TheVariants as fault
use Rattle.alias_flow.proofs.Rounds.{rounds_suc, rounds_settled, solution_is}
use Rattle.alias_flow.proofs.Sends.{at, is_dirty}
use Rattle.alias_flow.proofs.Solving.{none_at, nothing}
use Rattle.alias_flow.proofs.OneRound.{Ahead, skipped, moved, quiet, begun, input_entry, true_or_false}
use Rattle.alias_flow.proofs.DirtyFlags.{solved_by_work_list, fault_by_work_list}
use Rattle.alias_flow.proofs.check.Marks.{marked_within, rounds_length, reached_is_marked, marked_is_reached}
use Rattle.alias_passage.specs.Passes.{back_edges, or_empty, Passing, passed, outcome_passed, entered}
use Rattle.alias_passage.specs.Passes.{state_passed, block_passed, turn_passed, blocks_passed}
use Rattle.alias_passage.specs.Passes.{passage_begun, flow_passed}
use Rattle.alias_passage.proofs.Forward.{IsThere, forward_all, sends_long, sends_stay, sends_there}
use Rattle.alias_passage.proofs.Forward.{sends_other, sends_same}

-- ---- lists

-- the marked ones of these blocks
abbrev pub marked_of : List Bool → List ℕ → List ℕ
marked_of marks [] = []
marked_of marks (b ∷ bs) = if get_or marks b false then b ∷ marked_of marks bs else marked_of marks bs

-- where all edges go forward, none goes back
none_back : (b : ℕ) (es : List ℕ) → AllByRecursion (λ e. b < e) es → back_edges b es ≡ []
none_back b [] a = refl
none_back b (e ∷ es) a = ap (λ t. if t then back_edges b es else e ∷ back_edges b es) (lt-ltb b e a.0)
    ∙ none_back b es a.1

one_of_all : (A : ℕ → Type 0) (es : List ℕ) → AllByRecursion A es → (e : ℕ) → IsOneOf e es → A e
one_of_all A [] a e one = absurd one
one_of_all A (d ∷ es) a e (inl same) = subst A (sym same) a.0
one_of_all A (d ∷ es) a e (inr one) = one_of_all A es a.1 e one

all_last : {X : Type 0} (A : X → Type 0) (xs : List X) (x : X) → AllByRecursion A xs → A x
    → AllByRecursion A (xs ++ x ∷ [])
all_last A [] x a h = (h, tt)
all_last A (y ∷ xs) x a h = (a.0, all_last A xs x a.1 h)

module _ {P : Type 0} (join : P → P → P) (below : P → P → Bool) (x : P) where
  sends_input : (es : List ℕ) (d : WorkList P) → (work_list_sends join below x d es).joined_input
      ≡ send_all join x d.joined_input es
  sends_input [] d = refl
  sends_input (e ∷ es) d = sends_input es _

  sends_visits : (es : List ℕ) (d : WorkList P) → (work_list_sends join below x d es).visits ≡ d.visits
  sends_visits [] d = refl
  sends_visits (e ∷ es) d = sends_visits es _

-- ---- the pass beside the first round

module _ {P B T K C D : Type 0} {proper : P → Type 0} {join : P → P → P} {below : P → P → Bool}
    {extends : T → T → Type 0} {rules : Rules P T K C} {recorded₀ : List (Option K)}
    (l : LatticeLaws proper join below) (f : FlowLaws proper extends rules recorded₀) (forward : IsForward rules)
    (empty : P) (enter : ℕ → P → Option (P × B)) (unentered : D) (lacks : T → Option D) (bare : B)
    (enters : (b : ℕ) (x : P) → enter b x ≡ Some (x, bare)) (lacks_none : (t : T) → lacks t ≡ None) where
  abbrev marks : List Bool
  marks = reached_marks rules

  marks_long : length marks ≡ rules.blocks
  marks_long =
      rounds_length rules.flow.edges rules.blocks rules.blocks
      (set (replicate rules.blocks false) rules.flow.entry true)
      ∙ length-set (replicate rules.blocks false) rules.flow.entry true ∙ length-replicate rules.blocks false

  -- before the turn of i, where n blocks are left: what arrives at later blocks is what was sent to them, and earlier
  -- ones were entered with what was sent to them in the end
  record Beside (i n : ℕ) (u : Passing P B T K) (w : SolverState (WorkList P) T K) : Type 0 where
    arriving : (q : ℕ) → i ≤ q → entry_at u.progress.arriving q ≡ at l w.progress q
    arriving_long : length u.progress.arriving ≡ rules.blocks
    entries : (q : ℕ) → q < i → entry_at u.progress.entries q ≡ at l w.progress q
    later : (q : ℕ) → i ≤ q → entry_at u.progress.entries q ≡ None
    entries_long : length u.progress.entries ≡ rules.blocks
    tables : u.tables ≡ w.tables
    recorded : u.recorded ≡ w.recorded
    ahead : Ahead l f forward i w
    there : (q : ℕ) → q < i → IsReached rules.flow q → IsThere w.progress.joined_input q
    sent : (q c : ℕ) → q < i → IsThere w.progress.joined_input q → IsOneOf c (rules.flow.edges q)
        → IsThere w.progress.joined_input c
    visits : w.progress.visits ++ marked_of marks (up i n) ≡ marked_of marks (up 0 rules.blocks)
    beyond : AllByRecursion (λ m. m ≡ bare) u.progress.beyond

  -- both go on, or both stop with the same refusal
  data RunsBeside (i n : ℕ) (r : Result (Passing P B T K) (Unsolved C D)) (run : Run (WorkList P) T K C) : Type 0 where
    goes : (u : Passing P B T K) (w : SolverState (WorkList P) T K) → r ≡ Ok u → run ≡ Going w → Beside i n u w
        → RunsBeside i n r run
    stops : (b : ℕ) (c : C) → r ≡ Err (fault.Step b c) → run ≡ Stopped b c → RunsBeside i n r run

  module _ (i n : ℕ) (all : i + suc n ≡ rules.blocks) (u : Passing P B T K) (w : SolverState (WorkList P) T K)
      (a : Beside i (suc n) u w) where
    within : i < rules.blocks
    within = omega arith

    edges_within : AllByRecursion (λ e. e < rules.blocks) (rules.flow.edges i)
    edges_within = f.edges_below i within

    -- at a block that is reached something has arrived
    arrived : (q : ℕ) → q ≡ i → IsReached rules.flow q → IsThere w.progress.joined_input q
    arrived q same at_entry =
        let h = a.ahead.holds_invariant.initial_below in (h.0, h.1)
    arrived q same (by_edge b c r one) =
        let inside : b < length marks = marked_within marks b (reached_is_marked f b r) in
        let long : length marks ≡ rules.blocks = marks_long in
        let lt : b < rules.blocks = subst (λ k. b < k) long inside in
        let before : b < c = one_of_all (λ e. b < e) (rules.flow.edges b) (forward b lt) c one in
        let earlier : b < i = subst (λ k. b < k) same before in
        a.sent b c earlier (a.there b earlier r) one

    -- so it is dirty, with this state
    reached_has : get_or marks i false ≡ true → IsThere w.progress.joined_input i
    reached_has m = arrived i refl (marked_is_reached f i m)

    -- and a block that isn't reached isn't dirty
    unreached_quiet : get_or marks i false ≡ false → is_dirty l w.progress i ≡ false
    unreached_quiet m = ⊎_elim
        (λ yes. let h = a.ahead.has_state i yes in
        absurd (false≢true (sym m ∙ reached_is_marked f i (a.ahead.holds_invariant.reached i h.0 h.1))))
        (λ no. no)
        (true_or_false l f forward (is_dirty l w.progress i))

    -- ---- a block that isn't reached

    skipped_beside : get_or marks i false ≡ false → Beside (i + 1) n u w
    skipped_beside m = record {
      arriving = λ q le. a.arriving q (omega arith);
      arriving_long = a.arriving_long;
      entries = λ q lt. ⊎_elim
          (λ same. ap (entry_at u.progress.entries) same ∙ a.later i (omega arith) ∙ sym (nothing_here q same))
          (λ other. a.entries q (omega arith))
          (cases_eq q i);
      later = λ q le. a.later q (omega arith);
      entries_long = a.entries_long;
      tables = a.tables;
      recorded = a.recorded;
      ahead = skipped l f forward i w a.ahead (unreached_quiet m);
      there = λ q lt r. ⊎_elim
          (λ same. absurd (false≢true (sym m ∙ ap (λ k. get_or marks k false) (sym same) ∙ reached_is_marked f q r)))
          (λ other. a.there q (omega arith) r)
          (cases_eq q i);
      sent = λ q c lt h one. ⊎_elim
          (λ same. absurd (false≢true (sym m ∙ ap (λ k. get_or marks k false) (sym same)
          ∙ reached_is_marked f q (a.ahead.holds_invariant.reached q h.0 h.1))))
          (λ other. a.sent q c (omega arith) h one)
          (cases_eq q i);
      visits = ap (λ t. w.progress.visits ++ (if t then i ∷ marked_of marks (up (i + 1) n)
          else marked_of marks (up (i + 1) n))) (sym m) ∙ a.visits;
      beyond = a.beyond;
    }
      where
        nothing_at : (o : Option P) → at l w.progress i ≡ o → o ≡ None
        nothing_at None is = refl
        nothing_at (Some s) is = absurd (false≢true (sym m ∙ reached_is_marked f i
            (a.ahead.holds_invariant.reached i s is)))

        nothing_here : (q : ℕ) → q ≡ i → at l w.progress q ≡ None
        nothing_here q same = ap (at l w.progress) same ∙ nothing_at (at l w.progress i) refl

    -- ---- a block that is reached

    module _ (m : get_or marks i false ≡ true) (x : P) (was : at l w.progress i ≡ Some x) where
      abbrev came : Passing P B T K
      came = entered {C = C} join below empty rules enter unentered lacks i (x, bare) u

      -- the pass enters the block with what has arrived
      enters_so : block_passed join below empty rules enter unentered lacks i u
          ≡ outcome_passed join below empty rules enter unentered lacks i came (rules.flow.step w.tables i x)
      enters_so =
          ap (λ o. state_passed join below empty rules enter unentered lacks i u (enter i (or_empty empty o)))
          (a.arriving i (omega arith) ∙ was)
          ∙ ap (state_passed join below empty rules enter unentered lacks i u) (enters i x)
          ∙ ap (λ t. outcome_passed join below empty rules enter unentered lacks i came (rules.flow.step t i x))
          a.tables

      -- and the rounds visit it
      visits_so : work_list_visit join below rules w i ≡ work_list_outcome join below rules w i
          (rules.flow.step w.tables i x)
      visits_so = ap (work_list_visit_at join below rules w i) was

      module _ (y : P) (t : T) (k : K) (step : rules.flow.step w.tables i x ≡ Stepped y t k) where
        abbrev es : List ℕ
        es = rules.flow.edges i

        abbrev sends : List (Option P)
        sends = send_all join y (set u.progress.arriving i None) es

        abbrev went : Passing P B T K
        went = record {
          progress = record {
            arriving = sends;
            entries = set u.progress.entries i (Some x);
            beyond = u.progress.beyond ++ bare ∷ [];
          };
          tables = t;
          recorded = set u.recorded i (Some k);
        }

        abbrev log : WorkList P
        log = work_list_sends join below y (work_list_visited join below w.progress i) es

        abbrev gone : SolverState (WorkList P) T K
        gone = record { progress = log; tables = t; recorded = set w.recorded i (Some k) }

        passes : outcome_passed join below empty rules enter unentered lacks i came (Stepped y t k) ≡ Ok went
        passes =
            ap (λ d. passed {C = C} join below empty rules enter unentered lacks i y t k came d
            (first_not_above below (set u.progress.entries i (Some x)) y (back_edges i es))) (lacks_none t)
            ∙ ap (λ bs. passed {C = C} join below empty rules enter unentered lacks i y t k came None
            (first_not_above below (set u.progress.entries i (Some x)) y bs)) (none_back i es (forward i within))
            ∙ ap (λ fs. let v : Passing P B T K = record {
              progress = record {
                arriving = send_all join y (set u.progress.arriving i None) fs;
                entries = set u.progress.entries i (Some x);
                beyond = u.progress.beyond ++ bare ∷ [];
              };
              tables = t;
              recorded = set u.recorded i (Some k);
            } in let r : Result (Passing P B T K) (Unsolved C D) = Ok v in r) (forward_all i es (forward i within))

        long : length w.progress.joined_input ≡ rules.blocks
        long = a.ahead.holds_invariant.sound.input_length

        now : (q : ℕ) → at l log q ≡ entry_at (send_all join y w.progress.joined_input es) q
        now q = ap (λ xs. entry_at xs q) (sends_input join below y es (work_list_visited join below w.progress i))

        before : (q : ℕ) → q ≤ i → at l log q ≡ at l w.progress q
        before q le = now q ∙ sends_other join y w.progress.joined_input es i q (forward i within) le

        stays : (q : ℕ) → IsThere w.progress.joined_input q → IsThere log.joined_input q
        stays q h = let s = sends_stay join y w.progress.joined_input es rules.blocks long edges_within q h in
            (s.0, now q ∙ s.1)

        moved_beside : Beside (i + 1) n went gone
        moved_beside = record {
          arriving = λ q le.
              sends_same join y (set u.progress.arriving i None) w.progress.joined_input es rules.blocks i
              (length-set u.progress.arriving i None ∙ a.arriving_long) long edges_within (forward i within)
              (λ p beyond. let apart : p ≢ i = omega arith in
              get_or-set_other u.progress.arriving i p None None apart ∙ a.arriving p (omega arith)) q le
              ∙ sym (now q);
          arriving_long = sends_long join y (set u.progress.arriving i None) es
              ∙ length-set u.progress.arriving i None ∙ a.arriving_long;
          entries = λ q lt. ⊎_elim
              (λ same. ap (entry_at (set u.progress.entries i (Some x))) same ∙ here
              ∙ sym (before q (omega arith) ∙ ap (at l w.progress) same ∙ was))
              (λ other. get_or-set_other u.progress.entries i q (Some x) None other ∙ a.entries q (omega arith)
              ∙ sym (before q (omega arith)))
              (cases_eq q i);
          later = λ q le. let apart : q ≢ i = omega arith in
              get_or-set_other u.progress.entries i q (Some x) None apart ∙ a.later q (omega arith);
          entries_long = length-set u.progress.entries i (Some x) ∙ a.entries_long;
          tables = refl;
          recorded = ap (λ ks. set ks i (Some k)) a.recorded;
          ahead = moved l f forward i within w a.ahead x was y t k step;
          there = λ q lt r. stays q (⊎_elim
              (λ same. (x, ap (at l w.progress) same ∙ was))
              (λ other. a.there q (omega arith) r)
              (cases_eq q i));
          sent = λ q c lt h one. ⊎_elim
              (λ same. let s = sends_there join y w.progress.joined_input es rules.blocks long edges_within c
              (subst (λ j. IsOneOf c (rules.flow.edges j)) same one) in (s.0, now c ∙ s.1))
              (λ other. stays c (a.sent q c (omega arith) (h.0, sym (before q (omega arith)) ∙ h.1) one))
              (cases_eq q i);
          visits = ap (λ vs. vs ++ marked_of marks (up (i + 1) n))
              (sends_visits join below y es (work_list_visited join below w.progress i))
              ∙ append_assoc w.progress.visits (i ∷ []) (marked_of marks (up (i + 1) n))
              ∙ ap (λ z. w.progress.visits ++ (if z then i ∷ marked_of marks (up (i + 1) n)
              else marked_of marks (up (i + 1) n))) (sym m)
              ∙ a.visits;
          beyond = all_last (λ z. z ≡ bare) u.progress.beyond bare a.beyond refl;
        }
          where
            here : entry_at (set u.progress.entries i (Some x)) i ≡ Some x
            here =
                let entries_long = a.entries_long in
                let inside : i < length u.progress.entries = omega (arith, entries_long, within) in
                get_or-set_same u.progress.entries i (Some x) None inside

      outcome_beside : (o : Outcome P T K C) → rules.flow.step w.tables i x ≡ o
          → RunsBeside (i + 1) n (outcome_passed join below empty rules enter unentered lacks i came o)
          (work_list_outcome join below rules w i o)
      outcome_beside (Stepped y t k) step = goes (went y t k step) (gone y t k step) (passes y t k step) refl
          (moved_beside y t k step)
      outcome_beside (Refused c) step = stops i c refl refl

      visited_beside : RunsBeside (i + 1) n (block_passed join below empty rules enter unentered lacks i u)
          (work_list_visit join below rules w i)
      visited_beside =
          subst (λ r. RunsBeside (i + 1) n r (work_list_visit join below rules w i)) (sym enters_so)
          (subst (λ z. RunsBeside (i + 1) n (outcome_passed join below empty rules enter unentered lacks i came
          (rules.flow.step w.tables i x)) z) (sym visits_so) (outcome_beside (rules.flow.step w.tables i x) refl))

    turn_if : (t : Bool) → get_or marks i false ≡ t
        → RunsBeside (i + 1) n (turn_passed join below empty rules enter unentered lacks marks i u)
        (work_list_turn join below rules w i)
    turn_if true m =
        let h = reached_has m in
        let dirty : is_dirty l w.progress i ≡ true = a.ahead.ahead i h.0 (omega arith) h.1 in
        subst (λ t. RunsBeside (i + 1) n
        (if t then block_passed join below empty rules enter unentered lacks i u else Ok u)
        (work_list_turn join below rules w i)) (sym m)
        (subst (λ t. RunsBeside (i + 1) n (block_passed join below empty rules enter unentered lacks i u)
        (if t then work_list_visit join below rules w i else Going w)) (sym dirty) (visited_beside m h.0 h.1))
    turn_if false m =
        subst (λ t. RunsBeside (i + 1) n
        (if t then block_passed join below empty rules enter unentered lacks i u else Ok u)
        (work_list_turn join below rules w i)) (sym m)
        (subst (λ t. RunsBeside (i + 1) n (Ok u) (if t then work_list_visit join below rules w i else Going w))
        (sym (unreached_quiet m)) (goes u w refl refl (skipped_beside m)))

  runs_then : (i n j p : ℕ) (r : Result (Passing P B T K) (Unsolved C D)) (run : Run (WorkList P) T K C)
      (g : Passing P B T K → Result (Passing P B T K) (Unsolved C D))
      (h : SolverState (WorkList P) T K → Run (WorkList P) T K C) → RunsBeside i n r run
      → ((u : Passing P B T K) (w : SolverState (WorkList P) T K) → Beside i n u w → RunsBeside j p (g u) (h w))
      → RunsBeside j p (r >>= g) (after run h)
  runs_then i n j p r run g h (goes u w is so a) next =
      subst (λ z. RunsBeside j p (z >>= g) (after run h)) (sym is)
      (subst (λ z. RunsBeside j p (g u) (after z h)) (sym so) (next u w a))
  runs_then i n j p r run g h (stops b c is so) next =
      stops b c (ap (λ z. z >>= g) is) (ap (λ z. after z h) so)

  blocks_beside : (i n : ℕ) → i + n ≡ rules.blocks → (u : Passing P B T K) (w : SolverState (WorkList P) T K)
      → Beside i n u w
      → RunsBeside rules.blocks 0 (blocks_passed join below empty rules enter unentered lacks marks (up i n) u)
      (work_list_round join below rules w (up i n))
  blocks_beside i zero all u w a = let done : i ≡ rules.blocks = omega arith in
      goes u w refl refl (subst (λ j. Beside j 0 u w) done a)
  blocks_beside i (suc n) all u w a =
      runs_then (i + 1) n rules.blocks 0 (turn_passed join below empty rules enter unentered lacks marks i u)
      (work_list_turn join below rules w i)
      (blocks_passed join below empty rules enter unentered lacks marks (up (i + 1) n))
      (λ v. work_list_round join below rules v (up (i + 1) n))
      (turn_if i n all u w a (get_or marks i false) refl)
      (λ v z b. blocks_beside (i + 1) n (omega arith) v z b)

  -- ---- the whole

  module _ (first : T) where
    abbrev begins : SolverState (WorkList P) T K
    begins = work_list_start join below rules first recorded₀

    first_beside : Beside 0 rules.blocks (solver_state (passage_begun join rules) first recorded₀) begins
    first_beside = record {
      arriving = λ q le. refl;
      arriving_long = length-set (replicate rules.blocks None) rules.flow.entry _ ∙ length-replicate rules.blocks None;
      entries = λ q lt. absurd (omega arith);
      later = λ q le. nothing l f rules.blocks q;
      entries_long = length-replicate rules.blocks None;
      tables = refl;
      recorded = refl;
      ahead = begun l f forward first;
      there = λ q lt r. absurd (omega arith);
      sent = λ q c lt h one. absurd (omega arith);
      visits = refl;
      beyond = tt;
    }

    first_dirty : list_any (λ b. b) begins.progress.dirty ≡ true
    first_dirty = ⊎_elim
        (λ yes. yes)
        (λ no. let at_start = input_entry l f forward first in
        absurd (false≢true (sym (none_at l f begins.progress.dirty rules.flow.entry no)
        ∙ (begun l f forward first).ahead rules.flow.entry at_start.0 (omega arith) at_start.1)))
        (true_or_false l f forward (list_any (λ b. b) begins.progress.dirty))

    in_rounds : work_list_solution join below rules first recorded₀
        ≡ ending (work_list_round join below rules begins (up 0 rules.blocks)) (work_list_rounds join below rules 99)
    in_rounds = solution_is join below rules first recorded₀ ∙ rounds_suc join below rules 99 begins
        ∙ ap (λ b. if b then ending (work_list_round join below rules begins (up 0 rules.blocks))
        (work_list_rounds join below rules 99) else Solved begins) first_dirty

    -- the pass comes to what the rounds end with, from the marked blocks in stored order
    pub record SameEnd (u : Passing P B T K) (v : SolverState (VisitLog P) T K) : Type 0 where
      pub entries : u.progress.entries ≡ v.progress.joined_input
      pub tables : u.tables ≡ v.tables
      pub recorded : u.recorded ≡ v.recorded
      pub visits : v.progress.visits ≡ marked_of marks (up 0 rules.blocks)
      pub beyond : AllByRecursion (λ m. m ≡ bare) u.progress.beyond

    -- both come to the same, or both are refused at the same block
    pub data EndsBeside (r : Result (Passing P B T K) (Unsolved C D)) (e : End (VisitLog P) T K C) : Type 0 where
      solves : (u : Passing P B T K) (v : SolverState (VisitLog P) T K) → r ≡ Ok u → e ≡ Solved v → SameEnd u v
          → EndsBeside r e
      refuses : (b : ℕ) (c : C) → r ≡ Err (fault.Step b c) → e ≡ Fault b c → EndsBeside r e

    round_ends : (r : Result (Passing P B T K) (Unsolved C D)) (run : Run (WorkList P) T K C)
        → RunsBeside rules.blocks 0 r run → work_list_round join below rules begins (up 0 rules.blocks) ≡ run
        → EndsBeside r (solution join below rules first recorded₀)
    round_ends r run (goes u w is so a) round =
        let ends : work_list_solution join below rules first recorded₀ ≡ Solved w =
        in_rounds ∙ ap (λ z. ending z (work_list_rounds join below rules 99)) (round ∙ so)
        ∙ rounds_settled join below rules 99 w (quiet l f forward w a.ahead) in
        let s = solved_by_work_list l f first w ends in
        solves u s.0 is s.1 (record {
          entries = ext_get_or None u.progress.entries w.progress.joined_input
              (a.entries_long ∙ sym a.ahead.holds_invariant.sound.input_length)
              (λ q lt. let long = a.entries_long in a.entries q (omega (arith, lt, long)))
              ∙ ap (λ (z : SolverState (WorkList P) T K). z.progress.joined_input) (sym s.2);
          tables = a.tables ∙ ap (λ (z : SolverState (WorkList P) T K). z.tables) (sym s.2);
          recorded = a.recorded ∙ ap (λ (z : SolverState (WorkList P) T K). z.recorded) (sym s.2);
          visits = ap (λ (z : SolverState (WorkList P) T K). z.progress.visits) s.2
              ∙ sym (append-nil w.progress.visits) ∙ a.visits;
          beyond = a.beyond;
        })
    round_ends r run (stops b c is so) round =
        refuses b c is (fault_by_work_list l f first b c
        (in_rounds ∙ ap (λ z. ending z (work_list_rounds join below rules 99)) (round ∙ so)))

    -- the pass over a forward flow comes to what the rounds end with, or both are refused at the same block
    pub passes_as_rounds : EndsBeside (flow_passed join below empty rules enter unentered lacks marks first recorded₀)
        (solution join below rules first recorded₀)
    passes_as_rounds =
        round_ends (flow_passed join below empty rules enter unentered lacks marks first recorded₀)
        (work_list_round join below rules begins (up 0 rules.blocks))
        (blocks_beside 0 rules.blocks (omega arith) (solver_state (passage_begun join rules) first recorded₀) begins
        first_beside) refl
