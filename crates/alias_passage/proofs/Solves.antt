-- What a pass comes to passes the check of its entry states.
use Rattle.std.proofs.Common.{◌≡◌, ℕ, ◌+◌, ◌<◌, ◌≤◌, ◌≢◌, ◌⊎◌, ⊎_elim, inl, inr, Bool, true, false, nat_lt, if◌then◌else◌}
use Rattle.std.proofs.Common.{IsTrue, List, [], ◌∷◌, ◌++◌, length, get_or, set, replicate, Option, Some, None, Result}
use Rattle.std.proofs.Common.{Ok, Err, zero, suc, refl, ap, sym, ◌∙◌, subst, arith}
use Rattle.std.proofs.lemmas.List.{get_or-set_same, get_or-set_other, length-set, length-replicate}
use Rattle.std.proofs.lemmas.Bool.{cases_eq, ltb-true}
use Rattle.std.specs.List.{AllByRecursion}
use Rattle.alias_base.specs.Answer.{◌>>=◌}
use Rattle.alias_lattice.specs.Laws.{LatticeLaws}
use Rattle.alias_lattice.specs.Flows.{Outcome, Stepped, Refused, IsOneOf, IsReached, at_entry, by_edge}
use Rattle.alias_flow.specs.Machine.{Rules, up, joined, send, send_all, FlowLaws}
use Rattle.alias_flow.specs.Runs.{solver_state}
use Rattle.alias_flow.specs.Solutions.{entry_at, goes_forward, IsForward}
use Rattle.alias_flow.specs.check.Checks.{is_below_at, is_below_entry, first_not_above, passed as passes_out}
use Rattle.alias_flow.specs.check.Checks.{outcome_checked, state_checked, block_checked, blocks_checked, begins}
use Rattle.alias_flow.specs.check.Checks.{first_arriving, not_joined, first_not_joined, joined_unless, joins_checked}
use Rattle.alias_flow.specs.check.Checks.{is_joined, solution_checked}
use Rattle.alias_flow.proofs.check.Marks.{marked_within}
use Rattle.alias_flow.proofs.check.Solves.{is_forward as is_forward_flow}
use Rattle.alias_flow.proofs.Order.{below_itself, below_trans}
use Rattle.alias_flow.proofs.check.Checking.{has_begun}
use Rattle.alias_flow.proofs.check.Arrivals.{Arrived, send_arrives, sends_arrive}
use Rattle.alias_passage.specs.Givens.{Raises}
use Rattle.alias_passage.specs.Passes.{forward_edges, back_edges, or_empty, Passing, passed, outcome_passed, entered}
use Rattle.alias_passage.specs.Passes.{state_passed, block_passed, turn_passed, blocks_passed, passage_begun, flow_passed}
use Rattle.alias_passage.proofs.Arrivals.{sends_keep, sends_reach, take_arrives}
use Rattle.alias_passage.proofs.Forward.{IsThere, SameFrom, forward_all, sends_long, sends_stay, sends_there, sends_other}
use Rattle.alias_passage.proofs.Forward.{sends_same}
use Rattle.alias_passage.proofs.Edges.{is_forward, forward_within, all_stand, back_same}

abbrev pub IsOk : {A E : Type 0} → Result A E → A → Type 0
IsOk r x = r ≡ Ok x

not_error : {A E : Type 0} (e : E) (x : A) {X : Type 0} → IsOk (Err e) x → X
not_error e x h = cc

-- what comes after an answer
record After {A X E : Type 0} (r : Result A E) (f : A → Result X E) (z : X) : Type 0 where
  was : A
  first : r ≡ Ok was
  then_is : f was ≡ Ok z

after : {A X E : Type 0} (r : Result A E) (f : A → Result X E) (z : X) → (r >>= f) ≡ Ok z → After r f z
after (Ok x) f z h = record { was = x; first = refl; then_is = h }
after (Err e) f z h = not_error e z h

none_at : {X : Type 0} (n b : ℕ) → entry_at {P = X} (replicate n None) b ≡ None
none_at zero b = refl
none_at (suc n) zero = refl
none_at (suc n) (suc b) = none_at n b

within_entries : {X : Type 0} (xs : List (Option X)) (b : ℕ) (s : X) → entry_at xs b ≡ Some s → b < length xs
within_entries [] b s h = cc
within_entries (x ∷ xs) zero s h = omega arith
within_entries (x ∷ xs) (suc b) s h = let r : b < length xs = within_entries xs b s h in omega arith

one_within : (n : ℕ) (es : List ℕ) → AllByRecursion (λ e. e < n) es → (e : ℕ) → IsOneOf e es → e < n
one_within n [] a e one = absurd one
one_within n (d ∷ es) a e (inl same) = subst (λ z. z < n) (sym same) a.0
one_within n (d ∷ es) a e (inr one) = one_within n es a.1 e one

module _ {P B T K C D : Type 0} {proper : P → Type 0} {join : P → P → P} {below : P → P → Bool}
    {extends : T → T → Type 0} {rules : Rules P T K C} {recorded₀ : List (Option K)}
    (l : LatticeLaws proper join below) (f : FlowLaws proper extends rules recorded₀) (empty : P)
    (enter : ℕ → P → Option (P × B)) (unentered : D) (lacks : T → Option D) (marks : List Bool) where
  -- the block was entered and has stepped
  abbrev pub passed_to : ℕ → P → B → P → T → K → Passing P B T K → Passing P B T K
  passed_to b s m y t k w = record {
    progress = record {
      arriving = send_all join y (set w.progress.arriving b None) (forward_edges b (rules.flow.edges b));
      entries = set w.progress.entries b (Some s);
      beyond = w.progress.beyond ++ m ∷ [];
    };
    tables = t;
    recorded = set w.recorded b (Some k);
  }

  pub record HasPassed (b : ℕ) (w v : Passing P B T K) : Type 0 where
    pub state : P
    pub more : B
    pub out : P
    pub tables : T
    pub gives : K
    pub enters : enter b (or_empty empty (entry_at w.progress.arriving b)) ≡ Some (state, more)
    pub step : rules.flow.step w.tables b state ≡ Stepped out tables gives
    pub stands : first_not_above below (set w.progress.entries b (Some state)) out (back_edges b (rules.flow.edges b))
        ≡ None
    pub leaves : passed_to b state more out tables gives w ≡ v

  -- the turn of a block: it isn't marked, or it was entered and has stepped
  abbrev pub IsTurn : ℕ → Passing P B T K → Passing P B T K → Type 0
  IsTurn b w v = ((get_or marks b false ≡ false) × (w ≡ v)) ⊎ ((get_or marks b false ≡ true) × HasPassed b w v)

  passed_is : (b : ℕ) (s : P) (m : B) (y : P) (t : T) (k : K) (w v : Passing P B T K) (d : Option D) (e : Option ℕ)
      → passed {C = C} join below empty rules enter unentered lacks b y t k
      (entered join below empty rules enter unentered lacks b (s, m) w) d e ≡ Ok v
      → (e ≡ None) × (passed_to b s m y t k w ≡ v)
  passed_is b s m y t k w v (Some d) e h = not_error _ v h
  passed_is b s m y t k w v None (Some e) h = not_error _ v h
  passed_is b s m y t k w v None None h = (refl, cc)

  outcome_is : (b : ℕ) (s : P) (m : B) (w v : Passing P B T K)
      → enter b (or_empty empty (entry_at w.progress.arriving b)) ≡ Some (s, m) → (o : Outcome P T K C)
      → rules.flow.step w.tables b s ≡ o
      → outcome_passed join below empty rules enter unentered lacks b
      (entered join below empty rules enter unentered lacks b (s, m) w) o ≡ Ok v → HasPassed b w v
  outcome_is b s m w v is (Refused c) step h = not_error _ v h
  outcome_is b s m w v is (Stepped y t k) step h =
      let p = passed_is b s m y t k w v (lacks t)
      (first_not_above below (set w.progress.entries b (Some s)) y (back_edges b (rules.flow.edges b))) h in
      record {
        state = s;
        more = m;
        out = y;
        tables = t;
        gives = k;
        enters = is;
        step = step;
        stands = p.0;
        leaves = p.1;
      }

  state_is : (b : ℕ) (w v : Passing P B T K) (o : Option (P × B))
      → enter b (or_empty empty (entry_at w.progress.arriving b)) ≡ o
      → state_passed join below empty rules enter unentered lacks b w o ≡ Ok v → HasPassed b w v
  state_is b w v None is h = not_error _ v h
  state_is b w v (Some e) is h = outcome_is b e.0 e.1 w v is (rules.flow.step w.tables b e.0) refl h

  turn_is : (b : ℕ) (w v : Passing P B T K) (t : Bool) → get_or marks b false ≡ t
      → (if t then block_passed join below empty rules enter unentered lacks b w else Ok w) ≡ Ok v → IsTurn b w v
  turn_is b w v true is h =
      inr (is, state_is b w v (enter b (or_empty empty (entry_at w.progress.arriving b))) refl h)
  turn_is b w v false is h = inl (is, cc)

  -- how a pass stands before the turn of the i-th block
  pub record Waits (i : ℕ) (w : Passing P B T K) : Type 0 where
    pub arrived : Arrived l rules.blocks w.progress.arriving
    pub long : length w.progress.entries ≡ rules.blocks
    pub later : (q : ℕ) → i ≤ q → entry_at w.progress.entries q ≡ None

  -- the entry state of a block is proper, and above what has arrived there
  pub record Enters (w v : Passing P B T K) (q : ℕ) : Type 0 where
    pub state : P
    pub is : entry_at v.progress.entries q ≡ Some state
    pub is_proper : proper state
    pub above : (a : P) → entry_at w.progress.arriving q ≡ Some a → IsTrue (below a state)

  -- nothing is claimed of steps
  abbrev pub no_claim : T → ℕ → K → Option D
  no_claim t b k = None

  -- all edges go forward, and blocks are entered with what arrives
  pub record IsBare : Type 0 where
    pub forward : IsForward rules
    pub enters : (b : ℕ) (x s : P) (m : B) → enter b x ≡ Some (s, m) → s ≡ x

  -- what has arrived stays, and something arrives where edges of these blocks lead to
  pub record Gathers (i n : ℕ) (z arriving : List (Option P)) : Type 0 where
    pub stays : (q : ℕ) → IsThere z q → IsThere arriving q
    pub sent : (b e : ℕ) → i ≤ b → b < i + n → get_or marks b false ≡ true → IsOneOf e (rules.flow.edges b)
        → IsThere arriving e

  -- nothing more arrives at earlier blocks, and these are entered with what has arrived in the end
  pub record Joins (i n : ℕ) (v : Passing P B T K) (z arriving : List (Option P)) : Type 0 where
    pub kept : (q : ℕ) → q < i → entry_at arriving q ≡ entry_at z q
    pub joined : (q : ℕ) → i ≤ q → q < i + n → get_or marks q false ≡ true → entry_at v.progress.entries q
        ≡ Some (or_empty empty (entry_at arriving q))

  -- the check of these blocks comes to an answer
  pub record Checks (i n : ℕ) (w v : Passing P B T K) (z : List (Option P)) : Type 0 where
    pub arriving : List (Option P)
    pub run : blocks_checked {C = C} join below rules no_claim v.progress.entries (up i n)
        (solver_state z w.tables w.recorded) ≡ Ok (solver_state arriving v.tables v.recorded)
    pub gathers : length z ≡ rules.blocks → Gathers i n z arriving
    pub joins : IsBare → length z ≡ rules.blocks → SameFrom i w.progress.arriving z → Joins i n v z arriving

  -- what the turns of the blocks from i on, n of them, come to
  pub record ArePassed (i n : ℕ) (w v : Passing P B T K) : Type 0 where
    pub long : length v.progress.entries ≡ length w.progress.entries
    pub earlier : (b : ℕ) → b < i → entry_at v.progress.entries b ≡ entry_at w.progress.entries b
    pub enters : (q : ℕ) → i ≤ q → q < i + n → get_or marks q false ≡ true → Enters w v q
    pub others : (q : ℕ) → get_or marks q false ≡ false → entry_at v.progress.entries q
        ≡ entry_at w.progress.entries q
    pub checks : (z : List (Option P)) → Checks i n w v z

  none_left : (i : ℕ) (w : Passing P B T K) → ArePassed i 0 w w
  none_left i w = record {
    long = refl;
    earlier = λ b lt. refl;
    enters = λ q le lt m. let no : ⊥ = omega arith in absurd no;
    others = λ q m. refl;
    checks = λ z. record {
      arriving = z;
      run = refl;
      gathers = λ long. record {
        stays = λ q h. h;
        sent = λ b e le lt m one. let no : ⊥ = omega arith in absurd no;
      };
      joins = λ bare long same. record {
        kept = λ q lt. refl;
        joined = λ q le lt m. let no : ⊥ = omega arith in absurd no;
      };
    };
  }

  -- a block that isn't marked, before the others
  unmarked_first : (i n : ℕ) (w v : Passing P B T K) → Waits i w → get_or marks i false ≡ false
      → ArePassed (i + 1) n w v → ArePassed i (suc n) w v
  unmarked_first i n w v waits none c = record {
    long = c.long;
    earlier = λ b lt. c.earlier b (omega arith);
    enters = λ q le lt m. ⊎_elim
        (λ same. let no : false ≡ true = sym none ∙ ap (λ k. get_or marks k false) (sym same) ∙ m in cc)
        (λ other. c.enters q (omega (arith, other)) (omega arith) m)
        (cases_eq q i);
    others = c.others;
    checks = λ z.
        let rest = c.checks z in
        let here : entry_at v.progress.entries i ≡ None = c.others i none ∙ waits.later i (omega arith) in
        record {
          arriving = rest.arriving;
          run = ap (λ o. state_checked join below rules no_claim v.progress.entries i
              (solver_state z w.tables w.recorded) o
              >>= blocks_checked join below rules no_claim v.progress.entries (up (i + 1) n)) here
              ∙ rest.run;
          gathers = λ long. let g = rest.gathers long in record {
            stays = g.stays;
            sent = λ b e le lt m one. ⊎_elim
                (λ same. let no : false ≡ true = sym none ∙ ap (λ k. get_or marks k false) (sym same) ∙ m in cc)
                (λ other. g.sent b e (omega (arith, other)) (omega arith) m one)
                (cases_eq b i);
          };
          joins = λ bare long same. let j = rest.joins bare long (λ q le. same q (omega arith)) in record {
            kept = λ q lt. j.kept q (omega arith);
            joined = λ q le lt m. ⊎_elim
                (λ at. let no : false ≡ true = sym none ∙ ap (λ k. get_or marks k false) (sym at) ∙ m in cc)
                (λ other. j.joined q (omega (arith, other)) (omega arith) m)
                (cases_eq q i);
          };
        };
  }

  module _ (empty_proper : proper empty) (raises : Raises proper below enter)
      (marked : (b e : ℕ) → get_or marks b false ≡ true → IsOneOf e (rules.flow.edges b)
      → get_or marks e false ≡ true) where
    -- a block that has stepped, before the others
    module _ (i n : ℕ) (all : i + suc n ≡ rules.blocks) (w v : Passing P B T K) (waits : Waits i w)
        (here : get_or marks i false ≡ true) (s : P) (m : B) (y : P) (t : T) (k : K)
        (enters : enter i (or_empty empty (entry_at w.progress.arriving i)) ≡ Some (s, m))
        (step : rules.flow.step w.tables i s ≡ Stepped y t k)
        (stands : first_not_above below (set w.progress.entries i (Some s)) y (back_edges i (rules.flow.edges i))
        ≡ None) where
      within : i < rules.blocks
      within = omega arith

      arrived_proper : (o : Option P) → entry_at w.progress.arriving i ≡ o → proper (or_empty empty o)
      arrived_proper None is = empty_proper
      arrived_proper (Some a) is = waits.arrived.proper_at i a is

      raised : proper s × IsTrue (below (or_empty empty (entry_at w.progress.arriving i)) s)
      raised = raises i (or_empty empty (entry_at w.progress.arriving i)) s m
          (arrived_proper (entry_at w.progress.arriving i) refl) enters

      out_proper : proper y
      out_proper = f.step_proper w.tables i s y t k raised.0 step

      taken : Arrived l rules.blocks (set w.progress.arriving i None)
      taken = take_arrives l w.progress.arriving i rules.blocks waits.arrived within

      forward : AllByRecursion (λ e. e < rules.blocks) (forward_edges i (rules.flow.edges i))
      forward = forward_within rules.blocks i (rules.flow.edges i) (f.edges_below i within)

      pub waits_next : Waits (i + 1) (passed_to i s m y t k w)
      waits_next = record {
        arrived = sends_arrive l y (set w.progress.arriving i None) (forward_edges i (rules.flow.edges i)) rules.blocks
            out_proper taken forward;
        long = length-set w.progress.entries i (Some s) ∙ waits.long;
        later = λ q le. let apart : q ≢ i = omega arith in
            get_or-set_other w.progress.entries i q (Some s) None apart ∙ waits.later q (omega arith);
      }

      module _ (c : ArePassed (i + 1) n (passed_to i s m y t k w) v) where
        entry_here : entry_at v.progress.entries i ≡ Some s
        entry_here = let there : i < length w.progress.entries = subst (λ z. i < z) (sym waits.long) within in
            c.earlier i (omega arith) ∙ get_or-set_same w.progress.entries i (Some s) None there

        -- what was to arrive at a later block is below its entry state
        above_later : (q : ℕ) → i < q → (a : P) → entry_at w.progress.arriving q ≡ Some a → (r : Enters (passed_to i s m y t k w) v q)
            → IsTrue (below a r.state)
        above_later q lt a is r =
            let apart : q ≢ i = omega arith in
            let kept = sends_keep l y (set w.progress.arriving i None) (forward_edges i (rules.flow.edges i)) rules.blocks
            out_proper taken forward q a (get_or-set_other w.progress.arriving i q None None apart ∙ is) in
            below_trans l a kept.state r.state (waits.arrived.proper_at q a is)
            (waits_next.arrived.proper_at q kept.state kept.is) r.is_proper kept.above (r.above kept.state kept.is)

        enters_later : (q : ℕ) → i < q → Enters (passed_to i s m y t k w) v q → Enters w v q
        enters_later q lt r = record {
          state = r.state;
          is = r.is;
          is_proper = r.is_proper;
          above = λ a is. above_later q lt a is r;
        }

        enters_here : Enters w v i
        enters_here = record {
          state = s;
          is = entry_here;
          is_proper = raised.0;
          above = λ a is. subst (λ o. IsTrue (below (or_empty empty o) s)) is raised.1;
        }

        -- the out state is below the entry state of each block that an edge goes forward to
        out_below : (e : ℕ) → IsOneOf e (rules.flow.edges i) → nat_lt i e ≡ true
            → is_below_entry below v.progress.entries y e ≡ true
        out_below e one lt =
            let later : i < e = ltb-true i e lt in
            let to = is_forward i e (rules.flow.edges i) one lt in
            let inside : e < rules.blocks = one_within rules.blocks (rules.flow.edges i) (f.edges_below i within) e one in
            let r = c.enters e (omega arith) (omega (arith, all)) (marked i e here one) in
            let reached = sends_reach l y (set w.progress.arriving i None) (forward_edges i (rules.flow.edges i))
            rules.blocks out_proper taken forward e to in
            ap (is_below_at below y) r.is
            ∙ below_trans l y reached.state r.state out_proper (waits_next.arrived.proper_at e reached.state reached.is)
            r.is_proper reached.above (r.above reached.state reached.is)

        none_above : first_not_above below v.progress.entries y (rules.flow.edges i) ≡ None
        none_above = all_stand below v.progress.entries y i (rules.flow.edges i)
            (back_same below v.progress.entries (set w.progress.entries i (Some s)) y i (rules.flow.edges i)
            (λ e le. c.earlier e (omega arith)) ∙ stands) out_below

        check_here : (z : List (Option P))
            → block_checked {C = C} join below rules no_claim v.progress.entries i (solver_state z w.tables w.recorded)
            ≡ Ok (solver_state (send_all join y z (rules.flow.edges i)) t (set w.recorded i (Some k)))
        check_here z =
            ap (state_checked join below rules no_claim v.progress.entries i (solver_state z w.tables w.recorded))
            entry_here
            ∙ ap (outcome_checked join below rules no_claim v.progress.entries i (solver_state z w.tables w.recorded)) step
            ∙ ap (passes_out join below rules no_claim v.progress.entries i y t k (solver_state z w.tables w.recorded) None)
            none_above

        gathers_first : (z : List (Option P)) (arriving : List (Option P))
            → (length (send_all join y z (rules.flow.edges i)) ≡ rules.blocks
            → Gathers (i + 1) n (send_all join y z (rules.flow.edges i)) arriving)
            → length z ≡ rules.blocks → Gathers i (suc n) z arriving
        gathers_first z arriving rest long =
            let inside = f.edges_below i within in
            let g = rest (sends_long join y z (rules.flow.edges i) ∙ long) in
            record {
              stays = λ q h. g.stays q (sends_stay join y z (rules.flow.edges i) rules.blocks long inside q h);
              sent = λ b e le lt h one. ⊎_elim
                  (λ same. g.stays e (sends_there join y z (rules.flow.edges i) rules.blocks long inside e
                  (subst (λ k. IsOneOf e (rules.flow.edges k)) same one)))
                  (λ other. g.sent b e (omega (arith, other)) (omega arith) h one)
                  (cases_eq b i);
            }

        joins_first : (z : List (Option P)) (arriving : List (Option P)) → (bare : IsBare)
            → (length (send_all join y z (rules.flow.edges i)) ≡ rules.blocks
            → SameFrom (i + 1) (send_all join y (set w.progress.arriving i None) (forward_edges i (rules.flow.edges i)))
            (send_all join y z (rules.flow.edges i))
            → Joins (i + 1) n v (send_all join y z (rules.flow.edges i)) arriving)
            → length z ≡ rules.blocks → SameFrom i w.progress.arriving z → Joins i (suc n) v z arriving
        joins_first z arriving bare rest long same =
            let later = bare.forward i within in
            let es = rules.flow.edges i in
            let left : SameFrom (i + 1) (set w.progress.arriving i None) z = λ q le.
            let apart : q ≢ i = omega arith in
            get_or-set_other w.progress.arriving i q None None apart ∙ same q (omega arith) in
            let sent = sends_same join y (set w.progress.arriving i None) z es rules.blocks i
            (length-set w.progress.arriving i None ∙ waits.arrived.long) long (f.edges_below i within) later left in
            let j = rest (sends_long join y z es ∙ long)
            (subst (λ fs. SameFrom (i + 1) (send_all join y (set w.progress.arriving i None) fs) (send_all join y z es))
            (sym (forward_all i es later)) sent) in
            record {
              kept = λ q lt. j.kept q (omega arith) ∙ sends_other join y z es i q later (omega arith);
              joined = λ q le lt h. ⊎_elim
                  (λ at. ap (entry_at v.progress.entries) at ∙ entry_here
                  ∙ ap Some (bare.enters i (or_empty empty (entry_at w.progress.arriving i)) s m enters)
                  ∙ ap (λ o. Some (or_empty empty o)) (same i (omega arith)
                  ∙ sym (j.kept i (omega arith) ∙ sends_other join y z es i i later (omega arith)))
                  ∙ ap (λ k. Some (or_empty empty (entry_at arriving k))) (sym at))
                  (λ other. j.joined q (omega (arith, other)) (omega arith) h)
                  (cases_eq q i);
            }

        pub passed_first : ArePassed i (suc n) w v
        passed_first = record {
          long = c.long ∙ length-set w.progress.entries i (Some s);
          earlier = λ b lt. let apart : b ≢ i = omega arith in c.earlier b (omega arith)
              ∙ get_or-set_other w.progress.entries i b (Some s) None apart;
          enters = λ q le lt h. ⊎_elim
              (λ same. subst (Enters w v) (sym same) enters_here)
              (λ other. enters_later q (omega (arith, other)) (c.enters q (omega (arith, other)) (omega arith) h))
              (cases_eq q i);
          others = λ q h. ⊎_elim
              (λ same. let no : true ≡ false = sym here ∙ ap (λ b. get_or marks b false) (sym same) ∙ h in cc)
              (λ other. c.others q h ∙ get_or-set_other w.progress.entries i q (Some s) None other)
              (cases_eq q i);
          checks = λ z. let rest = c.checks (send_all join y z (rules.flow.edges i)) in record {
            arriving = rest.arriving;
            run = ap (λ r. r >>= blocks_checked join below rules no_claim v.progress.entries (up (i + 1) n)) (check_here z)
                ∙ rest.run;
            gathers = gathers_first z rest.arriving rest.gathers;
            joins = λ bare. joins_first z rest.arriving bare (rest.joins bare);
          };
        }

    one_first : (i n : ℕ) → i + suc n ≡ rules.blocks → (w a v : Passing P B T K) → Waits i w → IsTurn i w a
        → (Waits (i + 1) a → ArePassed (i + 1) n a v) → ArePassed i (suc n) w v
    one_first i n all w a v waits (inl none) rest =
        unmarked_first i n w v waits none.0 (subst (λ z. ArePassed (i + 1) n z v) (sym none.1)
        (rest (subst (Waits (i + 1)) none.1 (record {
          arrived = waits.arrived;
          long = waits.long;
          later = λ q le. waits.later q (omega arith);
        }))))
    one_first i n all w a v waits (inr h) rest =
        let p = h.1 in
        let begun = waits_next i n all w v waits h.0 p.state p.more p.out p.tables p.gives p.enters p.step p.stands in
        passed_first i n all w v waits h.0 p.state p.more p.out p.tables p.gives p.enters p.step p.stands
        (subst (λ z. ArePassed (i + 1) n z v) (sym p.leaves) (rest (subst (Waits (i + 1)) p.leaves begun)))

    pub are_passed : (i n : ℕ) → i + n ≡ rules.blocks → (w v : Passing P B T K) → Waits i w
        → blocks_passed {C = C} join below empty rules enter unentered lacks marks (up i n) w ≡ Ok v
        → ArePassed i n w v
    are_passed i zero all w v waits h = let same : w ≡ v = cc in subst (ArePassed i 0 w) same (none_left i w)
    are_passed i (suc n) all w v waits h =
        let a = after (turn_passed join below empty rules enter unentered lacks marks i w)
        (blocks_passed join below empty rules enter unentered lacks marks (up (i + 1) n)) v h in
        one_first i n all w a.was v waits (turn_is i w a.was (get_or marks i false) refl a.first)
        (λ more. are_passed (i + 1) n (omega arith) a.was v more a.then_is)

    -- ---- the whole pass

    module _ (tables : T) (v : Passing P B T K) (entry_marked : get_or marks rules.flow.entry false ≡ true)
        (h : flow_passed {C = C} join below empty rules enter unentered lacks marks tables recorded₀ ≡ Ok v) where
      started : Waits 0 (solver_state (passage_begun join rules) tables recorded₀)
      started = record {
        arrived = send_arrives l rules.flow.initial (replicate rules.blocks None) rules.flow.entry rules.blocks
            f.initial_proper (record {
              long = length-replicate rules.blocks None;
              proper_at = λ q s is. let none : entry_at (replicate rules.blocks None) q ≡ None = none_at rules.blocks q in
                  let two : None ≡ Some s = sym none ∙ is in cc;
            }) f.entry_below;
        long = length-replicate rules.blocks None;
        later = λ q le. none_at rules.blocks q;
      }

      pub all_passed : ArePassed 0 rules.blocks (solver_state (passage_begun join rules) tables recorded₀) v
      all_passed = are_passed 0 rules.blocks (omega arith)
          (solver_state (passage_begun join rules) tables recorded₀) v started h

      entry_enters : Enters (solver_state (passage_begun join rules) tables recorded₀) v rules.flow.entry
      entry_enters = let lt = f.entry_below in all_passed.enters rules.flow.entry (omega arith) (omega (arith, lt))
          entry_marked

      initial_sent : entry_at (send join rules.flow.initial (replicate rules.blocks None) rules.flow.entry)
          rules.flow.entry ≡ Some rules.flow.initial
      initial_sent =
          let long : length (replicate rules.blocks None) ≡ rules.blocks = length-replicate rules.blocks None in
          let within : rules.flow.entry < length (replicate rules.blocks None) =
          subst (λ n. rules.flow.entry < n) (sym long) f.entry_below in
          get_or-set_same (replicate rules.blocks None) rules.flow.entry _ None within
          ∙ ap (λ o. Some (joined join o rules.flow.initial)) (none_at rules.blocks rules.flow.entry)

      pub initial_below : is_below_entry below v.progress.entries rules.flow.initial rules.flow.entry ≡ true
      initial_below = ap (is_below_at below rules.flow.initial) entry_enters.is
          ∙ entry_enters.above rules.flow.initial initial_sent

      known_at : (b : ℕ) (s : P) → entry_at v.progress.entries b ≡ Some s → (t : Bool) → get_or marks b false ≡ t
          → proper s × (get_or marks b false ≡ true)
      known_at b s is true m =
          let inside = within_entries v.progress.entries b s is in
          let long : length v.progress.entries ≡ rules.blocks = all_passed.long ∙ started.long in
          let r = all_passed.enters b (omega arith) (omega (arith, inside, long)) m in
          let same : r.state ≡ s = let two : Some r.state ≡ Some s = sym r.is ∙ is in cc in
          (subst proper same r.is_proper, m)
      known_at b s is false m =
          let none : entry_at v.progress.entries b ≡ None = all_passed.others b m ∙ none_at rules.blocks b in
          let two : None ≡ Some s = sym none ∙ is in cc

      -- each entry state is proper, and of a marked block
      pub known : (b : ℕ) (s : P) → entry_at v.progress.entries b ≡ Some s → proper s × (get_or marks b false ≡ true)
      known b s is = known_at b s is (get_or marks b false) refl

      pub entries_long : length v.progress.entries ≡ rules.blocks
      entries_long = all_passed.long ∙ started.long

      begins_is : begins join below rules v.progress.entries ≡ Some (first_arriving join below rules v.progress.entries)
      begins_is = ap (λ t. if t then Some (first_arriving join below rules v.progress.entries) else None) initial_below

      -- what arrives where the blocks are checked, over all edges
      pub all_checked : Checks 0 rules.blocks (solver_state (passage_begun join rules) tables recorded₀) v
          (first_arriving join below rules v.progress.entries)
      all_checked = all_passed.checks (first_arriving join below rules v.progress.entries)

      -- the entry states pass their check, with these tables and what is recorded, where those of a forward flow are joins
      pub check_passes : not_joined below rules v.progress.entries all_checked.arriving ≡ None
          → solution_checked {C = C} join below rules no_claim v.progress.entries tables recorded₀
          ≡ Ok (solver_state all_checked.arriving v.tables v.recorded)
      check_passes joins =
          has_begun join below rules no_claim v.progress.entries tables recorded₀
          (first_arriving join below rules v.progress.entries) begins_is
          ∙ ap (λ r. r >>= joins_checked join below rules no_claim v.progress.entries) all_checked.run
          ∙ ap (joined_unless join below rules no_claim v.progress.entries
          (solver_state all_checked.arriving v.tables v.recorded)) joins

      -- nothing is asked of joins where an edge goes back
      pub loops_join : goes_forward rules ≡ false → not_joined below rules v.progress.entries all_checked.arriving ≡ None
      loops_join back = ap (λ t. if t then first_not_joined below v.progress.entries all_checked.arriving
          (up 0 rules.blocks) else None) back

      first_long : length (first_arriving join below rules v.progress.entries) ≡ rules.blocks
      first_long = started.arrived.long

      module _ (bare : IsBare) (marks_long : length marks ≡ rules.blocks)
          (reached : (b : ℕ) → IsReached rules.flow b → get_or marks b false ≡ true)
          (is_reached : (b : ℕ) → get_or marks b false ≡ true → IsReached rules.flow b) where
        -- something arrives at each block that is reached
        arrives : (b : ℕ) → IsReached rules.flow b → IsThere all_checked.arriving b
        arrives b at_entry =
            (all_checked.gathers first_long).stays rules.flow.entry (rules.flow.initial, initial_sent)
        arrives b (by_edge a e r one) =
            let within : a < length marks = marked_within marks a (reached a r) in
            (all_checked.gathers first_long).sent a e (omega arith) (omega (arith, marks_long, within)) (reached a r) one

        -- where all edges go forward, and blocks are entered with what arrives, entry states are joins
        is_joined_at : (b : ℕ) → b < rules.blocks → (t : Bool) → get_or marks b false ≡ t
            → is_joined below (entry_at v.progress.entries b) (entry_at all_checked.arriving b) ≡ true
        is_joined_at b lt true m =
            let a = arrives b (is_reached b m) in
            let is : entry_at v.progress.entries b ≡ Some a.0 =
            (all_checked.joins bare first_long (λ q le. refl)).joined b (omega arith) (omega arith) m
            ∙ ap (λ o. Some (or_empty empty o)) a.1 in
            ap (λ o. is_joined below o (entry_at all_checked.arriving b)) is
            ∙ ap (is_below_at below a.0) a.1 ∙ below_itself l a.0 (known b a.0 is).0
        is_joined_at b lt false m =
            ap (λ o. is_joined below o (entry_at all_checked.arriving b))
            (all_passed.others b m ∙ none_at rules.blocks b)

        none_not_joined : (i n : ℕ) → i + n ≡ rules.blocks
            → first_not_joined below v.progress.entries all_checked.arriving (up i n) ≡ None
        none_not_joined i zero all = refl
        none_not_joined i (suc n) all =
            ap (λ t. if t then first_not_joined below v.progress.entries all_checked.arriving (up (i + 1) n) else Some i)
            (is_joined_at i (omega arith) (get_or marks i false) refl)
            ∙ none_not_joined (i + 1) n (omega arith)

        pub bare_joins : not_joined below rules v.progress.entries all_checked.arriving ≡ None
        bare_joins = ap (λ t. if t then first_not_joined below v.progress.entries all_checked.arriving
            (up 0 rules.blocks) else None) (is_forward_flow rules bare.forward)
            ∙ none_not_joined 0 rules.blocks (omega arith)
