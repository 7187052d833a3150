-- A pass whose blocks are entered again with the same states ends the same.
use Rattle.std.specs.Prelude.{slice_set, slice_index_or, replicate}
use Rattle.std.proofs.Common.{◌≡◌, ℕ, ◌+◌, ◌<◌, zero, suc, Bool, true, false, if◌then◌else◌, List, [], ◌∷◌, ◌++◌}
use Rattle.std.proofs.Common.{length}
use Rattle.std.proofs.Common.{Option, Some, None, Result, Ok, Err, refl, ap, sym, ◌∙◌, subst, arith}
use Rattle.std.proofs.lemmas.List.{length-set, length-replicate}
use Rattle.alias_base.specs.Answer.{◌>>=◌}
use Rattle.alias_lattice.specs.Flows.{Outcome, Stepped, Refused}
use Rattle.alias_lattice.specs.Laws.{LatticeLaws}
use Rattle.alias_flow.specs.Machine.{Rules, up, joined, send, send_all, FlowLaws}
use Rattle.alias_flow.specs.RecordingLaws.{HoldsOf, AllHold}
use Rattle.alias_flow.specs.Runs.{solver_state}
use Rattle.alias_flow.specs.Solutions.{entry_at}
use Rattle.alias_flow.specs.check.Checks.{first_not_above}
use Rattle.alias_passage.specs.Passes.{back_edges, forward_edges, or_empty, Passing, passage_begun, passed}
use Rattle.alias_passage.specs.Passes.{outcome_passed}
use Rattle.alias_passage.specs.Passes.{entered, state_passed, block_passed, turn_passed, blocks_passed, flow_passed}
use Rattle.alias_brief_laws.proofs.Marking.{beyond_at, AreBeyond, none_entered, one_more_beyond, no_more_beyond}
use Rattle.alias_brief_laws.proofs.Marking.{beyond_here, beyond_stays}

-- ---- what holds of all that arrives

module _ {X : Type 0} (q : X → Type 0) where
  set_all : (xs : List (Option X)) (b : ℕ) (o : Option X) → HoldsOf q o → AllHold q xs → AllHold q (slice_set xs b o)
  set_all [] b o h a = a
  set_all (x ∷ xs) zero o h a = (h, a.1)
  set_all (x ∷ xs) (suc b) o h a = (a.0, set_all xs b o h a.1)

  at_all : (xs : List (Option X)) (b : ℕ) → AllHold q xs → HoldsOf q (slice_index_or xs b None)
  at_all [] b a = tt
  at_all (x ∷ xs) zero a = a.0
  at_all (x ∷ xs) (suc b) a = at_all xs b a.1

  none_all : (n : ℕ) → AllHold q (replicate n None)
  none_all zero = tt
  none_all (suc n) = (tt, none_all n)

  module _ (join : X → X → X) (joins : (x y : X) → q x → q y → q (join x y)) where
    joined_holds : (o : Option X) (x : X) → HoldsOf q o → q x → q (joined join o x)
    joined_holds None x h g = g
    joined_holds (Some s) x h g = joins s x h g

    sent_all : (x : X) (xs : List (Option X)) (es : List ℕ) → q x → AllHold q xs → AllHold q (send_all join x xs es)
    sent_all x xs [] g a = a
    sent_all x xs (e ∷ es) g a =
        sent_all x (send join x xs e) es g
        (set_all xs e (Some (joined join (slice_index_or xs e None) x))
        (joined_holds (slice_index_or xs e None) x (at_all xs e a) g) a)

-- ---- one turn

-- what comes after an answer
record After {X Y E : Type 0} (r : Result X E) (g : X → Result Y E) (z : Y) : Type 0 where
  was : X
  first : r ≡ Ok was
  then_is : g was ≡ Ok z

after : {X Y E : Type 0} (r : Result X E) (g : X → Result Y E) (z : Y) → (r >>= g) ≡ Ok z → After r g z
after (Ok x) g z h = record { was = x; first = refl; then_is = h }
after (Err e) g z h = cc

module _ {P B T K C D : Type 0} (join : P → P → P) (below : P → P → Bool) (empty : P) (rules : Rules P T K C)
    (unentered : D) (lacks : T → Option D) (marks : List Bool) where
  -- the block was entered and has stepped
  abbrev pub passed_to : ℕ → P → B → P → T → K → Passing P B T K → Passing P B T K
  passed_to b s m y t k w = record {
    progress = record {
      arriving = send_all join y (slice_set w.progress.arriving b None) (forward_edges b (rules.flow.edges b));
      entries = slice_set w.progress.entries b (Some s);
      beyond = w.progress.beyond ++ m ∷ [];
    };
    tables = t;
    recorded = slice_set w.recorded b (Some k);
  }

  -- the state that arrives at the block
  abbrev pub arrives : ℕ → Passing P B T K → P
  arrives b w = or_empty empty (entry_at w.progress.arriving b)

  pub record HasPassed (enter : ℕ → P → Option (P × B)) (b : ℕ) (w v : Passing P B T K) : Type 0 where
    pub state : P
    pub more : B
    pub out : P
    pub tables : T
    pub gives : K
    pub enters : enter b (arrives b w) ≡ Some (state, more)
    pub step : rules.flow.step w.tables b state ≡ Stepped out tables gives
    pub lacks_none : lacks tables ≡ None
    pub stands : first_not_above below (slice_set w.progress.entries b (Some state)) out
        (back_edges b (rules.flow.edges b)) ≡ None
    pub leaves : passed_to b state more out tables gives w ≡ v

  module _ (enter : ℕ → P → Option (P × B)) where
    record Passes (b : ℕ) (s : P) (m : B) (y : P) (t : T) (k : K) (w v : Passing P B T K) (d : Option D)
        (e : Option ℕ) : Type 0 where
      none : d ≡ None
      stands : e ≡ None
      leaves : passed_to b s m y t k w ≡ v

    passed_is : (b : ℕ) (s : P) (m : B) (y : P) (t : T) (k : K) (w v : Passing P B T K) (d : Option D) (e : Option ℕ)
        → passed {C = C} join below empty rules enter unentered lacks b y t k
        (entered join below empty rules enter unentered lacks b (s, m) w) d e ≡ Ok v
        → Passes b s m y t k w v d e
    passed_is b s m y t k w v (Some d) e h = cc
    passed_is b s m y t k w v None (Some e) h = cc
    passed_is b s m y t k w v None None h = record { none = refl; stands = refl; leaves = cc }

    outcome_is : (b : ℕ) (s : P) (m : B) (w v : Passing P B T K) → enter b (arrives b w) ≡ Some (s, m)
        → (o : Outcome P T K C) → rules.flow.step w.tables b s ≡ o
        → outcome_passed join below empty rules enter unentered lacks b
        (entered join below empty rules enter unentered lacks b (s, m) w) o ≡ Ok v → HasPassed enter b w v
    outcome_is b s m w v is (Refused c) step h = cc
    outcome_is b s m w v is (Stepped y t k) step h =
        let p = passed_is b s m y t k w v (lacks t)
        (first_not_above below (slice_set w.progress.entries b (Some s)) y (back_edges b (rules.flow.edges b))) h in
        record {
          state = s;
          more = m;
          out = y;
          tables = t;
          gives = k;
          enters = is;
          step = step;
          lacks_none = p.none;
          stands = p.stands;
          leaves = p.leaves;
        }

    state_is : (b : ℕ) (w v : Passing P B T K) (o : Option (P × B)) → enter b (arrives b w) ≡ o
        → state_passed join below empty rules enter unentered lacks b w o ≡ Ok v → HasPassed enter b w v
    state_is b w v None is h = cc
    state_is b w v (Some e) is h = outcome_is b e.0 e.1 w v is (rules.flow.step w.tables b e.0) refl h

    -- a block that has passed passes again where it is entered with the same
    passes_again : (b : ℕ) (w v : Passing P B T K) (other : ℕ → P → Option (P × B)) (p : HasPassed other b w v)
        → enter b (arrives b w) ≡ Some (p.state, p.more)
        → block_passed join below empty rules enter unentered lacks b w ≡ Ok v
    passes_again b w v other p is =
        let z = entered {C = C} join below empty rules enter unentered lacks b (p.state, p.more) w in
        ap (state_passed join below empty rules enter unentered lacks b w) is
        ∙ ap (outcome_passed join below empty rules enter unentered lacks b z) p.step
        ∙ ap (λ d. passed {C = C} join below empty rules enter unentered lacks b p.out p.tables p.gives z d
        (first_not_above below (slice_set w.progress.entries b (Some p.state)) p.out
        (back_edges b (rules.flow.edges b)))) p.lacks_none
        ∙ ap (passed {C = C} join below empty rules enter unentered lacks b p.out p.tables p.gives z None) p.stands
        ∙ ap Ok p.leaves

  -- ---- all turns

  module _ {proper : P → Type 0} {extends : T → T → Type 0} {recorded₀ : List (Option K)}
      (l : LatticeLaws proper join below) (f : FlowLaws proper extends rules recorded₀) (empty_proper : proper empty)
      (enter : ℕ → P → Option (P × B))
      (raises : (b : ℕ) (x s : P) (m : B) → proper x → enter b x ≡ Some (s, m) → proper s) (begun : T) where
    -- how a pass stands before the turn of the i-th block
    pub record Waits (i : ℕ) (w : Passing P B T K) : Type 0 where
      pub arriving : AllHold proper w.progress.arriving
      pub tables : extends begun w.tables
      pub lacks_none : lacks w.tables ≡ None
      pub long : length w.progress.entries ≡ rules.blocks
      pub beyond : AreBeyond i w.progress.entries w.progress.beyond

    -- another way to enter blocks gives the same where a block was entered
    abbrev pub Agrees : (ℕ → P → Option (P × B)) → Passing P B T K → Type 0
    Agrees other v = (b : ℕ) (x s : P) (m : B) → slice_index_or marks b false ≡ true → proper x
        → enter b x ≡ Some (s, m)
        → beyond_at v.progress.entries v.progress.beyond b ≡ Some m → other b x ≡ Some (s, m)

    pub record Ends (i n : ℕ) (w v : Passing P B T K) : Type 0 where
      pub tables : extends begun v.tables
      pub lacks_none : lacks v.tables ≡ None
      pub long : length v.progress.entries ≡ rules.blocks
      pub stays : (q : ℕ) (m : B) → q < i → beyond_at w.progress.entries w.progress.beyond q ≡ Some m
          → beyond_at v.progress.entries v.progress.beyond q ≡ Some m
      pub again : (other : ℕ → P → Option (P × B)) → Agrees other v
          → blocks_passed {C = C} join below empty rules other unentered lacks marks (up i n) w ≡ Ok v

    arrived_proper : (o : Option P) → HoldsOf proper o → proper (or_empty empty o)
    arrived_proper None h = empty_proper
    arrived_proper (Some x) h = h

    module _ (i n : ℕ) (all : i + suc n ≡ rules.blocks) (w v : Passing P B T K) (waits : Waits i w) where
      within : i < length w.progress.entries
      within = let long = waits.long in omega arith

      -- the block isn't marked
      unmarked_first : slice_index_or marks i false ≡ false → (Waits (suc i) w → Ends (i + 1) n w v)
          → Ends i (suc n) w v
      unmarked_first none rest =
          let c = rest (record {
            arriving = waits.arriving;
            tables = waits.tables;
            lacks_none = waits.lacks_none;
            long = waits.long;
            beyond = no_more_beyond i w.progress.entries w.progress.beyond waits.beyond within;
          }) in
          record {
            tables = c.tables;
            lacks_none = c.lacks_none;
            long = c.long;
            stays = λ q m lt h. c.stays q m (omega arith) h;
            again = λ other agrees.
                ap (λ t. (if t then block_passed join below empty rules other unentered lacks i w else Ok w)
                >>= blocks_passed {C = C} join below empty rules other unentered lacks marks (up (i + 1) n)) none
                ∙ c.again other agrees;
          }

      -- it was entered, and has stepped
      marked_first : slice_index_or marks i false ≡ true → (a : Passing P B T K) → (p : HasPassed enter i w a)
          → (Waits (suc i) a → Ends (i + 1) n a v) → Ends i (suc n) w v
      marked_first is a p rest =
          let here : proper (arrives i w) =
          arrived_proper (entry_at w.progress.arriving i) (at_all proper w.progress.arriving i waits.arriving) in
          let state : proper p.state = raises i (arrives i w) p.state p.more here p.enters in
          let out : proper p.out = f.step_proper w.tables i p.state p.out p.tables p.gives state p.step in
          let c = rest (subst (Waits (suc i)) p.leaves (record {
            arriving = sent_all proper join l.closed p.out (slice_set w.progress.arriving i None)
                (forward_edges i (rules.flow.edges i)) out
                (set_all proper w.progress.arriving i None tt waits.arriving);
            tables = f.transitive begun w.tables p.tables waits.tables
                (f.grow w.tables i p.state p.out p.tables p.gives p.step);
            lacks_none = p.lacks_none;
            long = length-set w.progress.entries i (Some p.state) ∙ waits.long;
            beyond = one_more_beyond i w.progress.entries w.progress.beyond p.state p.more waits.beyond within;
          })) in
          let entered_is : beyond_at a.progress.entries a.progress.beyond i ≡ Some p.more =
          subst (λ (z : Passing P B T K). beyond_at z.progress.entries z.progress.beyond i ≡ Some p.more) p.leaves
          (beyond_here i w.progress.entries w.progress.beyond p.state p.more waits.beyond within) in
          record {
            tables = c.tables;
            lacks_none = c.lacks_none;
            long = c.long;
            stays = λ q m lt h. c.stays q m (omega arith)
                (subst (λ (z : Passing P B T K). beyond_at z.progress.entries z.progress.beyond q ≡ Some m) p.leaves
                (beyond_stays w.progress.entries w.progress.beyond q i p.state m p.more h lt));
            again = λ other agrees.
                ap (λ t. (if t then block_passed join below empty rules other unentered lacks i w else Ok w)
                >>= blocks_passed {C = C} join below empty rules other unentered lacks marks (up (i + 1) n)) is
                ∙ ap (λ r. r
                >>= blocks_passed {C = C} join below empty rules other unentered lacks marks (up (i + 1) n))
                (passes_again other i w a enter p
                (agrees i (arrives i w) p.state p.more is here p.enters (c.stays i p.more (omega arith) entered_is)))
                ∙ c.again other agrees;
          }

    turn_ends : (i n : ℕ) → i + suc n ≡ rules.blocks → (w a v : Passing P B T K) → Waits i w → (t : Bool)
        → slice_index_or marks i false ≡ t
        → (if t then block_passed join below empty rules enter unentered lacks i w else Ok w) ≡ Ok a
        → (Waits (suc i) a → Ends (i + 1) n a v) → Ends i (suc n) w v
    turn_ends i n all w a v waits true is h rest =
        marked_first i n all w v waits is a (state_is enter i w a (enter i (arrives i w)) refl h) rest
    turn_ends i n all w a v waits false is h rest =
        let same : w ≡ a = cc in
        unmarked_first i n all w v waits is (subst (λ z. Waits (suc i) z → Ends (i + 1) n z v) (sym same) rest)

    turns_end : (i n : ℕ) → i + n ≡ rules.blocks → (w v : Passing P B T K) → Waits i w
        → blocks_passed {C = C} join below empty rules enter unentered lacks marks (up i n) w ≡ Ok v → Ends i n w v
    turns_end i zero all w v waits h =
        let same : w ≡ v = cc in
        subst (Ends i 0 w) same (record {
          tables = waits.tables;
          lacks_none = waits.lacks_none;
          long = waits.long;
          stays = λ q m lt g. g;
          again = λ other agrees. refl;
        })
    turns_end i (suc n) all w v waits h =
        let a = after (turn_passed join below empty rules enter unentered lacks marks i w)
        (blocks_passed {C = C} join below empty rules enter unentered lacks marks (up (i + 1) n)) v h in
        turn_ends i n all w a.was v waits (slice_index_or marks i false) refl a.first
        (λ more. turns_end (i + 1) n (omega arith) a.was v (subst (λ k. Waits k a.was) (omega arith) more) a.then_is)

    -- the whole pass
    pub pass_ends : (v : Passing P B T K) → lacks begun ≡ None
        → flow_passed {C = C} join below empty rules enter unentered lacks marks begun recorded₀ ≡ Ok v
        → Ends 0 rules.blocks (solver_state (passage_begun join rules) begun recorded₀) v
    pass_ends v none h =
        turns_end 0 rules.blocks (omega arith) (solver_state (passage_begun join rules) begun recorded₀) v (record {
          arriving = sent_all proper join l.closed rules.flow.initial (replicate rules.blocks None)
              (rules.flow.entry ∷ []) f.initial_proper (none_all proper rules.blocks);
          tables = f.reflexive begun;
          lacks_none = none;
          long = length-replicate rules.blocks None;
          beyond = none_entered P B rules.blocks;
        }) h
