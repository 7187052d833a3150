-- The sequence of visits is that of the flags: a flag says whether its block is dirty.
use Rattle.std.proofs.Common.{◌≡◌, ℕ, ◌+◌, ◌<◌, ⊎_elim, Bool, true, false, not, ◌&&◌, if◌then◌else◌, ◌||◌, IsTrue, List}
use Rattle.std.proofs.Common.{[], ◌∷◌, ◌++◌, length, get_or, set, replicate, Option, Some, None, refl, ap, sym, ◌∙◌}
use Rattle.std.proofs.Common.{subst, zero, suc, arith, add-one}
use Rattle.std.proofs.lemmas.List.{get_or-set_same, get_or-set_other, length-set, length-replicate}
use Rattle.std.proofs.lemmas.Bool.{cases_eq, false≢true}
use Rattle.std.specs.List.{AllByRecursion, list_any}
use Rattle.alias_lattice.specs.Laws.{LatticeLaws}
use Rattle.alias_lattice.specs.PairLaws.{and-both, and-first}
use Rattle.alias_lattice.specs.Flows.{Outcome, Stepped, Refused}
use Rattle.alias_flow.specs.Machine.{Rules, VisitLog, SolverState, Run, Going, Stopped, End, Solved, Fault, NotSettled}
use Rattle.alias_flow.specs.Machine.{after, ending, up, joined, send, send_all, input_changed, dirty, outcome_after}
use Rattle.alias_flow.specs.Machine.{visit_at, visit, turn, round, any_dirty, rounds, start, solution, FlowLaws}
use Rattle.alias_flow.specs.WorkLists.{WorkList, grows, work_list_send, work_list_sends, work_list_visited}
use Rattle.alias_flow.specs.WorkLists.{work_list_outcome, work_list_visit_at, work_list_visit, work_list_turn}
use Rattle.alias_flow.specs.WorkLists.{work_list_round, work_list_rounds, work_list_start, work_list_solution}
use Rattle.alias_flow.proofs.Order.{below_itself, below_trans, below_right}
use Rattle.alias_flow.proofs.Sends.{Sound, Raised, still, send_sound, send_raises}
use Rattle.alias_flow.proofs.Solving.{nothing, empty, empty_sound, up_below}

set_same : (xs : List Bool) (e : ℕ) (b : Bool) → get_or xs e false ≡ b → set xs e b ≡ xs
set_same [] e b h = refl
set_same (x ∷ xs) zero b h = ap (λ y. y ∷ xs) (sym h)
set_same (x ∷ xs) (suc e) b h = ap (λ r. x ∷ r) (set_same xs e b h)

any_up : (f : ℕ → Bool) (i n : ℕ) → list_any f (up (i + 1) n) ≡ list_any (λ q. f (suc q)) (up i n)
any_up f i zero = refl
any_up f i (suc n) = ap (λ q. f q || list_any f (up (i + 1 + 1) n)) (add-one i)
    ∙ ap (λ b. f (suc i) || b) (any_up f (i + 1) n)

any_at : (xs : List Bool) (f : ℕ → Bool) (n : ℕ) → length xs ≡ n → ((q : ℕ) → get_or xs q false ≡ f q)
    → list_any (λ x. x) xs ≡ list_any f (up 0 n)
any_at [] f zero h same = refl
any_at [] f (suc n) h same = absurd (omega arith)
any_at (x ∷ xs) f zero h same = absurd (omega arith)
any_at (x ∷ xs) f (suc n) h same =
    ap (λ b. b || list_any (λ y. y) xs) (same 0)
    ∙ ap (λ b. f 0 || b) (any_at xs (λ q. f (suc q)) n (omega arith) (λ q. same (suc q)) ∙ sym (any_up f 0 n))

no_way : (b : Bool) → (IsTrue b → ⊥) → not b ≡ true
no_way true h = absurd (h refl)
no_way false h = refl

not_true : (b : Bool) → not b ≡ true → IsTrue b → ⊥
not_true true e h = false≢true e
not_true false e h = false≢true h

not_of : (b : Bool) → IsTrue b → not b ≡ false
not_of true h = refl
not_of false h = absurd (false≢true h)

module _ {P : Type 0} (below : P → P → Bool) where
  -- a flag for each block: what was sent isn't the state of its last visit
  abbrev pub dirty_flags : List (Option P) → List (Option P) → List Bool
  dirty_flags [] last = []
  dirty_flags (x ∷ xs) [] = input_changed below x None ∷ dirty_flags xs []
  dirty_flags (x ∷ xs) (s ∷ ss) = input_changed below x s ∷ dirty_flags xs ss

  dirty_flags_length : (joined_input last : List (Option P)) → length (dirty_flags joined_input last)
      ≡ length joined_input
  dirty_flags_length [] last = refl
  dirty_flags_length (x ∷ xs) [] = ap suc (dirty_flags_length xs [])
  dirty_flags_length (x ∷ xs) (s ∷ ss) = ap suc (dirty_flags_length xs ss)

  dirty_flags_at : (joined_input last : List (Option P)) (q : ℕ) → get_or (dirty_flags joined_input last) q false
      ≡ input_changed below (get_or joined_input q None) (get_or last q None)
  dirty_flags_at [] last q = refl
  dirty_flags_at (x ∷ xs) [] zero = refl
  dirty_flags_at (x ∷ xs) [] (suc q) = dirty_flags_at xs [] q
  dirty_flags_at (x ∷ xs) (s ∷ ss) zero = refl
  dirty_flags_at (x ∷ xs) (s ∷ ss) (suc q) = dirty_flags_at xs ss q

  dirty_flags_input : (joined_input last : List (Option P)) (e : ℕ) (v : Option P)
      → dirty_flags (set joined_input e v) last
      ≡ set (dirty_flags joined_input last) e (input_changed below v (get_or last e None))
  dirty_flags_input [] last e v = refl
  dirty_flags_input (x ∷ xs) [] zero v = refl
  dirty_flags_input (x ∷ xs) [] (suc e) v = ap (λ r. input_changed below x None ∷ r) (dirty_flags_input xs [] e v)
  dirty_flags_input (x ∷ xs) (s ∷ ss) zero v = refl
  dirty_flags_input (x ∷ xs) (s ∷ ss) (suc e) v = ap (λ r. input_changed below x s ∷ r) (dirty_flags_input xs ss e v)

  dirty_flags_visited : (joined_input last : List (Option P)) (e : ℕ) (v : Option P) → e < length last
      → dirty_flags joined_input (set last e v)
      ≡ set (dirty_flags joined_input last) e (input_changed below (get_or joined_input e None) v)
  dirty_flags_visited [] last e v h = refl
  dirty_flags_visited (x ∷ xs) [] e v h = absurd (omega arith)
  dirty_flags_visited (x ∷ xs) (s ∷ ss) zero v h = refl
  dirty_flags_visited (x ∷ xs) (s ∷ ss) (suc e) v h =
      ap (λ r. input_changed below x s ∷ r) (dirty_flags_visited xs ss e v (omega arith))

  dirty_flags_none : (n : ℕ) → dirty_flags (replicate n None) (replicate n None) ≡ replicate n false
  dirty_flags_none zero = refl
  dirty_flags_none (suc n) = ap (λ r. false ∷ r) (dirty_flags_none n)

  abbrev pub as_work_list : VisitLog P → WorkList P
  as_work_list d = record {
    visits = d.visits;
    joined_input = d.joined_input;
    dirty = dirty_flags d.joined_input d.last_input;
  }

  module _ {T K : Type 0} where
    -- how far the visits have come, as a work list
    abbrev pub as_work_list_state : SolverState (VisitLog P) T K → SolverState (WorkList P) T K
    as_work_list_state w = record { progress = as_work_list w.progress; tables = w.tables; recorded = w.recorded }

  module _ {T K C : Type 0} where
    abbrev pub as_work_list_run : Run (VisitLog P) T K C → Run (WorkList P) T K C
    as_work_list_run (Going w) = Going (as_work_list_state w)
    as_work_list_run (Stopped b c) = Stopped b c

    abbrev pub as_work_list_end : End (VisitLog P) T K C → End (WorkList P) T K C
    as_work_list_end (Solved w) = Solved (as_work_list_state w)
    as_work_list_end (Fault b c) = Fault b c
    as_work_list_end (NotSettled n) = NotSettled n

module _ {P : Type 0} {proper : P → Type 0} {join : P → P → P} {below : P → P → Bool}
    (l : LatticeLaws proper join below) where
  -- the state of a last visit is below what was sent since
  pub record Low (d : VisitLog P) (q : ℕ) (s : P) : Type 0 where
    pub last_proper : proper s
    pub risen : Raised l (as_work_list below d) q s

  -- a visit log as the visits make it
  pub record Fair (n : ℕ) (d : VisitLog P) : Type 0 where
    pub sound : Sound l n (as_work_list below d)
    pub last_length : length d.last_input ≡ n
    pub low : (q : ℕ) (s : P) → get_or d.last_input q None ≡ Some s → Low d q s

  some_is : (s u : P) → Some s ≡ Some u → s ≡ u
  some_is s u e = cc

  none_some : (s : P) → ◌≡◌ {A = Option P} None (Some s) → ⊥
  none_some s e = cc

  -- what grew isn't the state of the last visit, which is below what it grew from
  now_changed : (o last : Option P) (x : P) → ((t : P) → o ≡ Some t → proper t) → proper x
      → ((s : P) → last ≡ Some s → proper s × ((u : P) × (o ≡ Some u) × IsTrue (below s u))) → grows join below o x
      ≡ true → input_changed below (Some (joined join o x)) last ≡ true
  now_changed o None x h p low g = refl
  now_changed None (Some s) x h p low g = let it = low s refl in absurd (none_some it.1.0 it.1.1)
  now_changed (Some u) (Some s) x h p low g =
      let it = low s refl in
      let u_proper : proper u = h u refl in
      let s_low : IsTrue (below s u) = subst (λ z. IsTrue (below s z)) (sym (some_is u it.1.0 it.1.1)) it.1.2 in
      let both : proper (join u x) = l.closed u x u_proper p in
      no_way (below (join u x) s && below s (join u x)) (λ yes. not_true (below x u) g
      (below_trans l x s u p it.0 u_proper (below_trans l x (join u x) s p both it.0 (below_right l u x u_proper p)
      (and-first (below (join u x) s) (below s (join u x)) yes)) s_low))

  module _ (n : ℕ) (d : VisitLog P) (h : Fair n d) (x : P) (p : proper x) (e : ℕ) (lt : e < n) where
    abbrev input_d : VisitLog P
    input_d = record { visits = d.visits; joined_input = send join x d.joined_input e; last_input = d.last_input }

    abbrev was : Option P
    was = get_or d.joined_input e None

    abbrev last : Option P
    last = get_or d.last_input e None

    low_last : (s : P) → last ≡ Some s → proper s × ((u : P) × (was ≡ Some u) × IsTrue (below s u))
    low_last s is = let it = h.low e s is in (it.last_proper, it.risen)

    dirty_is : (g : Bool) → grows join below was x ≡ g
        → (if g then set (dirty_flags below d.joined_input d.last_input) e true
        else dirty_flags below d.joined_input d.last_input)
        ≡ set (dirty_flags below d.joined_input d.last_input) e (input_changed below (Some (joined join was x)) last)
    dirty_is true is = ap (set (dirty_flags below d.joined_input d.last_input) e)
        (sym (now_changed was last x (h.sound.proper_at e) p low_last is))
    dirty_is false is = sym (set_same (dirty_flags below d.joined_input d.last_input) e
        (input_changed below (Some (joined join was x)) last)
        (dirty_flags_at below d.joined_input d.last_input e
        ∙ ap (λ o. input_changed below o last) (sym (still l was x (h.sound.proper_at e) p is))))

    -- a send with flags is the send
    pub send_work_list : work_list_send join below x (as_work_list below d) e ≡ as_work_list below input_d
    send_work_list = ap (λ (fs : List Bool).
        record { visits = d.visits; joined_input = send join x d.joined_input e; dirty = fs })
        (dirty_is (grows join below was x) refl
        ∙ sym (dirty_flags_input below d.joined_input d.last_input e (Some (joined join was x))))

    pub send_fair : Fair n input_d
    send_fair =
        let sound' : Sound l n (as_work_list below input_d) =
        subst (Sound l n) send_work_list (send_sound l x (as_work_list below d) e n p h.sound lt) in
        record {
          sound = sound';
          last_length = h.last_length;
          low = λ q s is.
              let it = h.low q s is in
              let u : P = it.risen.0 in
              let more : Raised l (as_work_list below input_d) q u =
              send_raises l x (as_work_list below d) e n p h.sound lt q u it.risen.1 in
              record {
                last_proper = it.last_proper;
                risen = (
                  more.0,
                  more.1,
                  below_trans l s u more.0 it.last_proper (h.sound.proper_at q u it.risen.1)
                      (sound'.proper_at q more.0 more.1) it.risen.2 more.2,
                );
              };
        }

  -- after sends along the edges
  abbrev pub after_sends : P → VisitLog P → List ℕ → VisitLog P
  after_sends x d es = record {
    visits = d.visits;
    joined_input = send_all join x d.joined_input es;
    last_input = d.last_input;
  }

  sends_work_list : (n : ℕ) (es : List ℕ) → AllByRecursion (λ e. e < n) es → (d : VisitLog P) → Fair n d → (x : P)
      → proper x
      → (work_list_sends join below x (as_work_list below d) es ≡ as_work_list below (after_sends x d es))
      × Fair n (after_sends x d es)
  sends_work_list n [] lt d h x p = (refl, h)
  sends_work_list n (e ∷ es) lt d h x p =
      let more = sends_work_list n es lt.1 (input_d n d h x p e lt.0) (send_fair n d h x p e lt.0) x p in
      (ap (λ i. work_list_sends join below x i es) (send_work_list n d h x p e lt.0) ∙ more.0, more.1)

  module _ (n : ℕ) (d : VisitLog P) (h : Fair n d) (x : P) (b : ℕ) (lt : b < n)
      (is : get_or d.joined_input b None ≡ Some x) where
    abbrev last_d : VisitLog P
    last_d = record {
      visits = d.visits ++ b ∷ [];
      joined_input = d.joined_input;
      last_input = set d.last_input b (Some x);
    }

    x_proper : proper x
    x_proper = h.sound.proper_at b x is

    quiet_now : input_changed below (get_or d.joined_input b None) (Some x) ≡ false
    quiet_now = ap (λ o. input_changed below o (Some x)) is
        ∙ not_of (below x x && below x x) (and-both (below x x) (below x x) (below_itself l x x_proper)
        (below_itself l x x_proper))

    -- a visit noted with flags is the visit noted
    pub visited_flags : work_list_visited join below (as_work_list below d) b ≡ as_work_list below last_d
    visited_flags =
        let i : b < length d.last_input = omega (arith, h.last_length) in
        ap (λ (fs : List Bool). record { visits = d.visits ++ b ∷ []; joined_input = d.joined_input; dirty = fs })
        (ap (set (dirty_flags below d.joined_input d.last_input) b) (sym quiet_now)
        ∙ sym (dirty_flags_visited below d.joined_input d.last_input b (Some x) i))

    pub visited_fair : Fair n last_d
    visited_fair = record {
      sound = record {
        input_length = h.sound.input_length;
        dirty_length = dirty_flags_length below d.joined_input (set d.last_input b (Some x)) ∙ h.sound.input_length;
        proper_at = h.sound.proper_at;
      };
      last_length = length-set d.last_input b (Some x) ∙ h.last_length;
      low = λ q s at_q. ⊎_elim
          (λ same.
          let i : b < length d.last_input = omega (arith, h.last_length) in
          let s_is : x ≡ s = some_is x s (sym (get_or-set_same d.last_input b (Some x) None i)
          ∙ ap (λ j. get_or (set d.last_input b (Some x)) j None) (sym same) ∙ at_q) in
          record {
            last_proper = subst proper s_is x_proper;
            risen = (
              x,
              ap (λ j. get_or d.joined_input j None) same ∙ is,
              subst (λ z. IsTrue (below z x)) s_is (below_itself l x x_proper),
            );
          })
          (λ other. let it = h.low q s (sym (get_or-set_other d.last_input b q (Some x) None other) ∙ at_q) in
          record { last_proper = it.last_proper; risen = it.risen })
          (cases_eq q b);
    }

module _ {P T K C : Type 0} {proper : P → Type 0} {join : P → P → P} {below : P → P → Bool} {extends : T → T → Type 0}
    {rules : Rules P T K C} {recorded₀ : List (Option K)}
    (l : LatticeLaws proper join below) (f : FlowLaws proper extends rules recorded₀) where
  -- the run with flags is the run, and where it goes on the visit log is fair
  pub record Same (work_list_run : Run (WorkList P) T K C) (run : Run (VisitLog P) T K C) : Type 0 where
    pub is : work_list_run ≡ as_work_list_run below run
    pub fair : (v : SolverState (VisitLog P) T K) → run ≡ Going v → Fair l rules.blocks v.progress

  going_is : (u v : SolverState (VisitLog P) T K) → ◌≡◌ {A = Run (VisitLog P) T K C} (Going u) (Going v) → u ≡ v
  going_is u v e = cc

  stays : (w : SolverState (VisitLog P) T K) → Fair l rules.blocks w.progress
      → Same (Going (as_work_list_state below w)) (Going w)
  stays w h = record {
    is = refl;
    fair = λ v e.
        subst (λ (i : SolverState (VisitLog P) T K). Fair l rules.blocks i.progress) (going_is w v e) h;
  }

  outcome_same : (w : SolverState (VisitLog P) T K) → Fair l rules.blocks w.progress → (b : ℕ) → b < rules.blocks
      → (x : P) → get_or w.progress.joined_input b None ≡ Some x
      → (o : Outcome P T K C) → rules.flow.step w.tables b x ≡ o
      → Same (work_list_outcome join below rules (as_work_list_state below w) b o)
      (outcome_after join below rules w b x o)
  outcome_same w h b lt x is (Stepped y t k) step =
      let y_proper : proper y = f.step_proper w.tables b x y t k (h.sound.proper_at b x is) step in
      let sends = sends_work_list l rules.blocks (rules.flow.edges b) (f.edges_below b lt)
      (last_d l rules.blocks w.progress h x b lt is) (visited_fair l rules.blocks w.progress h x b lt is) y
      y_proper in
      record {
        is = ap (λ (d : WorkList P). Going (record { progress = d; tables = t; recorded = set w.recorded b (Some k) }))
            (ap (λ i. work_list_sends join below y i (rules.flow.edges b))
            (visited_flags l rules.blocks w.progress h x b lt is) ∙ sends.0);
        fair = λ v e. subst (λ (i : SolverState (VisitLog P) T K). Fair l rules.blocks i.progress) (going_is _ v e)
            sends.1;
      }
  outcome_same w h b lt x is (Refused c) step = record { is = refl; fair = λ v e. cc }

  visit_same : (w : SolverState (VisitLog P) T K) → Fair l rules.blocks w.progress → (b : ℕ) → b < rules.blocks
      → (o : Option P) → get_or w.progress.joined_input b None ≡ o
      → Same (work_list_visit_at join below rules (as_work_list_state below w) b o) (visit_at join below rules w b o)
  visit_same w h b lt None is = stays w h
  visit_same w h b lt (Some x) is = outcome_same w h b lt x is (rules.flow.step w.tables b x) refl

  if_same : (w : SolverState (VisitLog P) T K) → Fair l rules.blocks w.progress → (b : ℕ) → b < rules.blocks
      → (wish : Bool)
      → Same (if wish then work_list_visit join below rules (as_work_list_state below w) b
      else Going (as_work_list_state below w)) (if wish then visit join below rules w b else Going w)
  if_same w h b lt true = visit_same w h b lt (get_or w.progress.joined_input b None) refl
  if_same w h b lt false = stays w h

  turn_same : (w : SolverState (VisitLog P) T K) → Fair l rules.blocks w.progress → (b : ℕ) → b < rules.blocks
      → Same (work_list_turn join below rules (as_work_list_state below w) b) (turn join below rules w b)
  turn_same w h b lt = subst (λ wish. Same
      (if wish then work_list_visit join below rules (as_work_list_state below w) b
      else Going (as_work_list_state below w)) (turn join below rules w b))
      (sym (dirty_flags_at below w.progress.joined_input w.progress.last_input b))
      (if_same w h b lt (dirty below w.progress b))

  after_same : (work_list_run : Run (WorkList P) T K C) (run : Run (VisitLog P) T K C) → Same work_list_run run
      → (fg : SolverState (WorkList P) T K → Run (WorkList P) T K C)
      (g : SolverState (VisitLog P) T K → Run (VisitLog P) T K C)
      → ((v : SolverState (VisitLog P) T K) → Fair l rules.blocks v.progress
      → Same (fg (as_work_list_state below v)) (g v)) → Same (after work_list_run fg) (after run g)
  after_same work_list_run (Going v) s fg g next = let i = next v (s.fair v refl) in
      record { is = ap (λ r. after r fg) s.is ∙ i.is; fair = i.fair }
  after_same work_list_run (Stopped b c) s fg g next = record { is = ap (λ r. after r fg) s.is; fair = λ v e. cc }

  round_same : (bs : List ℕ) → AllByRecursion (λ b. b < rules.blocks) bs → (w : SolverState (VisitLog P) T K)
      → Fair l rules.blocks w.progress → Same (work_list_round join below rules (as_work_list_state below w) bs)
      (round join below rules w bs)
  round_same [] lt w h = stays w h
  round_same (b ∷ bs) lt w h =
      after_same (work_list_turn join below rules (as_work_list_state below w) b) (turn join below rules w b)
      (turn_same w h b lt.0) (λ v. work_list_round join below rules v bs) (λ v. round join below rules v bs)
      (λ v i. round_same bs lt.1 v i)

  ending_same : (work_list_run : Run (WorkList P) T K C) (run : Run (VisitLog P) T K C) → Same work_list_run run
      → (fg : SolverState (WorkList P) T K → End (WorkList P) T K C)
      (g : SolverState (VisitLog P) T K → End (VisitLog P) T K C)
      → ((v : SolverState (VisitLog P) T K) → Fair l rules.blocks v.progress → fg (as_work_list_state below v)
      ≡ as_work_list_end below (g v)) → ending work_list_run fg ≡ as_work_list_end below (ending run g)
  ending_same work_list_run (Going v) s fg g next = ap (λ r. ending r fg) s.is ∙ next v (s.fair v refl)
  ending_same work_list_run (Stopped b c) s fg g next = ap (λ r. ending r fg) s.is

  any_same : (w : SolverState (VisitLog P) T K) → Fair l rules.blocks w.progress
      → list_any (λ x. x) (dirty_flags below w.progress.joined_input w.progress.last_input)
      ≡ any_dirty join below rules w
  any_same w h = any_at (dirty_flags below w.progress.joined_input w.progress.last_input) (dirty below w.progress)
      rules.blocks h.sound.dirty_length (dirty_flags_at below w.progress.joined_input w.progress.last_input)

  end_if : (b : Bool) (fx fy : End (WorkList P) T K C) (x y : End (VisitLog P) T K C) → fx ≡ as_work_list_end below x
      → fy ≡ as_work_list_end below y → (if b then fx else fy) ≡ as_work_list_end below (if b then x else y)
  end_if true fx fy x y e i = e
  end_if false fx fy x y e i = i

  rounds_same : (n : ℕ) (w : SolverState (VisitLog P) T K) → Fair l rules.blocks w.progress
      → work_list_rounds join below rules n (as_work_list_state below w)
      ≡ as_work_list_end below (rounds join below rules n w)
  unfolding rounds work_list_rounds
  rounds_same zero w h =
      ap (λ b. if b then NotSettled (length w.progress.visits) else Solved (as_work_list_state below w)) (any_same w h)
      ∙ end_if (any_dirty join below rules w) (NotSettled (length w.progress.visits))
      (Solved (as_work_list_state below w)) (NotSettled (length w.progress.visits)) (Solved w) refl refl
  rounds_same (suc n) w h =
      ap (λ b. if b then ending (work_list_round join below rules (as_work_list_state below w) (up 0 rules.blocks))
      (work_list_rounds join below rules n) else Solved (as_work_list_state below w)) (any_same w h)
      ∙ end_if (any_dirty join below rules w)
      (ending (work_list_round join below rules (as_work_list_state below w) (up 0 rules.blocks))
      (work_list_rounds join below rules n)) (Solved (as_work_list_state below w))
      (ending (round join below rules w (up 0 rules.blocks)) (rounds join below rules n)) (Solved w)
      (ending_same (work_list_round join below rules (as_work_list_state below w) (up 0 rules.blocks))
      (round join below rules w (up 0 rules.blocks))
      (round_same (up 0 rules.blocks) (up_below l f 0 rules.blocks rules.blocks (omega arith)) w h)
      (work_list_rounds join below rules n) (rounds join below rules n) (λ v i. rounds_same n v i))
      refl

  module _ (tables : T) where
    abbrev none_yet : VisitLog P
    none_yet = record {
      visits = [];
      joined_input = replicate rules.blocks None;
      last_input = replicate rules.blocks None;
    }

    no_flags : empty l f tables ≡ as_work_list below none_yet
    no_flags = ap (λ (fs : List Bool). record { visits = []; joined_input = replicate rules.blocks None; dirty = fs })
        (sym (dirty_flags_none below rules.blocks))

    none_fair : Fair l rules.blocks none_yet
    none_fair = record {
      sound = subst (Sound l rules.blocks) no_flags (empty_sound l f tables);
      last_length = length-replicate rules.blocks None;
      low = λ q s is. absurd (none_some l s (sym (nothing l f rules.blocks q) ∙ is));
    }

    start_work_list : work_list_start join below rules tables recorded₀
        ≡ as_work_list_state below (start join below rules tables recorded₀)
    start_work_list = ap (λ (d : WorkList P). record { progress = d; tables = tables; recorded = recorded₀ })
        (ap (λ i. work_list_send join below rules.flow.initial i rules.flow.entry) no_flags
        ∙ send_work_list l rules.blocks none_yet none_fair rules.flow.initial f.initial_proper rules.flow.entry
        f.entry_below)

    -- the sequence with flags ends as the sequence of visits does
    pub solution_work_list : work_list_solution join below rules tables recorded₀
        ≡ as_work_list_end below (solution join below rules tables recorded₀)
    unfolding solution work_list_solution
    solution_work_list = ap (work_list_rounds join below rules 100) start_work_list
        ∙ rounds_same 100 (start join below rules tables recorded₀)
        (send_fair l rules.blocks none_yet none_fair rules.flow.initial f.initial_proper rules.flow.entry f.entry_below)

    solved_as : (end : End (VisitLog P) T K C) (v : SolverState (WorkList P) T K) → as_work_list_end below end
        ≡ Solved v → (w : SolverState (VisitLog P) T K) × (end ≡ Solved w) × (as_work_list_state below w ≡ v)
    solved_as (Solved w) v e = (w, refl, cc)
    solved_as (Fault b c) v e = cc
    solved_as (NotSettled n) v e = cc

    fault_as : (end : End (VisitLog P) T K C) (b : ℕ) (c : C) → as_work_list_end below end ≡ Fault b c → end ≡ Fault b c
    fault_as (Solved w) b c e = cc
    fault_as (Fault d a) b c e = cc
    fault_as (NotSettled n) b c e = cc

    unsettled_as : (end : End (VisitLog P) T K C) (n : ℕ) → as_work_list_end below end ≡ NotSettled n → end
        ≡ NotSettled n
    unsettled_as (Solved w) n e = cc
    unsettled_as (Fault b c) n e = cc
    unsettled_as (NotSettled m) n e = cc

    pub solved_by_work_list : (v : SolverState (WorkList P) T K) → work_list_solution join below rules tables recorded₀
        ≡ Solved v → (w : SolverState (VisitLog P) T K) × (solution join below rules tables recorded₀ ≡ Solved w)
        × (as_work_list_state below w ≡ v)
    solved_by_work_list v e = solved_as (solution join below rules tables recorded₀) v (sym solution_work_list ∙ e)

    pub fault_by_work_list : (b : ℕ) (c : C) → work_list_solution join below rules tables recorded₀ ≡ Fault b c
        → solution join below rules tables recorded₀ ≡ Fault b c
    fault_by_work_list b c e = fault_as (solution join below rules tables recorded₀) b c (sym solution_work_list ∙ e)

    pub unsettled_by_work_list : (n : ℕ) → work_list_solution join below rules tables recorded₀ ≡ NotSettled n
        → solution join below rules tables recorded₀ ≡ NotSettled n
    unsettled_by_work_list n e = unsettled_as (solution join below rules tables recorded₀) n
        (sym solution_work_list ∙ e)
