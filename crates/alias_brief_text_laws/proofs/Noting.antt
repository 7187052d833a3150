-- What a pass notes of blocks comes with their entry states.
use Rattle.std.proofs.Common.{◌≡◌, ℕ, zero, suc, ◌+◌, ◌<◌, ◌≢◌, Bool, true, false, List, [], ◌∷◌, ◌++◌, length, get_or}
use Rattle.std.proofs.Common.{set, Option, Some, None, Result, Ok, Err, refl, ap, sym, ◌∙◌, subst, arith}
use Rattle.std.proofs.Common.{if◌then◌else◌}
use Rattle.std.proofs.lemmas.List.{get_or-set_same, get_or-set_other, length-set, length-replicate}
use Rattle.std.specs.List.{AllByRecursion}
use Rattle.alias_base.specs.Answer.{◌>>=◌}
use Rattle.alias_lattice.specs.Flows.{Outcome, Stepped, Refused}
use Rattle.alias_flow.specs.Machine.{Rules, up, send_all}
use Rattle.alias_flow.specs.Runs.{solver_state}
use Rattle.alias_flow.specs.Solutions.{entry_at}
use Rattle.alias_flow.specs.check.Checks.{first_not_above}
use Rattle.alias_passage.specs.Passes.{forward_edges, back_edges, or_empty, Passing, passed, outcome_passed, entered}
use Rattle.alias_passage.specs.Passes.{state_passed, block_passed, turn_passed, blocks_passed, passage_begun}
use Rattle.alias_passage.specs.Passes.{flow_passed}

abbrev pub IsOk : {A E : Type 0} → Result A E → A → Type 0
IsOk r x = r ≡ Ok x

pub not_error : {A E : Type 0} (e : E) (x : A) {X : Type 0} → IsOk (Err e) x → X
not_error e x h = cc

pub ok_same : {A E : Type 0} (x y : A) → IsOk {A = A} {E = E} (Ok x) y → x ≡ y
ok_same x y h = cc

-- what comes after an answer
pub record After {A X E : Type 0} (r : Result A E) (f : A → Result X E) (z : X) : Type 0 where
  pub was : A
  pub first : r ≡ Ok was
  pub then_is : f was ≡ Ok z

pub after : {A X E : Type 0} (r : Result A E) (f : A → Result X E) (z : X) → (r >>= f) ≡ Ok z → After r f z
after (Ok x) f z h = record { was = x; first = refl; then_is = h }
after (Err e) f z h = not_error e z h

pub all_append : {A : Type 0} (Q : A → Type 0) (xs ys : List A) → AllByRecursion Q xs → AllByRecursion Q ys
    → AllByRecursion Q (xs ++ ys)
all_append Q [] ys h g = g
all_append Q (x ∷ xs) ys h g = (h.0, all_append Q xs ys h.1 g)

pub all_map : {A : Type 0} (Q R : A → Type 0) → ((x : A) → Q x → R x) → (xs : List A) → AllByRecursion Q xs
    → AllByRecursion R xs
all_map Q R f [] h = tt
all_map Q R f (x ∷ xs) h = (f x h.0, all_map Q R f xs h.1)

module _ {P B T K C D : Type 0} (join : P → P → P) (below : P → P → Bool) (empty : P) (rules : Rules P T K C)
    (enter : ℕ → P → Option (P × B)) (unentered : D) (lacks : T → Option D) (Comes : P → B → Type 0)
    (enters : (b : ℕ) (x s : P) (m : B) → enter b x ≡ Some (s, m) → Comes s m) where
  -- what is noted comes with the entry state of one of the blocks before this
  pub record Noted (i : ℕ) (entries : List (Option P)) (m : B) : Type 0 where
    pub block : ℕ
    pub state : P
    pub earlier : block < i
    pub is : entry_at entries block ≡ Some state
    pub comes : Comes state m

  abbrev AllNoted : ℕ → Passing P B T K → Type 0
  AllNoted i w = AllByRecursion (Noted i w.progress.entries) w.progress.beyond

  -- the block was entered with a state, and something was noted
  record Entering (b : ℕ) (w v : Passing P B T K) : Type 0 where
    state : P
    more : B
    comes : Comes state more
    entries : v.progress.entries ≡ set w.progress.entries b (Some state)
    beyond : v.progress.beyond ≡ w.progress.beyond ++ more ∷ []

  abbrev passed_to : ℕ → P → B → P → T → K → Passing P B T K → Passing P B T K
  passed_to b s m y t k w = record {
    progress = record {
      arriving = send_all join y (set w.progress.arriving b None) (forward_edges b (rules.flow.edges b));
      entries = set w.progress.entries b (Some s);
      beyond = w.progress.beyond ++ m ∷ [];
    };
    tables = t;
    recorded = set w.recorded b (Some k);
  }

  passed_is : (b : ℕ) (s : P) (m : B) (y : P) (t : T) (k : K) (w v : Passing P B T K) (d : Option D) (e : Option ℕ)
      → passed {C = C} join below empty rules enter unentered lacks b y t k
      (entered join below empty rules enter unentered lacks b (s, m) w) d e ≡ Ok v
      → passed_to b s m y t k w ≡ v
  passed_is b s m y t k w v (Some d) e h = not_error _ v h
  passed_is b s m y t k w v None (Some e) h = not_error _ v h
  passed_is b s m y t k w v None None h = cc

  outcome_is : (b : ℕ) (s : P) (m : B) (w v : Passing P B T K) → Comes s m → (o : Outcome P T K C)
      → outcome_passed join below empty rules enter unentered lacks b
      (entered join below empty rules enter unentered lacks b (s, m) w) o ≡ Ok v → Entering b w v
  outcome_is b s m w v c (Refused fault) h = not_error _ v h
  outcome_is b s m w v c (Stepped y t k) h =
      let same = passed_is b s m y t k w v (lacks t)
      (first_not_above below (set w.progress.entries b (Some s)) y (back_edges b (rules.flow.edges b))) h in
      record {
        state = s;
        more = m;
        comes = c;
        entries = ap (λ z. z.progress.entries) (sym same);
        beyond = ap (λ z. z.progress.beyond) (sym same);
      }

  state_is : (b : ℕ) (w v : Passing P B T K) (o : Option (P × B))
      → enter b (or_empty empty (entry_at w.progress.arriving b)) ≡ o
      → state_passed join below empty rules enter unentered lacks b w o ≡ Ok v → Entering b w v
  state_is b w v None is h = not_error _ v h
  state_is b w v (Some e) is h = outcome_is b e.0 e.1 w v
      (enters b (or_empty empty (entry_at w.progress.arriving b)) e.0 e.1 is) (rules.flow.step w.tables b e.0) h

  -- what was noted before stays so
  still_noted : (i : ℕ) (entries more : List (Option P)) (s : P) → more ≡ set entries i (Some s) → (m : B)
      → Noted i entries m → Noted (i + 1) more m
  still_noted i entries more s is m n =
      let lt : n.block < i = n.earlier in
      let apart : n.block ≢ i = omega arith in
      record {
        block = n.block;
        state = n.state;
        earlier = omega (arith, lt);
        is = ap (λ es. entry_at es n.block) is ∙ get_or-set_other entries i n.block (Some s) None apart ∙ n.is;
        comes = n.comes;
      }

  entering_noted : (i : ℕ) (w v : Passing P B T K) → i < length w.progress.entries → Entering i w v → AllNoted i w
      → AllNoted (i + 1) v
  entering_noted i w v lt e all =
      let here : Noted (i + 1) v.progress.entries e.more = record {
        block = i;
        state = e.state;
        earlier = omega arith;
        is = ap (λ es. entry_at es i) e.entries ∙ get_or-set_same w.progress.entries i (Some e.state) None lt;
        comes = e.comes;
      } in
      subst (AllByRecursion (Noted (i + 1) v.progress.entries)) (sym e.beyond)
      (all_append (Noted (i + 1) v.progress.entries) w.progress.beyond (e.more ∷ [])
      (all_map (Noted i w.progress.entries) (Noted (i + 1) v.progress.entries)
      (still_noted i w.progress.entries v.progress.entries e.state e.entries) w.progress.beyond all)
      (here, tt))

  later_noted : (i : ℕ) (w : Passing P B T K) → AllNoted i w → AllNoted (i + 1) w
  later_noted i w all = all_map (Noted i w.progress.entries) (Noted (i + 1) w.progress.entries)
      (λ m n. let lt = n.earlier in record {
        block = n.block;
        state = n.state;
        earlier = omega (arith, lt);
        is = n.is;
        comes = n.comes;
      }) w.progress.beyond all

  module _ (marks : List Bool) where
    -- what stands after a turn
    record Turned (i : ℕ) (v : Passing P B T K) : Type 0 where
      long : length v.progress.entries ≡ rules.blocks
      noted : AllNoted (i + 1) v

    turn_notes : (i : ℕ) (w v : Passing P B T K) → i < rules.blocks → length w.progress.entries ≡ rules.blocks
        → AllNoted i w → (t : Bool)
        → (if t then block_passed join below empty rules enter unentered lacks i w else Ok w) ≡ Ok v → Turned i v
    turn_notes i w v lt long all true h =
        let e = state_is i w v (enter i (or_empty empty (entry_at w.progress.arriving i))) refl h in
        let inside : i < length w.progress.entries = omega (arith, lt, long) in
        record {
          long = ap length e.entries ∙ length-set w.progress.entries i (Some e.state) ∙ long;
          noted = entering_noted i w v inside e all;
        }
    turn_notes i w v lt long all false h =
        let same : w ≡ v = cc in
        record { long = subst (λ z. length z.progress.entries ≡ rules.blocks) same long; noted = subst (AllNoted (i + 1)) same (later_noted i w all) }

    turns_note : (i n : ℕ) → i + n ≡ rules.blocks → (w v : Passing P B T K)
        → length w.progress.entries ≡ rules.blocks → AllNoted i w
        → blocks_passed {C = C} join below empty rules enter unentered lacks marks (up i n) w ≡ Ok v
        → AllNoted rules.blocks v
    turns_note i zero all w v long noted h =
        let same : w ≡ v = cc in
        let end : i ≡ rules.blocks = omega (arith, all) in
        subst (λ k. AllNoted k v) end (subst (AllNoted i) same noted)
    turns_note i (suc n) all w v long noted h =
        let a = after (turn_passed join below empty rules enter unentered lacks marks i w)
        (blocks_passed join below empty rules enter unentered lacks marks (up (i + 1) n)) v h in
        let t = turn_notes i w a.was (omega (arith, all)) long noted (get_or marks i false) a.first in
        turns_note (i + 1) n (omega (arith, all)) a.was v t.long t.noted a.then_is

    -- all that a whole pass notes comes with entry states
    pub pass_notes : (tables : T) (recorded : List (Option K)) (v : Passing P B T K)
        → flow_passed {C = C} join below empty rules enter unentered lacks marks tables recorded ≡ Ok v
        → AllByRecursion (Noted rules.blocks v.progress.entries) v.progress.beyond
    pass_notes tables recorded v h =
        turns_note 0 rules.blocks (omega arith) (solver_state (passage_begun join rules) tables recorded) v
        (length-replicate rules.blocks None) tt h
