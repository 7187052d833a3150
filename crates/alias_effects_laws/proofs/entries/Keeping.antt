-- What steps keep of tables and states, the entry states have in the end.
use Rattle.std.specs.Prelude.{slice_set, slice_index_or, replicate}
use Rattle.std.proofs.Common.{◌≡◌, ◌∙◌, ℕ, zero, suc, Bool, true, false, if◌then◌else◌, List, [], ◌∷◌, length, Option}
use Rattle.std.proofs.Common.{Some, None, inl, inr, refl, subst}
use Rattle.std.proofs.lemmas.List.{length-set}
use Rattle.alias_lattice.specs.Flows.{Outcome, Stepped, Refused, IsOneOf}
use Rattle.alias_flow.specs.Machine.{Rules, VisitLog, SolverState, Run, Going, Stopped, End, Solved, NotSettled, after}
use Rattle.alias_flow.specs.Machine.{ending, up, joined, send, send_all, visited, dirty, outcome_after, visit_at, visit}
use Rattle.alias_flow.specs.Machine.{turn, round, any_dirty, rounds, start, solution}
use Rattle.alias_flow.specs.RecordingLaws.{HoldsOf, AllHold}
use Rattle.alias_step_laws.specs.blocks.SolutionLaws.{set_holds, all_held_on}

none_hold : {X : Type 0} (q : X → Type 0) (n : ℕ) → AllHold q (replicate n None)
none_hold q zero = tt
none_hold q (suc n) = (tt, none_hold q n)

pub at_holds : {X : Type 0} (q : X → Type 0) (xs : List (Option X)) (n : ℕ) → AllHold q xs
    → HoldsOf q (slice_index_or xs n None)
at_holds q [] n a = tt
at_holds q (y ∷ ys) zero a = a.0
at_holds q (y ∷ ys) (suc n) a = at_holds q ys n a.1

held_on : {X : Type 0} (p q : X → Type 0) → ((x : X) → p x → q x) → (o : Option X) → HoldsOf p o → HoldsOf q o
held_on p q f None h = tt
held_on p q f (Some x) h = f x h

-- where all that have a state have R, and the one that gets one, all have it then
set_reach : {X : Type 0} (R : ℕ → Type 0) (xs : List (Option X)) (n : ℕ) (v : Option X)
    → ((b : ℕ) (x : X) → slice_index_or xs b None ≡ Some x → R b) → R n → (b : ℕ) (x : X)
    → slice_index_or (slice_set xs n v) b None ≡ Some x → R b
set_reach R [] n v h r b x e = h b x e
set_reach R (y ∷ ys) zero v h r zero x e = r
set_reach R (y ∷ ys) zero v h r (suc b) x e = h (suc b) x e
set_reach R (y ∷ ys) (suc n) v h r zero x e = h zero x e
set_reach R (y ∷ ys) (suc n) v h r (suc b) x e = set_reach (λ k. R (suc k)) ys n v (λ c z f. h (suc c) z f) r b x e

none_reached : {X : Type 0} (R : ℕ → Type 0) (n b : ℕ) (x : X) → slice_index_or (replicate n None) b None ≡ Some x → R b
none_reached R zero b x e = cc
none_reached R (suc n) zero x e = cc
none_reached R (suc n) (suc b) x e = none_reached (λ k. R (suc k)) n b x e

-- what a step leaves: tables and a state that keep what is kept, and each state keeps it under these tables
pub record Kept {P T : Type 0} (inv : T → Type 0) (good : T → P → Type 0) (t u : T) (y : P) : Type 0 where
  pub tables : inv u
  pub state : good u y
  pub still : (z : P) → good t z → good u z

module _ {P T K C : Type 0} (join : P → P → P) (below : P → P → Bool) (rules : Rules P T K C) (inv : T → Type 0)
    (good : T → P → Type 0) (n : ℕ)
    (joins : (t : T) (x y : P) → good t x → good t y → good t (join x y))
    (reached : ℕ → Type 0) (begins : reached rules.flow.entry)
    (edge : (b c : ℕ) → reached b → IsOneOf c (rules.flow.edges b) → reached c)
    (step : (t : T) (b : ℕ) (x y : P) (u : T) (k : K) → reached b → inv t → good t x → rules.flow.step t b x
    ≡ Stepped y u k → Kept inv good t u y) where
  abbrev W : Type 0
  W = SolverState (VisitLog P) T K

  record Stands (w : W) : Type 0 where
    tables : inv w.tables
    inputs : AllHold (good w.tables) w.progress.joined_input
    reach : (b : ℕ) (x : P) → slice_index_or w.progress.joined_input b None ≡ Some x → reached b
    long : length w.recorded ≡ n

  joined_good : (t : T) (o : Option P) (x : P) → HoldsOf (good t) o → good t x → good t (joined join o x)
  joined_good t None x h g = g
  joined_good t (Some old) x h g = joins t old x h g

  sent : (t : T) (x : P) (xs : List (Option P)) (to : ℕ) → good t x → AllHold (good t) xs
      → AllHold (good t) (send join x xs to)
  sent t x xs to g a = set_holds (good t) xs to (joined join (slice_index_or xs to None) x)
      (joined_good t (slice_index_or xs to None) x (at_holds (good t) xs to a) g) a

  all_sent : (t : T) (x : P) (xs : List (Option P)) (es : List ℕ) → good t x → AllHold (good t) xs
      → AllHold (good t) (send_all join x xs es)
  all_sent t x xs [] g a = a
  all_sent t x xs (e ∷ es) g a = all_sent t x (send join x xs e) es g (sent t x xs e g a)

  -- what is sent along edges arrives at reached blocks
  sends_reach : (x : P) (xs : List (Option P)) (es : List ℕ)
      → ((b : ℕ) (y : P) → slice_index_or xs b None ≡ Some y → reached b) → ((c : ℕ) → IsOneOf c es → reached c)
      → (b : ℕ) (y : P) → slice_index_or (send_all join x xs es) b None ≡ Some y → reached b
  sends_reach x xs [] h f b y e = h b y e
  sends_reach x xs (to ∷ es) h f b y e =
      sends_reach x (send join x xs to) es (set_reach reached xs to (Some (joined join (slice_index_or xs to None) x)) h
      (f to (inl refl))) (λ c i. f c (inr i)) b y e

  outcome_stands : (w v : W) (b : ℕ) (x : P) (o : Outcome P T K C) → rules.flow.step w.tables b x ≡ o → reached b
      → good w.tables x → Stands w → outcome_after join below rules w b x o ≡ Going v → Stands v
  outcome_stands w v b x (Stepped y t k) s r g h e =
      let i = step w.tables b x y t k r h.tables g s in
      let made : W = record {
        progress = visited join w.progress b x y (rules.flow.edges b);
        tables = t;
        recorded = slice_set w.recorded b (Some k);
      } in
      let same : made ≡ v = cc in
      subst Stands same (record {
        tables = i.tables;
        inputs = all_sent t y w.progress.joined_input (rules.flow.edges b) i.state
            (all_held_on (good w.tables) (good t) i.still w.progress.joined_input h.inputs);
        reach = sends_reach y w.progress.joined_input (rules.flow.edges b) h.reach (λ c one. edge b c r one);
        long = length-set w.recorded b (Some k) ∙ h.long;
      })
  outcome_stands w v b x (Refused c) s r g h e = cc

  visit_stands : (w v : W) (b : ℕ) (o : Option P) → slice_index_or w.progress.joined_input b None ≡ o
      → HoldsOf (good w.tables) o → Stands w → visit_at join below rules w b o ≡ Going v → Stands v
  visit_stands w v b None is g h e = let same : w ≡ v = cc in subst Stands same h
  visit_stands w v b (Some x) is g h e = outcome_stands w v b x (rules.flow.step w.tables b x) refl (h.reach b x is) g h
      e

  turn_stands : (w v : W) (b : ℕ) (wish : Bool) → Stands w
      → ◌≡◌ {A = Run (VisitLog P) T K C} (if wish then visit join below rules w b else Going w) (Going v) → Stands v
  turn_stands w v b true h e = visit_stands w v b (slice_index_or w.progress.joined_input b None) refl
      (at_holds (good w.tables) w.progress.joined_input b h.inputs) h e
  turn_stands w v b false h e = let same : w ≡ v = cc in subst Stands same h

  after_stands : (r : Run (VisitLog P) T K C) (f : W → Run (VisitLog P) T K C) (v : W)
      → ((u : W) → r ≡ Going u → Stands u) → ((u : W) → Stands u → f u ≡ Going v → Stands v) → after r f ≡ Going v
      → Stands v
  after_stands (Going w) f v now later e = later w (now w refl) e
  after_stands (Stopped b c) f v now later e = cc

  round_stands : (bs : List ℕ) (w v : W) → Stands w → round join below rules w bs ≡ Going v → Stands v
  round_stands [] w v h e = let same : w ≡ v = cc in subst Stands same h
  round_stands (b ∷ bs) w v h e =
      after_stands (turn join below rules w b) (λ u. round join below rules u bs) v
      (λ u g. turn_stands w u b (dirty below w.progress b) h g) (λ u g f. round_stands bs u v g f) e

  ending_stands : (r : Run (VisitLog P) T K C) (f : W → End (VisitLog P) T K C) (v : W)
      → ((u : W) → r ≡ Going u → Stands u) → ((u : W) → Stands u → f u ≡ Solved v → Stands v) → ending r f ≡ Solved v
      → Stands v
  ending_stands (Going w) f v now later e = later w (now w refl) e
  ending_stands (Stopped b c) f v now later e = cc

  last_stands : (w v : W) (b : Bool) → Stands w
      → ◌≡◌ {A = End (VisitLog P) T K C} (if b then NotSettled (length w.progress.visits) else Solved w) (Solved v)
      → Stands v
  last_stands w v true h e = cc
  last_stands w v false h e = let same : w ≡ v = cc in subst Stands same h

  more_stands : (w v : W) (f : W → End (VisitLog P) T K C) → ((u : W) → Stands u → f u ≡ Solved v → Stands v)
      → (b : Bool) → Stands w
      → (if b then ending (round join below rules w (up 0 rules.blocks)) f else Solved w) ≡ Solved v → Stands v
  more_stands w v f later true h e = ending_stands (round join below rules w (up 0 rules.blocks)) f v
      (λ u g. round_stands (up 0 rules.blocks) w u h g) later e
  more_stands w v f later false h e = let same : w ≡ v = cc in subst Stands same h

  rounds_stand : (m : ℕ) (w v : W) → Stands w → rounds join below rules m w ≡ Solved v → Stands v
  unfolding rounds
  rounds_stand zero w v h e = last_stands w v (any_dirty join below rules w) h e
  rounds_stand (suc n) w v h e = more_stands w v (rounds join below rules n) (λ u g f. rounds_stand n u v g f)
      (any_dirty join below rules w) h e

  -- of the tables and the entry states at the end
  pub solution_keeps : (tables : T) (recorded : List (Option K)) (v : W) → inv tables → good tables rules.flow.initial
      → length recorded ≡ n → solution join below rules tables recorded ≡ Solved v → inv v.tables
      × AllHold (good v.tables) v.progress.joined_input × (length v.recorded ≡ n)
  unfolding solution
  solution_keeps tables recorded v i g l e =
      let s = rounds_stand 100 (start join below rules tables recorded) v
      (record {
        tables = i;
        inputs = sent tables rules.flow.initial (replicate rules.blocks None) rules.flow.entry g
            (none_hold (good tables) rules.blocks);
        reach = set_reach reached (replicate rules.blocks None) rules.flow.entry
            (Some (joined join (slice_index_or (replicate rules.blocks None) rules.flow.entry None) rules.flow.initial))
            (none_reached reached rules.blocks) begins;
        long = l;
      }) e in
      (s.tables, s.inputs, s.long)
