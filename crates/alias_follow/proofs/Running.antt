-- What a pass over a flow keeps, where steps keep it.
use Rattle.std.specs.Prelude.{slice_set, slice_index_or, replicate}
use Rattle.std.proofs.Common.{◌≡◌, ℕ, zero, suc, Bool, true, false, if◌then◌else◌, List, [], ◌∷◌, Option, Some, None}
use Rattle.std.proofs.Common.{Ok, refl, subst}
use Rattle.alias_lattice.specs.Flows.{Outcome, Stepped, Refused}
use Rattle.alias_flow.specs.Machine.{Rules, up, joined, send, send_all}
use Rattle.alias_flow.specs.RecordingLaws.{HoldsOf, AllHold}
use Rattle.alias_flow.specs.Runs.{solver_state}
use Rattle.alias_flow.specs.Solutions.{entry_at}
use Rattle.alias_flow.specs.check.Checks.{first_not_above}
use Rattle.alias_step_laws.specs.blocks.SolutionLaws.{StepKeeps, set_holds, at_holds, all_held_on}
use Rattle.alias_effects.proofs.StillFits.{none_hold}
use Rattle.alias_cert.proofs.Running.{after}
use Rattle.alias_passage.specs.Passes.{back_edges, forward_edges, or_empty, Passing, passage_begun, passed, outcome_passed}
use Rattle.alias_passage.specs.Passes.{entered, state_passed, block_passed, turn_passed, blocks_passed, flow_passed}

-- what is taken out
taken_holds : {X : Type 0} (q : X → Type 0) (xs : List (Option X)) (b : ℕ) → AllHold q xs
    → AllHold q (slice_set xs b None)
taken_holds q [] b a = tt
taken_holds q (x ∷ xs) zero a = (tt, a.1)
taken_holds q (x ∷ xs) (suc b) a = (a.0, taken_holds q xs b a.1)

module _ {P : Type 0} (join : P → P → P) (good : P → Type 0)
    (joins : (x y : P) → good x → good y → good (join x y)) where
  joined_holds : (o : Option P) (x : P) → HoldsOf good o → good x → good (joined join o x)
  joined_holds None x h g = g
  joined_holds (Some s) x h g = joins s x h g

  send_holds : (x : P) (xs : List (Option P)) (e : ℕ) → good x → AllHold good xs → AllHold good (send join x xs e)
  send_holds x xs e g a = set_holds good xs e (joined join (slice_index_or xs e None) x)
      (joined_holds (slice_index_or xs e None) x (at_holds good xs e a) g) a

  pub sends_hold : (x : P) (xs : List (Option P)) (es : List ℕ) → good x → AllHold good xs
      → AllHold good (send_all join x xs es)
  sends_hold x xs [] g a = a
  sends_hold x xs (e ∷ es) g a = sends_hold x (send join x xs e) es g (send_holds x xs e g a)

module _ {P B T K C D : Type 0} (join : P → P → P) (below : P → P → Bool) (empty : P) (rules : Rules P T K C)
    (enter : ℕ → P → Option (P × B)) (unentered : D) (lacks : T → Option D) (marks : List Bool) (inv : T → Type 0)
    (good : P → Type 0) (q : T → K → Type 0) (joins : (x y : P) → good x → good y → good (join x y))
    (nothing : good empty)
    (enters : (b : ℕ) (x s : P) (m : B) → good x → enter b x ≡ Some (s, m) → good s)
    (step : (t : T) (b : ℕ) (x y : P) (u : T) (k : K) → inv t → good x → rules.flow.step t b x ≡ Stepped y u k
    → StepKeeps inv good q t u y k) where
  -- what has arrived is good, and so are the tables and what is recorded
  pub record Stands (w : Passing P B T K) : Type 0 where
    pub arriving : AllHold good w.progress.arriving
    pub tables : inv w.tables
    pub recorded : AllHold (q w.tables) w.recorded

  passed_stands : (b : ℕ) (y : P) (t : T) (k : K) (w v : Passing P B T K) (d : Option D) (e : Option ℕ)
      → AllHold good w.progress.arriving → good y → inv t → AllHold (q t) (slice_set w.recorded b (Some k))
      → passed {C = C} join below empty rules enter unentered lacks b y t k w d e ≡ Ok v → Stands v
  passed_stands b y t k w v (Some d) e a g i r h = cc
  passed_stands b y t k w v None (Some e) a g i r h = cc
  passed_stands b y t k w v None None a g i r h =
      let same : record {
        progress = record w.progress
            { arriving = send_all join y w.progress.arriving (forward_edges b (rules.flow.edges b)) };
        tables = t;
        recorded = slice_set w.recorded b (Some k);
      } ≡ v = cc in
      subst Stands same (record {
        arriving = sends_hold join good joins y w.progress.arriving (forward_edges b (rules.flow.edges b)) g a;
        tables = i;
        recorded = r;
      })

  outcome_stands : (b : ℕ) (w v : Passing P B T K) (e : P × B) (o : Outcome P T K C)
      → rules.flow.step w.tables b e.0 ≡ o → good e.0 → Stands w
      → outcome_passed join below empty rules enter unentered lacks b
      (entered join below empty rules enter unentered lacks b e w) o ≡ Ok v → Stands v
  outcome_stands b w v e (Refused c) is g h r = cc
  outcome_stands b w v e (Stepped y t k) is g h r =
      let i = step w.tables b e.0 y t k h.tables g is in
      passed_stands b y t k (entered join below empty rules enter unentered lacks b e w) v (lacks t)
      (first_not_above below (slice_set w.progress.entries b (Some e.0)) y (back_edges b (rules.flow.edges b)))
      (taken_holds good w.progress.arriving b h.arriving) i.state i.tables
      (set_holds (q t) w.recorded b k i.said (all_held_on (q w.tables) (q t) i.still w.recorded h.recorded)) r

  state_stands : (b : ℕ) (w v : Passing P B T K) (o : Option (P × B))
      → enter b (or_empty empty (entry_at w.progress.arriving b)) ≡ o
      → good (or_empty empty (entry_at w.progress.arriving b)) → Stands w
      → state_passed join below empty rules enter unentered lacks b w o ≡ Ok v → Stands v
  state_stands b w v None is g h r = cc
  state_stands b w v (Some e) is g h r =
      outcome_stands b w v e (rules.flow.step w.tables b e.0) refl
      (enters b (or_empty empty (entry_at w.progress.arriving b)) e.0 e.1 g is) h r

  arrived_good : (o : Option P) → HoldsOf good o → good (or_empty empty o)
  arrived_good None h = nothing
  arrived_good (Some x) h = h

  turn_stands : (b : ℕ) (w v : Passing P B T K) (t : Bool) → Stands w
      → (if t then block_passed join below empty rules enter unentered lacks b w else Ok w) ≡ Ok v → Stands v
  turn_stands b w v true h r =
      state_stands b w v (enter b (or_empty empty (entry_at w.progress.arriving b))) refl
      (arrived_good (entry_at w.progress.arriving b) (at_holds good w.progress.arriving b h.arriving)) h r
  turn_stands b w v false h r = let same : w ≡ v = cc in subst Stands same h

  turns_stand : (bs : List ℕ) (w v : Passing P B T K) → Stands w
      → blocks_passed {C = C} join below empty rules enter unentered lacks marks bs w ≡ Ok v → Stands v
  turns_stand [] w v h r = let same : w ≡ v = cc in subst Stands same h
  turns_stand (b ∷ bs) w v h r =
      let a = after (turn_passed join below empty rules enter unentered lacks marks b w)
      (blocks_passed join below empty rules enter unentered lacks marks bs) v r in
      turns_stand bs a.was v (turn_stands b w a.was (slice_index_or marks b false) h a.first) a.then_is

  -- of the tables at the end, and of what was recorded under them
  pub pass_stands : (tables : T) (recorded : List (Option K)) (v : Passing P B T K) → good rules.flow.initial
      → inv tables → AllHold (q tables) recorded
      → flow_passed {C = C} join below empty rules enter unentered lacks marks tables recorded ≡ Ok v → Stands v
  pass_stands tables recorded v g i a r =
      turns_stand (up 0 rules.blocks) (solver_state (passage_begun join rules) tables recorded) v (record {
        arriving = send_holds join good joins rules.flow.initial (replicate rules.blocks None) rules.flow.entry g
            (none_hold good rules.blocks);
        tables = i;
        recorded = a;
      }) r
