-- What a check of entry states keeps, where steps keep it.
use Rattle.std.specs.Prelude.{slice_set}
use Rattle.std.proofs.Common.{◌≡◌, ℕ, ◌+◌, ◌<◌, ◌≤◌, zero, suc, Bool, true, false, if◌then◌else◌, List, Option, Some}
use Rattle.std.proofs.Common.{None, Result, Ok, Err, refl, subst, arith}
use Rattle.alias_base.specs.Answer.{◌>>=◌}
use Rattle.alias_lattice.specs.Flows.{Outcome, Stepped, Refused}
use Rattle.alias_flow.specs.Machine.{Rules, up}
use Rattle.alias_flow.specs.RecordingLaws.{HoldsOf, AllHold}
use Rattle.alias_flow.specs.Solutions.{entry_at}
use Rattle.alias_flow.specs.check.Checks.{Arriving, first_not_above, passed, outcome_checked, state_checked}
use Rattle.alias_flow.specs.check.Checks.{block_checked, blocks_checked, joined_unless, joins_checked, begun_with}
use Rattle.alias_flow.specs.check.Checks.{begins, first_arriving, is_below_entry, not_joined, solution_checked}
use Rattle.alias_step_laws.specs.blocks.SolutionLaws.{StepKeeps, set_holds, all_held_on}

-- what comes after an answer
pub record After {A B E : Type 0} (r : Result A E) (f : A → Result B E) (z : B) : Type 0 where
  pub was : A
  pub first : r ≡ Ok was
  pub then_is : f was ≡ Ok z

pub after : {A B E : Type 0} (r : Result A E) (f : A → Result B E) (z : B) → (r >>= f) ≡ Ok z → After r f z
after (Ok x) f z h = record { was = x; first = refl; then_is = h }
after (Err e) f z h = cc

held_on : {X : Type 0} (p q : X → Type 0) → ((x : X) → p x → q x) → (o : Option X) → HoldsOf p o → HoldsOf q o
held_on p q f None h = tt
held_on p q f (Some x) h = f x h

module _ {P T K C D : Type 0} (join : P → P → P) (below : P → P → Bool) (rules : Rules P T K C)
    (differs : T → ℕ → K → Option D) (entries : List (Option P)) (inv : T → Type 0) (good : P → Type 0)
    (q : T → K → Type 0)
    (entered : (b : ℕ) (s : P) → b < rules.blocks → entry_at entries b ≡ Some s → good s)
    (step : (t : T) (b : ℕ) (x y : P) (u : T) (k : K) → inv t → good x → rules.flow.step t b x ≡ Stepped y u k
    → StepKeeps inv good q t u y k) where
  abbrev W : Type 0
  W = Arriving P T K

  pub record Stands (w : W) : Type 0 where
    pub tables : inv w.tables
    pub recorded : AllHold (q w.tables) w.recorded

  passed_stands : (b : ℕ) (y : P) (t : T) (k : K) (w v : W) (d : Option D) (e : Option ℕ) → inv t
      → AllHold (q t) (slice_set w.recorded b (Some k)) → passed {C = C} join below rules differs entries b y t k w d e
      ≡ Ok v → Stands v
  passed_stands b y t k w v (Some d) e i a h = cc
  passed_stands b y t k w v None (Some e) i a h = cc
  passed_stands b y t k w v None None i a h =
      let tables : t ≡ v.tables = cc in
      let recorded : slice_set w.recorded b (Some k) ≡ v.recorded = cc in
      record {
        tables = subst inv tables i;
        recorded =
            subst (λ u. AllHold (q u) v.recorded) tables (subst (AllHold (q t)) recorded a);
      }

  outcome_stands : (b : ℕ) (w v : W) (s : P) (o : Outcome P T K C) → rules.flow.step w.tables b s ≡ o → good s
      → Stands w → outcome_checked join below rules differs entries b w o ≡ Ok v → Stands v
  outcome_stands b w v s (Refused c) is g h e = cc
  outcome_stands b w v s (Stepped y t k) is g h e =
      let i = step w.tables b s y t k h.tables g is in
      passed_stands b y t k w v (differs t b k) (first_not_above below entries y (rules.flow.edges b)) i.tables
      (set_holds (q t) w.recorded b k i.said (all_held_on (q w.tables) (q t) i.still w.recorded h.recorded)) e

  state_stands : (b : ℕ) (w v : W) (o : Option P) → HoldsOf good o → Stands w
      → state_checked join below rules differs entries b w o ≡ Ok v → Stands v
  state_stands b w v None g h e = let same : w ≡ v = cc in subst Stands same h
  state_stands b w v (Some s) g h e = outcome_stands b w v s (rules.flow.step w.tables b s) refl g h e

  entered_at : (b : ℕ) → b < rules.blocks → (o : Option P) → entry_at entries b ≡ o → HoldsOf good o
  entered_at b lt None is = tt
  entered_at b lt (Some s) is = entered b s lt is

  blocks_stand : (i n : ℕ) → i + n ≤ rules.blocks → (w v : W) → Stands w
      → blocks_checked {C = C} join below rules differs entries (up i n) w ≡ Ok v → Stands v
  blocks_stand i zero all w v h e = let same : w ≡ v = cc in subst Stands same h
  blocks_stand i (suc n) all w v h e =
      let a = after (block_checked join below rules differs entries i w)
      (blocks_checked join below rules differs entries (up (i + 1) n)) v e in
      blocks_stand (i + 1) n (omega arith) a.was v
      (state_stands i w a.was (entry_at entries i) (entered_at i (omega arith) (entry_at entries i) refl) h a.first)
      a.then_is

  begun_stands : (tables : T) (recorded : List (Option K)) (w : W) (b : Bool) → inv tables → AllHold (q tables) recorded
      → begun_with {C = C} join below rules differs entries tables recorded
      (if b then Some (first_arriving join below rules entries) else None) ≡ Ok w → Stands w
  begun_stands tables recorded w true i a e =
      let same : record { progress = first_arriving join below rules entries; tables = tables; recorded = recorded }
      ≡ w = cc in
      subst Stands same (record { tables = i; recorded = a })
  begun_stands tables recorded w false i a e = cc

  joined_stands : (w v : W) (o : Option ℕ) → Stands w → joined_unless {C = C} join below rules differs entries w o
      ≡ Ok v → Stands v
  joined_stands w v None h e = let same : w ≡ v = cc in subst Stands same h
  joined_stands w v (Some b) h e = cc

  -- of the tables at the end, and of what was recorded under them
  pub check_stands : (tables : T) (recorded : List (Option K)) (v : W) → inv tables → AllHold (q tables) recorded
      → solution_checked {C = C} join below rules differs entries tables recorded ≡ Ok v → Stands v
  check_stands tables recorded v i a e =
      let begun = after (begun_with {C = C} join below rules differs entries tables recorded
      (begins join below rules entries)) (λ w. blocks_checked join below rules differs entries (up 0 rules.blocks) w
      >>= joins_checked join below rules differs entries) v e in
      let first = begun_stands tables recorded begun.was
      (is_below_entry below entries rules.flow.initial rules.flow.entry) i a begun.first in
      let ran = after (blocks_checked {C = C} join below rules differs entries (up 0 rules.blocks) begun.was)
      (joins_checked join below rules differs entries) v begun.then_is in
      joined_stands ran.was v (not_joined below rules entries ran.was.progress)
      (blocks_stand 0 rules.blocks (omega arith) begun.was ran.was first ran.first) ran.then_is
