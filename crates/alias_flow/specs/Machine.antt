-- A flow over numbered blocks, and the sequence of visits that solves it.
use Rattle.std.specs.Prelude.{◌≡◌, ℕ, ◌+◌, ◌<◌, Bool, true, false, not, ◌&&◌, if◌then◌else◌, List, [], ◌∷◌, ◌++◌}
use Rattle.std.specs.Prelude.{length, Option, Some, None, slice_index_or, slice_set, replicate}
use Rattle.std.specs.List.{list_any, AllByRecursion}
use Rattle.std.proofs.Common.{zero, suc}
use Rattle.alias_lattice.specs.Flows.{Flow, Outcome, Stepped, Refused}

-- a flow whose blocks are the numbers below `blocks`, in stored order. P are its states, T its tables, K what it keeps
-- of a visit, C why it refuses
pub record Rules (P T K C : Type 0) : Type 0 where
  pub blocks : ℕ
  pub flow : Flow ℕ P T K C

-- the visits so far, what was sent to each block, and what each was last visited from
pub record VisitLog (P : Type 0) : Type 0 where
  pub visits : List ℕ
  -- the join of all that was sent to each block
  pub joined_input : List (Option P)
  -- the state of the last visit of each block
  pub last_input : List (Option P)

-- how far the visits have come: what is known of the blocks, the tables, and what the flow recorded of the last visit
-- of each block
pub record SolverState (D T K : Type 0) : Type 0 where
  pub progress : D
  pub tables : T
  pub recorded : List (Option K)

-- after a visit or a round: it goes on, or the block was refused
pub data Run (D T K C : Type 0) : Type 0 where
  Going : SolverState D T K → Run D T K C
  Stopped : ℕ → C → Run D T K C

-- how the sequence ends: nothing is dirty, a block was refused, or one more round would begin after so many visits
pub data End (D T K C : Type 0) : Type 0 where
  Solved : SolverState D T K → End D T K C
  Fault : ℕ → C → End D T K C
  NotSettled : ℕ → End D T K C

module _ {D T K C : Type 0} where
  -- goes on, unless a block was refused
  abbrev pub after : Run D T K C → (SolverState D T K → Run D T K C) → Run D T K C
  after (Going w) f = f w
  after (Stopped b cause) f = Stopped b cause

  -- goes on to the end, unless a block was refused
  abbrev pub ending : Run D T K C → (SolverState D T K → End D T K C) → End D T K C
  ending (Going w) f = f w
  ending (Stopped b cause) f = Fault b cause

-- the numbers from i on, n of them
abbrev pub up : ℕ → ℕ → List ℕ
up i zero = []
up i (suc n) = i ∷ up (i + 1) n

module _ {P : Type 0} (join : P → P → P) where
  -- the join of a state with what was sent before
  abbrev pub joined : Option P → P → P
  joined None x = x
  joined (Some old) x = join old x

  -- the state is sent to a block
  abbrev pub send : P → List (Option P) → ℕ → List (Option P)
  send x joined_input to = slice_set joined_input to (Some (joined (slice_index_or joined_input to None) x))

  -- the state is sent along each of the edges
  abbrev pub send_all : P → List (Option P) → List ℕ → List (Option P)
  send_all x joined_input [] = joined_input
  send_all x joined_input (e ∷ es) = send_all x (send x joined_input e) es

  -- after a visit of the block from x, whose out state went along the edges
  abbrev pub visited : VisitLog P → ℕ → P → P → List ℕ → VisitLog P
  visited d b x out edges = record {
    visits = d.visits ++ b ∷ [];
    joined_input = send_all out d.joined_input edges;
    last_input = slice_set d.last_input b (Some x);
  }

-- something was sent that isn't the state of the last visit. Proper states are the same where they are below each other
-- both ways
abbrev pub input_changed : {P : Type 0} → (P → P → Bool) → Option P → Option P → Bool
input_changed below None last = false
input_changed below (Some x) None = true
input_changed below (Some x) (Some s) = not (below x s && below s x)

-- something was sent to the block, and it has no visit or wasn't visited from this state
abbrev pub dirty : {P : Type 0} → (P → P → Bool) → VisitLog P → ℕ → Bool
dirty below d b = input_changed below (slice_index_or d.joined_input b None) (slice_index_or d.last_input b None)

module _ {P T K C : Type 0} (join : P → P → P) (below : P → P → Bool) (rules : Rules P T K C) where
  abbrev pub outcome_after : SolverState (VisitLog P) T K → ℕ → P → Outcome P T K C → Run (VisitLog P) T K C
  outcome_after w b x (Stepped out tables recorded) =
      Going (record {
        progress = visited join w.progress b x out (rules.flow.edges b);
        tables = tables;
        recorded = slice_set w.recorded b (Some recorded);
      })
  outcome_after w b x (Refused cause) = Stopped b cause

  abbrev pub visit_at : SolverState (VisitLog P) T K → ℕ → Option P → Run (VisitLog P) T K C
  visit_at w b None = Going w
  visit_at w b (Some x) = outcome_after w b x (rules.flow.step w.tables b x)

  -- a visit of the block steps from the join of all that was sent to it, and sends the out state along its edges
  abbrev pub visit : SolverState (VisitLog P) T K → ℕ → Run (VisitLog P) T K C
  visit w b = visit_at w b (slice_index_or w.progress.joined_input b None)

  -- the turn of the block: a visit, if it is dirty
  abbrev pub turn : SolverState (VisitLog P) T K → ℕ → Run (VisitLog P) T K C
  turn w b = if dirty below w.progress b then visit w b else Going w

  -- the turns of the blocks
  abbrev pub round : SolverState (VisitLog P) T K → List ℕ → Run (VisitLog P) T K C
  round w [] = Going w
  round w (b ∷ bs) = after (turn w b) (λ v. round v bs)

  -- some block is dirty
  abbrev pub any_dirty : SolverState (VisitLog P) T K → Bool
  any_dirty w = list_any (dirty below w.progress) (up 0 rules.blocks)

  -- rounds of all blocks in stored order, while a block is dirty, and n at most
  unfoldable pub rounds : ℕ → SolverState (VisitLog P) T K → End (VisitLog P) T K C
  rounds zero w = if any_dirty w then NotSettled (length w.progress.visits) else Solved w
  rounds (suc n) w = if any_dirty w then ending (round w (up 0 rules.blocks)) (rounds n) else Solved w

  -- the initial state is sent to the entry
  abbrev pub start : T → List (Option K) → SolverState (VisitLog P) T K
  start tables recorded = record {
    progress = record {
      visits = [];
      joined_input = send join rules.flow.initial (replicate rules.blocks None) rules.flow.entry;
      last_input = replicate rules.blocks None;
    };
    tables = tables;
    recorded = recorded;
  }

  -- the sequence of visits from these tables and what is recorded, of 100 rounds at most
  unfoldable pub solution : T → List (Option K) → End (VisitLog P) T K C
  solution tables recorded = rounds 100 (start tables recorded)

-- what a flow owes
pub record FlowLaws {P T K C : Type 0} (proper : P → Type 0) (extends : T → T → Type 0) (rules : Rules P T K C)
    (recorded : List (Option K)) : Type 0 where
  pub recorded_length : length recorded ≡ rules.blocks
  pub initial_proper : proper rules.flow.initial
  pub step_proper : (t : T) (b : ℕ) (x y : P) (u : T) (k : K) → proper x → rules.flow.step t b x ≡ Stepped y u k
      → proper y
  pub entry_below : rules.flow.entry < rules.blocks
  pub edges_below : (b : ℕ) → b < rules.blocks → AllByRecursion (λ e. e < rules.blocks) (rules.flow.edges b)
  pub reflexive : (t : T) → extends t t
  pub transitive : (t u v : T) → extends t u → extends u v → extends t v
  -- tables grow at their ends alone
  pub grow : (t : T) (b : ℕ) (x y : P) (u : T) (k : K) → rules.flow.step t b x ≡ Stepped y u k → extends t u
  -- a step under the tables that it left, or under ones that extend them, gives the same and leaves them
  pub replay : (t : T) (b : ℕ) (x y : P) (u v : T) (k : K) → rules.flow.step t b x ≡ Stepped y u k → extends u v
      → rules.flow.step v b x ≡ Stepped y v k
