-- One pass over the blocks of a flow: each reached block steps once, in stored order, from what arrives over the edges
-- that go forward, and what goes back is below what stands there.
use Rattle.std.specs.Prelude.{ℕ, nat_lt, Bool, false, if◌then◌else◌, List, [], ◌∷◌, ◌++◌, Option, Some, None, Result}
use Rattle.std.specs.Prelude.{Ok, Err, slice_index_or, slice_set, replicate}
use Rattle.alias_base.specs.Answer.{◌>>=◌}
use Rattle.alias_lattice.specs.Flows.{Outcome, Stepped, Refused}
use Rattle.alias_flow.specs.Machine.{Rules, SolverState, up, send, send_all}
use Rattle.alias_flow.specs.Runs.{solver_state}
use Rattle.alias_flow.specs.Solutions.{entry_at}
use Rattle.alias_flow.specs.check.Checks.{first_not_above}
use Rattle.alias_flow.specs.declared.check.fault.Unsolved.{Unsolved}
use Rattle.alias_flow.specs.declared.check.fault.Unsolved.TheVariants as fault
use Rattle.alias_passage.specs.declared.passage.Passage.{Passage}

-- the edges of a block that go forward: to blocks later in stored order
abbrev pub forward_edges : ℕ → List ℕ → List ℕ
forward_edges b [] = []
forward_edges b (e ∷ es) = if nat_lt b e then e ∷ forward_edges b es else forward_edges b es

-- those that go back
abbrev pub back_edges : ℕ → List ℕ → List ℕ
back_edges b [] = []
back_edges b (e ∷ es) = if nat_lt b e then back_edges b es else e ∷ back_edges b es

-- how far the pass has come
abbrev pub Passing : (P B T K : Type 0) → Type 0
Passing P B T K = SolverState (Passage P B) T K

-- what arrived, or the empty state where nothing did
abbrev pub or_empty : {P : Type 0} → P → Option P → P
or_empty empty None = empty
or_empty empty (Some x) = x

-- at first the initial state arrives at the entry
abbrev pub passage_begun : {P B T K C : Type 0} → (P → P → P) → Rules P T K C → Passage P B
passage_begun join rules = record {
  arriving = send join rules.flow.initial (replicate rules.blocks None) rules.flow.entry;
  entries = replicate rules.blocks None;
  beyond = [];
}

-- `enter` gives the state that a block is entered with where a state arrives, with what it has beyond that, and None
-- where there is none, which `unentered` says. `lacks` says what a step lacks that left the tables
module _ {P B T K C D : Type 0} (join : P → P → P) (below : P → P → Bool) (empty : P) (rules : Rules P T K C)
    (enter : ℕ → P → Option (P × B)) (unentered : D) (lacks : T → Option D) where
  abbrev pub passed : ℕ → P → T → K → Passing P B T K → Option D → Option ℕ → Result (Passing P B T K) (Unsolved C D)
  passed b y tables k w (Some d) e = Err (fault.Differs b d)
  passed b y tables k w None (Some e) = Err (fault.NotBelow b e)
  passed b y tables k w None None = Ok (record {
    progress =
        record w.progress { arriving = send_all join y w.progress.arriving (forward_edges b (rules.flow.edges b)) };
    tables = tables;
    recorded = slice_set w.recorded b (Some k);
  })

  -- behind the step of a block: it lacks nothing, its out state is below the entry state of each block that an edge
  -- goes back to, and it arrives over the other edges
  abbrev pub outcome_passed : ℕ → Passing P B T K → Outcome P T K C → Result (Passing P B T K) (Unsolved C D)
  outcome_passed b w (Refused c) = Err (fault.Step b c)
  outcome_passed b w (Stepped y tables k) =
      passed b y tables k w (lacks tables)
      (first_not_above below w.progress.entries y (back_edges b (rules.flow.edges b)))

  -- the block is entered with this state, which has this beyond what arrived
  abbrev pub entered : ℕ → P × B → Passing P B T K → Passing P B T K
  entered b e w = record w {
    progress = record {
      arriving = slice_set w.progress.arriving b None;
      entries = slice_set w.progress.entries b (Some e.0);
      beyond = w.progress.beyond ++ e.1 ∷ [];
    };
  }

  abbrev pub state_passed : ℕ → Passing P B T K → Option (P × B) → Result (Passing P B T K) (Unsolved C D)
  state_passed b w None = Err (fault.Differs b unentered)
  state_passed b w (Some e) = outcome_passed b (entered b e w) (rules.flow.step w.tables b e.0)

  -- the block steps from the state that it is entered with
  abbrev pub block_passed : ℕ → Passing P B T K → Result (Passing P B T K) (Unsolved C D)
  block_passed b w = state_passed b w (enter b (or_empty empty (entry_at w.progress.arriving b)))

  -- the turn of a block, if it is marked
  abbrev pub turn_passed : List Bool → ℕ → Passing P B T K → Result (Passing P B T K) (Unsolved C D)
  turn_passed marks b w = if slice_index_or marks b false then block_passed b w else Ok w

  -- one turn after the other
  abbrev pub blocks_passed : List Bool → List ℕ → Passing P B T K → Result (Passing P B T K) (Unsolved C D)
  blocks_passed marks [] w = Ok w
  blocks_passed marks (b ∷ bs) w = turn_passed marks b w >>= blocks_passed marks bs

  -- the whole pass over the marked blocks, from these tables and what is recorded
  abbrev pub flow_passed : List Bool → T → List (Option K) → Result (Passing P B T K) (Unsolved C D)
  flow_passed marks tables recorded =
      blocks_passed marks (up 0 rules.blocks) (solver_state (passage_begun join rules) tables recorded)
