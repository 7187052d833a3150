-- A check of entry states against a flow over numbered blocks: the first fault, or what the steps from them record.
use Rattle.std.specs.Prelude.{◌≡◌, ℕ, Bool, true, false, if◌then◌else◌, List, [], ◌∷◌, Option, Some, None, Result, Ok}
use Rattle.std.specs.Prelude.{Err, ⊤, slice_set, replicate}
use Rattle.alias_base.specs.Answer.{◌>>=◌}
use Rattle.alias_lattice.specs.Flows.{Outcome, Stepped, Refused}
use Rattle.alias_flow.specs.Machine.{Rules, SolverState, up, send, send_all}
use Rattle.alias_flow.specs.Solutions.{entry_at, goes_forward}
use Rattle.alias_flow.specs.declared.flow.StepFault.{StepFault}
use Rattle.alias_flow.specs.declared.flow.StepFault.TheVariants as step
use Rattle.alias_flow.specs.declared.check.fault.Unsolved.{Unsolved}
use Rattle.alias_flow.specs.declared.check.fault.Unsolved.TheVariants as fault

module _ {P : Type 0} (below : P → P → Bool) where
  -- there is a state, and the other is below it
  abbrev pub is_below_at : P → Option P → Bool
  is_below_at y None = false
  is_below_at y (Some s) = below y s

  -- the state is below the entry state of the block, which has one
  abbrev pub is_below_entry : List (Option P) → P → ℕ → Bool
  is_below_entry entries y b = is_below_at y (entry_at entries b)

  -- the first of the blocks whose entry state the state isn't below
  abbrev pub first_not_above : List (Option P) → P → List ℕ → Option ℕ
  first_not_above entries y [] = None
  first_not_above entries y (e ∷ es) = if is_below_entry entries y e then first_not_above entries y es else Some e

  -- a block without an entry state, or one that is below what arrives
  abbrev pub is_joined : Option P → Option P → Bool
  is_joined None arrives = true
  is_joined (Some s) arrives = is_below_at s arrives

  -- the first of the blocks whose entry state isn't below what arrives
  abbrev pub first_not_joined : List (Option P) → List (Option P) → List ℕ → Option ℕ
  first_not_joined entries arriving [] = None
  first_not_joined entries arriving (b ∷ bs) = if is_joined (entry_at entries b) (entry_at arriving b)
      then first_not_joined entries arriving bs else Some b

module _ {P T K C : Type 0} (join : P → P → P) (below : P → P → Bool) (rules : Rules P T K C)
    (entries : List (Option P)) where
  -- at first the initial state arrives at the entry
  abbrev pub first_arriving : List (Option P)
  first_arriving = send join rules.flow.initial (replicate rules.blocks None) rules.flow.entry

  -- what has arrived at first, where the entry has a state that the initial one is below
  abbrev pub begins : Option (List (Option P))
  begins = if is_below_entry below entries rules.flow.initial rules.flow.entry then Some first_arriving else None

module _ {P T K C : Type 0} (below : P → P → Bool) (rules : Rules P T K C) (entries : List (Option P)) where
  -- where all edges go forward, the first block whose entry state isn't below what has arrived there
  abbrev pub not_joined : List (Option P) → Option ℕ
  not_joined arriving = if goes_forward rules then first_not_joined below entries arriving (up 0 rules.blocks) else None

-- the states that arrived at the blocks so far, the tables, and what was recorded
abbrev pub Arriving : (P T K : Type 0) → Type 0
Arriving P T K = SolverState (List (Option P)) T K

module _ {P T K C D : Type 0} (join : P → P → P) (below : P → P → Bool) (rules : Rules P T K C)
    (differs : T → ℕ → K → Option D) (entries : List (Option P)) where
  abbrev pub passed : ℕ → P → T → K → Arriving P T K → Option D → Option ℕ → Result (Arriving P T K) (Unsolved C D)
  passed b y tables k w (Some d) e = Err (fault.Differs b d)
  passed b y tables k w None (Some e) = Err (fault.NotBelow b e)
  passed b y tables k w None None = Ok (record {
    progress = send_all join y w.progress (rules.flow.edges b);
    tables = tables;
    recorded = slice_set w.recorded b (Some k);
  })

  abbrev pub outcome_checked : ℕ → Arriving P T K → Outcome P T K C → Result (Arriving P T K) (Unsolved C D)
  outcome_checked b w (Refused c) = Err (fault.Step b c)
  outcome_checked b w (Stepped y tables k) =
      passed b y tables k w (differs tables b k) (first_not_above below entries y (rules.flow.edges b))

  abbrev pub state_checked : ℕ → Arriving P T K → Option P → Result (Arriving P T K) (Unsolved C D)
  state_checked b w None = Ok w
  state_checked b w (Some s) = outcome_checked b w (rules.flow.step w.tables b s)

  -- a block steps from its entry state, if it has one: without a refusal, recording what is said, to a state below that
  -- of each successor
  abbrev pub block_checked : ℕ → Arriving P T K → Result (Arriving P T K) (Unsolved C D)
  block_checked b w = state_checked b w (entry_at entries b)

  -- one block after the other
  abbrev pub blocks_checked : List ℕ → Arriving P T K → Result (Arriving P T K) (Unsolved C D)
  blocks_checked [] w = Ok w
  blocks_checked (b ∷ bs) w = block_checked b w >>= blocks_checked bs

  abbrev pub joined_unless : Arriving P T K → Option ℕ → Result (Arriving P T K) (Unsolved C D)
  joined_unless w None = Ok w
  joined_unless w (Some b) = Err (fault.NotJoin b)

  -- where all edges go forward, each entry state is below what arrives
  abbrev pub joins_checked : Arriving P T K → Result (Arriving P T K) (Unsolved C D)
  joins_checked w = joined_unless w (not_joined below rules entries w.progress)

  abbrev pub begun_with : T → List (Option K) → Option (List (Option P)) → Result (Arriving P T K) (Unsolved C D)
  begun_with tables recorded None = Err fault.Initial
  begun_with tables recorded (Some xs) = Ok (record { progress = xs; tables = tables; recorded = recorded })

  -- the check of all entry states, from these tables and what is recorded
  abbrev pub solution_checked : T → List (Option K) → Result (Arriving P T K) (Unsolved C D)
  solution_checked tables recorded = begun_with tables recorded (begins join below rules entries)
      >>= (λ w. blocks_checked (up 0 rules.blocks) w >>= joins_checked)

-- why the step of the block gave no state
abbrev pub refused_at : {E D : Type 0} → ℕ → StepFault E → Unsolved E D
refused_at b (step.Refused e) = fault.Step b e
refused_at b (step.Memory e) = fault.Memory e

-- a check comes to what is stated, or finds the fault that is stated, where the cause of a refusal is what the fault
-- stands for. Out of memory is free: it can come in the place of any answer
abbrev pub ChecksInto : {A B C D E : Type 0} → (E → C) → Result A (Unsolved C D) → Result B (Unsolved E D) → A → Type 0
ChecksInto cause stated (Ok u) w = stated ≡ Ok w
ChecksInto cause stated (Err fault.Initial) w = stated ≡ Err fault.Initial
ChecksInto cause stated (Err (fault.Step b e)) w = stated ≡ Err (fault.Step b (cause e))
ChecksInto cause stated (Err (fault.Differs b d)) w = stated ≡ Err (fault.Differs b d)
ChecksInto cause stated (Err (fault.NotBelow b e)) w = stated ≡ Err (fault.NotBelow b e)
ChecksInto cause stated (Err (fault.NotJoin b)) w = stated ≡ Err (fault.NotJoin b)
ChecksInto cause stated (Err (fault.Memory e)) w = ⊤
