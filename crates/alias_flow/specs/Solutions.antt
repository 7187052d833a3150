-- What the entry states and what is recorded say of a flow over numbered blocks.
use Rattle.std.specs.Prelude.{◌≡◌, ℕ, ◌<◌, nat_lt, Bool, List, [], ◌∷◌, Option, Some, None, slice_index_or}
use Rattle.std.specs.List.{list_all, AllByRecursion}
use Rattle.alias_lattice.specs.Flows.{Flow, Stepped, IsSolution, AreJoins}
use Rattle.alias_flow.specs.Machine.{Rules, VisitLog, up}

-- the entry state of each block
abbrev pub entry_at : {P : Type 0} → List (Option P) → ℕ → Option P
entry_at entries b = slice_index_or entries b None

-- what is recorded of each block with an entry state is what its step from it gives
abbrev pub RecordsSteps : {P T K C : Type 0} → Flow ℕ P T K C → T → (ℕ → Option P) → List (Option K) → Type 0
RecordsSteps {P} {T} {K} flow tables entry_state recorded =
    (b : ℕ) (s : P) → entry_state b ≡ Some s → (y : P) × (k : K) × (flow.step tables b s ≡ Stepped y tables k)
    × (slice_index_or recorded b None ≡ Some k)

-- what is recorded of a block with no entry state is what was recorded before
abbrev pub KeepsOthers : {P K : Type 0} → (ℕ → Option P) → List (Option K) → List (Option K) → Type 0
KeepsOthers entry_state before recorded = (b : ℕ) → entry_state b ≡ None → slice_index_or recorded b None
    ≡ slice_index_or before b None

-- each edge goes to a later block
abbrev pub goes_forward : {P T K C : Type 0} → Rules P T K C → Bool
goes_forward rules = list_all (λ b. list_all (λ e. nat_lt b e) (rules.flow.edges b)) (up 0 rules.blocks)

abbrev pub IsForward : {P T K C : Type 0} → Rules P T K C → Type 0
IsForward rules = (b : ℕ) → b < rules.blocks → AllByRecursion (λ e. b < e) (rules.flow.edges b)

-- in ascending order, each at most once
abbrev pub IsAscending : List ℕ → Type 0
IsAscending [] = Unit {0}
IsAscending (x ∷ xs) = AllByRecursion (λ y. x < y) xs × IsAscending xs

-- the visits are in stored order, the entry states solve the flow, each is the join of what arrives, and what their
-- steps give is recorded
pub record SolvesInOrder {P T K C : Type 0} (proper : P → Type 0) (below : P → P → Bool) (flow : Flow ℕ P T K C)
    (tables : T) (recorded : List (Option K)) (progress : VisitLog P) : Type 0 where
  pub in_order : IsAscending progress.visits
  pub solves : IsSolution below flow tables (entry_at progress.joined_input)
  pub joins : AreJoins below flow proper tables (entry_at progress.joined_input)
  pub keeps : RecordsSteps flow tables (entry_at progress.joined_input) recorded
