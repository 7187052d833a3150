-- Steps that a check of entry states passes.
use Rattle.std.specs.Prelude.{◌≡◌, ℕ, Bool, true, IsTrue, List, Option, Some, None, Result, Ok, Err}
use Rattle.alias_lattice.specs.Flows.{Stepped, Refused, IsOneOf, IsReached}
use Rattle.std.specs.List.{AllByRecursion}
use Rattle.alias_flow.specs.Machine.{Rules}
use Rattle.alias_flow.specs.Solutions.{entry_at, goes_forward}
use Rattle.alias_flow.specs.check.Checks.{Arriving}
use Rattle.alias_flow.specs.declared.check.fault.Unsolved.{Unsolved}
use Rattle.alias_flow.specs.declared.check.fault.Unsolved.TheVariants as fault

module _ {P : Type 0} (below : P → P → Bool) (entries : List (Option P)) where
  -- the block has an entry state that y is below
  abbrev pub IsBelowAt : P → ℕ → Type 0
  IsBelowAt y b = (s : P) × (entry_at entries b ≡ Some s) × IsTrue (below y s)

-- what is known of entry states that are to be accepted, where `gives` says what each block steps to from its own
pub record AreSolved {P T K C : Type 0} (proper : P → Type 0) (below : P → P → Bool) (rules : Rules P T K C)
    (entries : List (Option P)) (gives : ℕ → P → P → Type 0) : Type 0 where
  -- each reached block has one, and no other block has
  pub reached : (b : ℕ) → IsReached rules.flow b → (s : P) × (entry_at entries b ≡ Some s)
  pub only_reached : (b : ℕ) (s : P) → entry_at entries b ≡ Some s → IsReached rules.flow b
  pub initial : IsBelowAt below entries rules.flow.initial rules.flow.entry
  -- each block steps to a state below that of each successor
  pub steps : (b : ℕ) (s : P) → entry_at entries b ≡ Some s → (y : P) × gives b s y
      × AllByRecursion (IsBelowAt below entries y) (rules.flow.edges b)
  -- where all edges go forward, each is below all that is above what arrives
  pub joins : goes_forward rules ≡ true → (b : ℕ) (s u : P) → entry_at entries b ≡ Some s → proper u
      → (b ≡ rules.flow.entry → IsTrue (below rules.flow.initial u))
      → ((c : ℕ) (x y : P) → entry_at entries c ≡ Some x → gives c x y → IsOneOf b (rules.flow.edges c)
      → IsTrue (below y u)) → IsTrue (below s u)

module _ {P T K C D : Type 0} (rules : Rules P T K C) (differs : T → ℕ → K → Option D) (is_alike : T → Type 0)
    (is_excused : C → Type 0) where
  -- under the tables the block steps from s to y, recording what is said and leaving tables that are alike; or it is
  -- refused for an excused cause
  pub data Passes (t : T) (b : ℕ) (s y : P) : Type 0 where
    goes : (u : T) (k : K) → rules.flow.step t b s ≡ Stepped y u k → is_alike u → differs u b k ≡ None → Passes t b s y
    excused : (c : C) → rules.flow.step t b s ≡ Refused c → is_excused c → Passes t b s y

-- the check goes on from what has the property, or it ends with an excused refusal of a step
pub data Accepts {P T K C D : Type 0} (is_excused : C → Type 0) (holds : Arriving P T K → Type 0)
    (r : Result (Arriving P T K) (Unsolved C D)) : Type 0 where
  accepted : (w : Arriving P T K) → r ≡ Ok w → holds w → Accepts is_excused holds r
  refused : (b : ℕ) (c : C) → r ≡ Err (fault.Step b c) → is_excused c → Accepts is_excused holds r
