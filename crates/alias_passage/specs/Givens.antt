-- What is given of the blocks of a flow, beyond what arrives.
use Rattle.std.specs.Prelude.{◌≡◌, ℕ, IsTrue, Bool, Option, Some}

-- what a block is entered with is proper, and above what arrives
abbrev pub Raises : {P B : Type 0} → (P → Type 0) → (P → P → Bool) → (ℕ → P → Option (P × B)) → Type 0
Raises {P} {B} proper below enter = (b : ℕ) (x s : P) (m : B) → proper x → enter b x ≡ Some (s, m)
    → proper s × IsTrue (below x s)

-- what is said of a flow that stepped is what is said of its tables
abbrev pub Lacks : {S T D : Type 0} → (S → T) → (S → Option D) → (T → Option D) → Type 0
Lacks {S} tables said lacks = (flow : S) → said flow ≡ lacks (tables flow)
