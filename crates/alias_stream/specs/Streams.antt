-- Bytes that come from a source and go into a sink.
use Rattle.std.specs.Prelude.{ℕ, ◌≡◌, List, [], ◌++◌, Option, None, Some}
pub use Rattle.alias_base.specs.failures.Failures.{HasFailed}

-- piece is first in what was left before, and the rest is left after
abbrev pub Takes : Option (List ℕ) → List ℕ → Option (List ℕ) → Type 0
Takes None piece new = new ≡ None
Takes (Some old) piece new = (rest : List ℕ) × (old ≡ piece ++ rest) × (new ≡ Some rest)

-- no bytes are left
abbrev pub IsAtEnd : Option (List ℕ) → Type 0
IsAtEnd None = Unit {0}
IsAtEnd (Some bytes) = bytes ≡ []

-- what is held after is what was held before, and then piece
abbrev pub Adds : Option (List ℕ) → List ℕ → Option (List ℕ) → Type 0
Adds None piece new = new ≡ None
Adds (Some old) piece new = new ≡ Some (old ++ piece)

-- the bytes are all that there were
abbrev pub IsAllOf : Option (List ℕ) → List ℕ → Type 0
IsAllOf None bytes = Unit {0}
IsAllOf (Some all) bytes = all ≡ bytes

-- a fact of the bytes, where they are known
abbrev pub IfKnown : Option (List ℕ) → (List ℕ → Type 0) → Type 0
IfKnown None P = Unit {0}
IfKnown (Some all) P = P all
