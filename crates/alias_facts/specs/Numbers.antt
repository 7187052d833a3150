-- Maps from numbers, as their entries, and sets of numbers: both in ascending order.
use Rattle.std.specs.Prelude.{ℕ, Bool, List, Option}
use Rattle.std.specs.Ordering.{nat_cmp}
use Rattle.std.specs.List.{list_any}
use Rattle.std.specs.Map as map
use Rattle.std.specs.BTreeMap.{is_at, insert_entry}
use Rattle.std.specs.BTreeSet.{insert_key}

-- the value of a number
abbrev pub value_of : {V : Type 0} → List (ℕ × V) → ℕ → Option V
value_of m n = map.lookup (is_at (nat_cmp n)) m

-- the map with a value of a number, in the place of the one before
abbrev pub with_value : {V : Type 0} → List (ℕ × V) → ℕ → V → List (ℕ × V)
with_value m n v = insert_entry nat_cmp m n v

-- the map without a number
abbrev pub without : {V : Type 0} → List (ℕ × V) → ℕ → List (ℕ × V)
without m n = map.remove_entry (is_at (nat_cmp n)) m

-- the set has the number
abbrev pub has : List ℕ → ℕ → Bool
has s n = list_any (is_at (nat_cmp n)) s

-- the set with the number
abbrev pub with_number : List ℕ → ℕ → List ℕ
with_number s n = insert_key nat_cmp s n
