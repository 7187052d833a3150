-- For each way into a block the set of the identifiers that aren't sure where control comes that way.
use Rattle.std.specs.Prelude.{ℕ, Bool, List}
use Rattle.std.specs.Ordering.{nat_cmp}
use Rattle.alias_lattice.specs.ListMaps.{ListProper, list_join, list_below}
use Rattle.alias_plain.specs.unsure.Sets.{Rows, RowsProper, union, is_within}

-- a way is known by a number
abbrev pub UnsureState : Type 0
UnsureState = List (ℕ × Rows)

abbrev pub StateProper : UnsureState → Type 0
StateProper = ListProper nat_cmp RowsProper

-- the ways of both, and of a way of both the union
abbrev pub state_join : UnsureState → UnsureState → UnsureState
state_join = list_join nat_cmp union

abbrev pub state_below : UnsureState → UnsureState → Bool
state_below = list_below nat_cmp is_within
