-- Sets of identifiers' numbers: for each row of sixty-four the word of its members. A row without a word has none.
use Rattle.std.specs.Prelude.{ℕ, ◌/◌, ◌%◌, Bool, List, [], ◌∷◌, Option, Some, None, bit_or}
use Rattle.std.specs.Ordering.{nat_cmp}
use Rattle.std.specs.FinMap.{find, put}
use Rattle.alias_lattice.specs.ListMaps.{ListProper, list_join, list_below}
use Rattle.alias_lattice.specs.Reasons.{bits_below}
use Rattle.alias_plain.specs.unsure.Words.{WordFits, has_bit, with_bit, without_bit}

abbrev pub Rows : Type 0
Rows = List (ℕ × ℕ)

abbrev pub word_of : Option ℕ → ℕ
word_of None = 0
word_of (Some w) = w

-- the word of a row
abbrev pub word_at : Rows → ℕ → ℕ
word_at s row = word_of (find nat_cmp row s)

-- whether the set has the number
unfoldable pub has : Rows → ℕ → Bool
has s x = has_bit (word_at s (x / 64)) (x % 64)

unfoldable pub with_member : ℕ → Rows → Rows
with_member x s = put nat_cmp (x / 64) (with_bit (word_at s (x / 64)) (x % 64)) s

unfoldable pub without_member : ℕ → Rows → Rows
without_member x s = put nat_cmp (x / 64) (without_bit (word_at s (x / 64)) (x % 64)) s

-- the rows rise, and each word is one
abbrev pub RowsProper : Rows → Type 0
RowsProper = ListProper nat_cmp WordFits

-- the numbers of both
abbrev pub union : Rows → Rows → Rows
union = list_join nat_cmp bit_or

-- each number of the first is one of the second
abbrev pub is_within : Rows → Rows → Bool
is_within = list_below nat_cmp bits_below
