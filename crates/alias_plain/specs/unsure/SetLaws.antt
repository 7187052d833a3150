-- Which numbers sets have.
use Rattle.std.specs.Prelude.{◌≡◌, ◌≢◌, ℕ, ◌*◌, ◌/◌, ◌%◌, ◌^◌, ◌<◌, ◌==◌, ◌||◌, Bool, true, false, cond, IsTrue, List}
use Rattle.std.specs.Prelude.{[], Option, Some, None, bit_or, bit_and, refl}
use Rattle.std.specs.Int.Bits.{or_zero_l, or_zero_r}
use Rattle.std.proofs.Common.{ap, sym, ◌∙◌, arith, subst, lit<}
use Rattle.std.proofs.Math.Dec.{T}
use Rattle.std.proofs.lemmas.Bool.{false≢true}
use Rattle.std.proofs.lemmas.Nat.{or_lt, and_le_l}
use Rattle.std.proofs.lemmas.Nat.Bits.{bit_at-zero}
use Rattle.std.specs.Ordering.{nat_cmp, eq_by_cmp, is_eq}
use Rattle.std.specs.Cmp.{tied_itself}
use Rattle.alias_lattice.specs.MapLaws.{equal}
use Rattle.std.proofs.lemmas.Cmp.{nat_cmp_total}
use Rattle.std.specs.FinMap.{find, put, nat_cmp-IsAntisymmetric}
use Rattle.std.specs.FinMap.Entries.{find-put}
use Rattle.alias_lattice.specs.Laws.{LatticeLaws}
use Rattle.alias_lattice.specs.Maps.{join_option, ProperOption}
use Rattle.alias_lattice.specs.ListMapLaws.{list_laws}
use Rattle.alias_lattice.specs.PutLaws.{find-join, proper_put, proper_nil, proper_found}
use Rattle.alias_lattice.specs.Reasons.{bits_below}
use Rattle.alias_plain.specs.unsure.Words.{WordFits, has_bit, with_bit, without_bit}
use Rattle.alias_plain.specs.unsure.WordLaws.{word_laws, has_bit-or, with_bit_same, with_bit_other, without_bit_same}
use Rattle.alias_plain.specs.unsure.WordLaws.{without_bit_other}
use Rattle.alias_plain.specs.unsure.Sets.{Rows, word_of, word_at, has, with_member, without_member, RowsProper, union}
use Rattle.alias_plain.specs.unsure.Sets.{is_within}

pub set_laws : LatticeLaws RowsProper union is_within
set_laws = list_laws nat_cmp nat_cmp_total nat_cmp-IsAntisymmetric WordFits bit_or bits_below word_laws

pub proper_none : RowsProper []
proper_none = proper_nil nat_cmp WordFits

-- ---- words stay words

or_fits : (n k : ℕ) → WordFits n → k < 64 → WordFits (with_bit n k)
or_fits n k h l = or_lt 64 n (1 * 2 ^ k % 2 ^ 64) h (omega arith)

and_fits : (n m : ℕ) → WordFits n → WordFits (bit_and n m)
and_fits n m h = omega (arith, and_le_l n m)

slot_below : (x : ℕ) → x % 64 < 64
slot_below x = omega arith

found_fits : (o : Option ℕ) → ProperOption WordFits o → WordFits (word_of o)
found_fits None h = lit< tt
found_fits (Some w) h = h

word_fits : (s : Rows) (row : ℕ) → RowsProper s → WordFits (word_at s row)
word_fits s row h = found_fits (find nat_cmp row s) (proper_found nat_cmp WordFits s h row)

pub proper_with : (x : ℕ) (s : Rows) → RowsProper s → RowsProper (with_member x s)
unfolding with_member
proper_with x s h = proper_put nat_cmp WordFits nat_cmp_total (x / 64) (with_bit (word_at s (x / 64)) (x % 64)) s h
    (or_fits (word_at s (x / 64)) (x % 64) (word_fits s (x / 64) h) (slot_below x))

pub proper_without : (x : ℕ) (s : Rows) → RowsProper s → RowsProper (without_member x s)
unfolding without_member
proper_without x s h = proper_put nat_cmp WordFits nat_cmp_total (x / 64) (without_bit (word_at s (x / 64)) (x % 64)) s
    h (and_fits (word_at s (x / 64)) _ (word_fits s (x / 64) h))

-- ---- members

pub has-none : (x : ℕ) → has [] x ≡ false
unfolding has
has-none x = ap (λ n. n == 1) (bit_at-zero (x % 64))

joined_word : (a b : Option ℕ) → word_of (join_option bit_or a b) ≡ bit_or (word_of a) (word_of b)
joined_word None None = refl
joined_word None (Some w) = sym (or_zero_l w)
joined_word (Some v) None = sym (or_zero_r v)
joined_word (Some v) (Some w) = refl

pub has-union : (a b : Rows) (x : ℕ) → RowsProper a → RowsProper b → has (union a b) x ≡ has a x || has b x
unfolding has
has-union a b x h i =
    ap (λ o. has_bit (word_of o) (x % 64)) (find-join nat_cmp nat_cmp_total bit_or a b (x / 64) h.0 i.0)
    ∙ ap (λ w. has_bit w (x % 64)) (joined_word (find nat_cmp (x / 64) a) (find nat_cmp (x / 64) b))
    ∙ has_bit-or (word_at a (x / 64)) (word_at b (x / 64)) (x % 64)

-- the word of a row after another one is put at a row
word-put : (row k w : ℕ) (s : Rows) → word_at (put nat_cmp k w s) row ≡ cond (eq_by_cmp nat_cmp row k) w (word_at s row)
word-put row k w s =
    ap word_of (find-put nat_cmp nat_cmp_total row k w s)
    ∙ elim (eq_by_cmp nat_cmp row k) as (λ t. word_of (cond t (Some w) (find nat_cmp row s))
    ≡ cond t w (word_of (find nat_cmp row s))) [ true ↦ refl | false ↦ refl ]

same_row : (a b : ℕ) → a ≡ b → eq_by_cmp nat_cmp a b ≡ true
same_row a b h = subst (λ k. eq_by_cmp nat_cmp a k ≡ true) h (ap is_eq (tied_itself nat_cmp_total a))

row_is : (a b : ℕ) → eq_by_cmp nat_cmp a b ≡ true → a ≡ b
row_is a b h = nat_cmp-IsAntisymmetric a b (equal (nat_cmp a b) (subst T (sym h) tt))

-- a number is told by its row and its slot
apart : (x y : ℕ) → x ≢ y → x / 64 ≡ y / 64 → x % 64 ≢ y % 64
apart x y d r s = d (omega arith)

put_same : (x w : ℕ) (s : Rows) → has_bit (word_at (put nat_cmp (x / 64) w s) (x / 64)) (x % 64) ≡ has_bit w (x % 64)
put_same x w s = ap (λ v. has_bit v (x % 64))
    (word-put (x / 64) (x / 64) w s ∙ ap (λ t. cond t w (word_at s (x / 64))) (same_row (x / 64) (x / 64) refl))

put_other : (x y w : ℕ) (s : Rows) → x ≢ y
    → (x % 64 ≢ y % 64 → has_bit w (y % 64) ≡ has_bit (word_at s (x / 64)) (y % 64))
    → has_bit (word_at (put nat_cmp (x / 64) w s) (y / 64)) (y % 64) ≡ has_bit (word_at s (y / 64)) (y % 64)
put_other x y w s d h =
    ap (λ v. has_bit v (y % 64)) (word-put (y / 64) (x / 64) w s)
    ∙ elim (eq_by_cmp nat_cmp (y / 64) (x / 64)) as
    (λ t. eq_by_cmp nat_cmp (y / 64) (x / 64) ≡ t → has_bit (cond t w (word_at s (y / 64))) (y % 64)
    ≡ has_bit (word_at s (y / 64)) (y % 64)) [
      | true ↦ λ t.
          let row : y / 64 ≡ x / 64 = row_is (y / 64) (x / 64) t in
          h (apart x y d (sym row)) ∙ ap (λ r. has_bit (word_at s r) (y % 64)) (sym row)
      | false ↦ λ t. refl
    ] refl

pub has-with_same : (x : ℕ) (s : Rows) → has (with_member x s) x ≡ true
unfolding has with_member
has-with_same x s = put_same x (with_bit (word_at s (x / 64)) (x % 64)) s
    ∙ with_bit_same (word_at s (x / 64)) (x % 64) (slot_below x)

pub has-with_other : (x y : ℕ) (s : Rows) → x ≢ y → has (with_member x s) y ≡ has s y
unfolding has with_member
has-with_other x y s d = put_other x y (with_bit (word_at s (x / 64)) (x % 64)) s d
    (λ e. with_bit_other (word_at s (x / 64)) (x % 64) (y % 64) (slot_below x) (λ q. e (sym q)))

pub has-without_same : (x : ℕ) (s : Rows) → has (without_member x s) x ≡ false
unfolding has without_member
has-without_same x s = put_same x (without_bit (word_at s (x / 64)) (x % 64)) s
    ∙ without_bit_same (word_at s (x / 64)) (x % 64) (slot_below x)

pub has-without_other : (x y : ℕ) (s : Rows) → x ≢ y → has (without_member x s) y ≡ has s y
unfolding has without_member
has-without_other x y s d = put_other x y (without_bit (word_at s (x / 64)) (x % 64)) s d
    (λ e. without_bit_other (word_at s (x / 64)) (x % 64) (y % 64) (slot_below x) (slot_below y) (λ q. e (sym q)))

-- ---- order

or-within : (a b : Bool) → IsTrue a → IsTrue (a || b)
or-within true b h = refl
or-within false b h = absurd (false≢true h)

-- what is within another set has no further members
pub within-has : (a b : Rows) (x : ℕ) → RowsProper a → RowsProper b → IsTrue (is_within a b) → IsTrue (has a x)
    → IsTrue (has b x)
within-has a b x h i w m = subst (λ s. IsTrue (has s x)) ((set_laws.order a b h i).0 w)
    (subst IsTrue (sym (has-union a b x h i)) (or-within (has a x) (has b x) m))
