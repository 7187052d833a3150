-- Words are a lattice, and which are their members.
use Rattle.std.specs.Prelude.{◌≡◌, ◌≢◌, ℕ, ◌<◌, ◌==◌, ◌||◌, Bool, true, false, max, bit_or, refl}
use Rattle.std.specs.Int.{bit_at, w64}
use Rattle.std.specs.Int.Bits.{or_self}
use Rattle.std.proofs.Common.{zero, suc, ap, sym, ◌∙◌, arith, subst}
use Rattle.std.proofs.lemmas.Nat.{or_comm, or_lt}
use Rattle.std.proofs.lemmas.Nat.Bits.{bit_at_or, bit_at-lt, bit_at_set_same, bit_at_set_other, bit_at_clear_same}
use Rattle.std.proofs.lemmas.Nat.Bits.{bit_at_clear_other}
use Rattle.std.proofs.Math.Dec.{T, eqb→eq, eqb_refl}
use Rattle.alias_lattice.specs.Laws.{LatticeLaws}
use Rattle.alias_lattice.specs.Reasons.{bits_below}
use Rattle.alias_plain.specs.unsure.Words.{WordFits, has_bit, with_bit, without_bit}
use Rattle.alias_lattice.specs.ReasonLaws.{or_assoc}

T-is : (b : Bool) → T b → b ≡ true
T-is true t = refl
T-is false t = absurd t

max_assoc : (a b c : ℕ) → max (max a b) c ≡ max a (max b c)
max_assoc a b c = omega arith

pub word_laws : LatticeLaws WordFits bit_or bits_below
word_laws = record {
  closed = λ x y p q. or_lt 64 x y p q;
  idempotent = λ x p. or_self x;
  commutative = λ x y p q. or_comm x y;
  associative = λ x y z p q r. or_assoc x y z;
  order = λ x y p q. (
    λ h. eqb→eq _ _ (subst T (sym h) tt),
    λ h. T-is _ (subst (λ z. T (bit_or x y == z)) h (eqb_refl _)),
  );
}

-- ---- members

max_is : (a b : ℕ) → a < 2 → b < 2 → (max a b == 1) ≡ ((a == 1) || (b == 1))
max_is zero zero h i = refl
max_is zero (suc zero) h i = refl
max_is (suc zero) zero h i = refl
max_is (suc zero) (suc zero) h i = refl
max_is zero (suc (suc b)) h i = absurd (omega arith)
max_is (suc zero) (suc (suc b)) h i = absurd (omega arith)
max_is (suc (suc a)) b h i = absurd (omega arith)

pub has_bit-or : (a b i : ℕ) → has_bit (bit_or a b) i ≡ has_bit a i || has_bit b i
has_bit-or a b i = ap (λ x. x == 1) (bit_at_or a b i) ∙ max_is (bit_at a i) (bit_at b i) (bit_at-lt a i) (bit_at-lt b i)

pub with_bit_same : (n k : ℕ) → k < 64 → has_bit (with_bit n k) k ≡ true
with_bit_same n k h = ap (λ x. x == 1) (bit_at_set_same w64 n k h)

pub with_bit_other : (n k i : ℕ) → k < 64 → i ≢ k → has_bit (with_bit n k) i ≡ has_bit n i
with_bit_other n k i h d = ap (λ x. x == 1) (bit_at_set_other w64 n k h i d)

pub without_bit_same : (n k : ℕ) → k < 64 → has_bit (without_bit n k) k ≡ false
without_bit_same n k h = ap (λ x. x == 1) (bit_at_clear_same w64 n k h)

pub without_bit_other : (n k i : ℕ) → k < 64 → i < 64 → i ≢ k → has_bit (without_bit n k) i ≡ has_bit n i
without_bit_other n k i h l d = ap (λ x. x == 1) (bit_at_clear_other w64 n k h i l d)
