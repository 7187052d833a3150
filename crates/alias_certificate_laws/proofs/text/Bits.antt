-- A set of reasons is that of its members, which ascend.
use Rattle.std.proofs.Common.{◌≡◌, ℕ, zero, suc, ◌+◌, ◌^◌, ◌<◌, ◌≤◌, ◌≢◌, ◌==◌, ◌||◌, Bool, true, false, cond, List, []}
use Rattle.std.proofs.Common.{◌∷◌, refl, ap, sym, ◌∙◌, subst, arith, bit_or, max, lit<}
use Rattle.std.specs.Int.{bit_at}
use Rattle.std.specs.Prelude.{filter}
use Rattle.std.proofs.lemmas.Bool.{eqb-true, eqb-false}
use Rattle.std.proofs.lemmas.Nat.{or_lt}
use Rattle.std.proofs.lemmas.Nat.Bits.{bit_at_or, bit_at-pow_same, bit_at-pow_other, bit_at-lt, bit_at-zero}
use Rattle.std.proofs.lemmas.Nat.Bits.{same_from_bits_below}
use Rattle.alias_hir.specs.declared.effect.ValueReason.{ValueReason}
use Rattle.alias_hir.specs.declared.effect.ValueReason.TheVariants as reason
use Rattle.alias_lattice.specs.Reasons.{reason_index, single_reason, has_reason, all_reasons, reasons_in, ReasonBits}

-- the set, with those of the list
abbrev pub gathered : ℕ → List ValueReason → ℕ
gathered set [] = set
gathered set (r ∷ rs) = gathered (bit_or set (single_reason r)) rs

-- the bit at i of the set of the list
abbrev pub among : ℕ → List ValueReason → ℕ
among i [] = 0
among i (r ∷ rs) = max (bit_at (single_reason r) i) (among i rs)

abbrev has_index : ℕ → List ValueReason → Bool
has_index i [] = false
has_index i (r ∷ rs) = (reason_index r == i) || has_index i rs

pub gathered_bit : (i set : ℕ) (rs : List ValueReason) → bit_at (gathered set rs) i ≡ max (bit_at set i) (among i rs)
gathered_bit i set [] = omega arith
gathered_bit i set (r ∷ rs) =
    let h = gathered_bit i (bit_or set (single_reason r)) rs in
    let g = bit_at_or set (single_reason r) i in
    h ∙ omega (arith, g)

-- the bit where the list has the index
abbrev named : ℕ → ℕ → List ValueReason → ℕ
named n i rs = cond (has_index i rs) (bit_at n i) 0

taken_low : (n i : ℕ) (b : Bool) → cond b (bit_at n i) 0 ≤ bit_at n i
taken_low n i true = omega arith
taken_low n i false = omega arith

here_in : (n i k : ℕ) (more : ℕ) → i ≡ k → (bit_at n k == 1) ≡ true → more ≤ bit_at n i → max (bit_at (2 ^ k) i) more
    ≡ bit_at n i
here_in n i k more e h l =
    let one : bit_at n k ≡ 1 = eqb-true (bit_at n k) 1 h in
    let pow : bit_at (2 ^ k) i ≡ 1 = subst (λ (j : ℕ). bit_at (2 ^ k) j ≡ 1) (sym e) (bit_at-pow_same k) in
    let own : bit_at n i ≡ 1 = subst (λ (j : ℕ). bit_at n j ≡ 1) (sym e) one in
    omega (arith, pow, own, l)

here_out : (n i k : ℕ) (more : ℕ) → i ≡ k → (bit_at n k == 1) ≡ false → more ≤ bit_at n i → more ≡ bit_at n i
here_out n i k more e h l =
    let not_one : bit_at n k ≢ 1 = eqb-false (bit_at n k) 1 h in
    let low : bit_at n k < 2 = bit_at-lt n k in
    let own : bit_at n i ≡ bit_at n k = ap (bit_at n) e in
    omega (arith, not_one, low, own, l)

elsewhere : (i k : ℕ) (more : ℕ) → (k == i) ≡ false → max (bit_at (2 ^ k) i) more ≡ more
elsewhere i k more h =
    let none : bit_at (2 ^ k) i ≡ 0 = bit_at-pow_other k i (λ e. eqb-false k i h (sym e)) in
    omega (arith, none)

among_step : (n i : ℕ) (r : ValueReason) (rest : List ValueReason) (more : Bool) (here has : Bool)
    → (reason_index r == i) ≡ here → has_reason n r ≡ has
    → among i rest ≡ cond more (bit_at n i) 0 → among i (cond has (r ∷ rest) rest) ≡ cond (here || more) (bit_at n i) 0
among_step n i r rest more true true h g e =
    here_in n i (reason_index r) (among i rest) (sym (eqb-true (reason_index r) i h)) g
    (subst (λ (m : ℕ). m ≤ bit_at n i) (sym e) (taken_low n i more))
among_step n i r rest more true false h g e =
    here_out n i (reason_index r) (among i rest) (sym (eqb-true (reason_index r) i h)) g
    (subst (λ (m : ℕ). m ≤ bit_at n i) (sym e) (taken_low n i more))
among_step n i r rest more false true h g e = elsewhere i (reason_index r) (among i rest) h ∙ e
among_step n i r rest more false false h g e = e

among_members : (n i : ℕ) (rs : List ValueReason) → among i (filter (has_reason n) rs) ≡ named n i rs
among_members n i [] = refl
among_members n i (r ∷ rs) = among_step n i r (filter (has_reason n) rs) (has_index i rs) (reason_index r == i)
    (has_reason n r) refl refl (among_members n i rs)

indexes : (i : ℕ) → i < 12 → has_index i all_reasons ≡ true
indexes zero h = refl
indexes (suc zero) h = refl
indexes (suc (suc zero)) h = refl
indexes (suc (suc (suc zero))) h = refl
indexes (suc (suc (suc (suc zero)))) h = refl
indexes (suc (suc (suc (suc (suc zero))))) h = refl
indexes (suc (suc (suc (suc (suc (suc zero)))))) h = refl
indexes (suc (suc (suc (suc (suc (suc (suc zero))))))) h = refl
indexes (suc (suc (suc (suc (suc (suc (suc (suc zero)))))))) h = refl
indexes (suc (suc (suc (suc (suc (suc (suc (suc (suc zero))))))))) h = refl
indexes (suc (suc (suc (suc (suc (suc (suc (suc (suc (suc zero)))))))))) h = refl
indexes (suc (suc (suc (suc (suc (suc (suc (suc (suc (suc (suc zero))))))))))) h = refl
indexes (suc (suc (suc (suc (suc (suc (suc (suc (suc (suc (suc (suc i)))))))))))) h = absurd (omega arith)

members_bit : (n i : ℕ) → i < 12 → among i (reasons_in n) ≡ bit_at n i
members_bit n i h = among_members n i all_reasons ∙ ap (λ b. cond b (bit_at n i) 0) (indexes i h)

-- ---- sets of twelve bits

single_small : (r : ValueReason) → single_reason r < 2 ^ 12
single_small reason.KnownReturnSignature = lit< tt
single_small reason.State = lit< tt
single_small reason.ReducerState = lit< tt
single_small reason.Context = lit< tt
single_small reason.Effect = lit< tt
single_small reason.HookCaptured = lit< tt
single_small reason.HookReturn = lit< tt
single_small reason.Global = lit< tt
single_small reason.JsxCaptured = lit< tt
single_small reason.StoreLocal = lit< tt
single_small reason.ReactiveFunctionArgument = lit< tt
single_small reason.Other = lit< tt

pub gathered_small : (set : ℕ) (rs : List ValueReason) → set < 2 ^ 12 → gathered set rs < 2 ^ 12
gathered_small set [] h = h
gathered_small set (r ∷ rs) h = gathered_small (bit_or set (single_reason r)) rs
    (or_lt 12 set (single_reason r) h (single_small r))

pub all_gathered : (n : ℕ) → ReasonBits n → gathered 0 (reasons_in n) ≡ n
all_gathered n h =
    same_from_bits_below 12 (gathered 0 (reasons_in n)) n (gathered_small 0 (reasons_in n) (omega arith)) h
    (λ i l. gathered_bit i 0 (reasons_in n)
    ∙ (let zero_bit = bit_at-zero i in let own = members_bit n i l in omega (arith, zero_bit, own)))

-- ---- in the order of declaration

abbrev pub Ascend : ℕ → List ValueReason → Type 0
Ascend least [] = Unit {0}
Ascend least (r ∷ rs) = (least ≤ reason_index r) × Ascend (reason_index r + 1) rs

from_lower : (least m : ℕ) (rs : List ValueReason) → least ≤ m → Ascend m rs → Ascend least rs
from_lower least m [] l h = tt
from_lower least m (r ∷ rs) l h = (omega (arith, h.0), h.1)

member_step : (least : ℕ) (r : ValueReason) (rest : List ValueReason) (b : Bool) → least ≤ reason_index r
    → Ascend (reason_index r + 1) rest → Ascend least (cond b (r ∷ rest) rest)
member_step least r rest true l h = (l, h)
member_step least r rest false l h = from_lower least (reason_index r + 1) rest (omega arith) h

members_ascend : (n least : ℕ) (rs : List ValueReason) → Ascend least rs → Ascend least (filter (has_reason n) rs)
members_ascend n least [] h = tt
members_ascend n least (r ∷ rs) h = member_step least r (filter (has_reason n) rs) (has_reason n r) h.0
    (members_ascend n (reason_index r + 1) rs h.1)

all_ascend : Ascend 0 all_reasons
all_ascend = (
  omega arith,
  (
    omega arith,
    (
      omega arith,
      (
        omega arith,
        (
          omega arith,
          (omega arith, (omega arith, (omega arith, (omega arith, (omega arith, (omega arith, (omega arith, tt))))))),
        ),
      ),
    ),
  ),
)

pub reasons_ascend : (n : ℕ) → Ascend 0 (reasons_in n)
reasons_ascend n = members_ascend n 0 all_reasons all_ascend
