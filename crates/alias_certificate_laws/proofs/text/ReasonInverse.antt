-- A set of reasons is read only of what is printed so.
use Rattle.std.proofs.Common.{◌≡◌, ℕ, ◌+◌, ◌<◌, ◌≤◌, ◌==◌, inl, inr, nat_lt, Bool, true, false, List, [], ◌∷◌, length}
use Rattle.std.proofs.Common.{Option, Some, None, bit_or, refl, ap, sym, ◌∙◌, subst, arith}
use Rattle.std.specs.Prelude.{codes, map, count_by, if◌then◌else◌}
use Rattle.std.specs.Int.{bit_at}
use Rattle.std.specs.List.{slice_split, join_by, join_with_byte}
use Rattle.std.proofs.lemmas.Bool.{ltb-false, cases_lt}
use Rattle.std.proofs.lemmas.List.Splits.{length-slice_split, join_with_byte-slice_split}
use Rattle.std.proofs.lemmas.Nat.Bits.{bit_at-pow_same, bit_at-pow_other, bit_at-zero}
use Rattle.alias_hir.specs.declared.effect.ValueReason.{ValueReason}
use Rattle.alias_hir.specs.declared.effect.ValueReason.TheVariants as reason
use Rattle.alias_lattice.specs.Reasons.{reason_index, reason_at, single_reason, reasons_in, ReasonBits}
use Rattle.alias_text.specs.Lines.{reason_word}
use Rattle.alias_text.specs.Certificates.{reasons_text}
use Rattle.alias_cert_text.specs.Reasons.{reasons_from, reasons_of}
use Rattle.alias_cert_text.specs.Words.{text_is, reason_of}
use Rattle.alias_certificate_laws.proofs.text.Bits.{gathered, among, Ascend, gathered_bit, gathered_small, all_gathered}
use Rattle.alias_certificate_laws.proofs.text.Bits.{reasons_ascend}
use Rattle.alias_certificate_laws.proofs.text.Inverse.{then_some, if_some, is_word, reason_is}
use Rattle.alias_certificate_laws.proofs.text.Lists.{further_split}

-- ---- one ascending list to a set

among_low : (i m : ℕ) (rs : List ValueReason) → i < m → Ascend m rs → among i rs ≡ 0
among_low i m [] l h = refl
among_low i m (r ∷ rs) l h =
    let other : bit_at (single_reason r) i ≡ 0 = bit_at-pow_other (reason_index r) i (λ e. omega (arith, h.0, e)) in
    let more : among i rs ≡ 0 = among_low i (reason_index r + 1) rs (omega (arith, h.0)) h.1 in
    omega (arith, other, more)

among_first : (r : ValueReason) (rs : List ValueReason) → 1 ≤ among (reason_index r) (r ∷ rs)
among_first r rs = let own : bit_at (single_reason r) (reason_index r) ≡ 1 = bit_at-pow_same (reason_index r) in
    omega (arith, own)

index_back : (r : ValueReason) → reason_at (reason_index r) ≡ r
index_back reason.KnownReturnSignature = refl
index_back reason.State = refl
index_back reason.ReducerState = refl
index_back reason.Context = refl
index_back reason.Effect = refl
index_back reason.HookCaptured = refl
index_back reason.HookReturn = refl
index_back reason.Global = refl
index_back reason.JsxCaptured = refl
index_back reason.StoreLocal = refl
index_back reason.ReactiveFunctionArgument = refl
index_back reason.Other = refl

abbrev SameBits : List ValueReason → List ValueReason → Type 0
SameBits a b = (i : ℕ) → among i a ≡ among i b

not_lower : (r q : ValueReason) (rs qs : List ValueReason) → Ascend (reason_index q) (q ∷ qs)
    → SameBits (r ∷ rs) (q ∷ qs) → reason_index r < reason_index q → ⊥
not_lower r q rs qs h same l =
    let some = among_first r rs in
    let none = among_low (reason_index r) (reason_index q) (q ∷ qs) l h in
    let e = same (reason_index r) in
    omega (arith, some, none, e)

same_index : (r q : ValueReason) (rs qs : List ValueReason) → Ascend (reason_index r + 1) rs
    → Ascend (reason_index q + 1) qs → SameBits (r ∷ rs) (q ∷ qs) → reason_index r ≡ reason_index q
same_index r q rs qs h g same =
    elim (cases_lt (reason_index r) (reason_index q)) [
      | inl l ↦ absurd (not_lower r q rs qs (omega arith, g) same l)
      | inr l ↦ elim (cases_lt (reason_index q) (reason_index r)) [
        | inl k ↦ absurd (not_lower q r qs rs (omega arith, h) (λ i. sym (same i)) k)
        | inr k ↦ omega (arith, l, k)
      ]
    ]

behind : (r : ValueReason) (rs : List ValueReason) (i : ℕ) → reason_index r < i → among i (r ∷ rs) ≡ among i rs
behind r rs i l = let other : bit_at (single_reason r) i ≡ 0 =
    bit_at-pow_other (reason_index r) i (λ e. omega (arith, l, e)) in omega (arith, other)

same_rest : (r : ValueReason) (rs qs : List ValueReason) → Ascend (reason_index r + 1) rs
    → Ascend (reason_index r + 1) qs → SameBits (r ∷ rs) (r ∷ qs) → SameBits rs qs
same_rest r rs qs h g same i =
    elim (cases_lt i (reason_index r + 1)) [
      | inl l ↦ among_low i (reason_index r + 1) rs l h ∙ sym (among_low i (reason_index r + 1) qs l g)
      | inr l ↦ sym (behind r rs i (omega (arith, l))) ∙ same i ∙ behind r qs i (omega (arith, l))
    ]

same_list : (least most : ℕ) (rs qs : List ValueReason) → Ascend least rs → Ascend most qs → SameBits rs qs → rs ≡ qs
same_list least most [] [] h g same = refl
same_list least most [] (q ∷ qs) h g same = let some = among_first q qs in let e = same (reason_index q) in
    absurd (omega (arith, some, e))
same_list least most (r ∷ rs) [] h g same = let some = among_first r rs in let e = same (reason_index r) in
    absurd (omega (arith, some, e))
same_list least most (r ∷ rs) (q ∷ qs) h g same =
    let index : reason_index r ≡ reason_index q = same_index r q rs qs h.1 g.1 same in
    let first : r ≡ q = sym (index_back r) ∙ ap reason_at index ∙ index_back q in
    let qs_rise : Ascend (reason_index r + 1) qs = subst (λ (k : ℕ). Ascend (k + 1) qs) (sym index) g.1 in
    let both : SameBits (r ∷ rs) (r ∷ qs) = subst (λ (x : ValueReason). SameBits (r ∷ rs) (x ∷ qs)) (sym first) same in
    ap (λ l. r ∷ l) (same_list (reason_index r + 1) (reason_index r + 1) rs qs h.1 qs_rise
    (same_rest r rs qs h.1 qs_rise both)) ∙ ap (λ x. x ∷ qs) first

own_bits : (rs : List ValueReason) (i : ℕ) → bit_at (gathered 0 rs) i ≡ among i rs
own_bits rs i = let zero_bit = bit_at-zero i in let h = gathered_bit i 0 rs in omega (arith, zero_bit, h)

members_are : (rs : List ValueReason) → Ascend 0 rs → reasons_in (gathered 0 rs) ≡ rs
members_are rs h =
    let n = gathered 0 rs in
    let small : ReasonBits n = gathered_small 0 rs (omega arith) in
    same_list 0 0 (reasons_in n) rs (reasons_ascend n) h
    (λ i. sym (own_bits (reasons_in n) i) ∙ ap (λ m. bit_at m i) (all_gathered n small) ∙ own_bits rs i)

-- ---- words that were read

pub record ReadSet (set least : ℕ) (words : List (List ℕ)) (n : ℕ) : Type 0 where
  reasons : List ValueReason
  words_are : map reason_word reasons ≡ words
  ascend : Ascend least reasons
  set_is : gathered set reasons ≡ n

else_some : {A : Type 0} (b : Bool) (y : Option A) (z : A) → (if b then None else y) ≡ Some z → (b ≡ false)
    × (y ≡ Some z)
else_some true y z h = cc
else_some false y z h = (refl, h)

read_set : (set least : ℕ) (words : List (List ℕ)) (n : ℕ) → reasons_from set least words ≡ Some n
    → ReadSet set least words n
read_set set least [] n h = record { reasons = []; words_are = refl; ascend = tt; set_is = cc }
read_set set least (w ∷ ws) n h =
    let a = then_some (reason_of w) (λ r. if nat_lt (reason_index r) least then None
    else reasons_from (bit_or set (single_reason r)) (reason_index r + 1) ws) n h in
    let r = a.0 in
    let b = else_some (nat_lt (reason_index r) least)
    (reasons_from (bit_or set (single_reason r)) (reason_index r + 1) ws) n a.2 in
    let rest = read_set (bit_or set (single_reason r)) (reason_index r + 1) ws n b.1 in
    record {
      reasons = r ∷ rest.reasons;
      words_are = ap (λ x. x ∷ map reason_word rest.reasons) (reason_is w r a.1) ∙ ap (λ l. w ∷ l) rest.words_are;
      ascend = (ltb-false (reason_index r) least b.0, rest.ascend);
      set_is = rest.set_is;
    }

abbrev words_in : List ℕ → List (List ℕ)
words_in t = slice_split (λ b. b == 43) t

some_words : (t : List ℕ) → words_in t ≡ [] → ⊥
some_words t e =
    let n : length (words_in t) ≡ count_by (λ b. b == 43) t + 1 = length-slice_split (λ b. b == 43) t in
    let none : length (words_in t) ≡ 0 = ap length e in
    omega (arith, n, none)

joined : (t : List ℕ) (rs : List ValueReason) → map reason_word rs ≡ words_in t → reasons_text rs ≡ t
joined t [] e = absurd (some_words t (sym e))
joined t (r ∷ rs) e =
    let text = join_by reason_word (codes "+") (r ∷ rs) in
    sym (join_with_byte-slice_split 43 text) ∙ ap (join_with_byte 43) (further_split r rs ∙ e)
    ∙ join_with_byte-slice_split 43 t

pub reasons_is : (t : List ℕ) (n : ℕ) → reasons_of t ≡ Some n → (reasons_text (reasons_in n) ≡ t) × ReasonBits n
reasons_is t n h =
    elim (if_some (text_is t (codes "-")) (Some 0) (reasons_from 0 0 (words_in t)) n h) [
      | inl p ↦ let zero_is : 0 ≡ n = cc in subst (λ (m : ℕ). (reasons_text (reasons_in m) ≡ t) × ReasonBits m) zero_is
          (sym (is_word t (codes "-") p.0), omega arith)
      | inr g ↦
          let found = read_set 0 0 (words_in t) n g in
          subst (λ (m : ℕ). (reasons_text (reasons_in m) ≡ t) × ReasonBits m) found.set_is (
            ap reasons_text (members_are found.reasons found.ascend) ∙ joined t found.reasons found.words_are,
            gathered_small 0 found.reasons (omega arith),
          )
    ]
