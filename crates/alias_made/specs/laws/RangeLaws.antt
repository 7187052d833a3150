-- What holds of each number of a range holds of the list that is made of it.
use Rattle.std.proofs.Common.{◌≡◌, refl, ap, ℕ, suc, zero, ◌+◌, ◌<◌, ◌≤◌, ◌≢◌, ◌⊎◌, inl, inr, Bool, true, false, cond}
use Rattle.std.proofs.Common.{not, eqb, ◌&&◌, ◌||◌, List, [], ◌∷◌, ◌++◌, map, Option, None, Some, Result, Ok, Err}
use Rattle.std.proofs.Common.{arith}
use Rattle.std.specs.Prelude.{⊤, find}
use Rattle.std.specs.List.{flat_map, list_all, range_with_len}
use Rattle.std.proofs.lemmas.Bool.Decides.{eqb_tells}
use Rattle.alias_base.specs.Answer.{◌>>=◌, all_pass}
use Rattle.alias_base.specs.AnswerLaws.{both_pass, both_true}
use Rattle.alias_rules.specs.function_rules.Rules.{first_again, is_among}

-- ---- steps, and tests

pub then_passes : {E : Type 0} (r : Result ⊤ E) (s : Result ⊤ E) → r ≡ Ok tt → s ≡ Ok tt → (r >>= (λ _. s)) ≡ Ok tt
then_passes (Ok tt) s first second = second
then_passes (Err f) s first second = cc

pub both : (a b : Bool) → a ≡ true → b ≡ true → (a && b) ≡ true
both true b first second = second
both false b first second = cc

pub different : (a b : ℕ) → a ≢ b → eqb a b ≡ false
different a b h = elim (eqb_tells a b) [ inl p ↦ absurd (h p.1) | inr p ↦ p.0 ]

-- ---- all pass

pub all_pass-append : {A E : Type 0} (f : A → Result ⊤ E) (xs ys : List A) → all_pass f xs ≡ Ok tt → all_pass f ys
    ≡ Ok tt → all_pass f (xs ++ ys) ≡ Ok tt
all_pass-append f [] ys first second = second
all_pass-append f (x ∷ xs) ys first second =
    let parts : (f x ≡ Ok tt) × (all_pass f xs ≡ Ok tt) = both_pass (f x) (all_pass f xs) first in
    then_passes (f x) (all_pass f (xs ++ ys)) parts.0 (all_pass-append f xs ys parts.1 second)

pub each_passes : {A E : Type 0} (f : A → Result ⊤ E) (g : ℕ → A) (a n : ℕ) → ((k : ℕ) → k < a + n → f (g k) ≡ Ok tt)
    → all_pass f (map g (range_with_len a n)) ≡ Ok tt
each_passes f g a zero h = refl
each_passes f g a (suc n) h = then_passes (f (g a)) (all_pass f (map g (range_with_len (a + 1) n))) (h a (omega arith))
    (each_passes f g (a + 1) n (λ k below. h k (omega arith)))

pub each_list_passes : {A E : Type 0} (f : A → Result ⊤ E) (g : ℕ → List A) (a n : ℕ)
    → ((k : ℕ) → k < a + n → all_pass f (g k) ≡ Ok tt) → all_pass f (flat_map g (range_with_len a n)) ≡ Ok tt
each_list_passes f g a zero h = refl
each_list_passes f g a (suc n) h = all_pass-append f (g a) (flat_map g (range_with_len (a + 1) n)) (h a (omega arith))
    (each_list_passes f g (a + 1) n (λ k below. h k (omega arith)))

-- ---- all hold

pub list_all-append : {A : Type 0} (p : A → Bool) (xs ys : List A) → list_all p xs ≡ true → list_all p ys ≡ true
    → list_all p (xs ++ ys) ≡ true
list_all-append p [] ys first second = second
list_all-append p (x ∷ xs) ys first second =
    let parts : (p x ≡ true) × (list_all p xs ≡ true) = both_true (p x) (list_all p xs) first in
    both (p x) (list_all p (xs ++ ys)) parts.0 (list_all-append p xs ys parts.1 second)

pub each_holds : {A : Type 0} (p : A → Bool) (g : ℕ → A) (a n : ℕ) → ((k : ℕ) → k < a + n → p (g k) ≡ true)
    → list_all p (map g (range_with_len a n)) ≡ true
each_holds p g a zero h = refl
each_holds p g a (suc n) h = both (p (g a)) (list_all p (map g (range_with_len (a + 1) n))) (h a (omega arith))
    (each_holds p g (a + 1) n (λ k below. h k (omega arith)))

pub each_list_holds : {A : Type 0} (p : A → Bool) (g : ℕ → List A) (a n : ℕ)
    → ((k : ℕ) → k < a + n → list_all p (g k) ≡ true) → list_all p (flat_map g (range_with_len a n)) ≡ true
each_list_holds p g a zero h = refl
each_list_holds p g a (suc n) h = list_all-append p (g a) (flat_map g (range_with_len (a + 1) n)) (h a (omega arith))
    (each_list_holds p g (a + 1) n (λ k below. h k (omega arith)))

-- ---- the numbers of a range, as a list of what is there

first_is : (b : Bool) (x : ℕ) (o : Option ℕ) → b ≡ false → o ≡ None → cond b (Some x) o ≡ None
first_is true x o unlike rest = cc
first_is false x o unlike rest = rest

neither : (a b : Bool) → a ≡ false → b ≡ false → (a || b) ≡ false
neither true b first second = cc
neither false b first second = second

one_of : (a b : Bool) → (a ≡ true) ⊎ (b ≡ true) → (a || b) ≡ true
one_of true b h = refl
one_of false b h = elim h [ inl p ↦ cc | inr q ↦ q ]

-- no number of a range is there twice
first_again-range : (a n : ℕ) (seen : List ℕ) → ((k : ℕ) → a ≤ k → is_among seen k ≡ false)
    → first_again seen (range_with_len a n) ≡ None
first_again-range a zero seen unseen = refl
first_again-range a (suc n) seen unseen =
    first_is (is_among seen a) a (first_again (a ∷ seen) (range_with_len (a + 1) n)) (unseen a (omega arith))
    (first_again-range (a + 1) n (a ∷ seen)
    (λ k above. neither (eqb k a) (is_among seen k) (different k a (λ e. absurd (omega (arith, e))))
    (unseen k (omega arith))))

pub none_twice : (n : ℕ) → first_again [] (range_with_len 0 n) ≡ None
none_twice n = first_again-range 0 n [] (λ k above. refl)

is_among-range : (a n k : ℕ) → a ≤ k → k < a + n → is_among (range_with_len a n) k ≡ true
is_among-range a zero k above below = absurd (omega arith)
is_among-range a (suc n) k above below =
    one_of (eqb k a) (is_among (range_with_len (a + 1) n) k)
    (elim (eqb_tells k a) [
      | inl p ↦ inl p.0
      | inr p ↦ inr
          (is_among-range (a + 1) n k (above_next a k above p.1) (omega arith))
    ])
  where
    above_next : (i j : ℕ) → i ≤ j → j ≢ i → i + 1 ≤ j
    above_next i j h other = omega arith

find-none : (p : ℕ → Bool) (a n : ℕ) → ((k : ℕ) → k < a + n → p k ≡ false) → find p (range_with_len a n) ≡ None
find-none p a zero h = refl
find-none p a (suc n) h = first_is (p a) a (find p (range_with_len (a + 1) n)) (h a (omega arith))
    (find-none p (a + 1) n (λ k below. h k (omega arith)))

-- each number of a range is there
pub none_missing : (n : ℕ) → find (λ k. not (is_among (range_with_len 0 n) k)) (range_with_len 0 n) ≡ None
none_missing n = find-none (λ k. not (is_among (range_with_len 0 n) k)) 0 n
    (λ k below. ap not (is_among-range 0 n k (omega arith) below))
