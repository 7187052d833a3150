-- What the entry states of a flow have beyond what arrived, in the order of the blocks that are entered.
use Rattle.std.specs.Prelude.{slice_set, replicate, ⊤}
use Rattle.std.proofs.Common.{◌≡◌, ℕ, ◌<◌, zero, suc, List, [], ◌∷◌, ◌++◌, length, Option, Some, None, refl, arith}

-- what is beyond in the entry state of the block at a position
abbrev pub beyond_at : {P B : Type 0} → List (Option P) → List B → ℕ → Option B
beyond_at [] ms q = None
beyond_at (None ∷ xs) ms zero = None
beyond_at (None ∷ xs) ms (suc q) = beyond_at xs ms q
beyond_at (Some x ∷ xs) [] q = None
beyond_at (Some x ∷ xs) (m ∷ ms) zero = Some m
beyond_at (Some x ∷ xs) (m ∷ ms) (suc q) = beyond_at xs ms q

-- no block is entered
abbrev pub NoneEntered : {P : Type 0} → List (Option P) → Type 0
NoneEntered [] = ⊤
NoneEntered (None ∷ xs) = NoneEntered xs
NoneEntered (Some x ∷ xs) = ⊥

-- these are beyond of the blocks before a position, and no block from there on is entered
abbrev pub AreBeyond : {P B : Type 0} → ℕ → List (Option P) → List B → Type 0
AreBeyond zero xs [] = NoneEntered xs
AreBeyond zero xs (m ∷ ms) = ⊥
AreBeyond (suc i) [] ms = ⊥
AreBeyond (suc i) (None ∷ xs) ms = AreBeyond i xs ms
AreBeyond (suc i) (Some x ∷ xs) [] = ⊥
AreBeyond (suc i) (Some x ∷ xs) (m ∷ ms) = AreBeyond i xs ms

pub none_entered : (P B : Type 0) (n : ℕ) → AreBeyond {P = P} {B = B} 0 (replicate n None) []
none_entered P B zero = tt
none_entered P B (suc n) = none_entered P B n

module _ {P B : Type 0} where
  -- the block at the position is entered
  pub one_more_beyond : (i : ℕ) (xs : List (Option P)) (ms : List B) (s : P) (m : B) → AreBeyond i xs ms → i < length xs
      → AreBeyond (suc i) (slice_set xs i (Some s)) (ms ++ m ∷ [])
  one_more_beyond zero [] ms s m h lt = absurd (omega arith)
  one_more_beyond zero (None ∷ xs) [] s m h lt = h
  one_more_beyond zero (Some x ∷ xs) [] s m h lt = absurd h
  one_more_beyond zero (None ∷ xs) (k ∷ ms) s m h lt = absurd h
  one_more_beyond zero (Some x ∷ xs) (k ∷ ms) s m h lt = absurd h
  one_more_beyond (suc i) [] ms s m h lt = absurd h
  one_more_beyond (suc i) (None ∷ xs) ms s m h lt = one_more_beyond i xs ms s m h (omega arith)
  one_more_beyond (suc i) (Some x ∷ xs) [] s m h lt = absurd h
  one_more_beyond (suc i) (Some x ∷ xs) (k ∷ ms) s m h lt = one_more_beyond i xs ms s m h (omega arith)

  -- or it isn't
  pub no_more_beyond : (i : ℕ) (xs : List (Option P)) (ms : List B) → AreBeyond i xs ms → i < length xs
      → AreBeyond (suc i) xs ms
  no_more_beyond zero [] ms h lt = absurd (omega arith)
  no_more_beyond zero (None ∷ xs) [] h lt = h
  no_more_beyond zero (Some x ∷ xs) [] h lt = absurd h
  no_more_beyond zero (None ∷ xs) (k ∷ ms) h lt = absurd h
  no_more_beyond zero (Some x ∷ xs) (k ∷ ms) h lt = absurd h
  no_more_beyond (suc i) [] ms h lt = absurd h
  no_more_beyond (suc i) (None ∷ xs) ms h lt = no_more_beyond i xs ms h (omega arith)
  no_more_beyond (suc i) (Some x ∷ xs) [] h lt = absurd h
  no_more_beyond (suc i) (Some x ∷ xs) (k ∷ ms) h lt = no_more_beyond i xs ms h (omega arith)

  pub beyond_here : (i : ℕ) (xs : List (Option P)) (ms : List B) (s : P) (m : B) → AreBeyond i xs ms → i < length xs
      → beyond_at (slice_set xs i (Some s)) (ms ++ m ∷ []) i ≡ Some m
  beyond_here zero [] ms s m h lt = absurd (omega arith)
  beyond_here zero (None ∷ xs) [] s m h lt = refl
  beyond_here zero (Some x ∷ xs) [] s m h lt = absurd h
  beyond_here zero (None ∷ xs) (k ∷ ms) s m h lt = absurd h
  beyond_here zero (Some x ∷ xs) (k ∷ ms) s m h lt = absurd h
  beyond_here (suc i) [] ms s m h lt = absurd h
  beyond_here (suc i) (None ∷ xs) ms s m h lt = beyond_here i xs ms s m h (omega arith)
  beyond_here (suc i) (Some x ∷ xs) [] s m h lt = absurd h
  beyond_here (suc i) (Some x ∷ xs) (k ∷ ms) s m h lt = beyond_here i xs ms s m h (omega arith)

  -- an earlier one stays
  pub beyond_stays : (xs : List (Option P)) (ms : List B) (q j : ℕ) (s : P) (k m : B) → beyond_at xs ms q ≡ Some k
      → q < j → beyond_at (slice_set xs j (Some s)) (ms ++ m ∷ []) q ≡ Some k
  beyond_stays [] ms q j s k m h lt = cc
  beyond_stays (None ∷ xs) ms zero j s k m h lt = cc
  beyond_stays (None ∷ xs) ms (suc q) zero s k m h lt = absurd (omega arith)
  beyond_stays (None ∷ xs) ms (suc q) (suc j) s k m h lt = beyond_stays xs ms q j s k m h (omega arith)
  beyond_stays (Some x ∷ xs) [] q j s k m h lt = cc
  beyond_stays (Some x ∷ xs) (y ∷ ms) zero zero s k m h lt = absurd (omega arith)
  beyond_stays (Some x ∷ xs) (y ∷ ms) zero (suc j) s k m h lt = h
  beyond_stays (Some x ∷ xs) (y ∷ ms) (suc q) zero s k m h lt = absurd (omega arith)
  beyond_stays (Some x ∷ xs) (y ∷ ms) (suc q) (suc j) s k m h lt = beyond_stays xs ms q j s k m h (omega arith)
