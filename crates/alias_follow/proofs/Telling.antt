-- What is told of the items of a list, one after the other.
use Rattle.std.specs.List.{AllByRecursion}
use Rattle.std.proofs.Common.{◌≡◌, ℕ, zero, suc, ◌+◌, ◌<◌, ◌≤◌, List, [], ◌∷◌, length, take, get_or, arith, subst}

-- of one more item
pub one_more_told : {X : Type 0} (p : X → Type 0) (xs : List X) (k : ℕ) (x : X) → k < length xs → x ≡ get_or xs k x → p x
    → AllByRecursion p (take k xs) → AllByRecursion p (take (k + 1) xs)
one_more_told p [] k x lt is h a = absurd (omega arith)
one_more_told p (y ∷ ys) zero x lt is h a = (subst p is h, tt)
one_more_told p (y ∷ ys) (suc k) x lt is h a =
    let e : suc k + 1 ≡ suc (k + 1) = omega arith in
    rw e (a.0, one_more_told p ys k x (omega arith) is h a.1)

-- of all of them
pub all_told : {X : Type 0} (p : X → Type 0) (xs : List X) (k : ℕ) → length xs ≤ k → AllByRecursion p (take k xs)
    → AllByRecursion p xs
all_told p [] k le a = tt
all_told p (y ∷ ys) zero le a = absurd (omega arith)
all_told p (y ∷ ys) (suc k) le a = (a.0, all_told p ys k (omega arith) a.1)
