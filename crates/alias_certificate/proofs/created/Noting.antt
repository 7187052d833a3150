-- A set of numbers, and the functions that are still to be noted in it.
use Rattle.std.specs.Prelude.{slice_index_or}
use Rattle.std.proofs.Common.{◌≡◌, ℕ, ◌+◌, ◌<◌, true, cond, ◌||◌, List, ◌∷◌, drop, length, arith, nat_eq, drop-cons}
use Rattle.std.proofs.Common.{add-one}
use Rattle.std.specs.Ordering.{nat_cmp}
use Rattle.std.specs.BTreeSet.{BTreeSet, contains, Updates}
use Rattle.std.specs.BTreeMap.{is_at}
use Rattle.std.proofs.lemmas.Grind.{common_steps}
use Rattle.alias_base.specs.declared.ids.FunctionId.{FunctionId}
use Rattle.alias_certificate.specs.states.States.{is_created}

pub from_index : (xs : List FunctionId) (i : ℕ) → i < length xs → drop i xs ≡ slice_index_or xs i (record { 0 = 0 })
    ∷ drop (i + 1) xs
from_index xs i h = rw (add-one i) (drop-cons xs i (record { 0 = 0 }) h)

is_at-nat : (k q : ℕ) → is_at (nat_cmp k) q ≡ nat_eq k q
is_at-nat k q = grind (arith, common_steps)

pub has_next : (s n : BTreeSet ℕ) (xs ys : List FunctionId) (x f : FunctionId) → xs ≡ x ∷ ys
    → Updates nat_cmp s n x.0 true
    → (contains nat_cmp s f.0 || is_created xs f) ≡ (contains nat_cmp n f.0 || is_created ys f)
has_next s n xs ys x f e u =
    let a : contains nat_cmp n f.0 ≡ cond (is_at (nat_cmp x.0) f.0) true (contains nat_cmp s f.0) = u.0 f.0 in
    grind (arith, common_steps, is_at-nat)
