-- The set of context places that are only read.
use Rattle.std.specs.Prelude.{◌≡◌, ℕ, Bool, true, false, cond, ◌&&◌, ◌||◌, ◌==◌, List, [], ◌∷◌, ◌++◌, refl}
use Rattle.std.proofs.Common.{ap, sym, ◌∙◌, arith}
use Rattle.std.specs.declared.cmp.Ordering.{Ordering}
use Rattle.std.specs.declared.cmp.Ordering.TheVariants.{Less, Equal, Greater}
use Rattle.std.specs.Ordering.{nat_cmp, is_eq, ordering_then}
use Rattle.std.specs.BTreeMap.{is_at}
use Rattle.std.specs.BTreeSet.{BTreeSet, contains, Updates}
use Rattle.std.proofs.lemmas.Grind.{common_steps}
use Rattle.alias_tables.specs.declared.reads.ContextRead.{ContextRead}
use Rattle.alias_tables.specs.Reads.{same_read, is_noted, read_cmp, IsSetOf}

nat_ties : (a b : ℕ) → is_eq (nat_cmp a b) ≡ (a == b)
nat_ties a b = grind (arith, common_steps)

then_ties : (o p : Ordering) → is_eq (ordering_then o p) ≡ (is_eq o && is_eq p)
then_ties Less p = refl
then_ties Equal p = refl
then_ties Greater p = refl

-- the order of places ties where they are the same
ties : (r q : ContextRead) → is_at (read_cmp r) q ≡ same_read r q
ties r q =
    then_ties (nat_cmp r.function.0 q.function.0) (nat_cmp r.place.0 q.place.0)
    ∙ ap (λ b. b && is_eq (nat_cmp r.place.0 q.place.0)) (nat_ties r.function.0 q.function.0)
    ∙ ap (λ b. (r.function.0 == q.function.0) && b) (nat_ties r.place.0 q.place.0)

or_later : (a b c : Bool) → (a || cond b true c) ≡ cond b true (a || c)
or_later true true c = refl
or_later true false c = refl
or_later false b c = refl

noted_more : (q r : ContextRead) (reads : List ContextRead) → is_noted q (reads ++ r ∷ [])
    ≡ cond (same_read r q) true (is_noted q reads)
noted_more q r [] = elim (same_read r q) as (λ b. (b || false) ≡ cond b true false) [ true ↦ refl | false ↦ refl ]
noted_more q r (x ∷ reads) = ap (λ b. same_read x q || b) (noted_more q r reads)
    ∙ or_later (same_read x q) (same_read r q) (is_noted q reads)

-- the set with one more place has those of the list with one more
pub set_of_more : (s n : BTreeSet ContextRead) (reads : List ContextRead) (r : ContextRead) → IsSetOf s reads
    → Updates read_cmp s n r true → IsSetOf n (reads ++ r ∷ [])
set_of_more s n reads r is u q =
    u.0 q
    ∙ ap (λ b. cond b true (contains read_cmp s q)) (ties r q)
    ∙ ap (cond (same_read r q) true) (is q)
    ∙ sym (noted_more q r reads)
