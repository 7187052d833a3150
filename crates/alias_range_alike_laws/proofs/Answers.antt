-- Steps that both answer, or are both refused for the same cause; and lists, pair by pair.
use Rattle.std.specs.Prelude.{◌≡◌, ℕ, zero, suc, List, [], ◌∷◌, Option, Some, None, Result, Ok, Err, slice_set, length}
use Rattle.std.specs.Prelude.{refl}
use Rattle.std.proofs.Common.{ap, subst}
use Rattle.std.specs.List.{flat_map}
use Rattle.alias_base.specs.Answer.{◌>>=◌}
use Rattle.alias_graph.specs.recorded.Each.{each}
use Rattle.alias_certificate_laws.specs.accepting.Alike.{Paired, none, more, Maybe, nothing, just}
use Rattle.alias_certificate_laws.proofs.accepting.Likeness.{paired_append}

-- ---- answers

pub data Both {A B E : Type 0} (R : A → B → Type 0) : Result A E → Result B E → Type 0 where
  answered : {a : A} {b : B} → R a b → Both R (Ok a) (Ok b)
  refused : (e : E) → Both R (Err e) (Err e)

-- what an answer has beside it
pub record Beside {A B E : Type 0} (R : A → B → Type 0) (a : A) (s : Result B E) : Type 0 where
  pub other : B
  pub is : s ≡ Ok other
  pub alike : R a other

found : {A B E : Type 0} (R : A → B → Type 0) (a : A) (s : Result B E) → Both {E = E} R (Ok a) s → Beside {E = E} R a s
found R a s (answered {b = b} q) = record { other = b; is = refl; alike = q }

pub beside : {A B E : Type 0} (R : A → B → Type 0) (r : Result A E) (s : Result B E) (a : A) → Both R r s → r ≡ Ok a
    → Beside R a s
beside R r s a q is = found R a s (subst (λ z. Both R z s) is q)

-- one after the other
pub both_then : {A B C D E : Type 0} (R : A → B → Type 0) (S : C → D → Type 0) (r : Result A E) (s : Result B E)
    (f : A → Result C E) (g : B → Result D E) → Both R r s → ((a : A) (b : B) → R a b → Both S (f a) (g b))
    → Both S (r >>= f) (s >>= g)
both_then R S r s f g (answered q) h = h _ _ q
both_then R S r s f g (refused e) h = refused e

-- behind the same step
pub both_after : {A C D E : Type 0} (S : C → D → Type 0) (r : Result A E) (f : A → Result C E) (g : A → Result D E)
    → ((a : A) → Both S (f a) (g a)) → Both S (r >>= f) (r >>= g)
both_after S (Ok a) f g h = h a
both_after S (Err e) f g h = refused e

pub each_alike : {A B S T E : Type 0} (Q : A → B → Type 0) (R : S → T → Type 0) (f : A → S → Result S E)
    (g : B → T → Result T E) → ((a : A) (b : B) (s : S) (t : T) → Q a b → R s t → Both R (f a s) (g b t))
    → (xs : List A) (ys : List B) (s : S) (t : T) → Paired Q xs ys → R s t → Both R (each f xs s) (each g ys t)
each_alike Q R f g h xs ys s t none q = answered q
each_alike Q R f g h xs ys s t (more {a = a} {b = b} {xs = us} {ys = vs} p ps) q =
    both_then R R (f a s) (g b t) (λ u. each f us u) (λ v. each g vs v) (h a b s t p q)
    (λ u v r. each_alike Q R f g h us vs u v ps r)

-- the same items
pub each_same : {A S T E : Type 0} (R : S → T → Type 0) (f : A → S → Result S E) (g : A → T → Result T E)
    → ((a : A) (s : S) (t : T) → R s t → Both R (f a s) (g a t))
    → (xs : List A) (s : S) (t : T) → R s t → Both R (each f xs s) (each g xs t)
each_same R f g h [] s t q = answered q
each_same R f g h (x ∷ xs) s t q = both_then R R (f x s) (g x t) (λ u. each f xs u) (λ v. each g xs v) (h x s t q)
    (λ u v r. each_same R f g h xs u v r)

-- ---- lists

pub paired_set : {A B : Type 0} {Q : A → B → Type 0} (n : ℕ) (x : A) (y : B) (xs : List A) (ys : List B) → Q x y
    → Paired Q xs ys → Paired Q (slice_set xs n x) (slice_set ys n y)
paired_set n x y xs ys q none = none
paired_set zero x y xs ys q (more p ps) = more q ps
paired_set (suc n) x y xs ys q (more {xs = us} {ys = vs} p ps) = more p (paired_set n x y us vs q ps)

pub paired_flat : {A B C D : Type 0} (Q : A → B → Type 0) (R : C → D → Type 0) (f : A → List C) (g : B → List D)
    → ((a : A) (b : B) → Q a b → Paired R (f a) (g b))
    → (xs : List A) (ys : List B) → Paired Q xs ys → Paired R (flat_map f xs) (flat_map g ys)
paired_flat Q R f g h xs ys none = none
paired_flat Q R f g h xs ys (more {a = a} {b = b} {xs = us} {ys = vs} p ps) =
    paired_append (h a b p) (paired_flat Q R f g h us vs ps)

pub flat_alike : {A C D : Type 0} (R : C → D → Type 0) (f : A → List C) (g : A → List D)
    → ((a : A) → Paired R (f a) (g a)) → (xs : List A) → Paired R (flat_map f xs) (flat_map g xs)
flat_alike R f g h [] = none
flat_alike R f g h (x ∷ xs) = paired_append (h x) (flat_alike R f g h xs)

pub same_length : {A B : Type 0} {Q : A → B → Type 0} (xs : List A) (ys : List B) → Paired Q xs ys → length ys
    ≡ length xs
same_length xs ys none = refl
same_length xs ys (more {xs = us} {ys = vs} p ps) = ap suc (same_length us vs ps)

-- of two options neither is there, or both
pub maybe_by : {A B : Type 0} {Q : A → B → Type 0} (P : Option A → Option B → Type 0) → P None None
    → ((a : A) (b : B) → Q a b → P (Some a) (Some b)) → (o : Option A) (p : Option B) → Maybe Q o p → P o p
maybe_by P n s o p nothing = n
maybe_by P n s o p (just {a = a} {b = b} q) = s a b q
