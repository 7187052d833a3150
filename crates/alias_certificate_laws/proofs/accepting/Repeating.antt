-- Steps that are alike, put together.
use Rattle.std.proofs.Common.{◌≡◌, Bool, true, false, List, ◌++◌, Option, Some, None, Result, Ok, Err, refl, ap, sym}
use Rattle.std.proofs.Common.{◌∙◌, subst, append_assoc, if◌then◌else◌}
use Rattle.alias_tables.specs.GrowingLaws.{Grows, grows_self}
use Rattle.alias_tables.specs.ReplayLaws.{first_is, tables_are, not_given}
use Rattle.alias_tables.specs.Steps.{and_then, ◌>>=◌, gives, refuses, each, if_some, collect}
use Rattle.alias_tables.specs.Tables.{TableLists}
use Rattle.alias_tables.specs.declared.temporaries.Temporary.{Temporary}
use Rattle.alias_certificate_laws.specs.accepting.Alike.{Paired, none, more, Maybe, nothing, just, AlikeTemporaries}
use Rattle.alias_certificate_laws.specs.accepting.Alike.{Gives, given, excused, Repeats}

pub grows_through : {A : Type 0} (xs ys zs : List A) → Grows xs ys → Grows ys zs → Grows xs zs
grows_through xs ys zs g h = record {
  more = g.more ++ h.more;
  is = sym (append_assoc xs g.more h.more) ∙ ap (λ l. l ++ h.more) g.is ∙ h.is;
}

split : {A B C : Type 0} (g : A → TableLists → Result (B × TableLists) C) (r : Result (A × TableLists) C) (y : B)
    (w : TableLists) → and_then r g ≡ Ok (y, w) → (x : A) × (u : TableLists) × (r ≡ Ok (x, u)) × (g x u ≡ Ok (y, w))
split g (Ok p) y w e = (p.0, p.1, refl, e)
split g (Err c) y w e = not_given c y w e

pub maybe_self : {A : Type 0} (R : A → A → Type 0) → ((a : A) → R a a) → (o : Option A) → Maybe R o o
maybe_self R self None = nothing
maybe_self R self (Some a) = just (self a)

module _ {C : Type 0} {is_excused : C → Type 0} {whole : List Temporary} where
  pub repeats_gives : {A : Type 0} (R : A → A → Type 0) (x y : A) → R x y
      → Repeats is_excused whole R (gives x) (gives y)
  repeats_gives R x y r = record {
    grows = λ t u z e. subst (λ (w : TableLists). Grows t.temporaries w.temporaries) (tables_are x z t u e)
        (grows_self t.temporaries);
    again = λ t u v z e g a. given y v refl (subst (λ w. R w y) (first_is x z t u e) r) a;
  }

  pub repeats_refuses : {A : Type 0} (R : A → A → Type 0) (c : C) (g : TableLists → Result (A × TableLists) C)
      → Repeats is_excused whole R (refuses c) g
  repeats_refuses R c g = record { grows = λ t u y e. not_given c y u e; again = λ t u v y e h a. not_given c y u e }

  module _ {A B : Type 0} (R : A → A → Type 0) (S : B → B → Type 0) (self : (x : A) → R x x) where
    next_given : (g : A → TableLists → Result (B × TableLists) C) (x : A) (z : B) (r : Result (A × TableLists) C)
        → Gives is_excused whole R x r
        → ((y : A) (v : TableLists) → R x y → AlikeTemporaries whole v.temporaries → Gives is_excused whole S z (g y v))
        → Gives is_excused whole S z (and_then r g)
    next_given g x z r (given y v is a t) k =
        subst (λ q. Gives is_excused whole S z (and_then q g)) (sym is) (k y v a t)
    next_given g x z r (excused c is why) k = excused c (ap (λ q. and_then q g) is) why

    -- one step after the other
    pub repeats_then : (f g : TableLists → Result (A × TableLists) C) (h k : A → TableLists → Result (B × TableLists) C)
        → Repeats is_excused whole R f g
        → ((x y : A) → R x y → Repeats is_excused whole S (h x) (k y)) → Repeats is_excused whole S (f >>= h) (g >>= k)
    repeats_then f g h k a b = record {
      grows = λ t w z e. let s = split h (f t) z w e in
          grows_through t.temporaries s.1.temporaries w.temporaries (a.grows t s.1 s.0 s.2)
          ((b s.0 s.0 (self s.0)).grows s.1 w z s.3);
      again = λ t w v z e g₁ like.
          let s = split h (f t) z w e in
          next_given k s.0 z (g v) (a.again t s.1 v s.0 s.2
          (grows_through s.1.temporaries w.temporaries whole ((b s.0 s.0 (self s.0)).grows s.1 w z s.3) g₁) like)
          (λ y u r more. (b s.0 y r).again s.1 w u z s.3 g₁ more);
    }

  pub repeats_if : {A : Type 0} (R : A → A → Type 0) (b : Bool) (f g h k : TableLists → Result (A × TableLists) C)
      → Repeats is_excused whole R f g → Repeats is_excused whole R h k
      → Repeats is_excused whole R (if b then f else h) (if b then g else k)
  repeats_if R true f g h k a b = a
  repeats_if R false f g h k a b = b

  pub repeats_if_same : {A : Type 0} (R : A → A → Type 0) (b c : Bool)
      (f g h k : TableLists → Result (A × TableLists) C) → b ≡ c → Repeats is_excused whole R f g
      → Repeats is_excused whole R h k
      → Repeats is_excused whole R (if b then f else h) (if c then g else k)
  repeats_if_same R b c f g h k same a d =
      subst (λ t. Repeats is_excused whole R (if b then f else h) (if t then g else k)) same
      (repeats_if R b f g h k a d)

  -- a step for each of two lists that are alike
  pub repeats_each : {X A : Type 0} (Q : X → X → Type 0) (R : A → A → Type 0) (self : (a : A) → R a a)
      (f g : X → A → TableLists → Result (A × TableLists) C)
      → ((x y : X) → Q x y → (a b : A) → R a b → Repeats is_excused whole R (f x a) (g y b)) → (xs ys : List X)
      → Paired Q xs ys → (a b : A) → R a b → Repeats is_excused whole R (each f xs a) (each g ys b)
  repeats_each Q R self f g h xs ys none a b r = repeats_gives R a b r
  repeats_each Q R self f g h xs ys (more {a = x} {b = y} {xs = us} {ys = vs} q qs) a b r =
      repeats_then R R self (f x a) (g y b) (each f us) (each g vs) (h x y q a b r)
      (λ c d s. repeats_each Q R self f g h us vs qs c d s)

  if_just : {A B : Type 0} (S : A → A → Type 0) (R : B → B → Type 0) (o p : Option A)
      (f g : A → TableLists → Result (Option B × TableLists) C) → Maybe S o p
      → ((x y : A) → S x y → Repeats is_excused whole (Maybe R) (f x) (g y))
      → Repeats is_excused whole (Maybe R) (if_some o f) (if_some p g)
  if_just S R o p f g nothing h = repeats_gives (Maybe R) None None nothing
  if_just S R o p f g (just {a = x} {b = y} s) h = h x y s

  -- a step for each of two lists that are alike, until one gives up
  pub repeats_collect : {X A : Type 0} (Q : X → X → Type 0) (R : A → A → Type 0) (self : (a : A) → R a a)
      (f g : X → A → TableLists → Result (Option A × TableLists) C)
      → ((x y : X) → Q x y → (a b : A) → R a b → Repeats is_excused whole (Maybe R) (f x a) (g y b)) → (xs ys : List X)
      → Paired Q xs ys → (a b : A) → R a b → Repeats is_excused whole (Maybe R) (collect f xs a) (collect g ys b)
  repeats_collect Q R self f g h xs ys none a b r = repeats_gives (Maybe R) (Some a) (Some b) (just r)
  repeats_collect Q R self f g h xs ys (more {a = x} {b = y} {xs = us} {ys = vs} q qs) a b r =
      repeats_then (Maybe R) (Maybe R) (maybe_self R self) (f x a) (g y b) (λ o. if_some o (collect f us))
      (λ o. if_some o (collect g vs)) (h x y q a b r)
      (λ o p m. if_just R R o p (collect f us) (collect g vs) m
      (λ c d s. repeats_collect Q R self f g h us vs qs c d s))
