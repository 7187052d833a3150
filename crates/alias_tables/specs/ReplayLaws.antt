-- Steps over tables that only grow, and their replay.
use Rattle.std.specs.Prelude.{◌≡◌, Bool, true, false, List, [], ◌∷◌, Result, Ok, Err, refl, if◌then◌else◌}
use Rattle.std.proofs.Common.{ap, ◌∙◌, subst}
use Rattle.alias_tables.specs.Steps.{and_then, ◌>>=◌, gives, refuses, each}

-- what a step gives, it gives again under the tables that it left, and under ones that extend them
pub record Replays {T A C : Type 0} (extends : T → T → Type 0) (f : T → Result (A × T) C) : Type 0 where
  pub grows : (t u : T) (x : A) → f t ≡ Ok (x, u) → extends t u
  pub again : (t u v : T) (x : A) → f t ≡ Ok (x, u) → extends u v → f v ≡ Ok (x, v)

value_is : {T A C : Type 0} (p q : A × T) → ◌≡◌ {A = Result (A × T) C} (Ok p) (Ok q) → p ≡ q
value_is p q e = cc

pub first_is : {T A C : Type 0} (x y : A) (t u : T) → ◌≡◌ {A = Result (A × T) C} (Ok (x, t)) (Ok (y, u)) → x ≡ y
first_is {T} {A} x y t u e = ap (λ (p : A × T). p.0) (value_is (x, t) (y, u) e)

pub tables_are : {T A C : Type 0} (x y : A) (t u : T) → ◌≡◌ {A = Result (A × T) C} (Ok (x, t)) (Ok (y, u)) → t ≡ u
tables_are {T} {A} x y t u e = ap (λ (p : A × T). p.1) (value_is (x, t) (y, u) e)

pub not_given : {T A C X : Type 0} (c : C) (y : A) (u : T) → ◌≡◌ {A = Result (A × T) C} (Err c) (Ok (y, u)) → X
not_given c y u e = cc

module _ {T : Type 0} {extends : T → T → Type 0} (reflexive : (t : T) → extends t t)
    (transitive : (t u v : T) → extends t u → extends u v → extends t v) {C : Type 0} where
  pub replays_gives : {A : Type 0} (x : A) → Replays {C = C} extends (gives x)
  replays_gives {A} x = record {
    grows = λ t u y e. let same : t ≡ u = tables_are x y t u e in subst (extends t) same (reflexive t);
    again = λ t u v y e h. ap (λ z. Ok (z, v)) (first_is x y t u e);
  }

  pub replays_refuses : {A : Type 0} (c : C) → Replays {A = A} extends (refuses c)
  replays_refuses {A} c = record { grows = λ t u y e. not_given c y u e; again = λ t u v y e h. not_given c y u e }

  split : {A B : Type 0} (g : A → T → Result (B × T) C) (r : Result (A × T) C) (y : B) (w : T) → and_then r g
      ≡ Ok (y, w) → (x : A) × (u : T) × (r ≡ Ok (x, u)) × (g x u ≡ Ok (y, w))
  split g (Ok p) y w e = (p.0, p.1, refl, e)
  split g (Err c) y w e = not_given c y w e

  -- one step after the other
  pub replays_then : {A B : Type 0} (f : T → Result (A × T) C) (g : A → T → Result (B × T) C) → Replays extends f
      → ((x : A) → Replays extends (g x)) → Replays extends (f >>= g)
  replays_then f g hf hg = record {
    grows = λ t w y e. let s = split g (f t) y w e in
        transitive t s.1 w (hf.grows t s.1 s.0 s.2) ((hg s.0).grows s.1 w y s.3);
    again = λ t w v y e h.
        let s = split g (f t) y w e in
        ap (λ r. and_then r g) (hf.again t s.1 v s.0 s.2 (transitive s.1 w v ((hg s.0).grows s.1 w y s.3) h))
        ∙ (hg s.0).again s.1 w v y s.3 h;
  }

  pub replays_if : {A : Type 0} (b : Bool) (f g : T → Result (A × T) C) → Replays extends f → Replays extends g
      → Replays extends (if b then f else g)
  replays_if true f g hf hg = hf
  replays_if false f g hf hg = hg

  pub replays_each : {X A : Type 0} (f : X → A → T → Result (A × T) C) → ((x : X) (a : A) → Replays extends (f x a))
      → (xs : List X) (a : A) → Replays extends (each f xs a)
  replays_each f h [] a = replays_gives a
  replays_each f h (x ∷ xs) a = replays_then (f x a) (each f xs) (h x a) (replays_each f h xs)
