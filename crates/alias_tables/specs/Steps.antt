-- Steps that read tables and extend them, and the words that they are made of.
use Rattle.std.specs.Prelude.{List, [], ◌∷◌, Option, None, Some, Result, Ok, Err}

module _ {T C : Type 0} where
  abbrev pub and_then : {A B : Type 0} → Result (A × T) C → (A → T → Result (B × T) C) → Result (B × T) C
  and_then (Ok p) f = f p.0 p.1
  and_then (Err c) f = Err c

  -- one step, and then another with what the first gives and the tables that it leaves
  infixl 10 ◌>>=◌
  abbrev pub ◌>>=◌ : {A B : Type 0} → (T → Result (A × T) C) → (A → T → Result (B × T) C) → T → Result (B × T) C
  (f >>= g) t = and_then (f t) g

  -- the value, with the tables as they are
  abbrev pub gives : {A : Type 0} → A → T → Result (A × T) C
  gives x t = Ok (x, t)

  abbrev pub refuses : {A : Type 0} → C → T → Result (A × T) C
  refuses c t = Err c

  -- a step for each of a list, in order
  abbrev pub each : {X A : Type 0} → (X → A → T → Result (A × T) C) → List X → A → T → Result (A × T) C
  each f [] a t = Ok (a, t)
  each f (x ∷ xs) a t = and_then (f x a t) (each f xs)

  -- the next step, unless what is made was given up
  abbrev pub if_some : {A B : Type 0} → Option A → (A → T → Result (Option B × T) C) → T → Result (Option B × T) C
  if_some None f t = Ok (None, t)
  if_some (Some x) f t = f x t

  -- a step for each of a list, in order, until one gives up
  abbrev pub collect : {X A : Type 0} → (X → A → T → Result (Option A × T) C) → List X → A → T → Result (Option A × T) C
  collect f [] a t = Ok (Some a, t)
  collect f (x ∷ xs) a t = and_then (f x a t) (λ o. if_some o (collect f xs))
