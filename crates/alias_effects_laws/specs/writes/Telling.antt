-- Steps that tell what they come to: each item of a list has Q of what the step gives.
use Rattle.std.specs.Prelude.{◌≡◌, List, [], ◌∷◌, ◌++◌, Result, Ok, Err, refl}
use Rattle.std.specs.List.{AllByRecursion}
use Rattle.std.proofs.Common.{subst}
use Rattle.alias_tables.specs.ReplayLaws.{first_is, not_given}
use Rattle.alias_tables.specs.Steps.{◌>>=◌, and_then, each}
use Rattle.alias_tables.specs.Tables.{TableLists}
use Rattle.alias_walks.specs.Words.{all_appended}
use Rattle.alias_effects_laws.specs.writes.Writes.{after_answer, after, over_each}

-- a step that is refused for a C
abbrev StepOf : Type 0 → Type 0 → Type 0
StepOf C A = TableLists → Result (A × TableLists) C

-- each of the items has Q of what is there
abbrev pub All : {A W : Type 0} → (A → W → Type 0) → List W → A → Type 0
All Q ws y = AllByRecursion (Q y) ws

module _ {C : Type 0} where
  -- what the step gives is P
  abbrev pub LeadsTo : {A : Type 0} → (A → Type 0) → StepOf C A → Type 0
  LeadsTo {A} P f = (t u : TableLists) (y : A) → f t ≡ Ok (y, u) → P y

  bound_leads : {A B : Type 0} (P : A → Type 0) (Q : B → Type 0) (r : Result (A × TableLists) C) (g : A → StepOf C B)
      (u : TableLists) (y : B)
      → ((x : A) (v : TableLists) → r ≡ Ok (x, v) → P x) → ((x : A) → P x → LeadsTo Q (g x)) → and_then r g ≡ Ok (y, u)
      → Q y
  bound_leads P Q (Ok p) g u y f h e = h p.0 (f p.0 p.1 refl) p.1 u y e
  bound_leads P Q (Err c) g u y f h e = not_given c y u e

  pub leads_then : {A B : Type 0} (P : A → Type 0) (Q : B → Type 0) (f : StepOf C A) (g : A → StepOf C B) → LeadsTo P f
      → ((x : A) → P x → LeadsTo Q (g x)) → LeadsTo Q (f >>= g)
  leads_then P Q f g hf hg t u y e = bound_leads P Q (f t) g u y (λ x v. hf t v x) hg e

  pub leads_each : {X A : Type 0} (P : A → Type 0) (f : X → A → StepOf C A)
      → ((x : X) (a : A) → P a → LeadsTo P (f x a)) → (xs : List X) (a : A) → P a → LeadsTo P (each f xs a)
  leads_each P f h [] a p t u y e = subst P (first_is a y t u e) p
  leads_each P f h (x ∷ xs) a p t u y e = leads_then P P (f x a) (each f xs) (h x a p) (leads_each P f h xs) t u y e

  module _ {A W : Type 0} (Q : A → W → Type 0) where
    -- each item that the step comes to has Q of what the step gives
    abbrev pub Tells : StepOf C A → (TableLists → List W) → Type 0
    Tells f items = (t u : TableLists) (y : A) → f t ≡ Ok (y, u) → All Q (items t) y

    pub tells_nothing : (f : StepOf C A) → Tells f (λ t. [])
    tells_nothing f t u y e = tt

    tells_bound : {B : Type 0} (r : Result (B × TableLists) C) (g : B → StepOf C A) (items : B → TableLists → List W)
        (u : TableLists) (y : A)
        → ((x : B) → Tells (g x) (items x)) → and_then r g ≡ Ok (y, u) → All Q (after_answer r items) y
    tells_bound (Ok p) g items u y h e = h p.0 p.1 u y e
    tells_bound (Err c) g items u y h e = not_given c y u e

    -- a step whose own items are none, and then another
    pub tells_after : {B : Type 0} (f : StepOf C B) (g : B → StepOf C A) (items : B → TableLists → List W)
        → ((x : B) → Tells (g x) (items x)) → Tells (f >>= g) (after f items)
    tells_after f g items h t u y e = tells_bound (f t) g items u y h e

    tells_first : (ws : List W) (r : Result (A × TableLists) C) (g : A → StepOf C A) (u : TableLists) (y : A)
        → ((z : A) (v : TableLists) → r ≡ Ok (z, v) → All Q ws z) → ((z : A) → All Q ws z → LeadsTo (All Q ws) (g z))
        → and_then r g ≡ Ok (y, u) → All Q ws y
    tells_first ws r g u y f h e = bound_leads (All Q ws) (All Q ws) r g u y f h e

    -- a step, and then another whose items are none and which keeps what is reported
    pub tells_before : (f : StepOf C A) (items : TableLists → List W) (next : A → StepOf C A) → Tells f items
        → ((ws : List W) (z : A) → All Q ws z → LeadsTo (All Q ws) (next z)) → Tells (f >>= next) items
    tells_before f items next hf hg t u y e = tells_first (items t) (f t) next u y (λ z v. hf t v z) (hg (items t)) e

    -- a step for each of a list, where each keeps what is reported
    module _ {X : Type 0} (step : X → A → StepOf C A) (items : X → A → TableLists → List W)
        (tells : (x : X) (a : A) → Tells (step x a) (items x a))
        (keeps : (ws : List W) (x : X) (a : A) → All Q ws a → LeadsTo (All Q ws) (step x a)) where
      tells_both : (x : X) (xs : List X) (a : A) (t u : TableLists) (y : A) (r : Result (A × TableLists) C)
          → ((z : A) → Tells (each step xs z) (over_each step items xs z)) → step x a t ≡ r → and_then r (each step xs)
          ≡ Ok (y, u) → All Q (items x a t ++ after_answer r (over_each step items xs)) y
      tells_both x xs a t u y (Ok p) later is e =
          let ws = items x a t in
          all_appended (Q y) ws (over_each step items xs p.0 p.1)
          (leads_each (All Q ws) step (keeps ws) xs p.0 (tells x a t p.1 p.0 is) p.1 u y e)
          (later p.0 p.1 u y e)
      tells_both x xs a t u y (Err c) later is e = not_given c y u e

      pub tells_each : (xs : List X) (a : A) → Tells (each step xs a) (over_each step items xs a)
      tells_each [] a t u y e = tt
      tells_each (x ∷ xs) a t u y e = tells_both x xs a t u y (step x a t) (tells_each xs) refl e
