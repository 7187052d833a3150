-- Two steps of which the second gives what the first does, from tables of which something is known: the words that
-- steps are made of.
use Rattle.std.specs.Prelude.{◌≡◌, Bool, true, false, List, [], ◌∷◌, Result, Ok, Err, refl, if◌then◌else◌}
use Rattle.std.specs.List.{AllByRecursion}
use Rattle.std.proofs.Common.{ap, ◌∙◌}
use Rattle.alias_hir.specs.declared.env.Environment.{Environment}
use Rattle.alias_tables.specs.GrowingLaws.{Extends}
use Rattle.alias_tables.specs.Steps.{◌>>=◌, and_then, gives, refuses, each}
use Rattle.alias_tables.specs.Tables.{TableLists}
use Rattle.alias_walks.specs.Law.{Law}
use Rattle.alias_walks.specs.Words.{all_mapped, StepOf, Growing, Leads, lead_gives, lead_refuses, lead_then}

module _ {env : Environment} (L : Law env) where
  -- the first leads on, and the second gives the same
  pub record Both {A C : Type 0} (P : TableLists → A → Type 0) (f g : StepOf C A) (t : TableLists) : Type 0 where
    pub leads : Leads L P f t
    pub same : g t ≡ f t

module _ {env : Environment} (L : Law env) {C : Type 0} where
  pub both_self : {A : Type 0} (P : TableLists → A → Type 0) (f : StepOf C A) (t : TableLists) → Leads L P f t
      → Both L P f f t
  both_self P f t h = record { leads = h; same = refl }

  pub both_gives : {A : Type 0} (P : TableLists → A → Type 0) (x : A) (t : TableLists) → L.Kept t → P t x
      → Both L {C = C} P (gives x) (gives x) t
  both_gives P x t k p = both_self P (gives x) t (lead_gives L P x t k p)

  pub both_refuses : {A : Type 0} (P : TableLists → A → Type 0) (c : C) (t : TableLists)
      → Both L P (refuses c) (refuses c) t
  both_refuses P c t = both_self P (refuses c) t (lead_refuses L P c t)

  module _ {A B : Type 0} (P : TableLists → A → Type 0) (f : StepOf C A) (g h : A → StepOf C B) (t : TableLists)
      (leads : Leads L P f t)
      (m : (x : A) (u : TableLists) → Extends t u → L.Kept u → P u x → h x u ≡ g x u) where
    after : (r : Result (A × TableLists) C) → f t ≡ r → and_then r h ≡ and_then r g
    after (Ok p) is = let a = leads.leads p.1 p.0 is in m p.0 p.1 a.grown a.kept a.value
    after (Err c) is = refl

    -- what follows a step is the same, where it is so after what the step gives
    pub same_then : (f >>= h) t ≡ (f >>= g) t
    same_then = after (f t) refl

  -- one step after the other
  pub both_then : {A B : Type 0} (P : TableLists → A → Type 0) (Q : TableLists → B → Type 0) (f f2 : StepOf C A)
      (g g2 : A → StepOf C B) (t : TableLists) → Both L P f f2 t
      → ((x : A) (u : TableLists) → Extends t u → L.Kept u → P u x → Both L Q (g x) (g2 x) u)
      → Both L Q (f >>= g) (f2 >>= g2) t
  both_then P Q f f2 g g2 t h m = record {
    leads = lead_then L P Q f g t h.leads (λ x u e k p. (m x u e k p).leads);
    same = ap (λ r. and_then r g2) h.same ∙ same_then P f g g2 t h.leads (λ x u e k p. (m x u e k p).same);
  }

  pub both_if : {A : Type 0} (P : TableLists → A → Type 0) (b : Bool) (f f2 g g2 : StepOf C A) (t : TableLists)
      → Both L P f f2 t → Both L P g g2 t → Both L P (if b then f else g) (if b then f2 else g2) t
  both_if P true f f2 g g2 t h m = h
  both_if P false f f2 g g2 t h m = m

  pub both_each : {X A : Type 0} (R : TableLists → X → Type 0) (P : TableLists → A → Type 0) (f g : X → A → StepOf C A)
      → Growing R
      → ((x : X) (a : A) (t : TableLists) → L.Kept t → R t x → P t a → Both L P (f x a) (g x a) t)
      → (xs : List X) (a : A) (t : TableLists) → L.Kept t → AllByRecursion (R t) xs → P t a
      → Both L P (each f xs a) (each g xs a) t
  both_each R P f g grow h [] a t k r p = both_gives P a t k p
  both_each R P f g grow h (x ∷ xs) a t k r p =
      both_then P P (f x a) (g x a) (each f xs) (each g xs) t (h x a t k r.0 p)
      (λ b u e l q. both_each R P f g grow h xs b u l (all_mapped (R t) (R u) (grow t u e) xs r.1) q)
