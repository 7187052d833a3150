-- Visits by a closure that changes each place in one way, and loops that change each item of a list.
use Rattle.std.proofs.Common.{◌≡◌, ℕ, ◌+◌, ◌++◌, Option, Some, None, take, drop, slice_get, slice_set, get_or, length}
use Rattle.std.proofs.Common.{◌<◌, suc, zero, arith, List, [], ◌∷◌, map, refl, ap, ◌∙◌}
use Rattle.std.proofs.lemmas.List.Edits.{map_over_more}
use Rattle.std.specs.Borrow.{MutBor}
use Rattle.std.specs.Fn.{Mut}
use Rattle.std.specs.Option.{option_map_or}
use Rattle.alias_hir.specs.declared.place.Place.{Place}
use Rattle.alias_visit.specs.Visits.{Visits, VisitsEach}
use Rattle.indexmap.specs.IndexMap.{set_value_at}

module _ {F : Type 0} (g : Mut F (MutBor Place × Unit {0}) (Unit {0} × (MutBor Place × Unit {0}))) (h : Place → Place)
    (Is : F → Type 0) where
  pub visits_map : ((f : F) (p : Place) (f' : F) (q : Place) → Is f → Visits g f p f' q → (q ≡ h p) × Is f')
      → (f : F) (ps : List Place) (f' : F) (qs : List Place) → Is f → VisitsEach g f ps f' qs → qs ≡ map h ps
  visits_map each f [] f' [] is v = refl
  visits_map each f [] f' (q ∷ qs) is v = absurd v
  visits_map each f (p ∷ ps) f' [] is v = absurd v
  visits_map each f (p ∷ ps) f' (q ∷ qs) is v =
      let now = each f p v.0 q is v.1 in
      ap (λ z. z ∷ qs) now.0 ∙ ap (λ z. h p ∷ z) (visits_map each v.0 ps f' qs now.1 v.2)

-- one value more of the entries is changed
module _ {K V : Type 0} (f : V → V) where
  abbrev value_changed : K × V → K × V
  value_changed e = (e.0, f e.1)

  abbrev pub changed_at : ℕ → List (K × V) → List (K × V)
  changed_at i es = option_map_or (λ (x : K × V). set_value_at es i (f x.1)) (slice_get es i) es

  push_in : (o : Option (K × V)) (e : K × V) (es : List (K × V)) (i : ℕ)
      → option_map_or (λ (x : K × V). e ∷ set_value_at es i (f x.1)) o (e ∷ es) ≡ e
      ∷ option_map_or (λ (x : K × V). set_value_at es i (f x.1)) o es
  push_in None e es i = refl
  push_in (Some x) e es i = refl

  abbrev step_there : List (K × V) → ℕ → List (K × V)
  step_there es i = map (value_changed) (take i es) ++ drop i es

  pub value_step : (es : List (K × V)) (i : ℕ) → changed_at i (step_there es i) ≡ step_there es (i + 1)
  value_step [] zero = refl
  value_step [] (suc i) = let e : suc (i + 1) ≡ suc i + 1 = omega arith in ap (step_there []) e
  value_step (x ∷ es) zero = refl
  value_step (x ∷ es) (suc i) =
      let e : suc (i + 1) ≡ suc i + 1 = omega arith in
      push_in (slice_get (step_there es i) i) (value_changed x) (step_there es i) i
      ∙ ap (λ z. value_changed x ∷ z) (value_step es i) ∙ ap (step_there (x ∷ es)) e

module _ {A : Type 0} where
  read_again : (ys : List A) (i : ℕ) (d : A) → i < length ys → get_or ys i d ≡ get_or ys i (get_or ys i d)
  read_again [] i d h = absurd (omega arith)
  read_again (y ∷ ys) zero d h = refl
  read_again (y ∷ ys) (suc i) d h = read_again ys i d (omega arith)

  -- one item more of a list is changed
  pub item_step : (f : A → A) (xs ys : List A) (i : ℕ) (d : A) → i < length xs → length ys ≡ length xs → ys
      ≡ map f (take i xs) ++ drop i xs → slice_set ys i (f (get_or ys i d)) ≡ map f (take (i + 1) xs) ++ drop (i + 1) xs
  item_step f xs ys i d h same is = map_over_more f xs ys i (get_or ys i d) h is (read_again ys i d (omega arith))
