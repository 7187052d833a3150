-- What is printed of a list in the order of its keys, which is gone through from each entry to the next.
use Rattle.std.proofs.Common.{◌≡◌, ℕ, List, ◌++◌, sym, ◌∙◌, ap, subst, append_assoc, append-nil}
use Rattle.std.proofs.Math.Dec.{T}
use Rattle.std.specs.Prelude.{Option, Some, None}
use Rattle.std.specs.List.{AllByRecursion, flat_map}
use Rattle.std.specs.declared.cmp.Ordering.{Ordering}
use Rattle.std.specs.Cmp.{IsTotalOrder}
use Rattle.std.specs.FinMap.{is_sorted}
use Rattle.alias_lattice.specs.Nexts.{next_entry}
use Rattle.alias_lattice.specs.WalkLaws.{left_after, left-some, left-end}

module _ {K X : Type 0} (R : K → K → Ordering) where
  module _ (o : IsTotalOrder R) where
    -- all is so where what is left is so, also once the next entry is
    pub still_all : (P : K × X → Type 0) (after : Option K) (t : List (K × X)) (e : K × X) → next_entry R after t
        ≡ Some e → T (is_sorted R t) → P e
        → (AllByRecursion P (left_after R after t) → AllByRecursion P t) → AllByRecursion P (left_after R (Some e.0) t)
        → AllByRecursion P t
    still_all P after t e h s p i l = i (subst (AllByRecursion P) (sym (left-some R o after t e h s)) (p, l))

    -- what is left completes the text, also once the next entry is appended
    pub still_complete : (f : K × X → List ℕ) (all out more : List ℕ) (after : Option K) (t : List (K × X)) (e : K × X)
        → next_entry R after t ≡ Some e → T (is_sorted R t) → more ≡ out ++ f e → out
        ++ flat_map f (left_after R after t) ≡ all → more ++ flat_map f (left_after R (Some e.0) t) ≡ all
    still_complete f all out more after t e h s g i =
        ap (λ l. l ++ flat_map f (left_after R (Some e.0) t)) g
        ∙ append_assoc out (f e) (flat_map f (left_after R (Some e.0) t))
        ∙ ap (λ l. out ++ flat_map f l) (sym (left-some R o after t e h s))
        ∙ i

  -- all is so where there is no next entry
  pub now_all : (P : K × X → Type 0) (after : Option K) (t : List (K × X)) → next_entry R after t ≡ None
      → (AllByRecursion P (left_after R after t) → AllByRecursion P t) → AllByRecursion P t
  now_all P after t h i = i (subst (AllByRecursion P) (sym (left-end R after t h)) tt)

  -- the text is complete where there is no next entry
  pub now_complete : (f : K × X → List ℕ) (all out : List ℕ) (after : Option K) (t : List (K × X))
      → next_entry R after t ≡ None → out ++ flat_map f (left_after R after t) ≡ all → out ≡ all
  now_complete f all out after t h i = sym (append-nil out) ∙ ap (λ l. out ++ flat_map f l) (sym (left-end R after t h))
      ∙ i
