-- What is found in a list in the order of its keys, which is gone through from each entry to the next.
use Rattle.std.proofs.Common.{◌≡◌, List, ◌++◌, Option, Some, None, ap, sym, ◌∙◌, append_assoc, append-nil}
use Rattle.std.proofs.Math.Dec.{T}
use Rattle.std.specs.List.{flat_map}
use Rattle.std.specs.declared.cmp.Ordering.{Ordering}
use Rattle.std.specs.Cmp.{IsTotalOrder}
use Rattle.std.specs.FinMap.{is_sorted}
use Rattle.alias_lattice.specs.Nexts.{next_entry}
use Rattle.alias_lattice.specs.WalkLaws.{left_after, left-some, left-end}

module _ {K X V : Type 0} (R : K → K → Ordering) (f : K × X → List V) where
  -- what is left completes what was found, also once the next entry is gone through
  pub still_found : IsTotalOrder R → (whole out more : List V) (after : Option K) (t : List (K × X)) (e : K × X)
      → next_entry R after t ≡ Some e → T (is_sorted R t) → more ≡ out ++ f e → out ++ flat_map f (left_after R after t)
      ≡ whole → more ++ flat_map f (left_after R (Some e.0) t) ≡ whole
  still_found o whole out more after t e h s g i =
      ap (λ l. l ++ flat_map f (left_after R (Some e.0) t)) g
      ∙ append_assoc out (f e) (flat_map f (left_after R (Some e.0) t))
      ∙ ap (λ l. out ++ flat_map f l) (sym (left-some R o after t e h s))
      ∙ i

  -- all is found where there is no next entry
  pub now_found : (whole out : List V) (after : Option K) (t : List (K × X)) → next_entry R after t ≡ None
      → out ++ flat_map f (left_after R after t) ≡ whole → out ≡ whole
  now_found whole out after t h i = sym (append-nil out) ∙ ap (λ l. out ++ flat_map f l) (sym (left-end R after t h))
      ∙ i
