-- A step of the loop over the shapes.
use Rattle.std.proofs.Common.{refl, sym, ◌∙◌, ap, ◌≡◌, ℕ, ◌+◌, ◌<◌, List, [], ◌∷◌, ◌++◌, drop, get_or, length, suc}
use Rattle.std.proofs.Common.{add-one, drop-cons}
use Rattle.std.specs.Prelude.{Result, Ok, Err}
use Rattle.alias_json.specs.Tree.{view, items_view}
use Rattle.alias_json.specs.declared.tree.Tree.{Tree}
use Rattle.alias_base.specs.Answer.{◌>>=◌, Gives}
use Rattle.alias_hir.specs.declared.signature.Shape.{Shape}
use Rattle.alias_json.specs.declared.fault.ValueFault.{ValueFault}
use Rattle.alias_json.specs.Fault.{is_memory}
use Rattle.alias_json.specs.Pointer.{at_index}
use Rattle.alias_read.specs.Shapes.{shape_at, shape_items_at}

module _ (p : List ℕ) (vs : List Tree) (i : ℕ) (v : Tree) (found : List Shape) (q : List ℕ)
    (here : q ≡ at_index p i) where
  shapes_first : i < length vs → v ≡ get_or vs i v
      → shape_items_at p i found (items_view (drop i vs))
      ≡ (shape_at found q (view v) >>= (λ (s : Shape).
      shape_items_at p (i + 1) (found ++ s ∷ []) (items_view (drop (i + 1) vs))))
  shapes_first h is =
      let first : drop i vs ≡ v ∷ drop (i + 1) vs =
      rw add-one (drop-cons vs i v h ∙ ap (λ z. z ∷ drop (suc i) vs) (sym is)) in
      rw (first, here) refl

  pub shapes_next : (start : Result (List Shape) ValueFault) (shape : Shape) (new : List Shape) → i < length vs → v
      ≡ get_or vs i v
      → start ≡ shape_items_at p i found (items_view (drop i vs)) → shape_at found q (view v) ≡ Ok shape → new ≡ found
      ++ shape ∷ []
      → start ≡ shape_items_at p (i + 1) new (items_view (drop (i + 1) vs))
  shapes_next start shape new h is inv e n =
      inv ∙ shapes_first h is ∙ ap (λ r. r >>= (λ (s : Shape).
      shape_items_at p (i + 1) (found ++ s ∷ []) (items_view (drop (i + 1) vs)))) e
      ∙ ap (λ z. shape_items_at p (i + 1) z (items_view (drop (i + 1) vs))) (sym n)

  pub shapes_fault : (start : Result (List Shape) ValueFault) (fault : ValueFault) → i < length vs → v ≡ get_or vs i v
      → start ≡ shape_items_at p i found (items_view (drop i vs))
      → Gives {A = Shape} is_memory (shape_at found q (view v)) (Err fault)
      → Gives {A = List Shape} is_memory start (Err fault)
  shapes_fault start fault h is inv g m =
      inv ∙ shapes_first h is ∙ ap (λ r. r >>= (λ (s : Shape).
      shape_items_at p (i + 1) (found ++ s ∷ []) (items_view (drop (i + 1) vs)))) (g m)
