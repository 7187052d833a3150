-- The legal paths of walks settle all range ends.
use Rattle.std.proofs.Common.{◌≡◌, ℕ, ◌≤◌, ⊎_elim, List, [], ◌∷◌, Some, option_map, length, slice_get, refl, ap, sym}
use Rattle.std.proofs.Common.{◌∙◌, subst, arith, suc}
use Rattle.alias_hir.specs.declared.env.Identifier.{Identifier}
use Rattle.alias_graph.specs.Nodes.{Nodes}
use Rattle.alias_graph.specs.declared.types.RangeWalk.{RangeWalk}
use Rattle.alias_graph.specs.Raising.{Raised}
use Rattle.alias_graph.specs.Reach.{end_at, but_end}

same_identifier : (x y : Identifier) → but_end x ≡ but_end y → x.mutable_range.end.0 ≡ y.mutable_range.end.0 → x ≡ y
same_identifier x y rest end =
    ap (λ n. let z : Identifier = record x { mutable_range = record x.mutable_range { end = record { 0 = n } } } in z)
    end
    ∙ ap (λ (b : Identifier). let z : Identifier =
    record b { mutable_range = record b.mutable_range { end = record { 0 = y.mutable_range.end.0 } } } in z) rest

same_all : (xs ys : List Identifier) → length xs ≡ length ys
    → ((i : ℕ) → option_map but_end (slice_get xs i) ≡ option_map but_end (slice_get ys i))
    → ((i : ℕ) → end_at xs i ≡ end_at ys i) → xs ≡ ys
same_all [] [] size rest ends = refl
same_all [] (y ∷ ys) size rest ends = absurd (omega arith)
same_all (x ∷ xs) [] size rest ends = absurd (omega arith)
same_all (x ∷ xs) (y ∷ ys) size rest ends =
    let first : Some (but_end x) ≡ Some (but_end y) = rest 0 in
    let bare : but_end x ≡ but_end y = cc in
    let here : x ≡ y = same_identifier x y bare (ends 0) in
    let later : xs ≡ ys = same_all xs ys (omega arith) (λ i. rest (suc i)) (λ i. ends (suc i)) in
    ap (λ z. z ∷ xs) here ∙ ap (λ z. y ∷ z) later

module _ (g : Nodes) (ws : List RangeWalk) (old : List Identifier) where
  at_most : (a b : List Identifier) → Raised g ws old a → Raised g ws old b → (i : ℕ) → end_at a i ≤ end_at b i
  at_most a b p q i = ⊎_elim
      (λ same. let up = q.rise.kept i in omega arith)
      (λ c.
      let up : c.0.end.0 ≤ end_at b c.2.id.0 = q.covered c.0 c.1 c.2 c.4 in
      let here : c.0.end.0 ≤ end_at b i = subst (λ j. c.0.end.0 ≤ end_at b j) c.3 up in
      let end : end_at a i ≡ c.0.end.0 = c.5 in
      omega arith)
      (p.cause i)

  -- there is one list of identifiers that is raised by these walks
  pub raised_once : (a b : List Identifier) → Raised g ws old a → Raised g ws old b → a ≡ b
  raised_once a b p q = same_all a b (p.rise.size ∙ sym q.rise.size) (λ i. p.rise.rest i ∙ sym (q.rise.rest i))
      (λ i. let x = at_most a b p q i in let y = at_most b a q p i in omega arith)
