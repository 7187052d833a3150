-- Last positions are those of the nodes that a walk visits.
use Rattle.std.proofs.Common.{◌≡◌, ℕ, ◌+◌, ◌*◌, ◌<◌, ◌≤◌, ◌⊎◌, max, inl, inr, ⊎_elim, List, [], ◌∷◌, Option, Some, None}
use Rattle.std.proofs.Common.{option_map, refl, ap, sym, ◌∙◌, arith}
use Rattle.std.proofs.lemmas.Bool.{cases_eq}
use Rattle.alias_base.specs.declared.ids.IdentifierId.{IdentifierId}
use Rattle.alias_graph.specs.declared.types.Origin.{Origin}
use Rattle.alias_graph.specs.declared.types.Entry.{Entry}
use Rattle.alias_graph.specs.Nodes.{Node, Nodes, node_at}
use Rattle.alias_graph.specs.Walks.{IsOneOf}
use Rattle.alias_graph.specs.Links.{walk, all_links}
use Rattle.alias_graph.specs.Graph.{changed}
use Rattle.alias_graph.specs.NodeMarks.{later, visited, marked}
use Rattle.alias_graph.specs.Reach.{AllMutatedBefore, Flows}
use Rattle.alias_graph.proofs.Reaching.{walk_stays, id_is}
use Rattle.alias_graph.proofs.Effects.{changed_here, changed_apart, marked_apart, walk_marks}

later_low : (m : ℕ) (o : Option ℕ) (k : ℕ) → ((j : ℕ) → o ≡ Some j → j ≤ m) → later m o ≡ Some k → k ≤ m
later_low m None k h is = let e : m ≡ k = cc in omega arith
later_low m (Some j) k h is = let e : max j m ≡ k = cc in let low = h j refl in omega arith

was_mapped : (f : Node → Node) (o : Option Node) (n : Node) → option_map f o ≡ Some n → (w : Node) × (o ≡ Some w)
    × (f w ≡ n)
was_mapped f None n h = cc
was_mapped f (Some w) n h = (w, refl, cc)

module _ (m : ℕ) (origin : Origin) (g : Nodes) (before : AllMutatedBefore g m) where
  low : (done : List Entry) (q : IdentifierId) (n : Node) (k : ℕ) → node_at (marked m origin g done) q ≡ Some n
      → n.last_mutated ≡ Some k → k ≤ m
  low [] q n k at is = let lt = before q n k at is in omega arith
  low (e ∷ done) q n k at is = ⊎_elim
      (λ same.
      let w = was_mapped (visited m origin e) (node_at (marked m origin g done) q) n
      (sym (changed_here (marked m origin g done) q (visited m origin e))
      ∙ ap (λ z. node_at (changed (marked m origin g done) z (visited m origin e)) q) (sym (id_is e.id q same))
      ∙ at) in
      later_low m w.0.last_mutated k (λ j h. low done q w.0 j w.1 h) (ap (λ (z : Node). z.last_mutated) w.2 ∙ is))
      (λ other. low done q n k (sym (changed_apart (marked m origin g done) e.id q (visited m origin e) other) ∙ at) is)
      (cases_eq e.id.0 q.0)

  among : (xs : List Entry) (id : IdentifierId) → ((e : Entry) × IsOneOf e xs × (e.id.0 ≡ id.0))
      ⊎ ((e : Entry) → IsOneOf e xs → e.id.0 ≡ id.0 → ⊥)
  among [] id = inr (λ e i same. i)
  among (x ∷ xs) id = ⊎_elim
      (λ same. inl (x, inl refl, same))
      (λ other. ⊎_elim
      (λ r. inl (r.0, inr r.1, r.2))
      (λ none. inr (λ e i same. ⊎_elim (λ h. other (ap (λ (z : Entry). z.id.0) (sym h) ∙ same)) (λ j. none e j same) i))
      (among xs id))
      (cases_eq x.id.0 id.0)

  pub walk_flows : (s : Entry) → Flows g m s (marked m origin g (walk g m s).done)
  walk_flows s =
      let visits = (walk g m s).done in
      record {
        listed = λ id h. ⊎_elim
            (λ r. (r.0, r.2, walk_stays g m s (1 + 8 * all_links g) r.0 r.1))
            (λ none. let lt : m < m = before id h.0 m (sym (marked_apart m origin g visits id none) ∙ h.1) h.2 in
            absurd (omega arith))
            (among visits id);
        all = λ e p.
            let r = (walk_marks g m s origin).reached e p in
            let high = r.2.2 in
            let le : r.2.0 ≤ m = low visits e.id r.0 r.2.0 r.1 r.2.1 in
            let same : r.2.0 ≡ m = omega arith in
            (r.0, r.1, r.2.1 ∙ ap Some same);
      }
