-- A walk ends.
use Rattle.std.proofs.Common.{◌≡◌, ℕ, ◌+◌, ◌*◌, ◌≤◌, ◌⊎◌, inl, inr, ⊎_elim, Bool, true, false, List, [], ◌∷◌, length}
use Rattle.std.proofs.Common.{refl, ap, ◌∙◌, arith, suc, zero, add-one}
use Rattle.alias_graph.specs.declared.types.Entry.{Entry}
use Rattle.alias_graph.specs.Nodes.{Nodes}
use Rattle.alias_graph.specs.Links.{covers, next, node_exists, step_to, walk, all_links}
use Rattle.alias_graph.specs.Walks.{Walk, is_new, pop, step_at}
use Rattle.alias_graph.proofs.Size.{pops_few}

module _ (g : Nodes) (m : ℕ) where
  -- the walk has stopped, or each step popped an entry
  abbrev Goes : ℕ → Walk Entry → Type 0
  Goes n w = (w.stack ≡ []) ⊎ (w.popped ≡ n)

  pop_popped : (b : Bool) (e : Entry) (es done : List Entry) (n : ℕ)
      → (pop covers (node_exists g) (next g m) b e es done n).popped ≡ n + 1
  pop_popped true e es done n = refl
  pop_popped false e es done n = refl

  step_goes : (es done : List Entry) (p n : ℕ) → Goes n (record { stack = es; done = done; popped = p })
      → Goes (suc n) (step_at covers (node_exists g) (next g m) es done p)
  step_goes [] done p n h = inl refl
  step_goes (e ∷ es) done p n (inl h) = absurd (cc)
  step_goes (e ∷ es) done p n (inr h) = inr
      (pop_popped (is_new covers (node_exists g) (next g m) done e) e es done p ∙ add-one p ∙ ap suc h)

  goes : (s : Entry) (n : ℕ) → Goes n (step_to g m s n)
  goes s zero = inr refl
  goes s (suc n) = let w = step_to g m s n in step_goes w.stack w.done w.popped n (goes s n)

  empty : (xs : List Entry) (n : ℕ) → n + length xs ≤ n → xs ≡ []
  empty [] n h = refl
  empty (x ∷ xs) n h = absurd (omega arith)

  pub walk_empties : (s : Entry) → (walk g m s).stack ≡ []
  walk_empties s = ⊎_elim
      (λ h. h)
      (λ h. let few = pops_few g m s (1 + 8 * all_links g) in
      empty (walk g m s).stack (1 + 8 * all_links g) (omega arith))
      (goes s (1 + 8 * all_links g))
