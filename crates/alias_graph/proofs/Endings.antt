-- A walk with few pops ends.
use Rattle.std.proofs.Common.{◌≡◌, ℕ, ◌+◌, ◌-◌, ◌≤◌, ◌⊎◌, inl, inr, ⊎_elim, Bool, true, false, List, [], ◌∷◌, length}
use Rattle.std.proofs.Common.{refl, ap, ◌∙◌, sym, arith, suc, zero, add-one}
use Rattle.alias_graph.specs.Walks.{Walk, is_new, pop, step_at, step, run}

module _ {E : Type 0} (covers : E → E → Bool) (node_exists : E → Bool) (next : E → List E) where
  -- the walk has stopped, or each step popped an entry
  abbrev Goes : ℕ → Walk E → Type 0
  Goes n w = (w.stack ≡ []) ⊎ (w.popped ≡ n)

  pop_popped : (b : Bool) (e : E) (es done : List E) (n : ℕ) → (pop covers node_exists next b e es done n).popped ≡ n
      + 1
  pop_popped true e es done n = refl
  pop_popped false e es done n = refl

  step_goes : (es done : List E) (p n : ℕ) → Goes n (record { stack = es; done = done; popped = p })
      → Goes (suc n) (step_at covers node_exists next es done p)
  step_goes [] done p n h = inl refl
  step_goes (e ∷ es) done p n (inl h) = absurd (cc)
  step_goes (e ∷ es) done p n (inr h) = inr
      (pop_popped (is_new covers node_exists next done e) e es done p ∙ add-one p ∙ ap suc h)

  goes : (s : E) (n : ℕ) → Goes n (run covers node_exists next s n)
  goes s zero = inr refl
  goes s (suc n) = let w = run covers node_exists next s n in step_goes w.stack w.done w.popped n (goes s n)

  empty : (xs : List E) (n : ℕ) → n + length xs ≤ n → xs ≡ []
  empty [] n h = refl
  empty (x ∷ xs) n h = absurd (omega arith)

  pub run_empties : (s : E) (n : ℕ) → (run covers node_exists next s n).popped
      + length (run covers node_exists next s n).stack ≤ n → (run covers node_exists next s n).stack ≡ []
  run_empties s n few = ⊎_elim (λ h. h) (λ h. empty (run covers node_exists next s n).stack n (omega arith)) (goes s n)

  still : (w : Walk E) → w.stack ≡ [] → step covers node_exists next w ≡ w
  still w h = ap (λ z. step_at covers node_exists next z w.done w.popped) h
      ∙ ap (λ z. let v : Walk E = record { stack = z; done = w.done; popped = w.popped } in v) (sym h)

  run_still : (s : E) (n j : ℕ) → (run covers node_exists next s n).stack ≡ [] → run covers node_exists next s (n + j)
      ≡ run covers node_exists next s n
  run_still s n zero h = let same : n + zero ≡ n = omega arith in ap (run covers node_exists next s) same
  run_still s n (suc j) h =
      let more : n + suc j ≡ suc (n + j) = omega arith in
      ap (run covers node_exists next s) more ∙ ap (step covers node_exists next) (run_still s n j h)
      ∙ still (run covers node_exists next s n) h

  -- once nothing is left to pop, nothing more happens
  pub run_ends : (s : E) (n k : ℕ) → n ≤ k → (run covers node_exists next s n).stack ≡ []
      → run covers node_exists next s k ≡ run covers node_exists next s n
  run_ends s n k le h = let split : k ≡ n + (k - n) = omega arith in ap (run covers node_exists next s) split
      ∙ run_still s n (k - n) h
