-- How many entries a walk expands and pops.
use Rattle.std.proofs.Common.{◌≡◌, ℕ, ◌+◌, ◌≤◌, ◌⊎◌, inl, inr, ⊎_elim, Bool, true, false, cond, IsTrue, List, [], ◌∷◌}
use Rattle.std.proofs.Common.{length, refl, ap, sym, ◌∙◌, arith, suc, zero}
use Rattle.alias_graph.proofs.Visits.{new_exists}
use Rattle.alias_graph.specs.Walks.{IsOneOf, put_all, total, Walk, is_covered, is_new, pop, step_at, run}

length_put : {A : Type 0} (xs ys : List A) → length (put_all xs ys) ≡ length xs + length ys
length_put [] ys = omega arith
length_put (x ∷ xs) ys = let h = length_put xs (x ∷ ys) in omega arith

module _ {E : Type 0} (covers : E → E → Bool) (node_exists : E → Bool) (next : E → List E) where
  -- each popped entry was pushed by one that was expanded, or is the first
  pub record Counted (w : Walk E) : Type 0 where
    pub all : w.popped + length w.stack ≡ 1 + total (λ e. length (next e)) w.done

  pop_counted : (b : Bool) (e : E) (es done : List E) (n : ℕ)
      → Counted (record { stack = e ∷ es; done = done; popped = n })
      → Counted (pop covers node_exists next b e es done n)
  pop_counted false e es done n h = record { all = omega arith }
  pop_counted true e es done n h = let k = length_put (next e) es in record { all = omega arith }

  step_counted : (es done : List E) (n : ℕ) → Counted (record { stack = es; done = done; popped = n })
      → Counted (step_at covers node_exists next es done n)
  step_counted [] done n h = h
  step_counted (e ∷ es) done n h = pop_counted (is_new covers node_exists next done e) e es done n h

  pub run_counted : (s : E) (n : ℕ) → Counted (run covers node_exists next s n)
  run_counted s zero = record { all = refl }
  run_counted s (suc n) = let w = run covers node_exists next s n in
      step_counted w.stack w.done w.popped (run_counted s n)

  -- the weight of the entries that nothing covers
  abbrev open_weight : (E → ℕ) → Bool → E → ℕ
  open_weight weight true u = 0
  open_weight weight false u = weight u

  abbrev room : (E → ℕ) → List E → List E → ℕ
  room weight done us = total (λ u. open_weight weight (is_covered covers done u) u) us

  open_less : (weight : E → ℕ) (b c : Bool) (u : E) → open_weight weight (cond b true c) u ≤ open_weight weight c u
  open_less weight true true u = omega arith
  open_less weight true false u = omega arith
  open_less weight false c u = omega arith

  room_less : (weight : E → ℕ) (e : E) (done us : List E) → room weight (e ∷ done) us ≤ room weight done us
  room_less weight e done [] = omega arith
  room_less weight e done (u ∷ us) =
      let one = open_less weight (covers e u) (is_covered covers done u) u in
      let rest = room_less weight e done us in
      omega arith

  now_closed : (weight : E → ℕ) (b c : Bool) (u : E) → b ≡ true → c ≡ false → open_weight weight (cond b true c) u
      + weight u ≤ open_weight weight c u
  now_closed weight true true u p q = cc
  now_closed weight true false u p q = omega arith
  now_closed weight false c u p q = cc

  room_falls : (weight : E → ℕ) (e : E) (done us : List E) → IsTrue (covers e e) → is_covered covers done e ≡ false
      → IsOneOf e us → room weight (e ∷ done) us + weight e ≤ room weight done us
  room_falls weight e done [] own new i = absurd i
  room_falls weight e done (u ∷ us) own new (inl same) =
      let one = now_closed weight (covers e u) (is_covered covers done u) u (ap (covers e) (sym same) ∙ own)
      (ap (is_covered covers done) (sym same) ∙ new) in
      let rest = room_less weight e done us in
      let w = ap weight same in
      omega arith
  room_falls weight e done (u ∷ us) own new (inr other) =
      let one = open_less weight (covers e u) (is_covered covers done u) u in
      let rest = room_falls weight e done us own new other in
      omega arith

  module _ (own : (e : E) → IsTrue (covers e e)) (weight : E → ℕ) (us : List E)
      (among : (e : E) → IsTrue (node_exists e) → IsOneOf e us ⊎ (weight e ≡ 0)) where
    -- what was expanded weighs no more than what was closed
    pub record Fits (w : Walk E) : Type 0 where
      pub within : total weight w.done + room weight w.done us ≤ total weight us

    pop_fits : (b : Bool) (e : E) (es done : List E) (n : ℕ) → is_new covers node_exists next done e ≡ b
        → Fits (record { stack = e ∷ es; done = done; popped = n }) → Fits (pop covers node_exists next b e es done n)
    pop_fits false e es done n is h = record { within = h.within }
    pop_fits true e es done n is h = let new = new_exists covers node_exists next done e is in ⊎_elim
        (λ i. let falls = room_falls weight e done us (own e) new.1 i in record { within = omega arith })
        (λ nothing. let less = room_less weight e done us in record { within = omega arith })
        (among e new.0)

    step_fits : (es done : List E) (n : ℕ) → Fits (record { stack = es; done = done; popped = n })
        → Fits (step_at covers node_exists next es done n)
    step_fits [] done n h = h
    step_fits (e ∷ es) done n h = pop_fits (is_new covers node_exists next done e) e es done n refl h

    room_at_first : (vs : List E) → room weight [] vs ≡ total weight vs
    room_at_first [] = refl
    room_at_first (v ∷ vs) = ap (λ n. weight v + n) (room_at_first vs)

    run_fits : (s : E) (n : ℕ) → Fits (run covers node_exists next s n)
    run_fits s zero = let k = room_at_first us in record { within = omega arith }
    run_fits s (suc n) = let w = run covers node_exists next s n in step_fits w.stack w.done w.popped (run_fits s n)

    pub done_weighs : (s : E) (n : ℕ) → total weight (run covers node_exists next s n).done ≤ total weight us
    done_weighs s n = let h = (run_fits s n).within in omega arith

  -- a walk pops its start, and for each entry at most what it leads to
  pub pops_at_most : ((e : E) → IsTrue (covers e e)) → (us : List E) → ((e : E) → IsTrue (node_exists e) → IsOneOf e us)
      → (s : E) (n : ℕ)
      → (run covers node_exists next s n).popped + length (run covers node_exists next s n).stack ≤ 1
      + total (λ e. length (next e)) us
  pops_at_most own us among s n =
      let counted = (run_counted s n).all in
      let weighs = done_weighs own (λ e. length (next e)) us (λ e t. inl (among e t)) s n in
      omega arith
