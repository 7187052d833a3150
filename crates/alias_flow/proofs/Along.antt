-- A state sent along edges, one after the other: the last edge apart from those before it.
use Rattle.std.proofs.Common.{◌≡◌, ℕ, ◌+◌, ◌-◌, ◌≤◌, List, [], ◌∷◌, length, take, drop, get_or, zero, suc, refl, ap}
use Rattle.std.proofs.Common.{sym, ◌∙◌, arith}

drop_all : (ys : List ℕ) (i : ℕ) → length ys ≤ i → drop i ys ≡ []
drop_all [] i h = elim i as (λ n. drop {A = ℕ} n [] ≡ []) [ zero ↦ refl | suc n ↦ refl ]
drop_all (y ∷ ys) zero h = absurd (omega arith)
drop_all (y ∷ ys) (suc i) h = drop_all ys i (omega arith)

module _ {D : Type 0} (send : D → ℕ → D) (sends : D → List ℕ → D) (none : (d : D) → sends d [] ≡ d)
    (more : (d : D) (e : ℕ) (es : List ℕ) → sends d (e ∷ es) ≡ sends (send d e) es) where
  -- the last edge comes after the ones before it
  sends_last : (es : List ℕ) (m : ℕ) → m + 1 ≡ length es → (d : D)
      → sends d es ≡ send (sends d (take m es)) (get_or es m 0)
  sends_last [] m h d = absurd (omega arith)
  sends_last (e ∷ []) zero h d = more d e [] ∙ none (send d e) ∙ ap (λ z. send z e) (sym (none d))
  sends_last (e ∷ c ∷ es) zero h d = absurd (omega arith)
  sends_last (e ∷ es) (suc m) h d = more d e es ∙ sends_last es m (omega arith) (send d e)
      ∙ ap (λ z. send z (get_or es m 0)) (sym (more d e (take m es)))

  pub sent_along : (es : List ℕ) (i : ℕ) (before now after : D) → 1 ≤ length es → length (take (length es - 1) es) ≤ i
      → sends now (drop i (take (length es - 1) es)) ≡ sends before (take (length es - 1) es)
      → after ≡ send now (get_or es (length es - 1) 0) → after ≡ sends before es
  sent_along es i before now after some past h e =
      let over : drop i (take (length es - 1) es) ≡ [] = drop_all (take (length es - 1) es) i past in
      let all : now ≡ sends before (take (length es - 1) es) = sym (none now) ∙ sym (ap (sends now) over) ∙ h in
      e ∙ ap (λ z. send z (get_or es (length es - 1) 0)) all ∙ sym (sends_last es (length es - 1) (omega arith) before)
