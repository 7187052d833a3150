-- What was sent to a block is below what has arrived there.
use Rattle.std.proofs.Common.{◌≡◌, ℕ, ◌<◌, ⊎_elim, inl, inr, Bool, IsTrue, List, [], ◌∷◌, length, Option, Some, None}
use Rattle.std.proofs.Common.{refl, ap, sym, ◌∙◌, subst, arith}
use Rattle.std.proofs.lemmas.List.{get_or-set_same, get_or-set_other}
use Rattle.std.proofs.lemmas.Bool.{cases_eq}
use Rattle.std.specs.List.{AllByRecursion}
use Rattle.alias_lattice.specs.Laws.{LatticeLaws}
use Rattle.alias_lattice.specs.Flows.{IsOneOf}
use Rattle.alias_flow.specs.Machine.{joined, send, send_all}
use Rattle.alias_flow.specs.Solutions.{entry_at}
use Rattle.alias_flow.proofs.Order.{below_itself, below_trans, below_left, below_right}
use Rattle.alias_flow.proofs.check.Arrivals.{Arrived, send_arrives}

module _ {P : Type 0} {proper : P → Type 0} {join : P → P → P} {below : P → P → Bool}
    (l : LatticeLaws proper join below) where
  -- something has arrived at the block, and u is below it
  pub record IsOver (xs : List (Option P)) (q : ℕ) (u : P) : Type 0 where
    pub state : P
    pub is : entry_at xs q ≡ Some state
    pub above : IsTrue (below u state)

  sent_at : (x : P) (xs : List (Option P)) (e n : ℕ) → length xs ≡ n → e < n → entry_at (send join x xs e) e
      ≡ Some (joined join (entry_at xs e) x)
  sent_at x xs e n long lt = let within : e < length xs = omega arith in get_or-set_same xs e _ None within

  joined_over : (o : Option P) (x : P) → ((s : P) → o ≡ Some s → proper s) → proper x
      → IsTrue (below x (joined join o x))
  joined_over None x k p = below_itself l x p
  joined_over (Some s) x k p = below_right l s x (k s refl) p

  joined_keeps : (o : Option P) (x s u : P) → ((r : P) → o ≡ Some r → proper r) → proper x → proper u → o ≡ Some s
      → IsTrue (below u s) → IsTrue (below u (joined join o x))
  joined_keeps None x s u k p pu is h = cc
  joined_keeps (Some r) x s u k p pu is h =
      let same : s ≡ r = cc in
      let pr : proper r = k r refl in
      below_trans l u r (join r x) pu pr (l.closed r x pr p) (subst (λ z. IsTrue (below u z)) same h)
      (below_left l r x pr p)

  -- what is sent is below what has arrived then
  send_over : (x : P) (xs : List (Option P)) (e n : ℕ) → proper x → Arrived l n xs → e < n
      → IsOver (send join x xs e) e x
  send_over x xs e n p a lt = record {
    state = joined join (entry_at xs e) x;
    is = sent_at x xs e n a.long lt;
    above = joined_over (entry_at xs e) x (a.proper_at e) p;
  }

  -- and what was below stays so
  pub send_keeps : (x : P) (xs : List (Option P)) (e n : ℕ) → proper x → Arrived l n xs → e < n → (q : ℕ) (u : P)
      → proper u → IsOver xs q u → IsOver (send join x xs e) q u
  send_keeps x xs e n p a lt q u pu o = ⊎_elim
      (λ same. record {
        state = joined join (entry_at xs e) x;
        is = ap (entry_at (send join x xs e)) same ∙ sent_at x xs e n a.long lt;
        above = joined_keeps (entry_at xs e) x o.state u (a.proper_at e) p pu (ap (entry_at xs) (sym same) ∙ o.is)
            o.above;
      })
      (λ other. record { state = o.state; is = get_or-set_other xs e q _ None other ∙ o.is; above = o.above })
      (cases_eq q e)

  pub sends_keep : (x : P) (xs : List (Option P)) (es : List ℕ) (n : ℕ) → proper x → Arrived l n xs
      → AllByRecursion (λ e. e < n) es → (q : ℕ) (u : P) → proper u → IsOver xs q u → IsOver (send_all join x xs es) q u
  sends_keep x xs [] n p a lt q u pu o = o
  sends_keep x xs (e ∷ es) n p a lt q u pu o =
      sends_keep x (send join x xs e) es n p (send_arrives l x xs e n p a lt.0) lt.1 q u pu
      (send_keeps x xs e n p a lt.0 q u pu o)

  pub sends_over : (x : P) (xs : List (Option P)) (es : List ℕ) (n : ℕ) → proper x → Arrived l n xs
      → AllByRecursion (λ e. e < n) es → (q : ℕ) → IsOneOf q es → IsOver (send_all join x xs es) q x
  sends_over x xs [] n p a lt q one = absurd one
  sends_over x xs (e ∷ es) n p a lt q (inl same) =
      sends_keep x (send join x xs e) es n p (send_arrives l x xs e n p a lt.0) lt.1 q x p
      (subst (λ r. IsOver (send join x xs e) r x) (sym same) (send_over x xs e n p a lt.0))
  sends_over x xs (e ∷ es) n p a lt q (inr one) =
      sends_over x (send join x xs e) es n p (send_arrives l x xs e n p a lt.0) lt.1 q one

  pub starts_over : (x : P) (xs : List (Option P)) (e n : ℕ) → proper x → Arrived l n xs → e < n
      → IsOver (send join x xs e) e x
  starts_over x xs e n p a lt = send_over x xs e n p a lt
