-- What arrives only rises.
use Rattle.std.proofs.Common.{◌≡◌, ℕ, ◌<◌, ⊎_elim, inl, inr, Bool, IsTrue, List, [], ◌∷◌, length, set, Option, Some}
use Rattle.std.proofs.Common.{None, refl, ap, sym, ◌∙◌, subst, arith}
use Rattle.std.proofs.lemmas.List.{get_or-set_same, get_or-set_other, length-set}
use Rattle.std.proofs.lemmas.Bool.{cases_eq}
use Rattle.std.specs.List.{AllByRecursion}
use Rattle.alias_lattice.specs.Flows.{IsOneOf}
use Rattle.alias_lattice.specs.Laws.{LatticeLaws}
use Rattle.alias_flow.specs.Machine.{joined, send, send_all}
use Rattle.alias_flow.specs.Solutions.{entry_at}
use Rattle.alias_flow.proofs.Order.{below_itself, below_trans, below_left, below_right}
use Rattle.alias_flow.proofs.check.Arrivals.{Arrived, send_arrives, sends_arrive}

module _ {P : Type 0} {proper : P → Type 0} {join : P → P → P} {below : P → P → Bool}
    (l : LatticeLaws proper join below) where
  -- there is a state at the block, which the given one is below
  pub record Over (xs : List (Option P)) (q : ℕ) (a : P) : Type 0 where
    pub state : P
    pub is : entry_at xs q ≡ Some state
    pub above : IsTrue (below a state)

  some_is : (s u : P) → Some s ≡ Some u → s ≡ u
  some_is s u e = cc

  sent_here : (x : P) (xs : List (Option P)) (e n : ℕ) → length xs ≡ n → e < n → entry_at (send join x xs e) e
      ≡ Some (joined join (entry_at xs e) x)
  sent_here x xs e n long lt = let within : e < length xs = omega arith in get_or-set_same xs e _ None within

  joined_over : (o : Option P) (x a : P) → o ≡ Some a → proper a → proper x → IsTrue (below a (joined join o x))
  joined_over None x a h p k = cc
  joined_over (Some s) x a h p k = let same : s ≡ a = some_is s a h in
      subst (λ z. IsTrue (below a (join z x))) (sym same) (below_left l a x p k)

  joined_reaches : (o : Option P) (x : P) → ((s : P) → o ≡ Some s → proper s) → proper x
      → IsTrue (below x (joined join o x))
  joined_reaches None x h k = below_itself l x k
  joined_reaches (Some s) x h k = below_right l s x (h s refl) k

  pub send_keeps : (x : P) (xs : List (Option P)) (e n : ℕ) → proper x → Arrived l n xs → e < n → (q : ℕ) (a : P)
      → entry_at xs q ≡ Some a → Over (send join x xs e) q a
  send_keeps x xs e n p r lt q a is = ⊎_elim
      (λ same. record {
        state = joined join (entry_at xs e) x;
        is = ap (entry_at (send join x xs e)) same ∙ sent_here x xs e n r.long lt;
        above = joined_over (entry_at xs e) x a (ap (entry_at xs) (sym same) ∙ is) (r.proper_at q a is) p;
      })
      (λ other. record {
        state = a;
        is = get_or-set_other xs e q _ None other ∙ is;
        above = below_itself l a (r.proper_at q a is);
      })
      (cases_eq q e)

  over_more : (xs ys : List (Option P)) (n q : ℕ) (a : P) → proper a → Arrived l n xs → Arrived l n ys
      → (o : Over xs q a) → Over ys q o.state → Over ys q a
  over_more xs ys n q a p r k o u = record {
    state = u.state;
    is = u.is;
    above = below_trans l a o.state u.state p (r.proper_at q o.state o.is) (k.proper_at q u.state u.is) o.above u.above;
  }

  -- what has arrived stays below what arrives
  pub sends_keep : (x : P) (xs : List (Option P)) (es : List ℕ) (n : ℕ) → proper x → Arrived l n xs
      → AllByRecursion (λ e. e < n) es → (q : ℕ) (a : P) → entry_at xs q ≡ Some a → Over (send_all join x xs es) q a
  sends_keep x xs [] n p r lt q a is =
      record { state = a; is = is; above = below_itself l a (r.proper_at q a is) }
  sends_keep x xs (e ∷ es) n p r lt q a is =
      let here = send_keeps x xs e n p r lt.0 q a is in
      let now = send_arrives l x xs e n p r lt.0 in
      over_more (send join x xs e) (send_all join x (send join x xs e) es) n q a (r.proper_at q a is) now
      (sends_arrive l x (send join x xs e) es n p now lt.1) here
      (sends_keep x (send join x xs e) es n p now lt.1 q here.state here.is)

  -- and what is sent to a block is below what arrives there
  pub sends_reach : (x : P) (xs : List (Option P)) (es : List ℕ) (n : ℕ) → proper x → Arrived l n xs
      → AllByRecursion (λ e. e < n) es → (q : ℕ) → IsOneOf q es → Over (send_all join x xs es) q x
  sends_reach x xs [] n p r lt q one = absurd one
  sends_reach x xs (e ∷ es) n p r lt q (inl same) =
      let now = send_arrives l x xs e n p r lt.0 in
      let here : Over (send join x xs e) q x = record {
        state = joined join (entry_at xs e) x;
        is = ap (entry_at (send join x xs e)) same ∙ sent_here x xs e n r.long lt.0;
        above = joined_reaches (entry_at xs e) x (r.proper_at e) p;
      } in
      over_more (send join x xs e) (send_all join x (send join x xs e) es) n q x p now
      (sends_arrive l x (send join x xs e) es n p now lt.1) here
      (sends_keep x (send join x xs e) es n p now lt.1 q here.state here.is)
  sends_reach x xs (e ∷ es) n p r lt q (inr one) =
      sends_reach x (send join x xs e) es n p (send_arrives l x xs e n p r lt.0) lt.1 q one

  -- what is taken out
  pub take_arrives : (xs : List (Option P)) (b n : ℕ) → Arrived l n xs → b < n → Arrived l n (set xs b None)
  take_arrives xs b n r lt = record {
    long = length-set xs b None ∙ r.long;
    proper_at = λ q s is. ⊎_elim
        (λ same.
        let long = r.long in
        let within : b < length xs = omega (arith, lt, long) in
        let none : entry_at (set xs b None) b ≡ None = get_or-set_same xs b None None within in
        let two : None ≡ Some s = sym none ∙ ap (entry_at (set xs b None)) (sym same) ∙ is in cc)
        (λ other. r.proper_at q s (sym (get_or-set_other xs b q None None other) ∙ is))
        (cases_eq q b);
  }
