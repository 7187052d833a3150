-- What the laws of a lattice give.
use Rattle.std.proofs.Common.{◌≡◌, Bool, IsTrue, ap, sym, ◌∙◌}
use Rattle.alias_lattice.specs.Laws.{LatticeLaws}

module _ {P : Type 0} {proper : P → Type 0} {join : P → P → P} {below : P → P → Bool}
    (l : LatticeLaws proper join below) where
  pub below_itself : (x : P) → proper x → IsTrue (below x x)
  below_itself x h = (l.order x x h h).1 (l.idempotent x h)

  pub below_trans : (x y z : P) → proper x → proper y → proper z → IsTrue (below x y) → IsTrue (below y z)
      → IsTrue (below x z)
  below_trans x y z h i k p q =
      let xy = (l.order x y h i).0 p in
      let yz = (l.order y z i k).0 q in
      (l.order x z h k).1 (ap (join x) (sym yz) ∙ sym (l.associative x y z h i k) ∙ ap (λ w. join w z) xy ∙ yz)

  pub below_left : (x y : P) → proper x → proper y → IsTrue (below x (join x y))
  below_left x y h i = (l.order x (join x y) h (l.closed x y h i)).1
      (sym (l.associative x x y h h i) ∙ ap (λ w. join w y) (l.idempotent x h))

  pub below_right : (x y : P) → proper x → proper y → IsTrue (below y (join x y))
  below_right x y h i =
      (l.order y (join x y) i (l.closed x y h i)).1
      (ap (join y) (l.commutative x y h i) ∙ sym (l.associative y y x i i h) ∙ ap (λ w. join w x) (l.idempotent y i)
      ∙ l.commutative y x i h)

  pub absorbed : (old x : P) → proper old → proper x → IsTrue (below x old) → join old x ≡ old
  absorbed old x h i p = l.commutative old x h i ∙ (l.order x old i h).0 p

  pub below_join : (x y u : P) → proper x → proper y → proper u → IsTrue (below x u) → IsTrue (below y u)
      → IsTrue (below (join x y) u)
  below_join x y u h i k p q =
      (l.order (join x y) u (l.closed x y h i) k).1
      (l.associative x y u h i k ∙ ap (join x) ((l.order y u i k).0 q) ∙ (l.order x u h k).0 p)
