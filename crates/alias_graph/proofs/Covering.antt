-- The order that skips entries fits the links of the graph.
use Rattle.std.proofs.Common.{◌≡◌, ℕ, Bool, true, false, ◌&&◌, ◌==◌, IsTrue, refl, ap, ◌∙◌, arith}
use Rattle.alias_graph.specs.declared.types.Entry.{Entry}
use Rattle.alias_graph.specs.Links.{is_backwards, is_definite, at_least, mode_covers, covers}

pub least_itself : (a : Bool) → at_least a a ≡ true
least_itself true = refl
least_itself false = refl

pub least_trans : (a b c : Bool) → at_least a b ≡ true → at_least b c ≡ true → at_least a c ≡ true
least_trans true b c p q = refl
least_trans false true c p q = cc
least_trans false false c p q = q

pub both : (a b : Bool) → a ≡ true → b ≡ true → (a && b) ≡ true
both true b p q = q
both false b p q = p

pub first : (a b : Bool) → (a && b) ≡ true → a ≡ true
first true b p = refl
first false b p = p

pub second : (a b : Bool) → (a && b) ≡ true → b ≡ true
second true b p = p
second false b p = cc

pub eqb_itself : (n : ℕ) → (n == n) ≡ true
eqb_itself n = grind arith

pub eqb_is : (a b : ℕ) → (a == b) ≡ true → a ≡ b
eqb_is a b h = grind arith

-- at least as high in each of the three, at one node
pub record Covers (d e : Entry) : Type 0 where
  pub id : d.id.0 ≡ e.id.0
  pub transitive : at_least d.transitive e.transitive ≡ true
  pub direction : at_least (is_backwards d.direction) (is_backwards e.direction) ≡ true
  pub kind : at_least (is_definite d.kind) (is_definite e.kind) ≡ true

pub opened : (d e : Entry) → IsTrue (covers d e) → Covers d e
opened d e h = let m = second (d.id.0 == e.id.0) (mode_covers d e) h in
    let flags = at_least d.transitive e.transitive && at_least (is_backwards d.direction) (is_backwards e.direction) in
    let two = first flags (at_least (is_definite d.kind) (is_definite e.kind)) m in
    record {
      id = eqb_is d.id.0 e.id.0 (first (d.id.0 == e.id.0) (mode_covers d e) h);
      transitive = first (at_least d.transitive e.transitive)
          (at_least (is_backwards d.direction) (is_backwards e.direction)) two;
      direction = second (at_least d.transitive e.transitive)
          (at_least (is_backwards d.direction) (is_backwards e.direction)) two;
      kind = second flags (at_least (is_definite d.kind) (is_definite e.kind)) m;
    }

pub closed : (d e : Entry) → Covers d e → IsTrue (covers d e)
closed d e h = both _ _ (ap (λ n. n == e.id.0) h.id ∙ eqb_itself e.id.0)
    (both _ _ (both _ _ h.transitive h.direction) h.kind)
