-- The laws of the tests' flow.
use Rattle.std.proofs.Common.{◌≡◌, ℕ, ◌+◌, ◌<◌, Bool, true, false, if◌then◌else◌, nat_lt, nat_le, ◌==◌, IsTrue, List}
use Rattle.std.proofs.Common.{[], ◌∷◌, length, Option, refl, arith}
use Rattle.std.proofs.lemmas.Bool.Decides.{nat_tests}
use Rattle.std.specs.List.{AllByRecursion}
use Rattle.alias_lattice.specs.Laws.{LatticeLaws}
use Rattle.alias_flow.specs.Machine.{FlowLaws}
use Rattle.alias_state_tests.specs.TestFlows.{higher, IsHeight, Extends, line_edges, loop_edges, climb_edges, climb_rules}

higher_commutes : (x y : ℕ) → higher x y ≡ higher y x
higher_commutes x y = grind (arith, nat_tests)

higher_associates : (x y z : ℕ) → higher (higher x y) z ≡ higher x (higher y z)
higher_associates x y z = grind (arith, nat_tests)

higher_same : (x : ℕ) → higher x x ≡ x
higher_same x = grind (arith, nat_tests)

lower_is : (x y : ℕ) → IsTrue (nat_le x y) → higher x y ≡ y
lower_is x y h = grind (arith, nat_tests)

is_lower : (x y : ℕ) → higher x y ≡ y → IsTrue (nat_le x y)
is_lower x y h = grind (arith, nat_tests)

pub height_laws : LatticeLaws IsHeight higher nat_le
height_laws = record {
  closed = λ x y h i. tt;
  idempotent = λ x h. higher_same x;
  commutative = λ x y h i. higher_commutes x y;
  associative = λ x y z h i k. higher_associates x y z;
  order = λ x y h i. (lower_is x y, is_lower x y);
}

edges_if : (A : ℕ → Type 0) (b : Bool) (e : ℕ) → (b ≡ true → A e) → AllByRecursion A (if b then e ∷ [] else [])
edges_if A true e h = (h refl, tt)
edges_if A false e h = tt

line_below : (b : ℕ) → b < 4 → AllByRecursion (λ e. e < 4) (line_edges b)
line_below b h = edges_if (λ e. e < 4) (nat_lt b 3) (b + 1) (λ t. grind (arith, nat_tests))

loop_below : (b : ℕ) → b < 4 → AllByRecursion (λ e. e < 4) (loop_edges b)
loop_below b h = elim (b == 0) as (λ r. AllByRecursion (λ e. e < 4)
    (if r then 1 ∷ [] else if b == 1 then 1 ∷ 2 ∷ [] else [])) [
      | true ↦ (omega arith, tt)
      | false ↦ elim (b == 1) as (λ r. AllByRecursion (λ e. e < 4) (if r then 1 ∷ 2 ∷ [] else []))
          [ true ↦ (omega arith, (omega arith, tt)) | false ↦ tt ]
    ]

climb_below : (is_line : Bool) (b : ℕ) → b < 4 → AllByRecursion (λ e. e < 4) (climb_edges is_line b)
climb_below true b h = line_below b h
climb_below false b h = loop_below b h

pub climb_laws : (is_line : Bool) (recorded : List (Option ℕ)) → length recorded ≡ 4
    → FlowLaws IsHeight Extends (climb_rules is_line) recorded
climb_laws is_line recorded h = record {
  recorded_length = h;
  initial_proper = tt;
  step_proper = λ t b x y u k p e. tt;
  entry_below = omega arith;
  edges_below = climb_below is_line;
  reflexive = λ t. tt;
  transitive = λ t u v p q. tt;
  grow = λ t b x y u k e. tt;
  replay = λ t b x y u v k e p. e;
}
