-- Orders in which any two values stand in exactly one way.
use Rattle.std.specs.Prelude.{◌≡◌, ◌⊎◌}
use Rattle.std.specs.declared.cmp.Ordering.{Ordering}
use Rattle.std.specs.declared.cmp.Ordering.TheVariants.{Less, Equal, Greater}
use Rattle.alias_graph.specs.declared.types.MutationKind.{MutationKind}
use Rattle.alias_graph.specs.contracts.types.MutationKindOrd.TheImpl as derived

-- one of the three holds, and no other
abbrev pub ExactlyOne : Type 0 → Type 0 → Type 0 → Type 0
ExactlyOne A B C = (A × ¬ B × ¬ C) ⊎ ((¬ A × B × ¬ C) ⊎ (¬ A × ¬ B × C))

-- one holds exactly where the other does
abbrev pub Exactly : Type 0 → Type 0 → Type 0
Exactly A B = (A → B) × (B → A)

-- a total order that tells all values apart
pub record IsLinearOrder {K : Type 0} (compare : K → K → Ordering) : Type 0 where
  -- the first is less than the second, they are the same, or the second is less than the first
  pub one : (x y : K) → ExactlyOne (compare x y ≡ Less) (x ≡ y) (compare y x ≡ Less)
  pub greater : (x y : K) → Exactly (compare x y ≡ Greater) (compare y x ≡ Less)
  pub equal : (x y : K) → Exactly (compare x y ≡ Equal) (x ≡ y)
  pub transitive : (x y z : K) → compare x y ≡ Less → compare y z ≡ Less → compare x z ≡ Less

-- the order of kinds of mutation, as it is derived
abbrev pub mutation_kind_cmp : MutationKind → MutationKind → Ordering
mutation_kind_cmp = derived.ghosts.cmp
