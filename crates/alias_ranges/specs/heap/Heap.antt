-- What places hold and what objects store, after a history of changes. A history has the newest first.
use Rattle.std.specs.Prelude.{◌≡◌, ◌≢◌, ℕ, ◌⊎◌, List, [], ◌∷◌, length}
use Rattle.alias_base.specs.declared.ids.IdentifierId.{IdentifierId}
use Rattle.alias_hir.specs.declared.effect.AliasingEffect.{AliasingEffect}
use Rattle.alias_hir.specs.declared.effect.AliasingEffect.TheVariants as effect

-- x holds a new object; a new one and those of a; those of a; nothing; also those of a. And each object of x also
-- stores those of a
pub data Change : Type 0 where
  New : (x : IdentifierId) → Change
  NewFrom : (a x : IdentifierId) → Change
  Copies : (a x : IdentifierId) → Change
  Clears : (x : IdentifierId) → Change
  Adds : (a x : IdentifierId) → Change
  StoresInto : (a x : IdentifierId) → Change

abbrev pub History : Type 0
History = List Change

-- an object has the number of its making, so that new ones are distinct, and the place that it was made for
pub record Object : Type 0 where
  pub number : ℕ
  pub origin : IdentifierId

abbrev pub new_object : IdentifierId → History → Object
new_object x h = record { number = length h; origin = x }

-- after the history y holds the object
abbrev pub Holds : History → IdentifierId → Object → Type 0
Holds [] y o = ⊥
Holds (New x ∷ h) y o = ((y ≡ x) × (o ≡ new_object x h)) ⊎ ((y ≢ x) × Holds h y o)
Holds (NewFrom a x ∷ h) y o = ((y ≡ x) × ((o ≡ new_object x h) ⊎ Holds h a o)) ⊎ ((y ≢ x) × Holds h y o)
Holds (Copies a x ∷ h) y o = ((y ≡ x) × Holds h a o) ⊎ ((y ≢ x) × Holds h y o)
Holds (Clears x ∷ h) y o = (y ≢ x) × Holds h y o
Holds (Adds a x ∷ h) y o = Holds h y o ⊎ ((y ≡ x) × Holds h a o)
Holds (StoresInto a x ∷ h) y o = Holds h y o

-- after the history the object o stores q
abbrev pub Stores : History → Object → Object → Type 0
Stores [] o q = ⊥
Stores (New x ∷ h) o q = Stores h o q
Stores (NewFrom a x ∷ h) o q = Stores h o q
Stores (Copies a x ∷ h) o q = Stores h o q
Stores (Clears x ∷ h) o q = Stores h o q
Stores (Adds a x ∷ h) o q = Stores h o q
Stores (StoresInto a x ∷ h) o q = Stores h o q ⊎ (Holds h x o × Holds h a q)

-- q is o, or is reached from it by stored objects
pub data IsWithin (h : History) (o : Object) : Object → Type 0 where
  itself : IsWithin h o o
  stored : (p q : Object) → IsWithin h o p → Stores h p q → IsWithin h o q

-- after the history y holds the object, or holds one from which it is reached by stored objects
abbrev pub Reaches : History → IdentifierId → Object → Type 0
Reaches h y q = (o : Object) × Holds h y o × IsWithin h o q

-- after the history the effect writes the object: one that its place holds, or, where it is transitive, reaches
abbrev pub Writes : History → AliasingEffect → Object → Type 0
Writes h (effect.Mutate v reason) o = Holds h v.identifier o
Writes h (effect.MutateConditionally v) o = Holds h v.identifier o
Writes h (effect.MutateTransitive v) o = Reaches h v.identifier o
Writes h (effect.MutateTransitiveConditionally v) o = Reaches h v.identifier o
Writes h e o = ⊥
