-- New arrays.
use Rattle.std.specs.Prelude.{List, [], ◌∷◌, ◌++◌}
use Rattle.std.specs.List.{flat_map}
use Rattle.alias_hir.specs.declared.effect.AliasingEffect.{AliasingEffect}
use Rattle.alias_hir.specs.declared.effect.AliasingEffect.TheVariants.{Capture}
use Rattle.alias_hir.specs.declared.effect.ValueKind.TheVariants.{Mutable}
use Rattle.alias_hir.specs.declared.env.Environment.{Environment}
use Rattle.alias_hir.specs.declared.place.Place.{Place}
use Rattle.alias_hir.specs.declared.value.ArrayElement.{ArrayElement}
use Rattle.alias_hir.specs.declared.value.ArrayElement.TheVariants as element
use Rattle.alias_signature.specs.Created.{created}
use Rattle.alias_signature.specs.Iterators.{iteration_effects}

-- an element is put into the array; what is spread is iterated over first
abbrev pub element_effects : Environment → Place → ArrayElement → List AliasingEffect
element_effects env l (element.Place p) = Capture p l ∷ []
element_effects env l (element.Spread s) = iteration_effects env s.place ++ Capture s.place l ∷ []
element_effects env l element.Hole = []

-- a new array
abbrev pub array_expression_effects : Environment → Place → List ArrayElement → List AliasingEffect
array_expression_effects env l elements = created l Mutable ∷ flat_map (element_effects env l) elements
