-- Iteration over a value.
use Rattle.std.specs.Prelude.{List, [], ◌∷◌, if◌then◌else◌}
use Rattle.alias_hir.specs.Types.{is_builtin_collection_at}
use Rattle.alias_hir.specs.declared.effect.AliasingEffect.{AliasingEffect}
use Rattle.alias_hir.specs.declared.effect.AliasingEffect.TheVariants.{CreateFrom, Capture, Alias, MutateConditionally}
use Rattle.alias_hir.specs.declared.effect.AliasingEffect.TheVariants.{MutateTransitiveConditionally}
use Rattle.alias_hir.specs.declared.effect.ValueKind.TheVariants.{Mutable}
use Rattle.alias_hir.specs.declared.env.Environment.{Environment}
use Rattle.alias_hir.specs.declared.place.Place.{Place}
use Rattle.alias_signature.specs.Created.{created}

-- iteration may write what is iterated over, unless it is a builtin collection
abbrev pub iteration_effects : Environment → Place → List AliasingEffect
iteration_effects env p = if is_builtin_collection_at env p.identifier then [] else MutateTransitiveConditionally p ∷ []

-- a new iterator, of a builtin collection that it holds, or else of a value that may be its own iterator
abbrev pub get_iterator_effects : Environment → Place → Place → List AliasingEffect
get_iterator_effects env l collection =
    created l Mutable ∷ (if is_builtin_collection_at env collection.identifier then Capture collection l ∷ []
    else Alias collection l ∷ MutateTransitiveConditionally collection ∷ [])

-- the iterator moves on, and gives a part of the collection
abbrev pub iterator_next_effects : Place → Place → Place → List AliasingEffect
iterator_next_effects l iterator collection = MutateConditionally iterator ∷ CreateFrom collection l ∷ []
