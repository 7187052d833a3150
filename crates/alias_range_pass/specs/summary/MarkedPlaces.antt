-- The marks of context places and parameters.
use Rattle.std.specs.Prelude.{◌≡◌, ◌⊎◌, ◌||◌, Bool, false, List, [], ◌∷◌, ◌++◌, Option, Some, None, if◌then◌else◌}
use Rattle.std.specs.Prelude.{is_some, map, option_map}
use Rattle.std.specs.List.{flat_map}
use Rattle.alias_base.specs.declared.ids.IdentifierId.{IdentifierId}
use Rattle.alias_hir.specs.declared.effect.AliasingEffect.{AliasingEffect}
use Rattle.alias_hir.specs.declared.effect.AliasingEffect.TheVariants as effect
use Rattle.alias_hir.specs.declared.effect.MutationReason.{MutationReason}
use Rattle.alias_hir.specs.declared.hir.HirFunction.{HirFunction}
use Rattle.alias_hir.specs.declared.hir.ParamPattern.{ParamPattern}
use Rattle.alias_hir.specs.declared.hir.ParamPattern.TheVariants as param
use Rattle.alias_hir.specs.declared.place.Effect.TheVariants.{Capture}
use Rattle.alias_hir.specs.declared.place.Place.{Place}
use Rattle.alias_graph.specs.declared.types.MutationInfo.{MutationInfo}
use Rattle.alias_graph.specs.declared.types.MutationKind.{MutationKind}
use Rattle.alias_graph.specs.declared.types.MutationKind.TheVariants.{Conditional, Definite}
use Rattle.alias_graph.specs.Flat.{marks_of}
use Rattle.alias_graph.specs.Nodes.{Node, Nodes, node_at}

-- the marks of the identifier's node
abbrev pub marks_at : Nodes → IdentifierId → Option Node
marks_at g id = option_map marks_of (node_at g id)

-- ---- as effects

-- the place, with the span of the mark
abbrev pub at_mark : MutationInfo → Place → Place
at_mark i x = record x { span = i.span }

abbrev pub local_effect : MutationKind → Option MutationReason → Place → AliasingEffect
local_effect Conditional reason x = effect.MutateConditionally x
local_effect Definite reason x = effect.Mutate x reason

abbrev pub local_effects : Option MutationInfo → Option MutationReason → Place → List AliasingEffect
local_effects None reason x = []
local_effects (Some i) reason x = local_effect i.kind reason (at_mark i x) ∷ []

abbrev pub transitive_effect : MutationKind → Place → AliasingEffect
transitive_effect Conditional x = effect.MutateTransitiveConditionally x
transitive_effect Definite x = effect.MutateTransitive x

abbrev pub transitive_effects : Option MutationInfo → Place → List AliasingEffect
transitive_effects None x = []
transitive_effects (Some i) x = transitive_effect i.kind (at_mark i x) ∷ []

abbrev pub node_effects : Option Node → Place → List AliasingEffect
node_effects None x = []
node_effects (Some n) x = local_effects n.local n.mutation_reason x ++ transitive_effects n.transitive x

-- the local mark of a place, and then the transitive one
abbrev pub mark_effects : Nodes → Place → List AliasingEffect
mark_effects g x = node_effects (marks_at g x.identifier) x

-- the marks of these places, in order
abbrev pub marks_of_all : Nodes → List Place → List AliasingEffect
marks_of_all g xs = flat_map (mark_effects g) xs

-- ---- as effects of places

abbrev pub is_marked_node : Option Node → Bool
is_marked_node None = false
is_marked_node (Some n) = is_some n.local || is_some n.transitive

abbrev pub is_marked : Nodes → IdentifierId → Bool
is_marked g id = is_marked_node (marks_at g id)

-- a marked place gets Capture
abbrev pub captured : Nodes → Place → Place
captured g x = if is_marked g x.identifier then record x { effect = Capture } else x

abbrev pub param_captured : Nodes → ParamPattern → ParamPattern
param_captured g (param.Place p) = param.Place (captured g p)
param_captured g (param.Spread s) = param.Spread (record s { place = captured g s.place })

-- marked parameters and context places get Capture
abbrev pub function_captured : Nodes → HirFunction → HirFunction
function_captured g f = record f { params = map (param_captured g) f.params; context = map (captured g) f.context }

-- a function that has captured, or not yet
abbrev pub IsSameOrCaptured : Nodes → HirFunction → HirFunction → Type 0
IsSameOrCaptured g old new = (new ≡ old) ⊎ (new ≡ function_captured g old)
