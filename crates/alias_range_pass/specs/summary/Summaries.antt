-- The summary of a function: what callers see of its effects.
use Rattle.std.specs.Prelude.{ℕ, Bool, false, List, [], ◌∷◌, ◌++◌, if◌then◌else◌, map}
use Rattle.std.specs.Option.{option_map_or}
use Rattle.alias_base.specs.declared.ids.IdentifierId.{IdentifierId}
use Rattle.alias_hir.specs.declared.effect.AliasingEffect.{AliasingEffect}
use Rattle.alias_hir.specs.declared.effect.AliasingEffect.TheVariants as effect
use Rattle.alias_hir.specs.declared.effect.ValueKind.{ValueKind}
use Rattle.alias_hir.specs.declared.effect.ValueKind.TheVariants.{Primitive, Frozen, Mutable}
use Rattle.alias_hir.specs.declared.effect.ValueReason.TheVariants.{KnownReturnSignature}
use Rattle.alias_hir.specs.declared.env.Environment.{Environment}
use Rattle.alias_hir.specs.declared.hir.HirFunction.{HirFunction}
use Rattle.alias_hir.specs.declared.place.Place.{Place}
use Rattle.alias_hir.specs.Parts.{param_place}
use Rattle.alias_hir.specs.Types.{is_primitive_at, is_jsx_type, type_of}
use Rattle.alias_graph.specs.Nodes.{Nodes}
use Rattle.alias_range_pass.specs.summary.Flows.{flows_listed}
use Rattle.alias_range_pass.specs.summary.MarkedPlaces.{marks_of_all}

-- the places whose marks are listed: context places, and then parameters
abbrev pub context_and_params : HirFunction → List Place
context_and_params f = f.context ++ map param_place f.params

-- the places between which flows are listed: parameters, context places and returns
abbrev pub tracked : HirFunction → List Place
tracked f = map param_place f.params ++ f.context ++ f.returns ∷ []

abbrev pub is_jsx_at : Environment → IdentifierId → Bool
is_jsx_at env id = option_map_or is_jsx_type (type_of env id) false

-- Primitive for a primitive type, Frozen for JSX, else Mutable
abbrev pub returned_kind : Environment → IdentifierId → ValueKind
returned_kind env id = if is_primitive_at env id then Primitive else (if is_jsx_at env id then Frozen else Mutable)

-- what a function returns, as a new value
abbrev pub returns_created : Environment → HirFunction → AliasingEffect
returns_created env f = effect.Create f.returns (returned_kind env f.returns.identifier) KnownReturnSignature

-- the summary that begins with these effects, of a function over this graph: then the marks of context places and
-- parameters, what is returned, and the flows, at positions from this one on
abbrev pub summarized : Nodes → ℕ → HirFunction → Environment → List AliasingEffect → List AliasingEffect
summarized g next f env begin =
    ((begin ++ marks_of_all g (context_and_params f)) ++ returns_created env f ∷ [])
    ++ flows_listed g next f.returns (tracked f) (tracked f)
