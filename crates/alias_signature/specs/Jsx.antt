-- Elements, and fragments.
use Rattle.std.specs.Prelude.{List, [], ◌∷◌, ◌++◌, map, if◌then◌else◌}
use Rattle.std.specs.List.{flat_map}
use Rattle.alias_hir.specs.Parts.{tag_places}
use Rattle.alias_hir.specs.Types.{returns_jsx_at}
use Rattle.alias_hir.specs.declared.effect.AliasingEffect.{AliasingEffect}
use Rattle.alias_hir.specs.declared.effect.AliasingEffect.TheVariants.{Create, Freeze, Capture, Render}
use Rattle.alias_hir.specs.declared.effect.ValueKind.TheVariants.{Frozen}
use Rattle.alias_hir.specs.declared.effect.ValueReason.TheVariants.{JsxCaptured}
use Rattle.alias_hir.specs.declared.env.Environment.{Environment}
use Rattle.alias_hir.specs.declared.place.Place.{Place}
use Rattle.alias_hir.specs.declared.value.JsxAttribute.{JsxAttribute}
use Rattle.alias_hir.specs.declared.value.JsxAttribute.TheVariants as attribute
use Rattle.alias_hir.specs.declared.value.JsxTag.{JsxTag}

-- an operand is frozen and put into the element
abbrev pub jsx_operand_effects : Place → Place → List AliasingEffect
jsx_operand_effects l o = Freeze o JsxCaptured ∷ Capture o l ∷ []

-- a new frozen value of these operands
abbrev pub jsx_effects : Place → List Place → List AliasingEffect
jsx_effects l operands = Create l Frozen JsxCaptured ∷ flat_map (jsx_operand_effects l) operands

-- an attribute is called while rendering if it is a function that returns JSX
abbrev pub attribute_effects : Environment → JsxAttribute → List AliasingEffect
attribute_effects env (attribute.Attribute p) = if returns_jsx_at env p.identifier then Render p ∷ [] else []
attribute_effects env (attribute.Spread p) = []

-- what is called while rendering: the tag, the children, and some attributes
abbrev pub render_effects : Environment → JsxTag → List JsxAttribute → List Place → List AliasingEffect
render_effects env tag props children = map Render (tag_places tag) ++ map Render children
    ++ flat_map (attribute_effects env) props
