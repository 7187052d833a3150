-- The array and object expressions and the JSX that JSON data spell.
use Rattle.std.specs.Prelude.{[], ◌∷◌, Ok, codes}
use Rattle.alias_base.specs.Answer.{◌>>=◌}
use Rattle.alias_hir.specs.declared.value.InstructionValue.{InstructionValue}
use Rattle.alias_hir.specs.declared.value.InstructionValue.TheVariants as value
use Rattle.alias_json.specs.Reading.{Reads, known_keys}
use Rattle.alias_read.specs.Json.{required, list_of}
use Rattle.alias_read.specs.Places.{place_at}
use Rattle.alias_read.specs.Elements.{array_element_at, property_at, tag_at, attribute_at}

abbrev pub array_expression_at : Reads InstructionValue
array_expression_at p d = do
  elements ← list_of array_element_at p (codes "elements") d
  _ ← known_keys (codes "kind" ∷ codes "elements" ∷ []) p d
  Ok (value.ArrayExpression elements)

abbrev pub object_expression_at : Reads InstructionValue
object_expression_at p d = do
  properties ← list_of property_at p (codes "properties") d
  _ ← known_keys (codes "kind" ∷ codes "properties" ∷ []) p d
  Ok (value.ObjectExpression properties)

abbrev pub jsx_expression_at : Reads InstructionValue
jsx_expression_at p d = do
  tag ← required tag_at p (codes "tag") d
  props ← list_of attribute_at p (codes "props") d
  children ← list_of place_at p (codes "children") d
  _ ← known_keys (codes "kind" ∷ codes "tag" ∷ codes "props" ∷ codes "children" ∷ []) p d
  Ok (value.JsxExpression tag props children)
