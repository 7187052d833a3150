-- The elements, properties and JSX parts that JSON data spell.
use Rattle.std.specs.Prelude.{ℕ, List, [], ◌∷◌, Option, Some, None, Ok, codes, ⊤, if◌then◌else◌}
use Rattle.alias_base.specs.Answer.{◌>>=◌}
use Rattle.alias_hir.specs.declared.place.Place.{Place}
use Rattle.alias_hir.specs.declared.value.ArrayElement.{ArrayElement}
use Rattle.alias_hir.specs.declared.value.ArrayElement.TheVariants as element
use Rattle.alias_hir.specs.declared.value.ArrayPatternElement.{ArrayPatternElement}
use Rattle.alias_hir.specs.declared.value.ArrayPatternElement.TheVariants as pattern_element
use Rattle.alias_hir.specs.declared.value.ObjectPropertyOrSpread.{ObjectPropertyOrSpread}
use Rattle.alias_hir.specs.declared.value.ObjectPropertyOrSpread.TheVariants as property
use Rattle.alias_hir.specs.declared.value.PropertyLiteral.{PropertyLiteral}
use Rattle.alias_hir.specs.declared.value.PropertyLiteral.TheVariants as literal
use Rattle.alias_hir.specs.declared.value.JsxTag.{JsxTag}
use Rattle.alias_hir.specs.declared.value.JsxTag.TheVariants as tag
use Rattle.alias_hir.specs.declared.value.JsxAttribute.{JsxAttribute}
use Rattle.alias_hir.specs.declared.value.JsxAttribute.TheVariants as attribute
use Rattle.alias_json.specs.Fault.{refusal}
use Rattle.alias_json.specs.Reading.{Reads, text_at, object_at, known_keys, is_text, has_key, text_is}
use Rattle.alias_read.specs.Json.{option_at, required, optional}
use Rattle.alias_json.specs.declared.fault.TextRule.TheVariants.{Name}
use Rattle.alias_read.specs.Places.{place_at, spread_at, place_or_spread}

abbrev pub hole_at : Reads ⊤
hole_at p d = text_at p d >>= (λ t. if text_is t (codes "hole") then Ok tt else refusal p Name)

-- a text is a hole
abbrev pub or_hole : {A : Type 0} → A → Reads A → Reads A
or_hole hole f p d = if is_text d then (hole_at p d >>= (λ _. Ok hole)) else f p d

abbrev pub array_element_at : Reads ArrayElement
array_element_at = or_hole element.Hole (place_or_spread element.Place element.Spread)

abbrev pub pattern_element_at : Reads ArrayPatternElement
pattern_element_at = or_hole pattern_element.Hole (place_or_spread pattern_element.Place pattern_element.Spread)

-- a property whose key may be computed
abbrev pub keyed_at : Reads ObjectPropertyOrSpread
keyed_at p d = do
  computed ← optional place_at p (codes "computed") d
  place ← required place_at p (codes "place") d
  _ ← known_keys (codes "computed" ∷ codes "place" ∷ []) p d
  Ok (property.Property (record { computed = computed; place = place }))

-- a spread where the key `spread` is there
abbrev pub property_at : Reads ObjectPropertyOrSpread
property_at p d = do
  _ ← object_at p d
  if has_key (codes "spread") d then (spread_at p d >>= (λ spread. Ok (property.Spread spread))) else keyed_at p d

-- none is a number
abbrev pub literal_of : Option (List ℕ) → PropertyLiteral
literal_of None = literal.Number
literal_of (Some t) = literal.String t

abbrev pub literal_at : Reads PropertyLiteral
literal_at p d = option_at text_at p d >>= (λ name. Ok (literal_of name))

-- none is a name that is built in
abbrev pub tag_of : Option Place → JsxTag
tag_of None = tag.Builtin
tag_of (Some place) = tag.Place place

abbrev pub tag_at : Reads JsxTag
tag_at p d = option_at place_at p d >>= (λ place. Ok (tag_of place))

abbrev pub attribute_at : Reads JsxAttribute
attribute_at = place_or_spread attribute.Attribute (λ spread. attribute.Spread spread.place)
