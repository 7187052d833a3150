-- The variables of declarations and stores that JSON data spell.
use Rattle.std.specs.Prelude.{[], ◌∷◌, Ok, codes, ◌||◌, not, if◌then◌else◌}
use Rattle.alias_base.specs.Answer.{◌>>=◌}
use Rattle.alias_hir.specs.declared.value.LValue.{LValue}
use Rattle.alias_hir.specs.declared.value.LValuePattern.{LValuePattern}
use Rattle.alias_hir.specs.declared.value.Pattern.{Pattern}
use Rattle.alias_hir.specs.declared.value.Pattern.TheVariants as pattern
use Rattle.alias_json.specs.Reading.{Reads, object_at, known_keys, has_key}
use Rattle.alias_read.specs.Json.{list_at, required}
use Rattle.alias_json.specs.Names.{named_at}
use Rattle.alias_read.specs.Names.{instruction_kind_names}
use Rattle.alias_read.specs.Places.{place_at}
use Rattle.alias_read.specs.Elements.{pattern_element_at, property_at}

abbrev pub lvalue_at : Reads LValue
lvalue_at p d = do
  _ ← object_at p d
  declared ← required (named_at instruction_kind_names) p (codes "kind") d
  place ← required place_at p (codes "place") d
  _ ← known_keys (codes "kind" ∷ codes "place" ∷ []) p d
  Ok (record { place = place; kind = declared })

abbrev pub array_pattern_at : Reads Pattern
array_pattern_at p d = do
  items ← required (list_at pattern_element_at) p (codes "array") d
  _ ← known_keys (codes "array" ∷ []) p d
  Ok (pattern.Array (record { items = items }))

abbrev pub object_pattern_at : Reads Pattern
object_pattern_at p d = do
  properties ← required (list_at property_at) p (codes "object") d
  _ ← known_keys (codes "object" ∷ []) p d
  Ok (pattern.Object (record { properties = properties }))

-- an object pattern where the key `object` is there, and no key `array`
abbrev pub pattern_at : Reads Pattern
pattern_at p d = do
  _ ← object_at p d
  if has_key (codes "array") d || not (has_key (codes "object") d) then array_pattern_at p d else object_pattern_at p d

abbrev pub lvalue_pattern_at : Reads LValuePattern
lvalue_pattern_at p d = do
  _ ← object_at p d
  declared ← required (named_at instruction_kind_names) p (codes "kind") d
  pattern ← required pattern_at p (codes "pattern") d
  _ ← known_keys (codes "kind" ∷ codes "pattern" ∷ []) p d
  Ok (record { pattern = pattern; kind = declared })
