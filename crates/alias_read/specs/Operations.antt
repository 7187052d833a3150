-- The instructions that JSON data spell by a kind and places alone.
use Rattle.std.specs.Prelude.{ℕ, List, [], ◌∷◌, Ok, codes}
use Rattle.alias_base.specs.Answer.{◌>>=◌}
use Rattle.alias_hir.specs.declared.value.InstructionValue.{InstructionValue}
use Rattle.alias_hir.specs.declared.value.InstructionValue.TheVariants as value
use Rattle.alias_hir.specs.declared.place.Place.{Place}
use Rattle.alias_json.specs.Reading.{Reads, known_keys}
use Rattle.alias_read.specs.Json.{required, list_of}
use Rattle.alias_read.specs.Places.{place_at}
use Rattle.alias_read.specs.declared.value_kinds.PlainKind.{PlainKind}
use Rattle.alias_read.specs.declared.value_kinds.PlainKind.TheVariants as plain
use Rattle.alias_read.specs.declared.value_kinds.OnePlaceKind.{OnePlaceKind}
use Rattle.alias_read.specs.declared.value_kinds.OnePlaceKind.TheVariants as one
use Rattle.alias_read.specs.declared.value_kinds.TwoPlacesKind.{TwoPlacesKind}
use Rattle.alias_read.specs.declared.value_kinds.TwoPlacesKind.TheVariants as two
use Rattle.alias_read.specs.declared.value_kinds.PlaceListKind.{PlaceListKind}
use Rattle.alias_read.specs.declared.value_kinds.PlaceListKind.TheVariants as list

-- ---- kinds that have no further key

abbrev pub plain_with : PlainKind → InstructionValue
plain_with plain.LoadGlobal = value.LoadGlobal
plain_with plain.Debugger = value.Debugger
plain_with plain.JSXText = value.JSXText
plain_with plain.MetaProperty = value.MetaProperty
plain_with plain.Primitive = value.Primitive
plain_with plain.RegExpLiteral = value.RegExpLiteral

abbrev pub plain_at : PlainKind → Reads InstructionValue
plain_at kind p d = do
  _ ← known_keys (codes "kind" ∷ []) p d
  Ok (plain_with kind)

-- ---- kinds whose one further key is a place

abbrev pub one_place_key : OnePlaceKind → List ℕ
one_place_key one.Await = codes "value"
one_place_key one.PropertyDelete = codes "object"
one_place_key one.PropertyLoad = codes "object"
one_place_key one.GetIterator = codes "collection"
one_place_key one.NextPropertyOf = codes "value"
one_place_key one.LoadContext = codes "place"
one_place_key one.LoadLocal = codes "place"
one_place_key one.TypeCastExpression = codes "value"
one_place_key one.FinishMemoize = codes "decl"
one_place_key one.TaggedTemplateExpression = codes "tag"
one_place_key one.UnaryExpression = codes "value"

abbrev pub one_place_with : OnePlaceKind → Place → InstructionValue
one_place_with one.Await place = value.Await place
one_place_with one.PropertyDelete place = value.PropertyDelete place
one_place_with one.PropertyLoad place = value.PropertyLoad place
one_place_with one.GetIterator place = value.GetIterator place
one_place_with one.NextPropertyOf place = value.NextPropertyOf place
one_place_with one.LoadContext place = value.LoadContext place
one_place_with one.LoadLocal place = value.LoadLocal place
one_place_with one.TypeCastExpression place = value.TypeCastExpression place
one_place_with one.FinishMemoize place = value.FinishMemoize place
one_place_with one.TaggedTemplateExpression place = value.TaggedTemplateExpression place
one_place_with one.UnaryExpression place = value.UnaryExpression place

abbrev pub one_place_at : OnePlaceKind → Reads InstructionValue
one_place_at kind p d = do
  place ← required place_at p (one_place_key kind) d
  _ ← known_keys (codes "kind" ∷ one_place_key kind ∷ []) p d
  Ok (one_place_with kind place)

-- ---- kinds whose two further keys are places

abbrev pub first_key : TwoPlacesKind → List ℕ
first_key two.ComputedDelete = codes "object"
first_key two.ComputedLoad = codes "object"
first_key two.IteratorNext = codes "iterator"
first_key two.PostfixUpdate = codes "lvalue"
first_key two.PrefixUpdate = codes "lvalue"
first_key two.BinaryExpression = codes "left"

abbrev pub second_key : TwoPlacesKind → List ℕ
second_key two.ComputedDelete = codes "property"
second_key two.ComputedLoad = codes "property"
second_key two.IteratorNext = codes "collection"
second_key two.PostfixUpdate = codes "value"
second_key two.PrefixUpdate = codes "value"
second_key two.BinaryExpression = codes "right"

abbrev pub two_places_with : TwoPlacesKind → Place → Place → InstructionValue
two_places_with two.ComputedDelete first second = value.ComputedDelete first second
two_places_with two.ComputedLoad first second = value.ComputedLoad first second
two_places_with two.IteratorNext first second = value.IteratorNext first second
two_places_with two.PostfixUpdate first second = value.PostfixUpdate first second
two_places_with two.PrefixUpdate first second = value.PrefixUpdate first second
two_places_with two.BinaryExpression first second = value.BinaryExpression first second

abbrev pub two_places_at : TwoPlacesKind → Reads InstructionValue
two_places_at kind p d = do
  first ← required place_at p (first_key kind) d
  second ← required place_at p (second_key kind) d
  _ ← known_keys (codes "kind" ∷ first_key kind ∷ second_key kind ∷ []) p d
  Ok (two_places_with kind first second)

-- ---- kinds whose one further key is a list of places

abbrev pub place_list_key : PlaceListKind → List ℕ
place_list_key list.JsxFragment = codes "children"
place_list_key list.StartMemoize = codes "deps"
place_list_key list.TemplateLiteral = codes "subexprs"

abbrev pub place_list_with : PlaceListKind → List Place → InstructionValue
place_list_with list.JsxFragment places = value.JsxFragment places
place_list_with list.StartMemoize places = value.StartMemoize places
place_list_with list.TemplateLiteral places = value.TemplateLiteral places

abbrev pub place_list_at : PlaceListKind → Reads InstructionValue
place_list_at kind p d = do
  places ← list_of place_at p (place_list_key kind) d
  _ ← known_keys (codes "kind" ∷ place_list_key kind ∷ []) p d
  Ok (place_list_with kind places)
