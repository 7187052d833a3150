-- The declarations and stores that JSON data spell.
use Rattle.std.specs.Prelude.{[], ◌∷◌, Ok, codes}
use Rattle.alias_base.specs.Answer.{◌>>=◌}
use Rattle.alias_hir.specs.declared.value.InstructionValue.{InstructionValue}
use Rattle.alias_hir.specs.declared.value.InstructionValue.TheVariants as value
use Rattle.alias_hir.specs.declared.place.Place.{Place}
use Rattle.alias_hir.specs.declared.value.LValue.{LValue}
use Rattle.alias_json.specs.Reading.{Reads, text_at, known_keys}
use Rattle.alias_read.specs.Json.{required}
use Rattle.alias_read.specs.Places.{place_at}
use Rattle.alias_read.specs.Elements.{literal_at}
use Rattle.alias_read.specs.Patterns.{lvalue_at, lvalue_pattern_at}
use Rattle.alias_read.specs.declared.value_kinds.DeclareKind.{DeclareKind}
use Rattle.alias_read.specs.declared.value_kinds.DeclareKind.TheVariants as declare
use Rattle.alias_read.specs.declared.value_kinds.StoreKind.{StoreKind}
use Rattle.alias_read.specs.declared.value_kinds.StoreKind.TheVariants as store

abbrev pub declare_with : DeclareKind → LValue → InstructionValue
declare_with declare.DeclareLocal lvalue = value.DeclareLocal lvalue
declare_with declare.DeclareContext lvalue = value.DeclareContext lvalue

abbrev pub declare_at : DeclareKind → Reads InstructionValue
declare_at kind p d = do
  lvalue ← required lvalue_at p (codes "lvalue") d
  _ ← known_keys (codes "kind" ∷ codes "lvalue" ∷ []) p d
  Ok (declare_with kind lvalue)

abbrev pub store_with : StoreKind → LValue → Place → InstructionValue
store_with store.StoreContext lvalue stored = value.StoreContext lvalue stored
store_with store.StoreLocal lvalue stored = value.StoreLocal lvalue stored

abbrev pub store_at : StoreKind → Reads InstructionValue
store_at kind p d = do
  lvalue ← required lvalue_at p (codes "lvalue") d
  stored ← required place_at p (codes "value") d
  _ ← known_keys (codes "kind" ∷ codes "lvalue" ∷ codes "value" ∷ []) p d
  Ok (store_with kind lvalue stored)

abbrev pub destructure_at : Reads InstructionValue
destructure_at p d = do
  lvalue ← required lvalue_pattern_at p (codes "lvalue") d
  taken ← required place_at p (codes "value") d
  _ ← known_keys (codes "kind" ∷ codes "lvalue" ∷ codes "value" ∷ []) p d
  Ok (value.Destructure lvalue taken)

abbrev pub store_global_at : Reads InstructionValue
store_global_at p d = do
  name ← required text_at p (codes "name") d
  stored ← required place_at p (codes "value") d
  _ ← known_keys (codes "kind" ∷ codes "name" ∷ codes "value" ∷ []) p d
  Ok (value.StoreGlobal name stored)

abbrev pub property_store_at : Reads InstructionValue
property_store_at p d = do
  held ← required place_at p (codes "object") d
  property ← required literal_at p (codes "property") d
  stored ← required place_at p (codes "value") d
  _ ← known_keys (codes "kind" ∷ codes "object" ∷ codes "property" ∷ codes "value" ∷ []) p d
  Ok (value.PropertyStore held property stored)

abbrev pub computed_store_at : Reads InstructionValue
computed_store_at p d = do
  held ← required place_at p (codes "object") d
  property ← required place_at p (codes "property") d
  stored ← required place_at p (codes "value") d
  _ ← known_keys (codes "kind" ∷ codes "object" ∷ codes "property" ∷ codes "value" ∷ []) p d
  Ok (value.ComputedStore held property stored)
