-- What instructions compute, that JSON data spell.
use Rattle.std.specs.Prelude.{codes}
use Rattle.alias_base.specs.Answer.{◌>>=◌}
use Rattle.alias_hir.specs.declared.value.InstructionValue.{InstructionValue}
use Rattle.alias_json.specs.Reading.{Reads, object_at}
use Rattle.alias_read.specs.Json.{required}
use Rattle.alias_json.specs.Names.{named_at}
use Rattle.alias_read.specs.ValueKinds.{instruction_value_names}
use Rattle.alias_read.specs.Operations.{plain_at, one_place_at, two_places_at, place_list_at}
use Rattle.alias_read.specs.Calls.{call_at, method_call_at, function_value_at}
use Rattle.alias_read.specs.Objects.{array_expression_at, object_expression_at, jsx_expression_at}
use Rattle.alias_read.specs.Stores.{declare_at, store_at, destructure_at, store_global_at, property_store_at}
use Rattle.alias_read.specs.Stores.{computed_store_at}
use Rattle.alias_read.specs.declared.value_kinds.InstructionValueKind.{InstructionValueKind}
use Rattle.alias_read.specs.declared.value_kinds.InstructionValueKind.TheVariants.{Plain, OnePlace, TwoPlaces}
use Rattle.alias_read.specs.declared.value_kinds.InstructionValueKind.TheVariants.{PlaceList, Function, Declare, Store}
use Rattle.alias_read.specs.declared.value_kinds.InstructionValueKind.TheVariants.{Call, ArrayExpression}
use Rattle.alias_read.specs.declared.value_kinds.InstructionValueKind.TheVariants.{ObjectExpression, MethodCall}
use Rattle.alias_read.specs.declared.value_kinds.InstructionValueKind.TheVariants.{PropertyStore, ComputedStore}
use Rattle.alias_read.specs.declared.value_kinds.InstructionValueKind.TheVariants.{JsxExpression, Destructure}
use Rattle.alias_read.specs.declared.value_kinds.InstructionValueKind.TheVariants.{StoreGlobal}

abbrev pub value_of_kind : InstructionValueKind → Reads InstructionValue
value_of_kind (Plain kind) p d = plain_at kind p d
value_of_kind (OnePlace kind) p d = one_place_at kind p d
value_of_kind (TwoPlaces kind) p d = two_places_at kind p d
value_of_kind (PlaceList kind) p d = place_list_at kind p d
value_of_kind (Function kind) p d = function_value_at kind p d
value_of_kind (Declare kind) p d = declare_at kind p d
value_of_kind (Store kind) p d = store_at kind p d
value_of_kind (Call kind) p d = call_at kind p d
value_of_kind ArrayExpression p d = array_expression_at p d
value_of_kind ObjectExpression p d = object_expression_at p d
value_of_kind MethodCall p d = method_call_at p d
value_of_kind PropertyStore p d = property_store_at p d
value_of_kind ComputedStore p d = computed_store_at p d
value_of_kind JsxExpression p d = jsx_expression_at p d
value_of_kind Destructure p d = destructure_at p d
value_of_kind StoreGlobal p d = store_global_at p d

abbrev pub instruction_value_at : Reads InstructionValue
instruction_value_at p d = do
  _ ← object_at p d
  kind ← required (named_at instruction_value_names) p (codes "kind") d
  value_of_kind kind p d
