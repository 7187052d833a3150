-- The calls, and the instructions that create a function, that JSON data spell.
use Rattle.std.specs.Prelude.{List, [], ◌∷◌, Ok, codes}
use Rattle.alias_base.specs.Answer.{◌>>=◌}
use Rattle.alias_hir.specs.declared.value.InstructionValue.{InstructionValue}
use Rattle.alias_hir.specs.declared.value.InstructionValue.TheVariants as value
use Rattle.alias_hir.specs.declared.place.Place.{Place}
use Rattle.alias_hir.specs.declared.place.PlaceOrSpread.{PlaceOrSpread}
use Rattle.alias_hir.specs.declared.value.LoweredFunction.{LoweredFunction}
use Rattle.alias_json.specs.Reading.{Reads, number_at, known_keys}
use Rattle.alias_read.specs.Json.{required, list_of}
use Rattle.alias_read.specs.Places.{place_at, argument_at}
use Rattle.alias_read.specs.declared.value_kinds.FunctionKind.{FunctionKind}
use Rattle.alias_read.specs.declared.value_kinds.FunctionKind.TheVariants as function
use Rattle.alias_read.specs.declared.value_kinds.CallKind.{CallKind}
use Rattle.alias_read.specs.declared.value_kinds.CallKind.TheVariants as call

abbrev pub call_with : CallKind → Place → List PlaceOrSpread → InstructionValue
call_with call.NewExpression callee args = value.NewExpression callee args
call_with call.CallExpression callee args = value.CallExpression callee args

abbrev pub call_at : CallKind → Reads InstructionValue
call_at kind p d = do
  callee ← required place_at p (codes "callee") d
  args ← list_of argument_at p (codes "args") d
  _ ← known_keys (codes "kind" ∷ codes "callee" ∷ codes "args" ∷ []) p d
  Ok (call_with kind callee args)

abbrev pub method_call_at : Reads InstructionValue
method_call_at p d = do
  receiver ← required place_at p (codes "receiver") d
  property ← required place_at p (codes "property") d
  args ← list_of argument_at p (codes "args") d
  _ ← known_keys (codes "kind" ∷ codes "receiver" ∷ codes "property" ∷ codes "args" ∷ []) p d
  Ok (value.MethodCall receiver property args)

abbrev pub function_with : FunctionKind → LoweredFunction → InstructionValue
function_with function.FunctionExpression lowered = value.FunctionExpression lowered
function_with function.ObjectMethod lowered = value.ObjectMethod lowered

abbrev pub function_value_at : FunctionKind → Reads InstructionValue
function_value_at kind p d = do
  func ← required number_at p (codes "function") d
  _ ← known_keys (codes "kind" ∷ codes "function" ∷ []) p d
  Ok (function_with kind (record { func = record { 0 = func } }))
