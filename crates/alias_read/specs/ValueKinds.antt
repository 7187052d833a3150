-- The names of the kinds of instruction.
use Rattle.std.specs.Prelude.{ℕ, List, [], ◌∷◌, codes}
use Rattle.alias_read.specs.declared.value_kinds.InstructionValueKind.{InstructionValueKind}
use Rattle.alias_read.specs.declared.value_kinds.InstructionValueKind.TheVariants.{Plain, OnePlace, TwoPlaces}
use Rattle.alias_read.specs.declared.value_kinds.InstructionValueKind.TheVariants.{PlaceList, Function, Declare, Store}
use Rattle.alias_read.specs.declared.value_kinds.InstructionValueKind.TheVariants.{Call, ArrayExpression}
use Rattle.alias_read.specs.declared.value_kinds.InstructionValueKind.TheVariants.{ObjectExpression, MethodCall}
use Rattle.alias_read.specs.declared.value_kinds.InstructionValueKind.TheVariants.{PropertyStore, ComputedStore}
use Rattle.alias_read.specs.declared.value_kinds.InstructionValueKind.TheVariants.{JsxExpression, Destructure}
use Rattle.alias_read.specs.declared.value_kinds.InstructionValueKind.TheVariants.{StoreGlobal}
use Rattle.alias_read.specs.declared.value_kinds.PlainKind.TheVariants as plain
use Rattle.alias_read.specs.declared.value_kinds.OnePlaceKind.TheVariants as one
use Rattle.alias_read.specs.declared.value_kinds.TwoPlacesKind.TheVariants as two
use Rattle.alias_read.specs.declared.value_kinds.PlaceListKind.TheVariants as list
use Rattle.alias_read.specs.declared.value_kinds.FunctionKind.TheVariants as function
use Rattle.alias_read.specs.declared.value_kinds.DeclareKind.TheVariants as declare
use Rattle.alias_read.specs.declared.value_kinds.StoreKind.TheVariants as store
use Rattle.alias_read.specs.declared.value_kinds.CallKind.TheVariants as call

unfoldable pub instruction_value_names : List (List ℕ × InstructionValueKind)
instruction_value_names =
    (codes "ArrayExpression", ArrayExpression) ∷
    (codes "ObjectExpression", ObjectExpression) ∷
    (codes "Await", OnePlace one.Await) ∷
    (codes "NewExpression", Call call.NewExpression) ∷
    (codes "CallExpression", Call call.CallExpression) ∷
    (codes "MethodCall", MethodCall) ∷
    (codes "PropertyDelete", OnePlace one.PropertyDelete) ∷
    (codes "ComputedDelete", TwoPlaces two.ComputedDelete) ∷
    (codes "PropertyLoad", OnePlace one.PropertyLoad) ∷
    (codes "ComputedLoad", TwoPlaces two.ComputedLoad) ∷
    (codes "PropertyStore", PropertyStore) ∷
    (codes "ComputedStore", ComputedStore) ∷
    (codes "FunctionExpression", Function function.FunctionExpression) ∷
    (codes "ObjectMethod", Function function.ObjectMethod) ∷
    (codes "GetIterator", OnePlace one.GetIterator) ∷
    (codes "IteratorNext", TwoPlaces two.IteratorNext) ∷
    (codes "NextPropertyOf", OnePlace one.NextPropertyOf) ∷
    (codes "JsxExpression", JsxExpression) ∷
    (codes "JsxFragment", PlaceList list.JsxFragment) ∷
    (codes "DeclareLocal", Declare declare.DeclareLocal) ∷
    (codes "Destructure", Destructure) ∷
    (codes "LoadContext", OnePlace one.LoadContext) ∷
    (codes "DeclareContext", Declare declare.DeclareContext) ∷
    (codes "StoreContext", Store store.StoreContext) ∷
    (codes "LoadLocal", OnePlace one.LoadLocal) ∷
    (codes "StoreLocal", Store store.StoreLocal) ∷
    (codes "PostfixUpdate", TwoPlaces two.PostfixUpdate) ∷
    (codes "PrefixUpdate", TwoPlaces two.PrefixUpdate) ∷
    (codes "StoreGlobal", StoreGlobal) ∷
    (codes "TypeCastExpression", OnePlace one.TypeCastExpression) ∷
    (codes "LoadGlobal", Plain plain.LoadGlobal) ∷
    (codes "StartMemoize", PlaceList list.StartMemoize) ∷
    (codes "FinishMemoize", OnePlace one.FinishMemoize) ∷
    (codes "TaggedTemplateExpression", OnePlace one.TaggedTemplateExpression) ∷
    (codes "BinaryExpression", TwoPlaces two.BinaryExpression) ∷
    (codes "TemplateLiteral", PlaceList list.TemplateLiteral) ∷
    (codes "UnaryExpression", OnePlace one.UnaryExpression) ∷
    (codes "Debugger", Plain plain.Debugger) ∷
    (codes "JSXText", Plain plain.JSXText) ∷
    (codes "MetaProperty", Plain plain.MetaProperty) ∷
    (codes "Primitive", Plain plain.Primitive) ∷
    (codes "RegExpLiteral", Plain plain.RegExpLiteral) ∷
    []
