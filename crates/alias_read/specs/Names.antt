-- Names of effects, of kinds and reasons of values, of declarations and of functions.
use Rattle.std.specs.Prelude.{ℕ, List, [], ◌∷◌, codes}
use Rattle.alias_hir.specs.declared.place.Effect.{Effect}
use Rattle.alias_hir.specs.declared.place.Effect.TheVariants as effect
use Rattle.alias_hir.specs.declared.effect.ValueKind.{ValueKind}
use Rattle.alias_hir.specs.declared.effect.ValueKind.TheVariants as value_kind
use Rattle.alias_hir.specs.declared.effect.ValueReason.{ValueReason}
use Rattle.alias_hir.specs.declared.effect.ValueReason.TheVariants as reason
use Rattle.alias_hir.specs.declared.value.InstructionKind.{InstructionKind}
use Rattle.alias_hir.specs.declared.value.InstructionKind.TheVariants as kind
use Rattle.alias_hir.specs.declared.hir.FunctionType.{FunctionType}
use Rattle.alias_hir.specs.declared.hir.FunctionType.TheVariants as fn_type

unfoldable pub effect_names : List (List ℕ × Effect)
effect_names =
    (codes "Unknown", effect.Unknown) ∷
    (codes "Freeze", effect.Freeze) ∷
    (codes "Read", effect.Read) ∷
    (codes "Capture", effect.Capture) ∷
    (codes "ConditionallyMutateIterator", effect.ConditionallyMutateIterator) ∷
    (codes "ConditionallyMutate", effect.ConditionallyMutate) ∷
    (codes "Mutate", effect.Mutate) ∷
    (codes "Store", effect.Store) ∷
    []

unfoldable pub value_kind_names : List (List ℕ × ValueKind)
value_kind_names =
    (codes "Primitive", value_kind.Primitive) ∷
    (codes "Global", value_kind.Global) ∷
    (codes "Frozen", value_kind.Frozen) ∷
    (codes "Mutable", value_kind.Mutable) ∷
    (codes "Context", value_kind.Context) ∷
    (codes "MaybeFrozen", value_kind.MaybeFrozen) ∷
    []

unfoldable pub value_reason_names : List (List ℕ × ValueReason)
value_reason_names =
    (codes "KnownReturnSignature", reason.KnownReturnSignature) ∷
    (codes "State", reason.State) ∷
    (codes "ReducerState", reason.ReducerState) ∷
    (codes "Context", reason.Context) ∷
    (codes "Effect", reason.Effect) ∷
    (codes "HookCaptured", reason.HookCaptured) ∷
    (codes "HookReturn", reason.HookReturn) ∷
    (codes "Global", reason.Global) ∷
    (codes "JsxCaptured", reason.JsxCaptured) ∷
    (codes "StoreLocal", reason.StoreLocal) ∷
    (codes "ReactiveFunctionArgument", reason.ReactiveFunctionArgument) ∷
    (codes "Other", reason.Other) ∷
    []

unfoldable pub instruction_kind_names : List (List ℕ × InstructionKind)
instruction_kind_names =
    (codes "Const", kind.Const) ∷
    (codes "Let", kind.Let) ∷
    (codes "Reassign", kind.Reassign) ∷
    (codes "Catch", kind.Catch) ∷
    (codes "HoistedConst", kind.HoistedConst) ∷
    (codes "HoistedLet", kind.HoistedLet) ∷
    (codes "HoistedFunction", kind.HoistedFunction) ∷
    (codes "Function", kind.Function) ∷
    []

unfoldable pub function_type_names : List (List ℕ × FunctionType)
function_type_names =
    (codes "Component", fn_type.Component) ∷
    (codes "Hook", fn_type.Hook) ∷
    (codes "Other", fn_type.Other) ∷
    []
