-- The state that a function's entry begins with: its context places and its parameters have values, and nothing else.
use Rattle.std.specs.Prelude.{ℕ, ◌+◌, Bool, true, false, List, [], ◌∷◌, Option, Some, None, bit_or, slice_get}
use Rattle.std.specs.Prelude.{if◌then◌else◌}
use Rattle.std.specs.List.{fold}
use Rattle.alias_hir.specs.declared.effect.ValueKind.TheVariants as kind
use Rattle.alias_hir.specs.declared.effect.ValueReason.{ValueReason}
use Rattle.alias_hir.specs.declared.effect.ValueReason.TheVariants.{Other, ReactiveFunctionArgument}
use Rattle.alias_hir.specs.declared.hir.ContextValue.{ContextValue}
use Rattle.alias_hir.specs.declared.hir.FunctionType.{FunctionType}
use Rattle.alias_hir.specs.declared.hir.FunctionType.TheVariants as func_is
use Rattle.alias_hir.specs.declared.hir.ParamPattern.{ParamPattern}
use Rattle.alias_hir.specs.declared.place.Place.{Place}
use Rattle.alias_hir.specs.Parts.{param_place}
use Rattle.alias_lattice.specs.declared.site.Site.TheVariants as site
use Rattle.alias_lattice.specs.declared.value.AbstractValue.{AbstractValue}
use Rattle.alias_lattice.specs.Reasons.{single_reason}
use Rattle.alias_lattice.specs.States.{State, empty_state, given, mutable_other}
use Rattle.alias_apply.specs.Kinds.{value_with}
use Rattle.alias_step.specs.block.Contexts.{BlockContext}

-- ---- context places

abbrev pub with_reason : ℕ → ValueReason → ℕ
with_reason reasons r = bit_or reasons (single_reason r)

-- the reasons as a set
abbrev pub reasons_of : List ValueReason → ℕ
reasons_of = fold with_reason 0

-- what the function says of a context place, and Context {Other} where it says nothing
abbrev pub context_value : Option ContextValue → AbstractValue
context_value None = value_with kind.Context Other
context_value (Some v) = record { kind = v.kind; reason = reasons_of v.reasons }

abbrev pub with_context_place : Option ContextValue → Place → State → State
with_context_place v p s = given p.identifier (site.Context p.identifier) (context_value v) s

-- the context places, of which the first has the value at the index
abbrev pub with_context_from : List ContextValue → ℕ → List Place → State → State
with_context_from values index [] s = s
with_context_from values index (p ∷ ps) s =
    with_context_from values (index + 1) ps (with_context_place (slice_get values index) p s)

abbrev pub with_context : List ContextValue → List Place → State → State
with_context values = with_context_from values 0

-- ---- parameters

-- those of a function expression may be written, and those of a component or hook are frozen
abbrev pub param_value : Bool → AbstractValue
param_value is_function_expression = if is_function_expression then mutable_other
    else value_with kind.Frozen ReactiveFunctionArgument

abbrev pub with_param : AbstractValue → State → ParamPattern → State
with_param v s p = given (param_place p).identifier (site.Parameter (param_place p).identifier) v s

abbrev pub with_param_at : AbstractValue → Option ParamPattern → State → State
with_param_at v None s = s
with_param_at v (Some p) s = with_param v s p

-- a component has its props and a ref, which may be written
abbrev pub with_component_params : AbstractValue → List ParamPattern → State → State
with_component_params v params s = with_param_at mutable_other (slice_get params 1)
    (with_param_at v (slice_get params 0) s)

abbrev pub with_params : FunctionType → AbstractValue → List ParamPattern → State → State
with_params func_is.Component v params s = with_component_params v params s
with_params t v params s = fold (with_param v) s params

-- ---- the entry

abbrev pub initial_state : BlockContext → State
initial_state c = with_params c.func.fn_type (param_value c.is_function_expression) c.func.params
    (with_context c.func.context_values c.func.context empty_state)
