-- A function begins with a proper state; what holds of all that a part of a block's step gives.
use Rattle.std.specs.Prelude.{◌≡◌, ℕ, ◌+◌, Bool, true, false, List, [], ◌∷◌, Option, None, Some, Ok, slice_get}
use Rattle.std.specs.List.{fold}
use Rattle.std.proofs.Common.{lit<}
use Rattle.alias_hir.specs.declared.effect.ValueReason.{ValueReason}
use Rattle.alias_hir.specs.declared.effect.ValueReason.TheVariants.{Other, ReactiveFunctionArgument}
use Rattle.alias_hir.specs.declared.hir.ContextValue.{ContextValue}
use Rattle.alias_hir.specs.declared.hir.FunctionType.{FunctionType}
use Rattle.alias_hir.specs.declared.hir.FunctionType.TheVariants as func_is
use Rattle.alias_hir.specs.declared.hir.ParamPattern.{ParamPattern}
use Rattle.alias_hir.specs.declared.place.Place.{Place}
use Rattle.alias_hir.specs.Parts.{param_place}
use Rattle.alias_lattice.specs.declared.site.Site.TheVariants as site
use Rattle.alias_lattice.specs.declared.value.AbstractValue.{AbstractValue}
use Rattle.alias_lattice.specs.AbstractValues.{AbstractProper}
use Rattle.alias_lattice.specs.ProperLaws.{proper-single_reason, proper-mutable_other, proper-empty_state, proper-given}
use Rattle.alias_lattice.specs.ProperStates.{StateProper}
use Rattle.alias_lattice.specs.ReasonLaws.{reason_laws}
use Rattle.alias_lattice.specs.Reasons.{ReasonBits, single_reason}
use Rattle.alias_lattice.specs.States.{State, empty_state, mutable_other}
use Rattle.alias_tables.specs.Tables.{TableLists}
use Rattle.alias_step.specs.declared.block.recorded.BlockEffects.{BlockEffects}
use Rattle.alias_step.specs.block.Contexts.{BlockContext}
use Rattle.alias_step.specs.block.Faults.{BlockStep}
use Rattle.alias_step.specs.block.Initial.{with_reason, context_value, with_context_place, with_context_from}
use Rattle.alias_step.specs.block.Initial.{with_context, param_value, with_param, with_param_at, with_params}
use Rattle.alias_step.specs.block.Initial.{initial_state}

proper_reasons : (rs : List ValueReason) (n : ℕ) → ReasonBits n → ReasonBits (fold with_reason n rs)
proper_reasons [] n h = h
proper_reasons (r ∷ rs) n h = proper_reasons rs (with_reason n r)
    (reason_laws.closed n (single_reason r) h (proper-single_reason r))

proper_context_value : (o : Option ContextValue) → AbstractProper (context_value o)
proper_context_value None = (tt, proper-single_reason Other)
proper_context_value (Some v) = (tt, proper_reasons v.reasons 0 (lit< tt))

proper_context_place : (o : Option ContextValue) (p : Place) (s : State) → StateProper s
    → StateProper (with_context_place o p s)
proper_context_place o p s h = proper-given p.identifier (site.Context p.identifier) (context_value o) s h
    (proper_context_value o)

proper_context : (values : List ContextValue) (index : ℕ) (ps : List Place) (s : State) → StateProper s
    → StateProper (with_context_from values index ps s)
proper_context values index [] s h = h
proper_context values index (p ∷ ps) s h =
    proper_context values (index + 1) ps (with_context_place (slice_get values index) p s)
    (proper_context_place (slice_get values index) p s h)

proper_param_value : (b : Bool) → AbstractProper (param_value b)
proper_param_value true = proper-mutable_other
proper_param_value false = (tt, proper-single_reason ReactiveFunctionArgument)

module _ (v : AbstractValue) (proper : AbstractProper v) where
  proper_param : (s : State) (p : ParamPattern) → StateProper s → StateProper (with_param v s p)
  proper_param s p h = proper-given (param_place p).identifier (site.Parameter (param_place p).identifier) v s h proper

  proper_param_at : (o : Option ParamPattern) (s : State) → StateProper s → StateProper (with_param_at v o s)
  proper_param_at None s h = h
  proper_param_at (Some p) s h = proper_param s p h

  proper_all_params : (ps : List ParamPattern) (s : State) → StateProper s → StateProper (fold (with_param v) s ps)
  proper_all_params [] s h = h
  proper_all_params (p ∷ ps) s h = proper_all_params ps (with_param v s p) (proper_param s p h)

proper_params : (t : FunctionType) (v : AbstractValue) (ps : List ParamPattern) (s : State) → AbstractProper v
    → StateProper s → StateProper (with_params t v ps s)
proper_params func_is.Component v ps s p h =
    proper_param_at mutable_other proper-mutable_other (slice_get ps 1) (with_param_at v (slice_get ps 0) s)
    (proper_param_at v p (slice_get ps 0) s h)
proper_params t v ps s p h = proper_all_params v p ps s h

pub proper_initial_state : (c : BlockContext) → StateProper (initial_state c)
proper_initial_state c =
    proper_params c.func.fn_type (param_value c.is_function_expression) c.func.params
    (with_context c.func.context_values c.func.context empty_state) (proper_param_value c.is_function_expression)
    (proper_context c.func.context_values 0 c.func.context empty_state proper-empty_state)

-- what a part of a block's step gives is P
abbrev pub BlockSound : {A : Type 0} → (A → Type 0) → BlockStep A → Type 0
BlockSound {A} P f = (t u : TableLists) (y : A) → f t ≡ Ok (y, u) → P y

-- the state that the step gives is proper
abbrev pub OutProper : State × BlockEffects → Type 0
OutProper r = StateProper r.0
