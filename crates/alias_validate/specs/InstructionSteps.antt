-- The steps of instructions that create no function, and of what a created function reassigns.
use Rattle.std.specs.Prelude.{Bool, cond, ◌&&◌, List, [], ◌∷◌, ◌++◌, Option, None, Some, Result, Ok, is_some}
use Rattle.alias_base.specs.declared.ids.IdentifierId.{IdentifierId}
use Rattle.alias_hir.specs.declared.env.Environment.{Environment}
use Rattle.alias_hir.specs.declared.error.InferError.{InferError}
use Rattle.alias_hir.specs.declared.place.Place.{Place}
use Rattle.alias_hir.specs.declared.report.Report.{Report}
use Rattle.alias_hir.specs.declared.value.InstructionValue.{InstructionValue}
use Rattle.alias_hir.specs.declared.value.InstructionValue.TheVariants.{DeclareContext, LoadLocal, StoreContext}
use Rattle.alias_hir.specs.declared.value.InstructionValue.TheVariants.{StoreLocal}
use Rattle.alias_validate.specs.Marking.{mark_of, marked, loaded, stored}
use Rattle.alias_validate.specs.OperandMarks.{ReassigningFunctions, Seen, seen, other_step}
use Rattle.alias_validate.specs.Reports.{async_report}
use Rattle.alias_validate.specs.declared.outcome.Shared.{Shared}
use Rattle.alias_validate.specs.declared.outcome.WalkOutcome.{WalkOutcome}
use Rattle.alias_validate.specs.declared.outcome.WalkOutcome.TheVariants.{Continue, End}

abbrev pub is_context_variable : Shared → IdentifierId → Bool
is_context_variable sh x = is_some (mark_of sh.context_variables x)

abbrev pub with_context_variable : Shared → IdentifierId → Shared
with_context_variable sh x = record sh { context_variables = marked sh.context_variables x tt }

abbrev pub with_report : Shared → Report → Shared
with_report sh r = record sh { reports = sh.reports ++ r ∷ [] }

-- outside function expressions a variable becomes a context variable
abbrev pub declared : Bool → Shared → IdentifierId → Shared
declared is_function_expression sh x = cond is_function_expression sh (with_context_variable sh x)

-- inside a function expression, a store to a context variable ends the walk
abbrev pub context_stored : Bool → IdentifierId → Seen → Place → Place → Seen × WalkOutcome
context_stored is_function_expression lvalue s x value =
    cond (is_function_expression && is_context_variable s.1 x.identifier) (s, End (Some x))
    (seen (stored s.0 value.identifier lvalue x.identifier) (declared is_function_expression s.1 x.identifier) Continue)

-- an instruction that creates no function
abbrev pub plain_step : Environment → Bool → Seen → IdentifierId → List IdentifierId → InstructionValue
    → Result (Seen × WalkOutcome) InferError
plain_step env is_function_expression s lvalue lvalues (LoadLocal place) =
    Ok (seen (loaded s.0 place.identifier lvalue) s.1 Continue)
plain_step env is_function_expression s lvalue lvalues (StoreLocal target value) =
    Ok (seen (stored s.0 value.identifier lvalue target.place.identifier) s.1 Continue)
plain_step env is_function_expression s lvalue lvalues (DeclareContext target) =
    Ok (seen s.0 (declared is_function_expression s.1 target.place.identifier) Continue)
plain_step env is_function_expression s lvalue lvalues (StoreContext target value) =
    Ok (context_stored is_function_expression lvalue s target.place value)
plain_step env is_function_expression s lvalue lvalues v = other_step env s lvalues v

-- a place that a created function reassigns: where it is async, it is reported, and the walk ends with none
abbrev pub found : Environment → Bool → IdentifierId → ReassigningFunctions → Shared → Option Place → Seen × WalkOutcome
found env async lvalue ms sh None = seen ms sh Continue
found env async lvalue ms sh (Some x) = cond async (seen ms (with_report sh (async_report env x)) (End None))
    (seen (marked ms lvalue x) sh Continue)
