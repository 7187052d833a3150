-- The effects of a call by a signature without an aliasing part, over an environment.
use Rattle.std.specs.Prelude.{Bool, ◌&&◌, List, [], Result}
use Rattle.alias_hir.specs.declared.env.Environment.{Environment}
use Rattle.alias_hir.specs.declared.place.PlaceOrSpreadOrHole.{PlaceOrSpreadOrHole}
use Rattle.alias_hir.specs.declared.signature.FunctionSignature.{FunctionSignature}
use Rattle.alias_lattice.specs.States.{State}
use Rattle.alias_calls.specs.declared.call.CallSite.{CallSite}
use Rattle.alias_calls.specs.declared.legacy.Legacy.{Legacy}
use Rattle.alias_calls.specs.Legacy.{legacy_expansion}
use Rattle.alias_call_effects.specs.declared.error.SignatureError.{SignatureError}
use Rattle.alias_call_effects.specs.Answers.{given_alone, tables_with, with_reports}

-- the list and the first missing lookup, and the environment with the report of an impure call
abbrev pub legacy_called : FunctionSignature → CallSite → List PlaceOrSpreadOrHole → State → Environment
    → Result (Legacy × Environment) SignatureError
legacy_called s site args u env = with_reports env (legacy_expansion env s site args u (tables_with env.interned))

-- the call of an impure function is reported
abbrev pub is_reported : Environment → FunctionSignature → Bool
is_reported env s = s.impure && env.config.validate_no_impure_functions_in_render

-- the list as it is where no report is interned
abbrev pub list_without_reports : Environment → FunctionSignature → CallSite → List PlaceOrSpreadOrHole → State
    → Result Legacy SignatureError
list_without_reports env s site args u = given_alone (legacy_expansion env s site args u (tables_with []))
