-- The signature of a function by its summary, and the effects of a call by it, over an environment.
use Rattle.std.specs.Prelude.{◌≡◌, List, [], Option, Some, None, Result, Ok, Err, slice_get}
use Rattle.alias_base.specs.declared.ids.FunctionId.{FunctionId}
use Rattle.alias_base.specs.declared.ids.IdentifierId.{IdentifierId}
use Rattle.alias_hir.specs.declared.effect.AliasingEffect.{AliasingEffect}
use Rattle.alias_hir.specs.declared.env.Environment.{Environment}
use Rattle.alias_hir.specs.declared.hir.HirFunction.{HirFunction}
use Rattle.alias_hir.specs.declared.place.Place.{Place}
use Rattle.alias_hir.specs.declared.place.PlaceOrSpreadOrHole.{PlaceOrSpreadOrHole}
use Rattle.alias_hir.specs.declared.place.Span.{Span}
use Rattle.alias_tables.specs.declared.temp_key.TempKey.TheVariants.{Rest}
use Rattle.alias_tables.specs.Steps.{◌>>=◌, gives}
use Rattle.alias_calls.specs.declared.call.SummaryNames.{SummaryNames}
use Rattle.alias_calls.specs.Copies.{Collected}
use Rattle.alias_calls.specs.Summaries.{plain_params, last_spread, summary_call, names_expansion}
use Rattle.alias_call_effects.specs.declared.error.SignatureError.{SignatureError}
use Rattle.alias_call_effects.specs.declared.summaries.AliasingSignature.{AliasingSignature}
use Rattle.alias_call_effects.specs.Answers.{tables_with, given_alone}
use Rattle.alias_call_effects.specs.Kept.{HostStep, temporary_at}

-- a function with a summary
pub record HasSummary (env : Environment) (f : FunctionId) (function : HirFunction) (effects : List AliasingEffect) :
    Type 0 where
  pub there : slice_get env.functions f.0 ≡ Some function
  pub summary : function.aliasing_effects ≡ Some effects

-- what further arguments stand for: the spread parameter, or else a temporary
abbrev pub rest_or_temporary : Option IdentifierId → FunctionId → Option Span → HostStep IdentifierId
rest_or_temporary (Some rest) f span = gives rest
rest_or_temporary None f span = do
  p ← temporary_at (Rest f) span
  gives p.identifier

abbrev pub signature_with : HirFunction → List AliasingEffect → Option IdentifierId → AliasingSignature
signature_with function effects rest = record
    { params = plain_params function.params; rest = rest; returns = function.returns.identifier; effects = effects }

-- the names of the function's summary, and its effects
abbrev pub signature_of : FunctionId → HirFunction → List AliasingEffect → HostStep AliasingSignature
signature_of f function effects = do
  rest ← rest_or_temporary (last_spread function.params None) f function.span
  gives (signature_with function effects (Some rest))

abbrev pub names_of : AliasingSignature → SummaryNames
names_of s = record { params = s.params; rest = s.rest; returns = s.returns }

-- the list that the signature gives, if it gives one
abbrev pub signature_expansion : AliasingSignature → Place → List PlaceOrSpreadOrHole → List Place → Environment
    → Result Collected SignatureError
signature_expansion s into args context env =
    given_alone (names_expansion env (summary_call (names_of s) into args context) s.effects (tables_with []))
