-- The effects of a call by the aliasing part of its signature, over an environment.
use Rattle.std.specs.Prelude.{ℕ, Bool, ◌&&◌, not, List, [], ◌∷◌, ◌++◌, None, Result, Ok, Err, if◌then◌else◌}
use Rattle.std.specs.Option.{is_some}
use Rattle.alias_hir.specs.declared.env.Environment.{Environment}
use Rattle.alias_hir.specs.declared.place.Place.{Place}
use Rattle.alias_hir.specs.declared.place.PlaceOrSpreadOrHole.{PlaceOrSpreadOrHole}
use Rattle.alias_hir.specs.declared.signature.AliasingSignatureConfig.{AliasingSignatureConfig}
use Rattle.alias_tables.specs.declared.temp_key.TempKey.TheVariants.{Named}
use Rattle.alias_tables.specs.declared.temporaries.Temporary.{Temporary}
use Rattle.alias_tables.specs.Steps.{◌>>=◌, gives, each}
use Rattle.alias_calls.specs.declared.call.CallSite.{CallSite}
use Rattle.alias_calls.specs.Arguments.{has_further}
use Rattle.alias_calls.specs.Calls.{ConfigCall}
use Rattle.alias_calls.specs.Configs.{with_config_effects}
use Rattle.alias_calls.specs.Copies.{Collected}
use Rattle.alias_call_effects.specs.declared.error.SignatureError.{SignatureError}
use Rattle.alias_call_effects.specs.declared.named.NamedPlaces.{NamedPlaces}
use Rattle.alias_call_effects.specs.Answers.{tables_with, with_reports}
use Rattle.alias_call_effects.specs.Kept.{Kept, kept, HostStep, temporary_at}
use Rattle.alias_call_effects.specs.Parts.{nothing_named, with_named, both_named, contexts_named, part_call}

-- the temporary of a name of the part, made or found
abbrev pub with_temporary : CallSite → List ℕ → NamedPlaces → HostStep NamedPlaces
with_temporary site name ns = do
  p ← temporary_at (Named site.into.identifier (record { text = name })) site.receiver.span
  gives (with_named name p ns)

-- what the effects of the call's part give over the environment, and the environment with their reports
abbrev pub effects_called : ConfigCall → Environment → Result (Collected × Environment) SignatureError
effects_called c env = with_reports env (with_config_effects env c c.config.effects [] (tables_with env.interned))

abbrev pub beside : {A : Type 0} → List Temporary → Result (A × Environment) SignatureError
    → Result (A × Kept) SignatureError
beside ts (Ok p) = Ok (p.0, kept p.1 ts)
beside ts (Err e) = Err e

-- the list that the part gives once its temporaries are there, where context places stand behind these
abbrev pub list_called : AliasingSignatureConfig → CallSite → List PlaceOrSpreadOrHole → List Place → NamedPlaces
    → HostStep Collected
list_called config site args context ns k =
    beside k.temporaries (effects_called (part_call config site args (both_named ns (contexts_named k.env context)))
    k.env)

-- an argument needs a rest, and there is none
abbrev pub lacks_rest : AliasingSignatureConfig → List PlaceOrSpreadOrHole → Bool
lacks_rest config args = has_further config.params args 0 && not (is_some config.rest)

-- the list that the aliasing part gives, if it gives one
abbrev pub config_called : AliasingSignatureConfig → CallSite → List PlaceOrSpreadOrHole → List Place
    → HostStep Collected
config_called config site args context =
    if lacks_rest config args then gives None
    else (do
      ns ← each (with_temporary site) config.temporaries nothing_named
      list_called config site args context ns)
