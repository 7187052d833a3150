-- The list of a call over an environment, from its parts.
use Rattle.std.specs.Prelude.{◌≡◌, Bool, false, List, None, Result, Ok, Err, if◌then◌else◌}
use Rattle.std.proofs.Common.{ap, sym, ◌∙◌, subst}
use Rattle.alias_hir.specs.declared.env.Environment.{Environment}
use Rattle.alias_hir.specs.declared.place.Place.{Place}
use Rattle.alias_hir.specs.declared.place.PlaceOrSpreadOrHole.{PlaceOrSpreadOrHole}
use Rattle.alias_hir.specs.declared.signature.AliasingSignatureConfig.{AliasingSignatureConfig}
use Rattle.alias_tables.specs.declared.temporaries.Temporary.{Temporary}
use Rattle.alias_tables.specs.Steps.{◌>>=◌, and_then, gives, each}
use Rattle.alias_calls.specs.declared.call.CallSite.{CallSite}
use Rattle.alias_calls.specs.Copies.{Collected}
use Rattle.alias_call_effects.specs.declared.error.SignatureError.{SignatureError}
use Rattle.alias_call_effects.specs.declared.named.NamedPlaces.{NamedPlaces}
use Rattle.alias_call_effects.specs.Answers.{Answers}
use Rattle.alias_call_effects.specs.Configs.{with_temporary, effects_called, beside, list_called, lacks_rest}
use Rattle.alias_call_effects.specs.Configs.{config_called}
use Rattle.alias_call_effects.specs.Kept.{Kept, kept, HostStep}
use Rattle.alias_call_effects.specs.Parts.{nothing_named, both_named, contexts_named, part_call}

beside_answers : (stated : Result (Collected × Environment) SignatureError) (r : Result Collected SignatureError)
    (env : Environment) (ts : List Temporary) → Answers stated r env → Answers (beside ts stated) r (kept env ts)
beside_answers stated (Ok x) env ts h = ap (beside ts) h
beside_answers stated (Err e) env ts h = λ m. ap (beside ts) (h m)

module _ (config : AliasingSignatureConfig) (site : CallSite) (args : List PlaceOrSpreadOrHole)
    (context : List Place) where
  abbrev called_if : Bool → HostStep Collected
  called_if b = if b then gives None else (each (with_temporary site) config.temporaries nothing_named
      >>= list_called config site args context)

  called_is : lacks_rest config args ≡ false → (k l : Kept) (ns : NamedPlaces)
      → each (with_temporary site) config.temporaries nothing_named k ≡ Ok (ns, l)
      → config_called config site args context k ≡ list_called config site args context ns l
  called_is has k l ns is = ap (λ (b : Bool). called_if b k) has
      ∙ ap (λ (r : Result (NamedPlaces × Kept) SignatureError). and_then r (list_called config site args context)) is

  -- once its temporaries are there, the list is that of its effects
  pub config_answers : lacks_rest config args ≡ false
      → (k l : Kept) (ns : NamedPlaces) (r : Result Collected SignatureError) (env : Environment)
      → each (with_temporary site) config.temporaries nothing_named k ≡ Ok (ns, l)
      → Answers (effects_called (part_call config site args (both_named ns (contexts_named l.env context))) l.env) r env
      → Answers (config_called config site args context k) r (kept env l.temporaries)
  config_answers has k l ns r env is h =
      subst (λ (s : Result (Collected × Kept) SignatureError). Answers s r (kept env l.temporaries))
      (sym (called_is has k l ns is))
      (beside_answers (effects_called (part_call config site args (both_named ns (contexts_named l.env context))) l.env)
      r env l.temporaries h)
