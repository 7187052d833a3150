-- The effects of a call by the aliasing part of its signature.
use Rattle.std.specs.Prelude.{ℕ, ◌+◌, Bool, cond, ◌&&◌, not, List, [], ◌∷◌, ◌++◌, Option, Some, None, slice_get}
use Rattle.std.specs.Prelude.{if◌then◌else◌}
use Rattle.std.specs.Option.{is_some}
use Rattle.alias_hir.specs.ReportNumbers.{same_text}
use Rattle.alias_hir.specs.declared.effect.AliasingEffect.{AliasingEffect}
use Rattle.alias_hir.specs.declared.effect.AliasingEffect.TheVariants as effect
use Rattle.alias_hir.specs.declared.env.Environment.{Environment}
use Rattle.alias_hir.specs.declared.place.Place.{Place}
use Rattle.alias_hir.specs.declared.place.PlaceOrSpreadOrHole.{PlaceOrSpreadOrHole}
use Rattle.alias_hir.specs.declared.place.PlaceOrSpreadOrHole.TheVariants as arg
use Rattle.alias_hir.specs.declared.signature.AliasingEffectConfig.{AliasingEffectConfig}
use Rattle.alias_hir.specs.declared.signature.AliasingEffectConfig.TheVariants as config
use Rattle.alias_hir.specs.declared.signature.AliasingSignatureConfig.{AliasingSignatureConfig}
use Rattle.alias_hir.specs.declared.signature.ApplyArgConfig.{ApplyArgConfig}
use Rattle.alias_hir.specs.declared.signature.ApplyArgConfig.TheVariants as named
use Rattle.alias_tables.specs.declared.temp_key.TempKey.TheVariants.{Named}
use Rattle.alias_tables.specs.Steps.{◌>>=◌, gives, each, collect}
use Rattle.alias_tables.specs.Tables.{Step, temporary, intern_report}
use Rattle.alias_apply.specs.Reports.{impure_part_report}
use Rattle.alias_calls.specs.declared.call.CallSite.{CallSite}
use Rattle.alias_calls.specs.declared.copies.PairKind.TheVariants as pair
use Rattle.alias_calls.specs.declared.copies.PlaceKind.TheVariants as at
use Rattle.alias_calls.specs.Arguments.{substituted_arguments, has_further, first_of}
use Rattle.alias_calls.specs.Calls.{ConfigCall}
use Rattle.alias_calls.specs.Copies.{Collected, with_pairs, with_each, with_freezes}

-- ---- what a name stands for

-- the number of the name in the list, or of the end
abbrev pub name_index : List ℕ → List (List ℕ) → ℕ
name_index q [] = 0
name_index q (n ∷ ns) = cond (same_text n q) 0 (name_index q ns + 1)

-- one place, or else the others
abbrev pub or_places : Option Place → List Place → List Place
or_places (Some p) others = p ∷ []
or_places None others = others

-- before the arguments: the result, or else the receiver
abbrev pub substituted_first : AliasingSignatureConfig → CallSite → List ℕ → List Place
substituted_first config site q =
    if same_text config.returns q then site.into ∷ []
    else (if same_text config.receiver q then site.receiver ∷ [] else [])

-- a temporary, or else what the arguments say
abbrev pub substituted : ConfigCall → List ℕ → List Place
substituted c q =
    or_places (slice_get c.temporaries (name_index q c.config.temporaries))
    (substituted_arguments same_text q c.config.params c.config.rest c.args 0 (substituted_first c.config c.site q))

-- ---- inner calls

abbrev pub argument_at : Option Place → List PlaceOrSpreadOrHole
argument_at None = []
argument_at (Some p) = arg.Place p ∷ []

-- a named argument without a place is dropped, and holes stay
abbrev pub inner_argument : ConfigCall → ApplyArgConfig → List PlaceOrSpreadOrHole
inner_argument c named.Hole = arg.Hole ∷ []
inner_argument c (named.Place q) = argument_at (first_of (substituted c q))

abbrev pub inner_arguments : ConfigCall → List ApplyArgConfig → List PlaceOrSpreadOrHole
inner_arguments c [] = []
inner_arguments c (a ∷ others) = inner_argument c a ++ inner_arguments c others

-- a call, where receiver, function and target have places
abbrev pub with_apply : ConfigCall → Option Place → Option Place → Option Place → Bool → List ApplyArgConfig
    → List AliasingEffect → Step Collected
with_apply c (Some r) (Some f) (Some i) mutates inner out =
    gives (Some (out ++ effect.Apply r f mutates (inner_arguments c inner) i None c.site.span ∷ []))
with_apply c (Some r) (Some f) None mutates inner out = gives None
with_apply c (Some r) None i mutates inner out = gives None
with_apply c None f i mutates inner out = gives None

-- ---- effects

unfoldable pub impure_step : Place → List AliasingEffect → Step (List AliasingEffect)
impure_step p out = do
  error ← intern_report p.identifier impure_part_report
  gives (out ++ effect.Impure p error ∷ [])

-- an impure call of each of the places, with its report
abbrev pub with_impures : List Place → List AliasingEffect → Step Collected
with_impures ps out = do
  more ← each impure_step ps out
  gives (Some more)

-- an effect of the part, for each combination of the places that its names stand for
abbrev pub with_config_effect : Environment → ConfigCall → AliasingEffectConfig → List AliasingEffect → Step Collected
with_config_effect env c (config.Freeze v r) out = with_freezes env c.args r (substituted c v) out
with_config_effect env c (config.Create x k r) out = with_each (at.Create k r) (substituted c x) out
with_config_effect env c (config.CreateFrom a x) out =
    with_pairs pair.CreateFrom (substituted c a) (substituted c x) out
with_config_effect env c (config.Assign a x) out = with_pairs pair.Assign (substituted c a) (substituted c x) out
with_config_effect env c (config.Alias a x) out = with_pairs pair.Alias (substituted c a) (substituted c x) out
with_config_effect env c (config.Capture a x) out = with_pairs pair.Capture (substituted c a) (substituted c x) out
with_config_effect env c (config.ImmutableCapture a x) out =
    with_pairs pair.ImmutableCapture (substituted c a) (substituted c x) out
with_config_effect env c (config.Impure p) out = with_impures (substituted c p) out
with_config_effect env c (config.Mutate v) out = with_each (at.Mutate None) (substituted c v) out
with_config_effect env c (config.MutateTransitiveConditionally v) out =
    with_each at.MutateTransitiveConditionally (substituted c v) out
with_config_effect env c (config.Apply r f mutates inner x) out =
    with_apply c (first_of (substituted c r)) (first_of (substituted c f)) (first_of (substituted c x)) mutates inner
    out

abbrev pub with_config_effects : Environment → ConfigCall → List AliasingEffectConfig → List AliasingEffect
    → Step Collected
with_config_effects env c = collect (with_config_effect env c)

-- ---- the list

-- a temporary of the part, made or found
abbrev pub with_temporary : Environment → CallSite → List ℕ → List Place → Step (List Place)
with_temporary env site name places = do
  p ← temporary env (Named site.into.identifier (record { text = name })) site.receiver.span
  gives (places ++ p ∷ [])

abbrev pub config_call : AliasingSignatureConfig → CallSite → List PlaceOrSpreadOrHole → List Place → ConfigCall
config_call config site args temporaries =
    record { config = config; site = site; args = args; temporaries = temporaries }

-- the list that the aliasing part gives, if it gives one. An argument that needs a rest gives none where there is no
-- rest
abbrev pub config_expansion : Environment → AliasingSignatureConfig → CallSite → List PlaceOrSpreadOrHole
    → Step Collected
config_expansion env config site args =
    if has_further config.params args 0 && not (is_some config.rest) then gives None
    else (do
      temporaries ← each (with_temporary env site) config.temporaries []
      with_config_effects env (config_call config site args temporaries) config.effects [])
