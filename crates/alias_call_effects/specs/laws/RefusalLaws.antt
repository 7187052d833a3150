-- The expansions of calls are refused for a spread argument, and where numbers are wanting, and for nothing else.
use Rattle.std.specs.Prelude.{◌≡◌, Bool, true, false, ◌&&◌, not, nat_lt, List, [], ◌∷◌, ◌++◌, length, Option, Some}
use Rattle.std.specs.Prelude.{None, Result, Ok, Err, refl, if◌then◌else◌}
use Rattle.std.proofs.Common.{subst}
use Rattle.std.specs.Option.{is_some}
use Rattle.alias_base.specs.declared.ids.IdentifierId.{IdentifierId}
use Rattle.alias_hir.specs.declared.effect.AliasingEffect.{AliasingEffect}
use Rattle.alias_hir.specs.declared.effect.AliasingEffect.TheVariants as effect
use Rattle.alias_hir.specs.declared.effect.ValueReason.{ValueReason}
use Rattle.alias_hir.specs.declared.env.Environment.{Environment}
use Rattle.alias_hir.specs.declared.error.Counter.TheVariants.{Diagnostics}
use Rattle.alias_hir.specs.declared.place.Place.{Place}
use Rattle.alias_hir.specs.declared.place.PlaceOrSpreadOrHole.{PlaceOrSpreadOrHole}
use Rattle.alias_hir.specs.declared.report.Report.{Report}
use Rattle.alias_hir.specs.declared.signature.AliasingEffectConfig.{AliasingEffectConfig}
use Rattle.alias_hir.specs.declared.signature.AliasingEffectConfig.TheVariants as config
use Rattle.alias_hir.specs.declared.signature.ApplyArgConfig.{ApplyArgConfig}
use Rattle.alias_hir.specs.declared.signature.FunctionSignature.{FunctionSignature}
use Rattle.alias_lattice.specs.declared.lookup.MissingLookup.{MissingLookup}
use Rattle.alias_lattice.specs.States.{State}
use Rattle.alias_tables.specs.declared.faults.Refusal.{Refusal}
use Rattle.alias_tables.specs.declared.faults.Refusal.TheVariants.{SpreadArgument, TooMany}
use Rattle.alias_tables.specs.Steps.{◌>>=◌, and_then, gives, refuses, each, if_some, collect}
use Rattle.alias_tables.specs.Tables.{TableLists, Step, intern_report}
use Rattle.alias_apply.specs.Reports.{impure_part_report, impure_report, spread_report}
use Rattle.alias_calls.specs.declared.call.CallSite.{CallSite}
use Rattle.alias_calls.specs.declared.immutable.Checked.{Checked}
use Rattle.alias_calls.specs.declared.summaries.SummaryEffect.{SummaryEffect}
use Rattle.alias_calls.specs.declared.summaries.SummaryEffect.TheVariants.{OfPair, OfPlace, OfFreeze, Passed, GivenUp}
use Rattle.alias_calls.specs.declared.visits.Visits.{Visits}
use Rattle.alias_calls.specs.Arguments.{first_bad, first_of}
use Rattle.alias_calls.specs.Calls.{ConfigCall, SummaryCall}
use Rattle.alias_calls.specs.Configs.{impure_step, substituted, with_apply, with_config_effect, with_config_effects}
use Rattle.alias_calls.specs.Copies.{with_freezes_unless, with_freezes}
use Rattle.alias_calls.specs.Legacy.{return_reason, with_impure, visited, asked, with_still, legacy, ended, all_links}
use Rattle.alias_calls.specs.Legacy.{legacy_after, legacy_expansion}
use Rattle.alias_calls.specs.Summaries.{substituted_for, copied, with_copied, with_copies, needs_rest, names_expansion}
use Rattle.alias_call_effects.specs.Answers.{is_memory, signature_error}

-- where the step is refused, that isn't out of memory to a host
abbrev pub RefusesWithCause : {A : Type 0} → Step A → Type 0
RefusesWithCause f = (t : TableLists) (c : Refusal) → f t ≡ Err c → is_memory (signature_error c) ≡ false

caused_gives : {A : Type 0} (x : A) → RefusesWithCause (gives x)
caused_gives x t c e = cc

same_refusal : {A : Type 0} (c d : Refusal) → ◌≡◌ {A = Result (A × TableLists) Refusal} (Err c) (Err d) → c ≡ d
same_refusal c d e = cc

caused_refuses : {A : Type 0} (c : Refusal) → is_memory (signature_error c) ≡ false
    → RefusesWithCause {A = A} (refuses c)
caused_refuses {A} c h t d e = subst (λ (r : Refusal). is_memory (signature_error r) ≡ false)
    (same_refusal {A = A} c d e) h

caused_next : {A B : Type 0} (r : Result (A × TableLists) Refusal) (g : A → Step B)
    → ((c : Refusal) → r ≡ Err c → is_memory (signature_error c) ≡ false) → ((x : A) → RefusesWithCause (g x))
    → (c : Refusal) → and_then r g ≡ Err c → is_memory (signature_error c) ≡ false
caused_next (Ok p) g hr hg c e = hg p.0 p.1 c e
caused_next {A} {B} (Err d) g hr hg c e =
    subst (λ (x : Refusal). is_memory (signature_error x) ≡ false) (same_refusal {A = B} d c e) (hr d refl)

caused_then : {A B : Type 0} (f : Step A) (g : A → Step B) → RefusesWithCause f → ((x : A) → RefusesWithCause (g x))
    → RefusesWithCause (f >>= g)
caused_then f g hf hg t c e = caused_next (f t) g (hf t) hg c e

caused_if : {A : Type 0} (b : Bool) (f g : Step A) → RefusesWithCause f → RefusesWithCause g
    → RefusesWithCause (if b then f else g)
caused_if true f g hf hg = hf
caused_if false f g hf hg = hg

caused_each : {X A : Type 0} (f : X → A → Step A) → ((x : X) (a : A) → RefusesWithCause (f x a)) → (xs : List X) (a : A)
    → RefusesWithCause (each f xs a)
caused_each f h [] a = caused_gives a
caused_each f h (x ∷ xs) a = caused_then (f x a) (each f xs) (h x a) (caused_each f h xs)

caused_if_some : {A B : Type 0} (o : Option A) (f : A → Step (Option B)) → ((x : A) → RefusesWithCause (f x))
    → RefusesWithCause (if_some o f)
caused_if_some None f h = caused_gives None
caused_if_some (Some x) f h = h x

caused_collect : {X A : Type 0} (f : X → A → Step (Option A)) → ((x : X) (a : A) → RefusesWithCause (f x a))
    → (xs : List X) (a : A) → RefusesWithCause (collect f xs a)
caused_collect f h [] a = caused_gives (Some a)
caused_collect f h (x ∷ xs) a = caused_then (f x a) (λ o. if_some o (collect f xs)) (h x a)
    (λ o. caused_if_some o (collect f xs) (caused_collect f h xs))

number_if : {A : Type 0} (b : Bool) (p : A × TableLists) (c : Refusal) → (if b then Ok p else Err (TooMany Diagnostics))
    ≡ Err c → is_memory (signature_error c) ≡ false
number_if true p c e = cc
number_if {A} false p c e = subst (λ (r : Refusal). is_memory (signature_error r) ≡ false)
    (same_refusal {A = A} (TooMany Diagnostics) c e) refl

caused_report : (id : IdentifierId) (r : Report) → RefusesWithCause (intern_report id r)
caused_report id r t c e = number_if _ _ c e

-- ---- freezes

caused_freezes_unless : (o : Option Place) (r : ValueReason) (ps : List Place) (out : List AliasingEffect)
    → RefusesWithCause (with_freezes_unless o r ps out)
caused_freezes_unless (Some p) r ps out = caused_refuses (SpreadArgument p.span (spread_report p.span)) refl
caused_freezes_unless None r ps out = caused_gives _

caused_freezes : (env : Environment) (args : List PlaceOrSpreadOrHole) (r : ValueReason) (ps : List Place)
    (out : List AliasingEffect) → RefusesWithCause (with_freezes env args r ps out)
caused_freezes env args r ps out = caused_freezes_unless (first_bad env args ps) r ps out

-- ---- aliasing parts

caused_impure_step : (p : Place) (out : List AliasingEffect) → RefusesWithCause (impure_step p out)
unfolding impure_step
caused_impure_step p out = caused_then (intern_report p.identifier impure_part_report) (λ d. _)
    (caused_report p.identifier impure_part_report) (λ d. caused_gives (out ++ effect.Impure p d ∷ []))

caused_apply : (c : ConfigCall) (r f i : Option Place) (mutates : Bool) (inner : List ApplyArgConfig)
    (out : List AliasingEffect) → RefusesWithCause (with_apply c r f i mutates inner out)
caused_apply c (Some r) (Some f) (Some i) mutates inner out = caused_gives _
caused_apply c (Some r) (Some f) None mutates inner out = caused_gives None
caused_apply c (Some r) None i mutates inner out = caused_gives None
caused_apply c None f i mutates inner out = caused_gives None

caused_config_effect : (env : Environment) (c : ConfigCall) (e : AliasingEffectConfig) (out : List AliasingEffect)
    → RefusesWithCause (with_config_effect env c e out)
caused_config_effect env c (config.Freeze v r) out = caused_freezes env c.args r (substituted c v) out
caused_config_effect env c (config.Create x k r) out = caused_gives _
caused_config_effect env c (config.CreateFrom a x) out = caused_gives _
caused_config_effect env c (config.Assign a x) out = caused_gives _
caused_config_effect env c (config.Alias a x) out = caused_gives _
caused_config_effect env c (config.Capture a x) out = caused_gives _
caused_config_effect env c (config.ImmutableCapture a x) out = caused_gives _
caused_config_effect env c (config.Impure p) out =
    caused_then _ _ (caused_each impure_step caused_impure_step (substituted c p) out)
    (λ more. caused_gives (Some more))
caused_config_effect env c (config.Mutate v) out = caused_gives _
caused_config_effect env c (config.MutateTransitiveConditionally v) out = caused_gives _
caused_config_effect env c (config.Apply r f mutates inner x) out =
    caused_apply c (first_of (substituted c r)) (first_of (substituted c f)) (first_of (substituted c x)) mutates inner
    out

pub caused_config_effects : (env : Environment) (c : ConfigCall) (es : List AliasingEffectConfig)
    (out : List AliasingEffect) → RefusesWithCause (with_config_effects env c es out)
caused_config_effects env c = caused_collect (with_config_effect env c) (caused_config_effect env c)

-- ---- summaries

caused_copied : (env : Environment) (c : SummaryCall) (e : SummaryEffect) (out : List AliasingEffect)
    → RefusesWithCause (with_copied env c e out)
caused_copied env c (OfPair k a x) out = caused_gives _
caused_copied env c (OfPlace k x) out = caused_gives _
caused_copied env c (OfFreeze r x) out = caused_freezes env c.args r (substituted_for c x) out
caused_copied env c Passed out = caused_gives _
caused_copied env c GivenUp out = caused_gives None

pub caused_names_expansion : (env : Environment) (c : SummaryCall) (es : List AliasingEffect)
    → RefusesWithCause (names_expansion env c es)
caused_names_expansion env c es =
    caused_if (nat_lt (length c.args) (length c.names.params)) _ _ (caused_gives None)
    (caused_if (needs_rest c.names.params c.args && not (is_some c.names.rest)) _ _ (caused_gives None)
    (caused_collect (with_copies env c) (λ e. caused_copied env c (copied e)) es []))

-- ---- signatures without an aliasing part

caused_with_impure : (env : Environment) (s : FunctionSignature) (site : CallSite) (out : List AliasingEffect)
    → RefusesWithCause (with_impure env s site out)
caused_with_impure env s site out =
    caused_if (s.impure && env.config.validate_no_impure_functions_in_render) _ _
    (caused_then _ _ (caused_report site.receiver.identifier (impure_report s.canonical_name site.span))
    (λ d. caused_gives (out ++ effect.Impure site.receiver d ∷ [])))
    (caused_gives out)

caused_ended : (o : Option Place) (into : Place) (v : Visits) (m : Option MissingLookup)
    → RefusesWithCause (ended o into v m)
caused_ended (Some p) into v m = caused_refuses (SpreadArgument p.span (spread_report p.span)) refl
caused_ended None into v m = caused_gives (legacy (v.out ++ all_links into v.stored v.captured) m)

module _ (env : Environment) (s : FunctionSignature) (site : CallSite) (args : List PlaceOrSpreadOrHole) where
  caused_legacy_after : (c : Checked) (out : List AliasingEffect)
      → RefusesWithCause (legacy_after env s site args c out)
  caused_legacy_after c out =
      caused_if c.holds _ _ (caused_gives (legacy (with_still site args out) c.missing))
      (caused_ended (visited env s site args out).refused site.into (visited env s site args out) c.missing)

  pub caused_legacy_expansion : (u : State) → RefusesWithCause (legacy_expansion env s site args u)
  caused_legacy_expansion u =
      caused_then _ _ (caused_with_impure env s site
      (effect.Create site.into s.return_value_kind (return_reason s) ∷ []))
      (λ out. caused_legacy_after (asked env s args u) out)
