-- What a host is given, call by call, is what a pass over the environment would be given.
use Rattle.std.specs.Prelude.{◌≡◌, ℕ, ◌+◌, Bool, true, false, ◌&&◌, ◌||◌, ◌==◌, not, nat_lt, List, [], ◌∷◌, ◌++◌}
use Rattle.std.specs.Prelude.{length, Option, Some, None, Result, Ok, Err, refl, if◌then◌else◌}
use Rattle.std.proofs.Common.{ap, sym, ◌∙◌, subst, append_assoc, append-nil, length-append, arith}
use Rattle.alias_base.specs.declared.ids.FunctionId.{FunctionId}
use Rattle.alias_base.specs.declared.ids.IdentifierId.{IdentifierId}
use Rattle.alias_hir.specs.declared.effect.AliasingEffect.{AliasingEffect}
use Rattle.alias_hir.specs.declared.effect.AliasingEffect.TheVariants as effect
use Rattle.alias_hir.specs.declared.effect.ValueReason.{ValueReason}
use Rattle.alias_hir.specs.declared.env.Environment.{Environment}
use Rattle.alias_hir.specs.declared.error.Counter.TheVariants.{Identifiers}
use Rattle.alias_hir.specs.declared.error.HirError.TheVariants as hir
use Rattle.alias_hir.specs.declared.hir.HirFunction.{HirFunction}
use Rattle.alias_hir.specs.declared.place.Place.{Place}
use Rattle.alias_hir.specs.declared.place.PlaceOrSpreadOrHole.{PlaceOrSpreadOrHole}
use Rattle.alias_hir.specs.declared.place.PlaceOrSpreadOrHole.TheVariants as arg
use Rattle.alias_hir.specs.declared.place.Span.{Span}
use Rattle.alias_hir.specs.declared.signature.AliasingEffectConfig.{AliasingEffectConfig}
use Rattle.alias_hir.specs.declared.signature.AliasingEffectConfig.TheVariants as config
use Rattle.alias_hir.specs.declared.signature.AliasingSignatureConfig.{AliasingSignatureConfig}
use Rattle.alias_hir.specs.declared.signature.ApplyArgConfig.{ApplyArgConfig}
use Rattle.alias_hir.specs.declared.types.Ty.TheVariants.{Var}
use Rattle.alias_hir.specs.Tables.{fresh_identifier, with_identifier}
use Rattle.alias_hir.specs.Types.{is_builtin_collection_at}
use Rattle.alias_tables.specs.declared.faults.Refusal.{Refusal}
use Rattle.alias_tables.specs.declared.faults.Refusal.TheVariants as refusal
use Rattle.alias_tables.specs.declared.temp_key.TempKey.{TempKey}
use Rattle.alias_tables.specs.declared.temp_key.TempKey.TheVariants.{Named, Rest}
use Rattle.alias_tables.specs.declared.temporaries.Temporary.{Temporary}
use Rattle.alias_tables.specs.Steps.{◌>>=◌, and_then, gives, each, if_some}
use Rattle.alias_tables.specs.Tables.{TableLists, Step, has_room, new_place, temporary, temporary_after, intern_report}
use Rattle.alias_tables.specs.Temporaries.{temp_like, temporary_of}
use Rattle.alias_tables.specs.write_back.WriteBack.{with_identifiers}
use Rattle.alias_apply.specs.Reports.{impure_part_report, spread_report}
use Rattle.alias_calls.specs.declared.call.CallSite.{CallSite}
use Rattle.alias_calls.specs.declared.call.SummaryNames.{SummaryNames}
use Rattle.alias_calls.specs.Arguments.{first_of, is_bad_spread_of, is_bad_spread, first_bad}
use Rattle.alias_calls.specs.Calls.{ConfigCall}
use Rattle.alias_calls.specs.Configs.{impure_step, substituted, with_apply, with_config_effect, with_config_effects}
use Rattle.alias_calls.specs.Configs.{config_call, config_expansion}
use Rattle.alias_calls.specs.Configs.{with_temporary as with_place}
use Rattle.alias_calls.specs.Copies.{Collected, with_freezes_unless}
use Rattle.alias_calls.specs.Summaries.{last_spread, summary_names, names_with}
use Rattle.alias_calls.specs.Summaries.{rest_or_temporary as rest_in_pass}
use Rattle.alias_call_effects.specs.declared.error.SignatureError.{SignatureError}
use Rattle.alias_call_effects.specs.declared.named.NamedPlaces.{NamedPlaces}
use Rattle.alias_call_effects.specs.declared.summaries.AliasingSignature.{AliasingSignature}
use Rattle.alias_call_effects.specs.Answers.{signature_error, tables_with, with_reports}
use Rattle.alias_call_effects.specs.Configs.{with_temporary, beside, list_called, lacks_rest, config_called}
use Rattle.alias_call_effects.specs.Kept.{Kept, kept, numbered, new_temporary, temporary_or, temporary_at}
use Rattle.alias_call_effects.specs.Parts.{nothing_named, with_named, part_call}
use Rattle.alias_call_effects.specs.PartLaws.{named_nothing}
use Rattle.alias_call_effects.specs.Summaries.{rest_or_temporary, signature_with, signature_of}
use Rattle.alias_call_effects.specs.Summaries.{names_of as names_alone}
use Rattle.alias_call_effects.specs.laws.MoreLaws.{asks_with}
use Rattle.alias_call_effects.specs.laws.ReadsLaws.{onto, ReadsReports, reads_gives, reads_refuses, reads_then}
use Rattle.alias_call_effects.specs.laws.ReadsLaws.{reads_each, reads_collect, reads_report}

-- a host whose environment has an identifier for each temporary of the pass, and which keeps these, and the pass's
-- reports
abbrev pub host_of : Environment → TableLists → Kept
host_of env t = kept (record (with_identifiers t.temporaries env) { interned = t.reports }) t.temporaries

-- what a step of the pass gives, as a host is given it
abbrev pub as_host : {A : Type 0} → Environment → Result (A × TableLists) Refusal → Result (A × Kept) SignatureError
as_host env (Ok p) = Ok (p.0, host_of env p.1)
as_host env (Err c) = Err (signature_error c)

-- ---- temporaries

one_more : (ts : List Temporary) (x : Temporary) (env : Environment) → with_identifiers (ts ++ x ∷ []) env
    ≡ with_identifier x.place.span (with_identifiers ts env)
one_more [] x env = refl
one_more (t ∷ ts) x env = one_more ts x (with_identifier t.place.span env)

identifiers_there : (ts : List Temporary) (env : Environment) → length (with_identifiers ts env).identifiers
    ≡ length env.identifiers + length ts
identifiers_there [] env = omega arith
identifiers_there (t ∷ ts) env =
    let more = identifiers_there ts (with_identifier t.place.span env) in
    let one = length-append env.identifiers
    (fresh_identifier t.place.span (length env.identifiers) (length env.types) ∷ []) in
    omega (arith, more, one)

types_there : (ts : List Temporary) (env : Environment) → length (with_identifiers ts env).types ≡ length env.types
    + length ts
types_there [] env = omega arith
types_there (t ∷ ts) env =
    let more = types_there ts (with_identifier t.place.span env) in
    let one = length-append env.types (Var ∷ []) in
    omega (arith, more, one)

module _ (env : Environment) (key : TempKey) (span : Option Span) (t : TableLists) where
  abbrev host : Environment
  host = (host_of env t).env

  abbrev made_by_host : Bool → ℕ → Result (Place × Kept) SignatureError
  made_by_host b n = new_temporary (numbered span (if b then Ok (record { 0 = n }) else Err (hir.TooMany Identifiers))
      host) key span t.temporaries

  abbrev pass_place : Place
  pass_place = new_place (length env.identifiers) (length t.temporaries) span

  abbrev made_by_pass : Bool → Result (Place × TableLists) Refusal
  made_by_pass b = if b then Ok (
    pass_place,
    record t { temporaries = t.temporaries ++ temporary_of key pass_place ∷ [] },
  )
      else Err (refusal.TooMany Identifiers)

  same_made : (b : Bool) → made_by_host b (length env.identifiers + length t.temporaries) ≡ as_host env (made_by_pass b)
  same_made true =
      ap (λ (e : Environment). Ok (
        pass_place,
        kept (record e { interned = t.reports }) (t.temporaries ++ temporary_of key pass_place ∷ []),
      ))
      (sym (one_more t.temporaries (temporary_of key pass_place) env))
  same_made false = refl

  same_temporary_or : (o : Option Temporary) → temporary_or o key span (host_of env t)
      ≡ as_host env (temporary_after o env key span t)
  same_temporary_or (Some x) = refl
  same_temporary_or None =
      ap (λ n. made_by_host (nat_lt n 4294967295
      && nat_lt (length (with_identifiers t.temporaries env).types) 4294967295) n)
      (identifiers_there t.temporaries env)
      ∙ ap (λ n. made_by_host (nat_lt (length env.identifiers + length t.temporaries) 4294967295 && nat_lt n 4294967295)
      (length env.identifiers + length t.temporaries)) (types_there t.temporaries env)
      ∙ same_made (has_room (length env.identifiers) (length env.types) (length t.temporaries))

  same_temporary : temporary_at key span (host_of env t) ≡ as_host env (temporary env key span t)
  same_temporary = same_temporary_or (temp_like key t.temporaries)

-- ---- of an environment the effects of a part ask only which identifiers are arrays, sets or maps

module _ (e f : Environment) (same : (x : IdentifierId) → is_builtin_collection_at e x
    ≡ is_builtin_collection_at f x) where
  same_spread_of : (x : IdentifierId) (a : PlaceOrSpreadOrHole) → is_bad_spread_of e x a ≡ is_bad_spread_of f x a
  same_spread_of x (arg.Place p) = refl
  same_spread_of x (arg.Spread s) = ap (λ b. (s.place.identifier.0 == x.0) && not b) (same x)
  same_spread_of x arg.Hole = refl

  same_spread : (args : List PlaceOrSpreadOrHole) (x : IdentifierId) → is_bad_spread e args x ≡ is_bad_spread f args x
  same_spread [] x = refl
  same_spread (a ∷ others) x =
      ap (λ b. b || is_bad_spread e others x) (same_spread_of x a)
      ∙ ap (λ b. is_bad_spread_of f x a || b) (same_spread others x)

  same_bad : (args : List PlaceOrSpreadOrHole) (ps : List Place) → first_bad e args ps ≡ first_bad f args ps
  same_bad args [] = refl
  same_bad args (p ∷ ps) =
      ap (λ b. if b then Some p else first_bad e args ps) (same_spread args p.identifier)
      ∙ ap (λ (o : Option Place). if is_bad_spread f args p.identifier then Some p else o) (same_bad args ps)

  module _ (c : ConfigCall) where
    same_effect : (x : AliasingEffectConfig) (out : List AliasingEffect) (t : TableLists)
        → with_config_effect e c x out t ≡ with_config_effect f c x out t
    same_effect (config.Freeze v r) out t =
        ap (λ (o : Option Place). with_freezes_unless o r (substituted c v) out t) (same_bad c.args (substituted c v))
    same_effect (config.Create x k r) out t = refl
    same_effect (config.CreateFrom a x) out t = refl
    same_effect (config.Assign a x) out t = refl
    same_effect (config.Alias a x) out t = refl
    same_effect (config.Capture a x) out t = refl
    same_effect (config.ImmutableCapture a x) out t = refl
    same_effect (config.Impure p) out t = refl
    same_effect (config.Mutate v) out t = refl
    same_effect (config.MutateTransitiveConditionally v) out t = refl
    same_effect (config.Apply r g mutates inner x) out t = refl

    abbrev rest_by : Environment → List AliasingEffectConfig → Collected → Step Collected
    rest_by env xs o = if_some o (with_config_effects env c xs)

    same_rest : (xs : List AliasingEffectConfig)
        → ((out : List AliasingEffect) (t : TableLists) → with_config_effects e c xs out t
        ≡ with_config_effects f c xs out t) → (o : Collected) (t : TableLists) → rest_by e xs o t ≡ rest_by f xs o t
    same_rest xs others None t = refl
    same_rest xs others (Some out) t = others out t

    same_after : (xs : List AliasingEffectConfig)
        → ((out : List AliasingEffect) (t : TableLists) → with_config_effects e c xs out t
        ≡ with_config_effects f c xs out t) → (r : Result (Collected × TableLists) Refusal) → and_then r (rest_by e xs)
        ≡ and_then r (rest_by f xs)
    same_after xs others (Ok p) = same_rest xs others p.0 p.1
    same_after xs others (Err r) = refl

    same_effects : (xs : List AliasingEffectConfig) (out : List AliasingEffect) (t : TableLists)
        → with_config_effects e c xs out t ≡ with_config_effects f c xs out t
    same_effects [] out t = refl
    same_effects (x ∷ xs) out t =
        ap (λ (r : Result (Collected × TableLists) Refusal). and_then r (rest_by e xs)) (same_effect x out t)
        ∙ same_after xs (same_effects xs) (with_config_effect f c x out t)

-- ---- of tables the effects of a part read only the reports

reads_impure_step : (p : Place) (out : List AliasingEffect) → ReadsReports (impure_step p out)
unfolding impure_step
reads_impure_step p out = reads_then (intern_report p.identifier impure_part_report) (λ d. _)
    (reads_report p.identifier impure_part_report) (λ d. reads_gives (out ++ effect.Impure p d ∷ []))

reads_freezes_unless : (o : Option Place) (r : ValueReason) (ps : List Place) (out : List AliasingEffect)
    → ReadsReports (with_freezes_unless o r ps out)
reads_freezes_unless (Some p) r ps out = reads_refuses (refusal.SpreadArgument p.span (spread_report p.span))
reads_freezes_unless None r ps out = reads_gives _

reads_apply : (c : ConfigCall) (r f i : Option Place) (mutates : Bool) (inner : List ApplyArgConfig)
    (out : List AliasingEffect) → ReadsReports (with_apply c r f i mutates inner out)
reads_apply c (Some r) (Some f) (Some i) mutates inner out = reads_gives _
reads_apply c (Some r) (Some f) None mutates inner out = reads_gives None
reads_apply c (Some r) None i mutates inner out = reads_gives None
reads_apply c None f i mutates inner out = reads_gives None

module _ (env : Environment) (c : ConfigCall) where
  reads_effect : (x : AliasingEffectConfig) (out : List AliasingEffect) → ReadsReports (with_config_effect env c x out)
  reads_effect (config.Freeze v r) out = reads_freezes_unless (first_bad env c.args (substituted c v)) r
      (substituted c v) out
  reads_effect (config.Create x k r) out = reads_gives _
  reads_effect (config.CreateFrom a x) out = reads_gives _
  reads_effect (config.Assign a x) out = reads_gives _
  reads_effect (config.Alias a x) out = reads_gives _
  reads_effect (config.Capture a x) out = reads_gives _
  reads_effect (config.ImmutableCapture a x) out = reads_gives _
  reads_effect (config.Impure p) out = reads_then _ _ (reads_each impure_step reads_impure_step (substituted c p) out)
      (λ more. reads_gives (Some more))
  reads_effect (config.Mutate v) out = reads_gives _
  reads_effect (config.MutateTransitiveConditionally v) out = reads_gives _
  reads_effect (config.Apply r f mutates inner x) out =
      reads_apply c (first_of (substituted c r)) (first_of (substituted c f)) (first_of (substituted c x)) mutates inner
      out

  reads_effects : (xs : List AliasingEffectConfig) (out : List AliasingEffect)
      → ReadsReports (with_config_effects env c xs out)
  reads_effects = reads_collect (with_config_effect env c) reads_effect

-- ---- the list of an aliasing part

module _ (env : Environment) (config : AliasingSignatureConfig) (site : CallSite)
    (args : List PlaceOrSpreadOrHole) where
  abbrev host_names : List (List ℕ) → NamedPlaces → Kept → Result (NamedPlaces × Kept) SignatureError
  host_names = each (with_temporary site)

  abbrev pass_names : List (List ℕ) → List Place → Step (List Place)
  pass_names = each (with_place env site)

  -- the host makes temporaries for more names behind these, at these places
  record HostHas (ns : NamedPlaces) (k : Kept) (more : List (List ℕ)) (ps : List Place) (l : Kept) : Type 0 where
    every : NamedPlaces
    made : host_names more ns k ≡ Ok (every, l)
    names : every.names ≡ ns.names ++ more
    places : every.places ≡ ps

  abbrev HostMakes : NamedPlaces → TableLists → List (List ℕ) → Result (List Place × TableLists) Refusal → Type 0
  HostMakes ns t more (Ok p) = HostHas ns (host_of env t) more p.0 (host_of env p.1)
  HostMakes ns t more (Err c) = host_names more ns (host_of env t) ≡ Err (signature_error c)

  -- where it makes the first of them, it makes them all
  makes_more : (q : List ℕ) (more : List (List ℕ)) (ns after : NamedPlaces) (t u : TableLists)
      → host_names (q ∷ more) ns (host_of env t) ≡ host_names more after (host_of env u) → after.names ≡ ns.names ++ q
      ∷ []
      → (r : Result (List Place × TableLists) Refusal) → HostMakes after u more r → HostMakes ns t (q ∷ more) r
  makes_more q more ns after t u is named_so (Ok p) h = record {
    every = h.every;
    made = is ∙ h.made;
    names = h.names ∙ ap (λ l. l ++ more) named_so ∙ append_assoc ns.names (q ∷ []) more;
    places = h.places;
  }
  makes_more q more ns after t u is named_so (Err c) h = is ∙ h

  abbrev first_key : List ℕ → TempKey
  first_key q = Named site.into.identifier (record { text = q })

  abbrev host_next : List ℕ → List (List ℕ) → NamedPlaces → Result (Place × Kept) SignatureError
      → Result (NamedPlaces × Kept) SignatureError
  host_next q more ns r = and_then (and_then r (λ p. gives (with_named q p ns))) (host_names more)

  abbrev pass_next : List (List ℕ) → List Place → Result (Place × TableLists) Refusal
      → Result (List Place × TableLists) Refusal
  pass_next more ps r = and_then (and_then r (λ p. gives (ps ++ p ∷ []))) (pass_names more)

  makes_from : (q : List ℕ) (more : List (List ℕ)) (ns : NamedPlaces) (t : TableLists)
      → ((l : NamedPlaces) (u : TableLists) → HostMakes l u more (pass_names more l.places u))
      → (r : Result (Place × TableLists) Refusal) → host_names (q ∷ more) ns (host_of env t)
      ≡ host_next q more ns (as_host env r) → HostMakes ns t (q ∷ more) (pass_next more ns.places r)
  makes_from q more ns t others (Ok p) is =
      let after = with_named q p.0 ns in
      makes_more q more ns after t p.1 is refl (pass_names more after.places p.1) (others after p.1)
  makes_from q more ns t others (Err c) is = is

  makes : (more : List (List ℕ)) (ns : NamedPlaces) (t : TableLists) → HostMakes ns t more (pass_names more ns.places t)
  makes [] ns t = record { every = ns; made = refl; names = sym (append-nil ns.names); places = refl }
  makes (q ∷ more) ns t =
      makes_from q more ns t (makes more) (temporary env (first_key q) site.receiver.span t)
      (ap (host_next q more ns) (same_temporary env (first_key q) site.receiver.span t))

  abbrev effects_in_pass : List Place → Step Collected
  effects_in_pass ps = with_config_effects env (config_call config site args ps) config.effects []

  same_reported : (u : TableLists) (r : Result (Collected × TableLists) Refusal)
      → beside u.temporaries (with_reports (host_of env u).env r) ≡ as_host env (onto u r)
  same_reported u (Ok p) = refl
  same_reported u (Err c) = refl

  same_listed : (ns : NamedPlaces) (ps : List Place) (u : TableLists) → ns.names ≡ config.temporaries → ns.places ≡ ps
      → list_called config site args [] ns (host_of env u) ≡ as_host env (effects_in_pass ps u)
  same_listed ns ps u names places =
      let there = (host_of env u).env in
      let listed : ConfigCall → Result (Collected × Kept) SignatureError =
      λ c. beside u.temporaries (with_reports there
      (with_config_effects there c config.effects [] (tables_with u.reports))) in
      ap (λ (l : NamedPlaces). listed (part_call config site args l)) (named_nothing ns)
      ∙ ap (λ (l : List (List ℕ)). listed (config_call (record config { temporaries = l }) site args ns.places)) names
      ∙ ap (λ (l : List Place). listed (config_call config site args l)) places
      ∙ ap (λ (r : Result (Collected × TableLists) Refusal). beside u.temporaries (with_reports there r))
      (same_effects there env (asks_with u.temporaries env).collections (config_call config site args ps)
      config.effects [] (tables_with u.reports))
      ∙ same_reported u (effects_in_pass ps (tables_with u.reports))
      ∙ ap (as_host env) (sym (reads_effects env (config_call config site args ps) config.effects [] u))

  same_from : (t : TableLists) (r : Result (List Place × TableLists) Refusal)
      → HostMakes nothing_named t config.temporaries r
      → and_then (host_names config.temporaries nothing_named (host_of env t)) (list_called config site args [])
      ≡ as_host env (and_then r effects_in_pass)
  same_from t (Ok p) h = ap (λ (r : Result (NamedPlaces × Kept) SignatureError).
      and_then r (list_called config site args [])) h.made ∙ same_listed h.every p.0 p.1 h.names h.places
  same_from t (Err c) h = ap (λ (r : Result (NamedPlaces × Kept) SignatureError).
      and_then r (list_called config site args [])) h

  same_if : (b : Bool) (t : TableLists)
      → (if b then gives None else (host_names config.temporaries nothing_named >>= list_called config site args []))
      (host_of env t) ≡ as_host env ((if b then gives None
      else (pass_names config.temporaries [] >>= effects_in_pass)) t)
  same_if true t = refl
  same_if false t = same_from t (pass_names config.temporaries [] t) (makes config.temporaries nothing_named t)

  -- the expansion of a call by an aliasing part
  pub same_config_expansion : (t : TableLists) → config_called config site args [] (host_of env t)
      ≡ as_host env (config_expansion env config site args t)
  same_config_expansion t = same_if (lacks_rest config args) t

-- ---- the names of a summary

abbrev pub names_given : Result (AliasingSignature × Kept) SignatureError → Result (SummaryNames × Kept) SignatureError
names_given (Ok p) = Ok (names_alone p.0, p.1)
names_given (Err e) = Err e

module _ (env : Environment) (f : FunctionId) (function : HirFunction) where
  same_identifier : (r : Result (Place × TableLists) Refusal) → and_then (as_host env r) (λ p. gives p.identifier)
      ≡ as_host env (and_then r (λ p. gives p.identifier))
  same_identifier (Ok p) = refl
  same_identifier (Err c) = refl

  same_rest_name : (o : Option IdentifierId) (t : TableLists) → rest_or_temporary o f function.span (host_of env t)
      ≡ as_host env (rest_in_pass o env f function t)
  same_rest_name (Some rest) t = refl
  same_rest_name None t =
      ap (λ (r : Result (Place × Kept) SignatureError). and_then r (λ p. gives p.identifier))
      (same_temporary env (Rest f) function.span t)
      ∙ same_identifier (temporary env (Rest f) function.span t)

  module _ (effects : List AliasingEffect) where
    same_names : (r : Result (IdentifierId × TableLists) Refusal)
        → names_given (and_then (as_host env r) (λ rest. gives (signature_with function effects (Some rest))))
        ≡ as_host env (and_then r (λ rest. gives (names_with function rest)))
    same_names (Ok p) = refl
    same_names (Err c) = refl

    -- the names of a function's summary
    pub same_summary_names : (t : TableLists) → names_given (signature_of f function effects (host_of env t))
        ≡ as_host env (summary_names env f function t)
    same_summary_names t =
        ap (λ (r : Result (IdentifierId × Kept) SignatureError).
        names_given (and_then r (λ rest. gives (signature_with function effects (Some rest)))))
        (same_rest_name (last_spread function.params None) t)
        ∙ same_names (rest_in_pass (last_spread function.params None) env f function t)
