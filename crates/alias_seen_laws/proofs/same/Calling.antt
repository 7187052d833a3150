-- The lists of effects that calls stand for are the same beside.
use Rattle.std.specs.Prelude.{◌≡◌, ℕ, ◌+◌, ◌==◌, ◌&&◌, not, Bool, nat_lt, List, [], ◌∷◌, ◌++◌, length, Option}
use Rattle.std.specs.Prelude.{Some, None, Result, Ok, Err, slice_get, refl, if◌then◌else◌}
use Rattle.std.specs.List.{list_any}
use Rattle.std.specs.Option.{is_some}
use Rattle.std.proofs.Common.{ap, ◌∙◌}
use Rattle.alias_base.specs.declared.ids.FunctionId.{FunctionId}
use Rattle.alias_base.specs.declared.ids.IdentifierId.{IdentifierId}
use Rattle.alias_hir.specs.declared.effect.AliasingEffect.{AliasingEffect}
use Rattle.alias_hir.specs.declared.effect.AliasingEffect.TheVariants as effect
use Rattle.alias_hir.specs.declared.effect.ValueReason.{ValueReason}
use Rattle.alias_hir.specs.declared.env.Environment.{Environment}
use Rattle.alias_hir.specs.declared.error.Counter.TheVariants.{Identifiers}
use Rattle.alias_hir.specs.declared.hir.HirFunction.{HirFunction}
use Rattle.alias_hir.specs.declared.place.Effect.{Effect}
use Rattle.alias_hir.specs.declared.place.Effect.TheVariants as use_of
use Rattle.alias_hir.specs.declared.place.Place.{Place}
use Rattle.alias_hir.specs.declared.place.PlaceOrSpreadOrHole.{PlaceOrSpreadOrHole}
use Rattle.alias_hir.specs.declared.place.PlaceOrSpreadOrHole.TheVariants as arg
use Rattle.alias_hir.specs.declared.place.Span.{Span}
use Rattle.alias_hir.specs.declared.signature.AliasingEffectConfig.{AliasingEffectConfig}
use Rattle.alias_hir.specs.declared.signature.AliasingEffectConfig.TheVariants as config
use Rattle.alias_hir.specs.declared.signature.AliasingSignatureConfig.{AliasingSignatureConfig}
use Rattle.alias_hir.specs.declared.signature.FunctionSignature.{FunctionSignature}
use Rattle.alias_tables.specs.Steps.{◌>>=◌, gives, each, collect}
use Rattle.alias_tables.specs.Tables.{TableLists, Step, has_room, new_place, temporary_after, temporary}
use Rattle.alias_tables.specs.Temporaries.{temp_like, temporary_of}
use Rattle.alias_tables.specs.declared.faults.Refusal.{Refusal}
use Rattle.alias_tables.specs.declared.faults.Refusal.TheVariants.{TooMany}
use Rattle.alias_tables.specs.declared.temp_key.TempKey.{TempKey}
use Rattle.alias_tables.specs.declared.temp_key.TempKey.TheVariants.{Named, Rest}
use Rattle.alias_tables.specs.declared.temporaries.Temporary.{Temporary}
use Rattle.alias_calls.specs.Arguments.{has_further, is_bad_spread_of, is_bad_spread, first_bad}
use Rattle.alias_calls.specs.Calls.{ConfigCall, SummaryCall}
use Rattle.alias_calls.specs.Configs.{with_config_effect, with_config_effects, with_temporary, config_call}
use Rattle.alias_calls.specs.Configs.{config_expansion}
use Rattle.alias_calls.specs.Copies.{Collected, with_freezes_unless, with_freezes}
use Rattle.alias_calls.specs.Legacy.{legacy, ended, return_reason, with_receiver, visits_of, with_still, visited}
use Rattle.alias_calls.specs.Legacy.{legacy_after}
use Rattle.alias_calls.specs.Summaries.{last_spread, rest_or_temporary, names_with, summary_names, copied, with_copied}
use Rattle.alias_calls.specs.Summaries.{needs_rest, names_expansion, summary_call, summary_expansion}
use Rattle.alias_calls.specs.Visits.{iterated, visit, spread_effect, is_refused, or_effect, rest_use, with_refused}
use Rattle.alias_calls.specs.Visits.{visit_argument, visit_arguments}
use Rattle.alias_calls.specs.declared.call.CallSite.{CallSite}
use Rattle.alias_calls.specs.declared.call.SummaryNames.{SummaryNames}
use Rattle.alias_calls.specs.declared.immutable.Checked.{Checked}
use Rattle.alias_calls.specs.declared.legacy.Legacy.{Legacy}
use Rattle.alias_calls.specs.declared.summaries.SummaryEffect.{SummaryEffect}
use Rattle.alias_calls.specs.declared.summaries.SummaryEffect.TheVariants.{OfFreeze}
use Rattle.alias_calls.specs.declared.visits.Visits.{Visits}
use Rattle.alias_step.specs.Expansions.{expansion_of_summary, expansion_of_function, expansion_of_config}
use Rattle.alias_step.specs.Operands.{Call}
use Rattle.alias_seen_laws.specs.Beside.{Others, with_others, DeclareSame}
use Rattle.alias_seen_laws.proofs.same.Identifiers.{count_same, collection_same}

module _ (env : Environment) (z : Others) (same : DeclareSame env z) where
  abbrev there : Environment
  there = with_others env z

  -- ---- temporaries

  added_same : (o : Option Temporary) (key : TempKey) (span : Option Span) (t : TableLists)
      → temporary_after o there key span t ≡ temporary_after o env key span t
  added_same (Some x) key span t = refl
  added_same None key span t =
      ap (λ n. let p : Place = new_place n (length t.temporaries) span in
      let r : Result (Place × TableLists) Refusal = if has_room n (length env.types) (length t.temporaries)
      then Ok (p, record t { temporaries = t.temporaries ++ temporary_of key p ∷ [] })
      else Err (TooMany Identifiers) in r) (count_same env z same)

  pub temporary_same : (key : TempKey) (span : Option Span) → temporary there key span ≡ temporary env key span
  temporary_same key span = λ i t. added_same (temp_like key t.temporaries) key span t i

  -- ---- lists

  bad_of_same : (x : IdentifierId) (a : PlaceOrSpreadOrHole) → is_bad_spread_of there x a ≡ is_bad_spread_of env x a
  bad_of_same x (arg.Spread s) = ap (λ b. (s.place.identifier.0 == x.0) && not b) (collection_same env z same x)
  bad_of_same x (arg.Place p) = refl
  bad_of_same x arg.Hole = refl

  first_bad_same : (args : List PlaceOrSpreadOrHole) (ps : List Place) → first_bad there args ps ≡ first_bad env args ps
  first_bad_same args [] = refl
  first_bad_same args (p ∷ ps) =
      ap (λ (f : PlaceOrSpreadOrHole → Bool). if list_any f args then Some p else first_bad there args ps)
      (λ i a. bad_of_same p.identifier a i)
      ∙ ap (λ o. if is_bad_spread env args p.identifier then Some p else o) (first_bad_same args ps)

  freezes_same : (args : List PlaceOrSpreadOrHole) (r : ValueReason) (ps : List Place) (out : List AliasingEffect)
      → with_freezes there args r ps out ≡ with_freezes env args r ps out
  freezes_same args r ps out = ap (λ o. with_freezes_unless o r ps out) (first_bad_same args ps)

  -- ---- by a summary

  rest_same : (o : Option IdentifierId) (f : FunctionId) (function : HirFunction)
      → rest_or_temporary o there f function ≡ rest_or_temporary o env f function
  rest_same (Some rest) f function = refl
  rest_same None f function =
      ap (λ (q : Step Place). q >>= (λ p. gives p.identifier)) (temporary_same (Rest f) function.span)

  names_same : (f : FunctionId) (function : HirFunction) → summary_names there f function ≡ summary_names env f function
  names_same f function =
      ap (λ (q : Step IdentifierId). q >>= (λ rest. gives (names_with function rest)))
      (rest_same (last_spread function.params None) f function)

  copied_same : (c : SummaryCall) (e : SummaryEffect) (out : List AliasingEffect)
      → with_copied there c e out ≡ with_copied env c e out
  copied_same c (OfFreeze r x) out = freezes_same c.args r _ out
  copied_same c e out = refl

  expansion_same : (c : SummaryCall) (effects : List AliasingEffect)
      → names_expansion there c effects ≡ names_expansion env c effects
  expansion_same c effects =
      ap (λ (f : AliasingEffect → List AliasingEffect → Step Collected).
      let q : Step Collected = if nat_lt (length c.args) (length c.names.params) then gives None
      else (if needs_rest c.names.params c.args && not (is_some c.names.rest) then gives None
      else collect f effects []) in q) (λ i e out. copied_same c (copied e) out i)

  summary_same : (f : FunctionId) (function : HirFunction) (effects : List AliasingEffect) (into : Place)
      (args : List PlaceOrSpreadOrHole)
      → summary_expansion there f function effects into args ≡ summary_expansion env f function effects into args
  summary_same f function effects into args =
      ap (λ (q : Step SummaryNames).
      q >>= (λ names. names_expansion there (summary_call names into args function.context) effects))
      (names_same f function)
      ∙ ap (λ (k : SummaryNames → Step Collected). summary_names env f function >>= k)
      (λ i names. expansion_same (summary_call names into args function.context) effects i)

  of_summary_same : (call : Call) (f : FunctionId) (function : HirFunction) (o : Option (List AliasingEffect))
      → expansion_of_summary there call f function o ≡ expansion_of_summary env call f function o
  of_summary_same call f function None = refl
  of_summary_same call f function (Some effects) = summary_same f function effects call.site.into call.args

  -- of the function that is called
  pub of_function_same : (call : Call) (f : FunctionId) (o : Option HirFunction)
      → expansion_of_function there call f o ≡ expansion_of_function env call f o
  of_function_same call f None = refl
  of_function_same call f (Some function) = of_summary_same call f function function.aliasing_effects

  -- ---- by an aliasing part

  effect_same : (c : ConfigCall) (e : AliasingEffectConfig) (out : List AliasingEffect)
      → with_config_effect there c e out ≡ with_config_effect env c e out
  effect_same c (config.Freeze v r) out = freezes_same c.args r _ out
  effect_same c e out = refl

  made_same : (site : CallSite) (name : List ℕ) (places : List Place)
      → with_temporary there site name places ≡ with_temporary env site name places
  made_same site name places =
      ap (λ (q : Step Place). q >>= (λ p. gives (places ++ p ∷ [])))
      (temporary_same (Named site.into.identifier (record { text = name })) site.receiver.span)

  config_same : (part : AliasingSignatureConfig) (site : CallSite) (args : List PlaceOrSpreadOrHole)
      → config_expansion there part site args ≡ config_expansion env part site args
  config_same part site args =
      ap (λ (f : List ℕ → List Place → Step (List Place)).
      let q : Step Collected = if has_further part.params args 0 && not (is_some part.rest) then gives None
      else each f part.temporaries []
      >>= (λ ps. with_config_effects there (config_call part site args ps) part.effects []) in q)
      (λ i name places. made_same site name places i)
      ∙ ap (λ (g : ConfigCall → AliasingEffectConfig → List AliasingEffect → Step Collected).
      let q : Step Collected = if has_further part.params args 0 && not (is_some part.rest) then gives None
      else each (with_temporary env site) part.temporaries []
      >>= (λ ps. collect (g (config_call part site args ps)) part.effects []) in q)
      (λ i c e out. effect_same c e out i)

  pub of_config_same : (call : Call) (o : Option AliasingSignatureConfig)
      → expansion_of_config there call o ≡ expansion_of_config env call o
  of_config_same call None = refl
  of_config_same call (Some part) = config_same part call.site call.args

  -- ---- by what places are used for

  iterated_same : (p : Place) → iterated there p ≡ iterated env p
  iterated_same p = ap (λ b. if b then [] else effect.MutateTransitiveConditionally p ∷ [])
      (collection_same env z same p.identifier)

  visit_same : (into : Place) (r : ValueReason) (p : Place) (e : Effect) (v : Visits)
      → visit there into r p e v ≡ visit env into r p e v
  visit_same into r p use_of.ConditionallyMutateIterator v =
      ap (λ (l : List AliasingEffect). record v { out = v.out ++ l ++ effect.Capture p into ∷ [] }) (iterated_same p)
  visit_same into r p e v = refl

  module _ (s : FunctionSignature) where
    argument_same : (into : Place) (r : ValueReason) (i : ℕ) (a : PlaceOrSpreadOrHole) (v : Visits)
        → visit_argument there s into r i a v ≡ visit_argument env s into r i a v
    argument_same into r i (arg.Place p) v =
        visit_same into r p (or_effect (slice_get s.positional_params i) (rest_use s)) v
    argument_same into r i (arg.Spread x) v =
        visit_same into r x.place (spread_effect (rest_use s)) (with_refused (is_refused (rest_use s)) x.place v)
    argument_same into r i arg.Hole v = refl

    arguments_same : (into : Place) (r : ValueReason) (i : ℕ) (args : List PlaceOrSpreadOrHole) (v : Visits)
        → visit_arguments there s into r i args v ≡ visit_arguments env s into r i args v
    arguments_same into r i [] v = refl
    arguments_same into r i (a ∷ others) v =
        ap (λ (w : Visits). visit_arguments there s into r (i + 1) others w) (argument_same into r i a v)
        ∙ arguments_same into r (i + 1) others (visit_argument env s into r i a v)

    visited_same : (site : CallSite) (args : List PlaceOrSpreadOrHole) (out : List AliasingEffect)
        → visited there s site args out ≡ visited env s site args out
    visited_same site args out =
        let begun : Visits = visits_of (with_receiver s site out) in
        ap (λ (w : Visits). visit_arguments there s site.into (return_reason s) 0 args w)
        (visit_same site.into (return_reason s) site.receiver s.callee_effect begun)
        ∙ arguments_same site.into (return_reason s) 0 args
        (visit env site.into (return_reason s) site.receiver s.callee_effect begun)

    -- what follows once it is known whether the arguments are immutable
    pub legacy_after_same : (site : CallSite) (args : List PlaceOrSpreadOrHole) (k : Checked)
        (out : List AliasingEffect)
        → legacy_after there s site args k out ≡ legacy_after env s site args k out
    legacy_after_same site args k out =
        ap (λ (v : Visits). let q : Step Legacy = if k.holds then gives (legacy (with_still site args out) k.missing)
        else ended v.refused site.into v k.missing in q) (visited_same site args out)
