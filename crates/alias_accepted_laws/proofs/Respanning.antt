-- Over other spans of identifiers each step but that of a block is the same.
use Rattle.std.specs.Prelude.{◌≡◌, ℕ, ◌&&◌, ◌||◌, ◌==◌, not, nat_lt, ◌+◌, false, if◌then◌else◌, length, codes, List, []}
use Rattle.std.specs.Prelude.{◌∷◌, ◌++◌, Option, Some, None, Ok, Err, slice_get, refl}
use Rattle.std.proofs.Common.{ap, ◌∙◌}
use Rattle.std.specs.List.{list_any}
use Rattle.std.specs.Option.{is_some}
use Rattle.alias_base.specs.declared.ids.FunctionId.{FunctionId}
use Rattle.alias_base.specs.declared.ids.IdentifierId.{IdentifierId}
use Rattle.alias_base.specs.declared.ids.TypeId.{TypeId}
use Rattle.alias_hir.specs.declared.effect.AliasingEffect.{AliasingEffect}
use Rattle.alias_hir.specs.declared.effect.AliasingEffect.TheVariants as effect
use Rattle.alias_hir.specs.declared.effect.ValueKind.{ValueKind}
use Rattle.alias_hir.specs.declared.effect.ValueKind.TheVariants.{Primitive, Global, Frozen, Mutable, Context}
use Rattle.alias_hir.specs.declared.effect.ValueKind.TheVariants.{MaybeFrozen}
use Rattle.alias_hir.specs.declared.effect.ValueReason.{ValueReason}
use Rattle.alias_hir.specs.declared.effect.ValueReason.TheVariants.{Other}
use Rattle.alias_hir.specs.declared.env.Environment.{Environment}
use Rattle.alias_hir.specs.declared.env.Identifier.{Identifier}
use Rattle.alias_hir.specs.declared.error.Counter.TheVariants.{Identifiers}
use Rattle.alias_hir.specs.declared.hir.HirFunction.{HirFunction}
use Rattle.alias_hir.specs.declared.place.Effect.{Effect}
use Rattle.alias_hir.specs.declared.place.Effect.TheVariants as use_of
use Rattle.alias_hir.specs.declared.place.Place.{Place}
use Rattle.alias_hir.specs.declared.place.PlaceOrSpreadOrHole.{PlaceOrSpreadOrHole}
use Rattle.alias_hir.specs.declared.place.PlaceOrSpreadOrHole.TheVariants as arg
use Rattle.alias_hir.specs.declared.place.Span.{Span}
use Rattle.alias_hir.specs.declared.report.ErrorCategory.TheVariants.{Immutability}
use Rattle.alias_hir.specs.declared.signature.AliasingSignatureConfig.{AliasingSignatureConfig}
use Rattle.alias_hir.specs.declared.signature.AliasingEffectConfig.{AliasingEffectConfig}
use Rattle.alias_hir.specs.declared.signature.AliasingEffectConfig.TheVariants as config
use Rattle.alias_hir.specs.declared.signature.FunctionSignature.{FunctionSignature}
use Rattle.alias_lattice.specs.States.{State, lookup, sites_of, missing_lookup, given}
use Rattle.alias_lattice.specs.declared.lookup.MissingLookup.{MissingLookup}
use Rattle.alias_lattice.specs.declared.site.Site.{Site}
use Rattle.alias_lattice.specs.declared.site.Site.TheVariants.{Function}
use Rattle.alias_lattice.specs.declared.value.AbstractValue.{AbstractValue}
use Rattle.alias_facts.specs.Hoisted.{Accesses}
use Rattle.alias_apply.specs.freezing.Sites.{sites_at}
use Rattle.alias_apply.specs.Apply.{is_mutable_capture, has_error, function_value, note_read_capture}
use Rattle.alias_apply.specs.Apply.{is_mutable_function, apply_simple, intern_and_apply_simple, capture_each}
use Rattle.alias_apply.specs.Apply.{apply_create_function, apply_plain, intern_and_apply_plain}
use Rattle.alias_apply.specs.Apply.{intern_and_apply_all_plain}
use Rattle.alias_apply.specs.Contexts.{StepContext, access_to, hoisted_access, summary_of}
use Rattle.alias_apply.specs.Kinds.{is_frozen, is_writable}
use Rattle.alias_apply.specs.Mutation.{intern_and_apply_mutate_frozen, intern_and_apply_mutate_global, report_write}
use Rattle.alias_apply.specs.Mutation.{report_hoisted_write, record_mutation, apply_mutate, apply_mutate_conditionally}
use Rattle.alias_apply.specs.Progress.{record_of, with_state, looked_up_with_span, kind_at, made, first_missing}
use Rattle.alias_apply.specs.Reports.{labels_at, write_reason, write_report, access_labels, access_span}
use Rattle.alias_apply.specs.Reports.{hoisting_report}
use Rattle.alias_apply.specs.declared.progress.StepProgress.{StepProgress}
use Rattle.alias_calls.specs.Arguments.{is_bad_spread_of, first_bad, has_further}
use Rattle.alias_calls.specs.Configs.{substituted, with_config_effect, with_temporary, config_call, config_expansion}
use Rattle.alias_calls.specs.Copies.{Collected, with_freezes_unless, with_freezes}
use Rattle.alias_calls.specs.Immutable.{is_still, writes_param, is_writing_site, verdict, checked, answered_by}
use Rattle.alias_calls.specs.Immutable.{signature_at, verdict_of_place, verdict_by, verdict_of, unless_answered}
use Rattle.alias_calls.specs.Immutable.{immutables}
use Rattle.alias_calls.specs.Legacy.{legacy, ended, return_reason, with_impure, with_receiver, visits_of, asked}
use Rattle.alias_calls.specs.Legacy.{with_still, visited, legacy_after, legacy_expansion}
use Rattle.alias_calls.specs.Summaries.{last_spread, rest_or_temporary, names_with, summary_names, substituted_for}
use Rattle.alias_calls.specs.Summaries.{copied, with_copied, needs_rest, names_expansion, summary_call}
use Rattle.alias_calls.specs.Summaries.{summary_expansion}
use Rattle.alias_calls.specs.Calls.{ConfigCall, SummaryCall}
use Rattle.alias_calls.specs.Visits.{iterated, visit, spread_effect, is_refused, or_effect, rest_use, with_refused}
use Rattle.alias_calls.specs.Visits.{visit_argument, visit_arguments}
use Rattle.alias_calls.specs.declared.call.CallSite.{CallSite}
use Rattle.alias_calls.specs.declared.immutable.Checked.{Checked}
use Rattle.alias_calls.specs.declared.summaries.SummaryEffect.{SummaryEffect}
use Rattle.alias_calls.specs.declared.summaries.SummaryEffect.TheVariants.{OfPair, OfPlace, OfFreeze, Passed, GivenUp}
use Rattle.alias_calls.specs.declared.visits.Visits.{Visits}
use Rattle.alias_step.specs.Calls.{call_of, with_missing, apply_by_summary, apply_inner_call_by, apply_inner_call}
use Rattle.alias_step.specs.Calls.{apply_inner_effect, apply_inner_effects, apply_by_legacy, apply_by_config}
use Rattle.alias_step.specs.Calls.{incompatible, apply_compatible, apply_by_signature, apply_call_by, apply_call}
use Rattle.alias_step.specs.Calls.{apply_effect, apply_effects}
use Rattle.alias_step.specs.Defaults.{mutate_operand, iterate_operand, capture_operand, apply_operand, apply_by_default}
use Rattle.alias_step.specs.Instructions.{written_by, is_frozen_context, record_mutate_frozen, check_write}
use Rattle.alias_step.specs.Instructions.{check_summary, check_created, begun, with_result, apply_instruction}
use Rattle.alias_step.specs.Expansions.{called_function, expansion_of_summary, expansion_of_function}
use Rattle.alias_step.specs.Expansions.{expansion_of_called, signature_of_type, expansion_of_config}
use Rattle.alias_step.specs.Operands.{Call, same_place, operands}
use Rattle.alias_step.specs.declared.call.Operand.{Operand}
use Rattle.alias_apply.specs.freezing.Contexts.{context_of}
use Rattle.alias_tables.specs.Steps.{◌>>=◌, gives, each, collect}
use Rattle.alias_tables.specs.Tables.{TableLists, intern, has_room, new_place, temporary_after, temporary}
use Rattle.alias_tables.specs.Temporaries.{temp_like, temporary_of}
use Rattle.alias_tables.specs.declared.faults.Refusal.TheVariants.{TooMany}
use Rattle.alias_tables.specs.declared.temp_key.TempKey.{TempKey}
use Rattle.alias_tables.specs.declared.temp_key.TempKey.TheVariants.{Named, Rest}
use Rattle.alias_tables.specs.declared.temporaries.Temporary.{Temporary}
use Rattle.alias_certificate_laws.specs.accepting.Alike.{Paired}
use Rattle.alias_range_alike_laws.specs.Spans.{Respanned}
use Rattle.alias_accepted_laws.specs.Spans.{with_ids}
use Rattle.alias_accepted_laws.proofs.Knowing.{long_same, name_same, declaration_same, param_same, ref_same}
use Rattle.alias_accepted_laws.proofs.Knowing.{collection_same, signature_at_same}

module _ (env : Environment) (ids : List Identifier) (spans : Paired Respanned env.identifiers ids) where
  abbrev there : Environment
  there = with_ids env ids

  -- ---- reports

  written_same : (id : IdentifierId) (span : Option Span) (reasons : ℕ) → write_report there id span reasons
      ≡ write_report env id span reasons
  written_same id span reasons = λ i. record {
    category = Immutability;
    message = codes "This value cannot be modified";
    help = Some (write_reason reasons);
    labels = labels_at span (Some (name_same env ids spans id (codes "value") i ++ codes " cannot be modified"));
  }

  hoisting_same : (id : IdentifierId) (span : Option Span) (access : Option Place)
      → hoisting_report there id span access ≡ hoisting_report env id span access
  hoisting_same id span access = λ i. record {
    category = Immutability;
    message = codes "Cannot access variable before it is declared";
    help = Some (name_same env ids spans id (codes "This variable") i
        ++ codes
        " is accessed before it is declared, which prevents the earlier access from updating when this value changes over time");
    labels =
        access_labels (access_span access) span
        (name_same env ids spans id (codes "variable") i ++ codes " accessed before it is declared")
        ++ labels_at span (Some (name_same env ids spans id (codes "variable") i ++ codes " is declared here"));
  }

  -- ---- lists of calls

  temporary_at_same : (o : Option Temporary) (key : TempKey) (span : Option Span) (t : TableLists)
      → temporary_after o there key span t ≡ temporary_after o env key span t
  temporary_at_same (Some x) key span t = refl
  temporary_at_same None key span t =
      λ i. if has_room (long_same env ids spans i) (length env.types) (length t.temporaries)
      then (let p = new_place (long_same env ids spans i) (length t.temporaries) span in
      Ok (p, record t { temporaries = t.temporaries ++ temporary_of key p ∷ [] }))
      else Err (TooMany Identifiers)

  temporary_same : (key : TempKey) (span : Option Span) → temporary there key span ≡ temporary env key span
  temporary_same key span = λ i t. temporary_at_same (temp_like key t.temporaries) key span t i

  spread_same : (x : IdentifierId) (a : PlaceOrSpreadOrHole) → is_bad_spread_of there x a ≡ is_bad_spread_of env x a
  spread_same x (arg.Place p) = refl
  spread_same x (arg.Spread s) = λ i. (s.place.identifier.0 == x.0) && not (collection_same env ids spans x i)
  spread_same x arg.Hole = refl

  first_bad_same : (args : List PlaceOrSpreadOrHole) (ps : List Place) → first_bad there args ps ≡ first_bad env args ps
  first_bad_same args [] = refl
  first_bad_same args (p ∷ ps) = λ i. if list_any (λ a. spread_same p.identifier a i) args then Some p
      else first_bad_same args ps i

  freezes_same : (args : List PlaceOrSpreadOrHole) (r : ValueReason) (ps : List Place) (out : List AliasingEffect)
      → with_freezes there args r ps out ≡ with_freezes env args r ps out
  freezes_same args r ps out = λ i. with_freezes_unless (first_bad_same args ps i) r ps out

  copied_same : (k : SummaryCall) (s : SummaryEffect) (out : List AliasingEffect) → with_copied there k s out
      ≡ with_copied env k s out
  copied_same k (OfPair p a x) out = refl
  copied_same k (OfPlace p x) out = refl
  copied_same k (OfFreeze r x) out = freezes_same k.args r (substituted_for k x) out
  copied_same k Passed out = refl
  copied_same k GivenUp out = refl

  names_list_same : (k : SummaryCall) (es : List AliasingEffect) → names_expansion there k es ≡ names_expansion env k es
  names_list_same k es =
      λ i. if nat_lt (length k.args) (length k.names.params) then gives None
      else (if needs_rest k.names.params k.args && not (is_some k.names.rest) then gives None
      else collect (λ e out. copied_same k (copied e) out i) es [])

  rest_same : (o : Option IdentifierId) (f : FunctionId) (function : HirFunction) → rest_or_temporary o there f function
      ≡ rest_or_temporary o env f function
  rest_same (Some rest) f function = refl
  rest_same None f function = λ i. temporary_same (Rest f) function.span i >>= (λ p. gives p.identifier)

  names_same : (f : FunctionId) (function : HirFunction) → summary_names there f function ≡ summary_names env f function
  names_same f function = λ i. rest_same (last_spread function.params None) f function i
      >>= (λ rest. gives (names_with function rest))

  summary_list_same : (f : FunctionId) (function : HirFunction) (es : List AliasingEffect) (into : Place)
      (args : List PlaceOrSpreadOrHole) → summary_expansion there f function es into args
      ≡ summary_expansion env f function es into args
  summary_list_same f function es into args = λ i. names_same f function i
      >>= (λ names. names_list_same (summary_call names into args function.context) es i)

  config_effect_same : (k : ConfigCall) (e : AliasingEffectConfig) (out : List AliasingEffect)
      → with_config_effect there k e out ≡ with_config_effect env k e out
  config_effect_same k (config.Freeze v r) out = freezes_same k.args r (substituted k v) out
  config_effect_same k (config.Create x kind r) out = refl
  config_effect_same k (config.CreateFrom a x) out = refl
  config_effect_same k (config.Assign a x) out = refl
  config_effect_same k (config.Alias a x) out = refl
  config_effect_same k (config.Capture a x) out = refl
  config_effect_same k (config.ImmutableCapture a x) out = refl
  config_effect_same k (config.Impure p) out = refl
  config_effect_same k (config.Mutate v) out = refl
  config_effect_same k (config.MutateTransitiveConditionally v) out = refl
  config_effect_same k (config.Apply r f mutates inner x) out = refl

  with_temporary_same : (site : CallSite) (name : List ℕ) (ps : List Place) → with_temporary there site name ps
      ≡ with_temporary env site name ps
  with_temporary_same site name ps = λ i.
      temporary_same (Named site.into.identifier (record { text = name })) site.receiver.span i
      >>= (λ p. gives (ps ++ p ∷ []))

  config_list_same : (part : AliasingSignatureConfig) (site : CallSite) (args : List PlaceOrSpreadOrHole)
      → config_expansion there part site args ≡ config_expansion env part site args
  config_list_same part site args =
      λ i. if has_further part.params args 0 && not (is_some part.rest) then gives None
      else (each (λ name ps. with_temporary_same site name ps i) part.temporaries []
      >>= (λ temporaries. collect (λ e out. config_effect_same (config_call part site args temporaries) e out i)
      part.effects []))

  -- ---- signatures without an aliasing part

  writes_same : (o : Option HirFunction) → writes_param there o ≡ writes_param env o
  writes_same None = refl
  writes_same (Some f) = λ i. list_any (λ p. param_same env ids spans p i) f.params

  site_same : (k : Site) → is_writing_site there k ≡ is_writing_site env k
  site_same (Function f) = writes_same (slice_get env.functions f.0)
  site_same k = refl

  place_verdict_same : (u : State) (p : Place) (m : Option MissingLookup) → verdict_of_place there u p m
      ≡ verdict_of_place env u p m
  place_verdict_same u p m =
      λ i. verdict (answered_by (is_still (lookup u p.identifier).kind
      && not (list_any (λ k. site_same k i) (sites_at u p.identifier))))
      (first_missing m (missing_lookup u p.identifier None))

  verdict_by_same : (o : Option FunctionSignature) (u : State) (p : Place) (m : Option MissingLookup)
      → verdict_by o there u p m ≡ verdict_by o env u p m
  verdict_by_same (Some signature) u p m = refl
  verdict_by_same None u p m = place_verdict_same u p m

  verdict_same : (u : State) (a : PlaceOrSpreadOrHole) (m : Option MissingLookup) → verdict_of there u a m
      ≡ verdict_of env u a m
  verdict_same u (arg.Place p) m = ap (λ o. verdict_by o there u p m) (signature_at_same env ids spans p.identifier)
      ∙ verdict_by_same (signature_at env p.identifier) u p m
  verdict_same u (arg.Spread x) m = place_verdict_same u x.place m
  verdict_same u arg.Hole m = refl

  immutables_same : (u : State) (args : List PlaceOrSpreadOrHole) (m : Option MissingLookup) → immutables there u args m
      ≡ immutables env u args m
  immutables_same u [] m = refl
  immutables_same u (a ∷ others) m = λ i. let v = verdict_same u a m i in
      unless_answered v.answer v.missing (immutables_same u others v.missing i)

  asked_same : (s : FunctionSignature) (args : List PlaceOrSpreadOrHole) (u : State) → asked there s args u
      ≡ asked env s args u
  asked_same s args u = λ i. if s.mutable_only_if_operands_are_mutable then immutables_same u args None i
      else checked false None

  iterated_same : (p : Place) → iterated there p ≡ iterated env p
  iterated_same p = λ i. if collection_same env ids spans p.identifier i then []
      else effect.MutateTransitiveConditionally p ∷ []

  visit_same : (into : Place) (r : ValueReason) (p : Place) (e : Effect) (v : Visits) → visit there into r p e v
      ≡ visit env into r p e v
  visit_same into r p use_of.Store v = refl
  visit_same into r p use_of.Capture v = refl
  visit_same into r p use_of.ConditionallyMutate v = refl
  visit_same into r p use_of.ConditionallyMutateIterator v =
      λ i. record v { out = v.out ++ iterated_same p i ++ effect.Capture p into ∷ [] }
  visit_same into r p use_of.Freeze v = refl
  visit_same into r p use_of.Mutate v = refl
  visit_same into r p use_of.Read v = refl
  visit_same into r p use_of.Unknown v = refl

  argument_same : (s : FunctionSignature) (into : Place) (r : ValueReason) (n : ℕ) (a : PlaceOrSpreadOrHole)
      (v : Visits) → visit_argument there s into r n a v ≡ visit_argument env s into r n a v
  argument_same s into r n (arg.Place p) v =
      visit_same into r p (or_effect (slice_get s.positional_params n) (rest_use s)) v
  argument_same s into r n (arg.Spread x) v =
      visit_same into r x.place (spread_effect (rest_use s)) (with_refused (is_refused (rest_use s)) x.place v)
  argument_same s into r n arg.Hole v = refl

  arguments_same : (s : FunctionSignature) (into : Place) (r : ValueReason) (n : ℕ) (args : List PlaceOrSpreadOrHole)
      (v : Visits) → visit_arguments there s into r n args v ≡ visit_arguments env s into r n args v
  arguments_same s into r n [] v = refl
  arguments_same s into r n (a ∷ others) v =
      λ i. arguments_same s into r (n + 1) others (argument_same s into r n a v i) i

  visited_same : (s : FunctionSignature) (site : CallSite) (args : List PlaceOrSpreadOrHole) (out : List AliasingEffect)
      → visited there s site args out ≡ visited env s site args out
  visited_same s site args out = λ i. arguments_same s site.into (return_reason s) 0 args
      (visit_same site.into (return_reason s) site.receiver s.callee_effect (visits_of (with_receiver s site out)) i) i

  after_same : (s : FunctionSignature) (site : CallSite) (args : List PlaceOrSpreadOrHole) (k : Checked)
      (out : List AliasingEffect) → legacy_after there s site args k out ≡ legacy_after env s site args k out
  after_same s site args k out = λ i. if k.holds then gives (legacy (with_still site args out) k.missing)
      else ended (visited_same s site args out i).refused site.into (visited_same s site args out i) k.missing

  legacy_same : (s : FunctionSignature) (site : CallSite) (args : List PlaceOrSpreadOrHole) (u : State)
      → legacy_expansion there s site args u ≡ legacy_expansion env s site args u
  legacy_same s site args u =
      λ i. with_impure env s site (effect.Create site.into s.return_value_kind (return_reason s) ∷ [])
      >>= (λ out. after_same s site args (asked_same s args u i) out i)

  -- ---- which list a call stands for

  list_of_summary_same : (call : Call) (f : FunctionId) (function : HirFunction) (o : Option (List AliasingEffect))
      → expansion_of_summary there call f function o ≡ expansion_of_summary env call f function o
  list_of_summary_same call f function None = refl
  list_of_summary_same call f function (Some es) = summary_list_same f function es call.site.into call.args

  list_of_function_same : (call : Call) (f : FunctionId) (o : Option HirFunction) → expansion_of_function there call f o
      ≡ expansion_of_function env call f o
  list_of_function_same call f None = refl
  list_of_function_same call f (Some function) = list_of_summary_same call f function function.aliasing_effects

  list_of_called_same : (call : Call) (o : Option FunctionId) → expansion_of_called there call o
      ≡ expansion_of_called env call o
  list_of_called_same call None = refl
  list_of_called_same call (Some f) = list_of_function_same call f (slice_get env.functions f.0)

  list_of_config_same : (call : Call) (o : Option AliasingSignatureConfig) → expansion_of_config there call o
      ≡ expansion_of_config env call o
  list_of_config_same call None = refl
  list_of_config_same call (Some part) = config_list_same part call.site call.args

  module _ (h : Accesses) where
    abbrev c : StepContext
    c = record { env = env; hoisted = h }

    abbrev d : StepContext
    d = record { env = there; hoisted = h }

    -- ---- effects

    access_same : (id : IdentifierId) → hoisted_access d id ≡ hoisted_access c id
    access_same id = ap (access_to h) (declaration_same env ids spans id)

    write_same : (w : AbstractValue) (v : Place) (s : StepProgress) → report_write d w v s ≡ report_write c w v s
    write_same w v s = λ i. if is_frozen w.kind
        then intern_and_apply_mutate_frozen (written_same v.identifier v.span w.reason i) v s
        else intern_and_apply_mutate_global (written_same v.identifier v.span w.reason i) v s

    hoisted_write_same : (o : Option (Option Place)) (w : AbstractValue) (v : Place) (s : StepProgress)
        → report_hoisted_write d o w v s ≡ report_hoisted_write c o w v s
    hoisted_write_same (Some access) w v s =
        λ i. intern_and_apply_mutate_frozen (hoisting_same v.identifier v.span access i) v s
    hoisted_write_same None w v s = write_same w v s

    frozen_write_same : (w : AbstractValue) (v : Place) (s : StepProgress)
        → report_hoisted_write d (hoisted_access d v.identifier) w v s
        ≡ report_hoisted_write c (hoisted_access c v.identifier) w v s
    frozen_write_same w v s = ap (λ o. report_hoisted_write d o w v s) (access_same v.identifier)
        ∙ hoisted_write_same (hoisted_access c v.identifier) w v s

    mutation_same : (k : ValueKind) (w : AbstractValue) (e : AliasingEffect) (v : Place) (s : StepProgress)
        → record_mutation d k w e v s ≡ record_mutation c k w e v s
    mutation_same Mutable w e v s = refl
    mutation_same Context w e v s = refl
    mutation_same Primitive w e v s = refl
    mutation_same Frozen w e v s = frozen_write_same w v s
    mutation_same MaybeFrozen w e v s = frozen_write_same w v s
    mutation_same Global w e v s = write_same w v s

    mutate_same : (e : AliasingEffect) (v : Place) (s : StepProgress) → apply_mutate d e v s ≡ apply_mutate c e v s
    mutate_same e v s = λ i. if ref_same env ids spans v.identifier i then gives s
        else mutation_same (kind_at v s) (lookup s.state v.identifier) e v (looked_up_with_span v s) i

    conditional_same : (e : AliasingEffect) (v : Place) (s : StepProgress) → apply_mutate_conditionally d e v s
        ≡ apply_mutate_conditionally c e v s
    conditional_same e v s = λ i. if ref_same env ids spans v.identifier i then s
        else (if is_writable (kind_at v s) then record_of e (looked_up_with_span v s) else looked_up_with_span v s)

    simple_same : (e : AliasingEffect) (s : StepProgress) → apply_simple d e s ≡ apply_simple c e s
    simple_same (effect.Mutate v r) s = mutate_same (effect.Mutate v r) v s
    simple_same (effect.MutateTransitive v) s = mutate_same (effect.MutateTransitive v) v s
    simple_same (effect.MutateConditionally v) s = λ i. gives (conditional_same (effect.MutateConditionally v) v s i)
    simple_same (effect.MutateTransitiveConditionally v) s =
        λ i. gives (conditional_same (effect.MutateTransitiveConditionally v) v s i)
    simple_same e s = refl

    raised_simple : (e : AliasingEffect) (s : StepProgress) → intern_and_apply_simple d e s
        ≡ intern_and_apply_simple c e s
    raised_simple e s = λ i. intern e >>= (λ first. simple_same first s i)

    function_same : (f : FunctionId) (captures : List Place) (u : State) → is_mutable_function d f captures u
        ≡ is_mutable_function c f captures u
    function_same f captures u = λ i. list_any (is_mutable_capture u) captures || has_error (summary_of env f)
        || list_any (λ (p : Place). ref_same env ids spans p.identifier i) (context_of env f)

    captures_same : (x : Place) (ps : List Place) (s : StepProgress) → capture_each d x ps s ≡ capture_each c x ps s
    captures_same x ps s = λ i. each (λ p t. raised_simple (effect.Capture p x) t i) ps s

    create_function_same : (x : Place) (f : FunctionId) (ps : List Place) (s : StepProgress)
        → apply_create_function d x f ps s ≡ apply_create_function c x f ps s
    create_function_same x f ps s =
        λ i. made x.identifier s >>= (λ u. each (note_read_capture f) (context_of env f)
        (record_of (effect.CreateFunction x f ps) u)
        >>= (λ v. captures_same x ps (with_state
        (given x.identifier (Function f) (function_value (function_same f ps v.state i)) v.state) v) i))

    plain_same : (e : AliasingEffect) (s : StepProgress) → apply_plain d e s ≡ apply_plain c e s
    plain_same (effect.CreateFunction x f ps) s = create_function_same x f ps s
    plain_same (effect.Apply receiver function mutates args into signature span) s = refl
    plain_same e s = simple_same e s

    raised_plain : (e : AliasingEffect) (s : StepProgress) → intern_and_apply_plain d e s ≡ intern_and_apply_plain c e s
    raised_plain e s = λ i. intern e >>= (λ first. plain_same first s i)

    all_plain_same : (es : List AliasingEffect) (s : StepProgress) → intern_and_apply_all_plain d es s
        ≡ intern_and_apply_all_plain c es s
    all_plain_same es s = λ i. each (λ e t. raised_plain e t i) es s

    -- ---- calls by default

    mutate_operand_same : (call : Call) (o : Operand) (s : StepProgress) → mutate_operand d call o s
        ≡ mutate_operand c call o s
    mutate_operand_same call o s = λ i. if same_place o.place call.function && not call.mutates_function then gives s
        else raised_simple (effect.MutateTransitiveConditionally o.place) s i

    iterate_operand_same : (o : Operand) (s : StepProgress) → iterate_operand d o s ≡ iterate_operand c o s
    iterate_operand_same o s = λ i. if o.is_spread && not (collection_same env ids spans o.place.identifier i)
        then raised_simple (effect.MutateTransitiveConditionally o.place) s i else gives s

    capture_operand_same : (o other : Operand) (s : StepProgress) → capture_operand d o other s
        ≡ capture_operand c o other s
    capture_operand_same o other s = λ i. if same_place other.place o.place && not o.is_spread then gives s
        else raised_simple (effect.Capture o.place other.place) s i

    operand_same : (call : Call) (all : List Operand) (o : Operand) (s : StepProgress) → apply_operand d call all o s
        ≡ apply_operand c call all o s
    operand_same call all o s =
        λ i. mutate_operand_same call o s i >>= (λ t. iterate_operand_same o t i
        >>= (λ u. raised_simple (effect.MaybeAlias o.place call.site.into) u i
        >>= (λ v. each (λ x w. capture_operand_same o x w i) all v)))

    default_same : (call : Call) (s : StepProgress) → apply_by_default d call s ≡ apply_by_default c call s
    default_same call s = λ i. raised_simple (effect.Create call.site.into Mutable Other) s i
        >>= (λ t. each (λ o w. operand_same call (operands call) o w i) (operands call) t)

    -- ---- calls

    by_summary_same : (call : Call) (list : List AliasingEffect) (s : StepProgress) → apply_by_summary d call list s
        ≡ apply_by_summary c call list s
    by_summary_same call list s = λ i. raised_simple (effect.MutateTransitiveConditionally call.function) s i
        >>= (λ t. all_plain_same list t i)

    inner_by_same : (o : Collected) (call : Call) (s : StepProgress) → apply_inner_call_by d o call s
        ≡ apply_inner_call_by c o call s
    inner_by_same (Some list) call s = by_summary_same call list s
    inner_by_same None call s = default_same call s

    inner_call_same : (call : Call) (s : StepProgress) → apply_inner_call d call s ≡ apply_inner_call c call s
    inner_call_same call s = λ i. list_of_called_same call (called_function s.state call.function) i
        >>= (λ list. inner_by_same list call s i)

    inner_effect_same : (e : AliasingEffect) (s : StepProgress) → apply_inner_effect d e s ≡ apply_inner_effect c e s
    inner_effect_same (effect.Apply receiver function mutates args into signature span) s =
        inner_call_same (call_of receiver function mutates args into span) s
    inner_effect_same e s = raised_plain e s

    inner_effects_same : (es : List AliasingEffect) (s : StepProgress) → apply_inner_effects d es s
        ≡ apply_inner_effects c es s
    inner_effects_same es s = λ i. each (λ e t. inner_effect_same e t i) es s

    by_legacy_same : (g : FunctionSignature) (call : Call) (s : StepProgress) → apply_by_legacy d g call s
        ≡ apply_by_legacy c g call s
    by_legacy_same g call s = λ i. legacy_same g call.site call.args s.state i
        >>= (λ l. all_plain_same l.effects (with_missing l.missing s) i)

    by_config_same : (o : Collected) (g : FunctionSignature) (call : Call) (s : StepProgress)
        → apply_by_config d o g call s ≡ apply_by_config c o g call s
    by_config_same (Some list) g call s = inner_effects_same list s
    by_config_same None g call s = by_legacy_same g call s

    compatible_same : (o : Option (List ℕ)) (g : FunctionSignature) (call : Call) (s : StepProgress)
        → apply_compatible d o g call s ≡ apply_compatible c o g call s
    compatible_same (Some text) g call s = refl
    compatible_same None g call s = λ i. list_of_config_same call g.aliasing i
        >>= (λ list. by_config_same list g call s i)

    by_signature_same : (o : Option FunctionSignature) (call : Call) (s : StepProgress) → apply_by_signature d o call s
        ≡ apply_by_signature c o call s
    by_signature_same (Some g) call s = compatible_same (incompatible c g) g call s
    by_signature_same None call s = default_same call s

    call_by_same : (o : Collected) (type : Option TypeId) (call : Call) (s : StepProgress)
        → apply_call_by d o type call s ≡ apply_call_by c o type call s
    call_by_same (Some list) type call s = by_summary_same call list s
    call_by_same None type call s = by_signature_same (signature_of_type env type) call s

    call_same : (type : Option TypeId) (call : Call) (s : StepProgress) → apply_call d type call s
        ≡ apply_call c type call s
    call_same type call s = λ i. list_of_called_same call (called_function s.state call.function) i
        >>= (λ list. call_by_same list type call s i)

    effect_same : (e : AliasingEffect) (s : StepProgress) → apply_effect d e s ≡ apply_effect c e s
    effect_same (effect.Apply receiver function mutates args into signature span) s =
        call_same signature (call_of receiver function mutates args into span) s
    effect_same e s = raised_plain e s

    effects_same : (es : List AliasingEffect) (s : StepProgress) → apply_effects d es s ≡ apply_effects c es s
    effects_same es s = λ i. each (λ e t. effect_same e t i) es s

    -- ---- instructions

    check_write_same : (context : List Place) (o : Option Place) (s : StepProgress) → check_write d context o s
        ≡ check_write c context o s
    check_write_same context None s = refl
    check_write_same context (Some v) s = λ i. if is_frozen_context context s.state v
        then record_mutate_frozen (written_same v.identifier v.span (lookup s.state v.identifier).reason i) v s
        else gives s

    check_summary_same : (context : List Place) (o : Option (List AliasingEffect)) (s : StepProgress)
        → check_summary d context o s ≡ check_summary c context o s
    check_summary_same context None s = refl
    check_summary_same context (Some es) s = λ i. each (λ e t. check_write_same context (written_by e) t i) es s

    check_created_same : (o : Option FunctionId) (s : StepProgress) → check_created d o s ≡ check_created c o s
    check_created_same None s = refl
    check_created_same (Some f) s = check_summary_same (context_of env f) (summary_of env f) s

    -- the step of an instruction of these effects
    pub instruction_same : (o : Option FunctionId) (es : List AliasingEffect) (x : IdentifierId) (s : StepProgress)
        → apply_instruction d o es x s ≡ apply_instruction c o es x s
    instruction_same o es x s = λ i. check_created_same o (begun s) i
        >>= (λ t. effects_same es t i >>= (λ u. gives (with_result (is_some (sites_of u.state x)) x u)))
