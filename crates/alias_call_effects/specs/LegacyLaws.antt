-- The list of a call is the same whatever is interned, but for the numbers of its report.
use Rattle.std.specs.Prelude.{◌≡◌, ℕ, ◌+◌, ◌<◌, Bool, true, false, ◌&&◌, nat_lt, List, [], ◌∷◌, ◌++◌, length, slice_get}
use Rattle.std.specs.Prelude.{slice_set, Option, Some, None, Result, Ok, Err, refl, if◌then◌else◌}
use Rattle.std.proofs.Common.{ap, sym, ◌∙◌, subst, append_assoc, append-nil, arith}
use Rattle.alias_base.specs.declared.ids.IdentifierId.{IdentifierId}
use Rattle.alias_hir.specs.declared.effect.AliasingEffect.{AliasingEffect}
use Rattle.alias_hir.specs.declared.effect.AliasingEffect.TheVariants as effect
use Rattle.alias_hir.specs.declared.effect.ValueReason.{ValueReason}
use Rattle.alias_hir.specs.ReportNumbers.{with_interned}
use Rattle.alias_hir.specs.declared.error.Counter.TheVariants.{Diagnostics}
use Rattle.alias_hir.specs.declared.env.Environment.{Environment}
use Rattle.alias_hir.specs.declared.place.Effect.{Effect}
use Rattle.alias_hir.specs.declared.place.Effect.TheVariants as use_of
use Rattle.alias_hir.specs.declared.place.Place.{Place}
use Rattle.alias_hir.specs.declared.place.PlaceOrSpreadOrHole.{PlaceOrSpreadOrHole}
use Rattle.alias_hir.specs.declared.place.PlaceOrSpreadOrHole.TheVariants as arg
use Rattle.alias_hir.specs.declared.report.ReportId.{ReportId}
use Rattle.alias_hir.specs.declared.report.Interned.{Interned}
use Rattle.alias_hir.specs.declared.signature.FunctionSignature.{FunctionSignature}
use Rattle.alias_lattice.specs.declared.lookup.MissingLookup.{MissingLookup}
use Rattle.alias_lattice.specs.States.{State}
use Rattle.alias_tables.specs.declared.faults.EffectFault.{EffectFault}
use Rattle.alias_tables.specs.declared.faults.EffectFault.TheVariants.{Refused}
use Rattle.alias_tables.specs.declared.faults.EffectFault.TheVariants as fault
use Rattle.alias_tables.specs.declared.faults.Refusal.{Refusal}
use Rattle.alias_tables.specs.declared.faults.Refusal.TheVariants.{SpreadArgument}
use Rattle.alias_tables.specs.declared.faults.Refusal.TheVariants as refusal
use Rattle.alias_tables.specs.Steps.{◌>>=◌, and_then, gives}
use Rattle.alias_tables.specs.Tables.{TableLists, Leaves, intern_report}
use Rattle.alias_apply.specs.Reports.{impure_report, spread_report}
use Rattle.alias_calls.specs.declared.call.CallSite.{CallSite}
use Rattle.alias_calls.specs.declared.immutable.Checked.{Checked}
use Rattle.alias_calls.specs.declared.legacy.Legacy.{Legacy}
use Rattle.alias_calls.specs.declared.visits.Visits.{Visits}
use Rattle.alias_calls.specs.Legacy.{legacy, is_capture, with_receiver, visits_of, return_reason, all_links}
use Rattle.alias_calls.specs.Legacy.{still_captures, with_still, ended, asked, visited, legacy_after, legacy_expansion}
use Rattle.alias_calls.specs.Visits.{iterated, visit, rest_use, or_effect, spread_effect, is_refused, with_refused}
use Rattle.alias_calls.specs.Visits.{visit_argument, visit_arguments}
use Rattle.alias_call_effects.specs.declared.error.SignatureError.{SignatureError}
use Rattle.alias_call_effects.specs.declared.error.SignatureError.TheVariants.{TooMany}
use Rattle.alias_call_effects.specs.Answers.{is_memory, signature_error, fault_error, given_alone, has_numbers}
use Rattle.alias_call_effects.specs.Answers.{tables_with, with_reports}
use Rattle.alias_call_effects.specs.Legacy.{is_reported, legacy_called, list_without_reports}

-- ---- effects ahead of those that come

abbrev ahead : List AliasingEffect → Visits → Visits
ahead out v = record v { out = out ++ v.out }

more_ahead : (out : List AliasingEffect) (v : Visits) (e : AliasingEffect) → record v { out = (out ++ v.out) ++ e ∷ [] }
    ≡ ahead out (record v { out = v.out ++ e ∷ [] })
more_ahead out v e = ap (λ (es : List AliasingEffect). record v { out = es }) (append_assoc out v.out (e ∷ []))

visit_ahead : (env : Environment) (into : Place) (r : ValueReason) (p : Place) (e : Effect) (out : List AliasingEffect)
    (v : Visits) → visit env into r p e (ahead out v) ≡ ahead out (visit env into r p e v)
visit_ahead env into r p use_of.Store out v =
    ap (λ (w : Visits). record w { stored = v.stored ++ p ∷ [] }) (more_ahead out v (effect.Mutate p None))
visit_ahead env into r p use_of.Capture out v = refl
visit_ahead env into r p use_of.ConditionallyMutate out v = more_ahead out v (effect.MutateTransitiveConditionally p)
visit_ahead env into r p use_of.ConditionallyMutateIterator out v =
    ap (λ (es : List AliasingEffect). record v { out = es ++ effect.Capture p into ∷ [] })
    (append_assoc out v.out (iterated env p))
    ∙ ap (λ (es : List AliasingEffect). record v { out = es })
    (append_assoc out (v.out ++ iterated env p) (effect.Capture p into ∷ []))
visit_ahead env into r p use_of.Freeze out v = more_ahead out v (effect.Freeze p r)
visit_ahead env into r p use_of.Mutate out v = more_ahead out v (effect.MutateTransitive p)
visit_ahead env into r p use_of.Read out v = more_ahead out v (effect.ImmutableCapture p into)
visit_ahead env into r p use_of.Unknown out v = refl

argument_ahead : (env : Environment) (s : FunctionSignature) (into : Place) (r : ValueReason) (i : ℕ)
    (a : PlaceOrSpreadOrHole) (out : List AliasingEffect) (v : Visits) → visit_argument env s into r i a (ahead out v)
    ≡ ahead out (visit_argument env s into r i a v)
argument_ahead env s into r i (arg.Place p) out v =
    visit_ahead env into r p (or_effect (slice_get s.positional_params i) (rest_use s)) out v
argument_ahead env s into r i (arg.Spread x) out v =
    visit_ahead env into r x.place (spread_effect (rest_use s)) out (with_refused (is_refused (rest_use s)) x.place v)
argument_ahead env s into r i arg.Hole out v = refl

arguments_ahead : (env : Environment) (s : FunctionSignature) (into : Place) (r : ValueReason) (i : ℕ)
    (args : List PlaceOrSpreadOrHole) (out : List AliasingEffect) (v : Visits)
    → visit_arguments env s into r i args (ahead out v) ≡ ahead out (visit_arguments env s into r i args v)
arguments_ahead env s into r i [] out v = refl
arguments_ahead env s into r i (a ∷ others) out v =
    ap (visit_arguments env s into r (i + 1) others) (argument_ahead env s into r i a out v)
    ∙ arguments_ahead env s into r (i + 1) others out (visit_argument env s into r i a v)

receiver_ahead : (b : Bool) (out : List AliasingEffect) (e : AliasingEffect)
    → visits_of (if b then out else out ++ e ∷ []) ≡ ahead out (visits_of (if b then [] else [] ++ e ∷ []))
receiver_ahead true out e = ap visits_of (sym (append-nil out))
receiver_ahead false out e = refl

-- ---- the list

-- what is given, with the tables as they are
abbrev leaving : TableLists → Result Legacy Refusal → Result (Legacy × TableLists) Refusal
leaving t (Ok l) = Ok (l, t)
leaving t (Err c) = Err c

abbrev behind : List AliasingEffect → Result Legacy Refusal → Result Legacy Refusal
behind out (Ok l) = Ok (legacy (out ++ l.effects) l.missing)
behind out (Err c) = Err c

abbrev ended_as : Option Place → Place → Visits → Option MissingLookup → Result Legacy Refusal
ended_as (Some p) into v m = Err (SpreadArgument p.span (spread_report p.span))
ended_as None into v m = Ok (legacy (v.out ++ all_links into v.stored v.captured) m)

ended_leaves : (o : Option Place) (into : Place) (v : Visits) (m : Option MissingLookup) (t : TableLists)
    → ended o into v m t ≡ leaving t (ended_as o into v m)
ended_leaves (Some p) into v m t = refl
ended_leaves None into v m t = refl

ended_behind : (o : Option Place) (into : Place) (out : List AliasingEffect) (v : Visits) (m : Option MissingLookup)
    → ended_as o into (ahead out v) m ≡ behind out (ended_as o into v m)
ended_behind (Some p) into out v m = refl
ended_behind None into out v m = ap (λ (es : List AliasingEffect). Ok (legacy es m))
    (append_assoc out v.out (all_links into v.stored v.captured))

given_is : (x l : Legacy) → ◌≡◌ {A = Result Legacy SignatureError} (Ok x) (Ok l) → x ≡ l
given_is x l h = cc

error_is : (x e : SignatureError) → ◌≡◌ {A = Result Legacy SignatureError} (Err x) (Err e) → x ≡ e
error_is x e h = cc

module _ (env : Environment) (s : FunctionSignature) (site : CallSite) (args : List PlaceOrSpreadOrHole) where
  abbrev ended_with : Visits → Option MissingLookup → Result Legacy Refusal
  ended_with v m = ended_as v.refused site.into v m

  abbrev after_as : Bool → Option MissingLookup → List AliasingEffect → Result Legacy Refusal
  after_as b m out = if b then Ok (legacy (with_still site args out) m) else ended_with (visited env s site args out) m

  after_leaves : (b : Bool) (m : Option MissingLookup) (out : List AliasingEffect) (t : TableLists)
      → legacy_after env s site args (record { holds = b; missing = m }) out t ≡ leaving t (after_as b m out)
  after_leaves true m out t = refl
  after_leaves false m out t = ended_leaves (visited env s site args out).refused site.into
      (visited env s site args out) m t

  visited_ahead : (out : List AliasingEffect) → visited env s site args out ≡ ahead out (visited env s site args [])
  visited_ahead out =
      ap (λ (v : Visits). visit_arguments env s site.into (return_reason s) 0 args
      (visit env site.into (return_reason s) site.receiver s.callee_effect v))
      (receiver_ahead (is_capture s.callee_effect) out (effect.Alias site.receiver site.into))
      ∙ ap (visit_arguments env s site.into (return_reason s) 0 args)
      (visit_ahead env site.into (return_reason s) site.receiver s.callee_effect out _)
      ∙ arguments_ahead env s site.into (return_reason s) 0 args out _

  after_behind : (b : Bool) (m : Option MissingLookup) (out : List AliasingEffect) → after_as b m out
      ≡ behind out (after_as b m [])
  after_behind true m out =
      ap (λ (es : List AliasingEffect). Ok (legacy es m))
      (append_assoc out (effect.Alias site.receiver site.into ∷ []) (still_captures site.into args))
  after_behind false m out =
      ap (λ (v : Visits). ended_with v m) (visited_ahead out)
      ∙ ended_behind (visited env s site args []).refused site.into out (visited env s site args []) m

  module _ (u : State) where
    -- what comes behind the first effects of the list
    abbrev others : Result Legacy Refusal
    others = let c = asked env s args u in after_as c.holds c.missing []

    abbrev created : AliasingEffect
    created = effect.Create site.into s.return_value_kind (return_reason s)

    list_after : (out : List AliasingEffect) (t : TableLists) → legacy_after env s site args (asked env s args u) out t
        ≡ leaving t (behind out others)
    list_after out t = let c = asked env s args u in after_leaves c.holds c.missing out t
        ∙ ap (leaving t) (after_behind c.holds c.missing out)

    abbrev report_step : TableLists → Result (ReportId × TableLists) Refusal
    report_step = intern_report site.receiver.identifier (impure_report s.canonical_name site.span)

    abbrev with_error : ReportId → List AliasingEffect
    with_error d = created ∷ effect.Impure site.receiver d ∷ []

    abbrev next : List AliasingEffect → TableLists → Result (Legacy × TableLists) Refusal
    next out = legacy_after env s site args (asked env s args u) out

    abbrev list_if : Bool → TableLists → Result (Legacy × TableLists) Refusal
    list_if b t = and_then ((if b then (report_step >>= (λ d. gives (with_error d))) else gives (created ∷ [])) t) next

    list_is : (b : Bool) → is_reported env s ≡ b → (t : TableLists) → legacy_expansion env s site args u t ≡ list_if b t
    list_is b is t = ap (λ (x : Bool). list_if x t) is

    -- where the call isn't reported
    unreported : is_reported env s ≡ false → (t : TableLists) → legacy_expansion env s site args u t
        ≡ leaving t (behind (created ∷ []) others)
    unreported quiet t = list_is false quiet t ∙ list_after (created ∷ []) t

    reported_next : (r : Result (ReportId × TableLists) Refusal) (t : TableLists) → report_step t ≡ r → list_if true t
        ≡ and_then (and_then r (λ d. gives (with_error d))) next
    reported_next r t is = ap (λ (x : Result (ReportId × TableLists) Refusal).
        and_then (and_then x (λ d. gives (with_error d))) next) is

    -- where it is reported
    reported : is_reported env s ≡ true → (t after : TableLists) (d : ReportId) → report_step t ≡ Ok (d, after)
        → legacy_expansion env s site args u t ≡ leaving after (behind (with_error d) others)
    reported tells t after d is = list_is true tells t ∙ reported_next (Ok (d, after)) t is
        ∙ list_after (with_error d) after

    -- and there is no number for its report
    untellable : is_reported env s ≡ true → (t : TableLists) (c : Refusal) → report_step t ≡ Err c
        → legacy_expansion env s site args u t ≡ Err c
    untellable tells t c is = list_is true tells t ∙ reported_next (Err c) t is

    -- ---- from the list without reports

    abbrev first_id : ReportId
    first_id = record { identity = 0; instance = 0 }

    abbrev first_table : TableLists
    first_table = tables_with (with_interned [] site.receiver.identifier (impure_report s.canonical_name site.span))

    first_reported : is_reported env s ≡ true → list_without_reports env s site args u
        ≡ given_alone (leaving first_table (behind (with_error first_id) others))
    first_reported tells = ap given_alone (reported tells (tables_with []) first_table first_id refl)

    renumbered : (o : Result Legacy Refusal) (l : Legacy) (d : ReportId) (es : List Interned)
        → given_alone (leaving first_table (behind (with_error first_id) o)) ≡ Ok l
        → with_reports env (leaving (tables_with es) (behind (with_error d) o))
        ≡ Ok (
          legacy (slice_set l.effects 1 (effect.Impure site.receiver d)) l.missing,
          record env { interned = es },
        )
    renumbered (Ok x) l d es h = ap (λ (y : Legacy).
        Ok (legacy (slice_set y.effects 1 (effect.Impure site.receiver d)) y.missing, record env { interned = es }))
        (given_is _ l h)
    renumbered (Err c) l d es h = cc

    refused_too : (o : Result Legacy Refusal) (e : SignatureError) (d : ReportId) (after : TableLists)
        → given_alone (leaving first_table (behind (with_error first_id) o)) ≡ Err e
        → with_reports env (leaving after (behind (with_error d) o)) ≡ Err e
    refused_too (Ok x) e d after h = cc
    refused_too (Err c) e d after h = ap (λ (z : SignatureError). Err z) (error_is (signature_error c) e h)

    second_there : (o : Result Legacy Refusal) (l : Legacy)
        → given_alone (leaving first_table (behind (with_error first_id) o)) ≡ Ok l → 1 < length l.effects
    second_there (Ok x) l h = subst (λ (y : Legacy). 1 < length y.effects) (given_is _ l h) (omega arith)
    second_there (Err c) l h = cc

    -- the expansion of a call that is reported has its report's numbers in the second effect
    pub reported_ok : is_reported env s ≡ true → (l : Legacy) → list_without_reports env s site args u ≡ Ok l
        → (d : ReportId) (es : List Interned) → report_step (tables_with env.interned) ≡ Ok (d, tables_with es)
        → legacy_called s site args u env ≡ Ok
        (legacy (slice_set l.effects 1 (effect.Impure site.receiver d)) l.missing, record env { interned = es })
    reported_ok tells l h d es is = ap (with_reports env)
        (reported tells (tables_with env.interned) (tables_with es) d is)
        ∙ renumbered others l d es (sym (first_reported tells) ∙ h)

    pub reported_length : is_reported env s ≡ true → (l : Legacy) → list_without_reports env s site args u ≡ Ok l → 1
        < length l.effects
    reported_length tells l h = second_there others l (sym (first_reported tells) ∙ h)

    tellable_if : (b : Bool) (p : ReportId × TableLists) (c : Refusal) → b ≡ true → (if b then Ok p else Err c) ≡ Ok p
    tellable_if true p c h = refl
    tellable_if false p c h = cc

    pub reported_err : is_reported env s ≡ true → (e : SignatureError) → list_without_reports env s site args u ≡ Err e
        → has_numbers site.receiver.identifier (impure_report s.canonical_name site.span) env.interned ≡ true
        → legacy_called s site args u env ≡ Err e
    reported_err tells e h room =
        ap (with_reports env) (reported tells (tables_with env.interned) _ _ (tellable_if _ _ _ room))
        ∙ refused_too others e _ _ (sym (first_reported tells) ∙ h)

    full_if : (b : Bool) (p : ReportId × TableLists) (c : Refusal) → b ≡ false → (if b then Ok p else Err c) ≡ Err c
    full_if true p c h = cc
    full_if false p c h = refl

    pub reported_full : is_reported env s ≡ true
        → has_numbers site.receiver.identifier (impure_report s.canonical_name site.span) env.interned ≡ false
        → legacy_called s site args u env ≡ Err (TooMany Diagnostics)
    reported_full tells full = ap (with_reports env)
        (untellable tells (tables_with env.interned) (refusal.TooMany Diagnostics) (full_if _ _ _ full))

    -- where the report is refused, so is the call
    pub reported_refused : is_reported env s ≡ true → (f : EffectFault) (more : TableLists)
        → Leaves (report_step (tables_with env.interned)) (Err f) more → is_memory (fault_error f) ≡ false
        → legacy_called s site args u env ≡ Err (fault_error f)
    reported_refused tells (Refused c) more is m =
        ap (with_reports env) (untellable tells (tables_with env.interned) c is)
    reported_refused tells (fault.Memory e) more is m = cc

    same_ok : (o : Result Legacy Refusal) (l : Legacy) → given_alone (leaving (tables_with []) o) ≡ Ok l
        → with_reports env (leaving (tables_with env.interned) o) ≡ Ok (l, env)
    same_ok (Ok x) l h = ap (λ (y : Legacy). Ok (y, env)) (given_is x l h)
    same_ok (Err c) l h = cc

    same_err : (o : Result Legacy Refusal) (e : SignatureError) → given_alone (leaving (tables_with []) o) ≡ Err e
        → with_reports env (leaving (tables_with env.interned) o) ≡ Err e
    same_err (Ok x) e h = cc
    same_err (Err c) e h = ap (λ (z : SignatureError). Err z) (error_is (signature_error c) e h)

    first_unreported : is_reported env s ≡ false → list_without_reports env s site args u
        ≡ given_alone (leaving (tables_with []) (behind (created ∷ []) others))
    first_unreported quiet = ap given_alone (unreported quiet (tables_with []))

    -- the expansion of a call that isn't reported is the same whatever is interned
    pub unreported_ok : is_reported env s ≡ false → (l : Legacy) → list_without_reports env s site args u ≡ Ok l
        → legacy_called s site args u env ≡ Ok (l, env)
    unreported_ok quiet l h = ap (with_reports env) (unreported quiet (tables_with env.interned))
        ∙ same_ok (behind (created ∷ []) others) l (sym (first_unreported quiet) ∙ h)

    pub unreported_err : is_reported env s ≡ false → (e : SignatureError) → list_without_reports env s site args u
        ≡ Err e → legacy_called s site args u env ≡ Err e
    unreported_err quiet e h = ap (with_reports env) (unreported quiet (tables_with env.interned))
        ∙ same_err (behind (created ∷ []) others) e (sym (first_unreported quiet) ∙ h)
