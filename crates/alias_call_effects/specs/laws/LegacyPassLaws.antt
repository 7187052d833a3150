-- The list of a call by a signature without an aliasing part: what a host is given is what a pass would be given.
use Rattle.std.specs.Prelude.{◌≡◌, ℕ, ◌+◌, Bool, false, ◌&&◌, ◌||◌, not, List, [], ◌∷◌, ◌++◌, slice_get, Option, Some}
use Rattle.std.specs.Prelude.{None, Result, Ok, Err, refl, if◌then◌else◌}
use Rattle.std.specs.List.{list_any}
use Rattle.std.proofs.Common.{ap, sym, ◌∙◌}
use Rattle.alias_hir.specs.declared.effect.AliasingEffect.{AliasingEffect}
use Rattle.alias_hir.specs.declared.effect.AliasingEffect.TheVariants as effect
use Rattle.alias_hir.specs.declared.effect.ValueReason.{ValueReason}
use Rattle.alias_hir.specs.declared.env.Config.{Config}
use Rattle.alias_hir.specs.declared.env.Environment.{Environment}
use Rattle.alias_hir.specs.declared.hir.HirFunction.{HirFunction}
use Rattle.alias_hir.specs.declared.hir.ParamPattern.{ParamPattern}
use Rattle.alias_hir.specs.declared.place.Effect.{Effect}
use Rattle.alias_hir.specs.declared.place.Effect.TheVariants as use_of
use Rattle.alias_hir.specs.declared.place.Place.{Place}
use Rattle.alias_hir.specs.declared.place.PlaceOrSpreadOrHole.{PlaceOrSpreadOrHole}
use Rattle.alias_hir.specs.declared.place.PlaceOrSpreadOrHole.TheVariants as arg
use Rattle.alias_hir.specs.declared.signature.FunctionSignature.{FunctionSignature}
use Rattle.alias_lattice.specs.declared.lookup.MissingLookup.{MissingLookup}
use Rattle.alias_lattice.specs.declared.site.Site.{Site}
use Rattle.alias_lattice.specs.declared.site.Site.TheVariants.{Function}
use Rattle.alias_lattice.specs.States.{State, lookup, missing_lookup}
use Rattle.alias_apply.specs.freezing.Sites.{sites_at}
use Rattle.alias_tables.specs.declared.faults.Refusal.{Refusal}
use Rattle.alias_tables.specs.declared.faults.Refusal.TheVariants.{SpreadArgument}
use Rattle.alias_tables.specs.Steps.{◌>>=◌, and_then, gives}
use Rattle.alias_tables.specs.Tables.{TableLists, Step, intern_report}
use Rattle.alias_apply.specs.Progress.{first_missing}
use Rattle.alias_apply.specs.Reports.{impure_report, spread_report}
use Rattle.alias_calls.specs.declared.call.CallSite.{CallSite}
use Rattle.alias_calls.specs.declared.immutable.Checked.{Checked}
use Rattle.alias_calls.specs.declared.immutable.Verdict.{Verdict}
use Rattle.alias_calls.specs.declared.legacy.Legacy.{Legacy}
use Rattle.alias_calls.specs.declared.visits.Visits.{Visits}
use Rattle.alias_calls.specs.Immutable.{is_long_param, param_place, writes_param, is_writing_site, is_still, verdict}
use Rattle.alias_calls.specs.Immutable.{checked, answered_by, verdict_of_place, verdict_by, signature_at, verdict_of}
use Rattle.alias_calls.specs.Immutable.{unless_answered, immutables}
use Rattle.alias_calls.specs.Legacy.{all_links, legacy, ended, return_reason, with_impure, with_receiver, visits_of}
use Rattle.alias_calls.specs.Legacy.{asked, with_still, visited, legacy_after, legacy_expansion}
use Rattle.alias_calls.specs.Visits.{iterated, visit, rest_use, or_effect, spread_effect, is_refused, with_refused}
use Rattle.alias_calls.specs.Visits.{visit_argument, visit_arguments}
use Rattle.alias_call_effects.specs.declared.error.SignatureError.{SignatureError}
use Rattle.alias_call_effects.specs.Answers.{tables_with, with_reports}
use Rattle.alias_call_effects.specs.Kept.{Kept}
use Rattle.alias_call_effects.specs.Legacy.{legacy_called}
use Rattle.alias_call_effects.specs.laws.MoreLaws.{AsksTheSame, asks_with}
use Rattle.alias_call_effects.specs.laws.PassLaws.{host_of, as_host}
use Rattle.alias_call_effects.specs.laws.ReadsLaws.{onto, ReadsReports, reads_gives, reads_refuses, reads_then}
use Rattle.alias_call_effects.specs.laws.ReadsLaws.{reads_if, reads_report}

same_any : {X : Type 0} (p q : X → Bool) → ((x : X) → p x ≡ q x) → (xs : List X) → list_any p xs ≡ list_any q xs
same_any p q same [] = refl
same_any p q same (x ∷ xs) = ap (λ b. b || list_any p xs) (same x) ∙ ap (λ b. q x || b) (same_any p q same xs)

module _ (e f : Environment) (same : AsksTheSame e f) where
  -- ---- immutable arguments

  same_param : (p : ParamPattern) → is_long_param e p ≡ is_long_param f p
  same_param p = same.long (param_place p).identifier.0

  same_writes : (o : Option HirFunction) → writes_param e o ≡ writes_param f o
  same_writes None = refl
  same_writes (Some g) = same_any (is_long_param e) (is_long_param f) same_param g.params

  same_site : (k : Site) → is_writing_site e k ≡ is_writing_site f k
  same_site (Function x) = ap (λ (fs : List HirFunction). writes_param e (slice_get fs x.0)) same.functions
      ∙ same_writes (slice_get f.functions x.0)
  same_site k = refl

  same_place : (u : State) (p : Place) (m : Option MissingLookup) → verdict_of_place e u p m ≡ verdict_of_place f u p m
  same_place u p m =
      ap (λ b. verdict (answered_by (is_still (lookup u p.identifier).kind && not b))
      (first_missing m (missing_lookup u p.identifier None)))
      (same_any (is_writing_site e) (is_writing_site f) same_site (sites_at u p.identifier))

  same_by : (o : Option FunctionSignature) (u : State) (p : Place) (m : Option MissingLookup) → verdict_by o e u p m
      ≡ verdict_by o f u p m
  same_by (Some s) u p m = refl
  same_by None u p m = same_place u p m

  same_verdict : (u : State) (a : PlaceOrSpreadOrHole) (m : Option MissingLookup) → verdict_of e u a m
      ≡ verdict_of f u a m
  same_verdict u (arg.Place p) m = ap (λ (o : Option FunctionSignature). verdict_by o e u p m)
      (same.signatures p.identifier) ∙ same_by (signature_at f p.identifier) u p m
  same_verdict u (arg.Spread x) m = same_place u x.place m
  same_verdict u arg.Hole m = refl

  same_immutables : (u : State) (args : List PlaceOrSpreadOrHole) (m : Option MissingLookup) → immutables e u args m
      ≡ immutables f u args m
  same_immutables u [] m = refl
  same_immutables u (a ∷ others) m =
      ap (λ (v : Verdict). unless_answered v.answer v.missing (immutables e u others v.missing)) (same_verdict u a m)
      ∙ ap (λ (c : Checked). unless_answered (verdict_of f u a m).answer (verdict_of f u a m).missing c)
      (same_immutables u others (verdict_of f u a m).missing)

  same_asked : (s : FunctionSignature) (args : List PlaceOrSpreadOrHole) (u : State) → asked e s args u
      ≡ asked f s args u
  same_asked s args u = ap (λ (c : Checked). if s.mutable_only_if_operands_are_mutable then c else checked false None)
      (same_immutables u args None)

  -- ---- what places are used for

  same_iterated : (p : Place) → iterated e p ≡ iterated f p
  same_iterated p = ap (λ b. if b then [] else effect.MutateTransitiveConditionally p ∷ [])
      (same.collections p.identifier)

  same_visit : (into : Place) (r : ValueReason) (p : Place) (x : Effect) (v : Visits) → visit e into r p x v
      ≡ visit f into r p x v
  same_visit into r p use_of.ConditionallyMutateIterator v =
      ap (λ (es : List AliasingEffect). record v { out = v.out ++ es ++ effect.Capture p into ∷ [] }) (same_iterated p)
  same_visit into r p use_of.Store v = refl
  same_visit into r p use_of.Capture v = refl
  same_visit into r p use_of.ConditionallyMutate v = refl
  same_visit into r p use_of.Freeze v = refl
  same_visit into r p use_of.Mutate v = refl
  same_visit into r p use_of.Read v = refl
  same_visit into r p use_of.Unknown v = refl

  same_argument : (s : FunctionSignature) (into : Place) (r : ValueReason) (i : ℕ) (a : PlaceOrSpreadOrHole)
      (v : Visits) → visit_argument e s into r i a v ≡ visit_argument f s into r i a v
  same_argument s into r i (arg.Place p) v =
      same_visit into r p (or_effect (slice_get s.positional_params i) (rest_use s)) v
  same_argument s into r i (arg.Spread x) v =
      same_visit into r x.place (spread_effect (rest_use s)) (with_refused (is_refused (rest_use s)) x.place v)
  same_argument s into r i arg.Hole v = refl

  same_arguments : (s : FunctionSignature) (into : Place) (r : ValueReason) (i : ℕ) (args : List PlaceOrSpreadOrHole)
      (v : Visits) → visit_arguments e s into r i args v ≡ visit_arguments f s into r i args v
  same_arguments s into r i [] v = refl
  same_arguments s into r i (a ∷ others) v =
      ap (visit_arguments e s into r (i + 1) others) (same_argument s into r i a v)
      ∙ same_arguments s into r (i + 1) others (visit_argument f s into r i a v)

  -- ---- the list

  module _ (s : FunctionSignature) (site : CallSite) (args : List PlaceOrSpreadOrHole) where
    same_visited : (out : List AliasingEffect) → visited e s site args out ≡ visited f s site args out
    same_visited out =
        ap (visit_arguments e s site.into (return_reason s) 0 args)
        (same_visit site.into (return_reason s) site.receiver s.callee_effect
        (visits_of (with_receiver s site out)))
        ∙ same_arguments s site.into (return_reason s) 0 args
        (visit f site.into (return_reason s) site.receiver s.callee_effect (visits_of (with_receiver s site out)))

    same_after : (c : Checked) (out : List AliasingEffect) (t : TableLists) → legacy_after e s site args c out t
        ≡ legacy_after f s site args c out t
    same_after c out t =
        ap (λ (v : Visits). (if c.holds then gives (legacy (with_still site args out) c.missing)
        else ended v.refused site.into v c.missing) t) (same_visited out)

    abbrev caused_if : Bool → List AliasingEffect → Step (List AliasingEffect)
    caused_if b out =
        if b then (do
          error ← intern_report site.receiver.identifier (impure_report s.canonical_name site.span)
          gives (out ++ effect.Impure site.receiver error ∷ []))
        else gives out

    same_if_reported : (out : List AliasingEffect) (t : TableLists) → with_impure e s site out t
        ≡ with_impure f s site out t
    same_if_reported out t = ap (λ (c : Config). caused_if (s.impure && c.validate_no_impure_functions_in_render) out t)
        same.config

    abbrev rest_in : Environment → Checked → List AliasingEffect → Step Legacy
    rest_in env c out = legacy_after env s site args c out

    same_rest : (u : State) (r : Result (List AliasingEffect × TableLists) Refusal)
        → and_then r (rest_in e (asked e s args u)) ≡ and_then r (rest_in f (asked f s args u))
    same_rest u (Ok p) = ap (λ (c : Checked). legacy_after e s site args c p.0 p.1) (same_asked s args u)
        ∙ same_after (asked f s args u) p.0 p.1
    same_rest u (Err c) = refl

    same_list : (u : State) (t : TableLists) → legacy_expansion e s site args u t ≡ legacy_expansion f s site args u t
    same_list u t =
        let first = effect.Create site.into s.return_value_kind (return_reason s) ∷ [] in
        ap (λ (r : Result (List AliasingEffect × TableLists) Refusal). and_then r (rest_in e (asked e s args u)))
        (same_if_reported first t)
        ∙ same_rest u (with_impure f s site first t)

-- ---- reports

reads_ended : (o : Option Place) (into : Place) (v : Visits) (m : Option MissingLookup)
    → ReadsReports (ended o into v m)
reads_ended (Some p) into v m = reads_refuses (SpreadArgument p.span (spread_report p.span))
reads_ended None into v m = reads_gives (legacy (v.out ++ all_links into v.stored v.captured) m)

module _ (env : Environment) (s : FunctionSignature) (site : CallSite) (args : List PlaceOrSpreadOrHole) where
  reads_after : (c : Checked) (out : List AliasingEffect) → ReadsReports (legacy_after env s site args c out)
  reads_after c out =
      reads_if c.holds _ _ (reads_gives (legacy (with_still site args out) c.missing))
      (reads_ended (visited env s site args out).refused site.into (visited env s site args out) c.missing)

  reads_if_reported : (out : List AliasingEffect) → ReadsReports (with_impure env s site out)
  reads_if_reported out =
      reads_if (s.impure && env.config.validate_no_impure_functions_in_render) _ _
      (reads_then _ _ (reads_report site.receiver.identifier (impure_report s.canonical_name site.span))
      (λ d. reads_gives (out ++ effect.Impure site.receiver d ∷ [])))
      (reads_gives out)

  reads_list : (u : State) → ReadsReports (legacy_expansion env s site args u)
  reads_list u = reads_then _ _ (reads_if_reported (effect.Create site.into s.return_value_kind (return_reason s) ∷ []))
      (λ out. reads_after (asked env s args u) out)

-- ---- a host

-- what a host is given, without the temporaries that it keeps
abbrev pub environment_alone : {A : Type 0} → Result (A × Kept) SignatureError → Result (A × Environment) SignatureError
environment_alone (Ok p) = Ok (p.0, p.1.env)
environment_alone (Err e) = Err e

same_reported : (env : Environment) (t : TableLists) (r : Result (Legacy × TableLists) Refusal)
    → with_reports (host_of env t).env r ≡ environment_alone (as_host env (onto t r))
same_reported env t (Ok p) = refl
same_reported env t (Err c) = refl

module _ (env : Environment) (s : FunctionSignature) (site : CallSite) (args : List PlaceOrSpreadOrHole)
    (u : State) where
  host_asks : (t : TableLists) → AsksTheSame (host_of env t).env env
  host_asks t =
      let h = asks_with t.temporaries env in
      record {
        config = h.config;
        functions = h.functions;
        collections = h.collections;
        signatures = h.signatures;
        long = h.long;
      }

  -- the expansion of a call by a signature without an aliasing part
  pub same_legacy_expansion : (t : TableLists) → legacy_called s site args u (host_of env t).env
      ≡ environment_alone (as_host env (legacy_expansion env s site args u t))
  same_legacy_expansion t =
      ap (λ (r : Result (Legacy × TableLists) Refusal). with_reports (host_of env t).env r)
      (same_list (host_of env t).env env (host_asks t) s site args u (tables_with t.reports))
      ∙ same_reported env t (legacy_expansion env s site args u (tables_with t.reports))
      ∙ ap (λ (r : Result (Legacy × TableLists) Refusal). environment_alone (as_host env r))
      (sym (reads_list env s site args u t))
