-- The expansions of calls by a signature without an aliasing part are alike.
use Rattle.std.specs.Prelude.{◌≡◌, ℕ, ◌+◌, Bool, true, false, ◌&&◌, ◌||◌, not, List, [], ◌∷◌, ◌++◌, Option, Some, None}
use Rattle.std.specs.Prelude.{slice_get, refl, if◌then◌else◌}
use Rattle.std.proofs.Common.{ap, ◌∙◌, subst}
use Rattle.alias_hir.specs.Types.{is_builtin_collection_at}
use Rattle.alias_hir.specs.declared.effect.AliasingEffect.{AliasingEffect}
use Rattle.alias_hir.specs.declared.effect.AliasingEffect.TheVariants as effect
use Rattle.alias_hir.specs.declared.effect.ValueReason.{ValueReason}
use Rattle.alias_hir.specs.declared.env.Environment.{Environment}
use Rattle.alias_hir.specs.declared.hir.HirFunction.{HirFunction}
use Rattle.alias_apply.specs.freezing.Sites.{sites_at}
use Rattle.alias_lattice.specs.declared.site.Site.{Site}
use Rattle.alias_lattice.specs.declared.site.Site.TheVariants.{Function}
use Rattle.alias_apply.specs.Progress.{first_missing}
use Rattle.alias_certificate_laws.proofs.accepting.Elsewhere.{function_elsewhere}
use Rattle.alias_hir.specs.declared.place.Effect.{Effect}
use Rattle.alias_hir.specs.declared.place.Effect.TheVariants as use_of
use Rattle.alias_hir.specs.declared.place.Place.{Place}
use Rattle.alias_hir.specs.declared.place.PlaceOrSpreadOrHole.{PlaceOrSpreadOrHole}
use Rattle.alias_hir.specs.declared.signature.FunctionSignature.{FunctionSignature}
use Rattle.alias_lattice.specs.declared.lookup.MissingLookup.{MissingLookup}
use Rattle.alias_lattice.specs.States.{State, lookup, missing_lookup}
use Rattle.alias_tables.specs.declared.faults.Refusal.TheVariants.{SpreadArgument}
use Rattle.alias_tables.specs.declared.temporaries.Temporary.{Temporary}
use Rattle.alias_apply.specs.Reports.{impure_report, spread_report}
use Rattle.alias_calls.specs.declared.call.CallSite.{CallSite}
use Rattle.alias_calls.specs.declared.immutable.Checked.{Checked}
use Rattle.alias_calls.specs.declared.visits.Visits.{Visits}
use Rattle.alias_calls.specs.Immutable.{checked, signature_at, verdict, answered_by, is_still, writes_param}
use Rattle.alias_calls.specs.Immutable.{is_writing_site, has_writing_site, verdict_of_place, verdict_by, verdict_of}
use Rattle.alias_calls.specs.Immutable.{unless_answered, immutables}
use Rattle.alias_calls.specs.Legacy.{links_of, all_links, ended, still_captures, return_reason, is_capture, with_impure}
use Rattle.alias_calls.specs.Legacy.{with_receiver, visits_of, asked, with_still, visited, legacy_after}
use Rattle.alias_calls.specs.Legacy.{legacy_expansion}
use Rattle.alias_calls.specs.Visits.{iterated, visit, spread_effect, is_refused, or_effect, rest_use, refused_first}
use Rattle.alias_calls.specs.Visits.{with_refused, visit_argument, visit_arguments}
use Rattle.alias_certificate_laws.specs.accepting.Alike.{none, more, Maybe, nothing, just, moved, AlikePlace, at}
use Rattle.alias_certificate_laws.specs.accepting.Alike.{AlikePlaces, AlikeArgument, plain, spread, hole}
use Rattle.alias_certificate_laws.specs.accepting.Alike.{AlikeArguments, Alike, immutable_capture, alias, capture}
use Rattle.alias_certificate_laws.specs.accepting.Alike.{create, freeze, impure, mutate, mutate_transitive}
use Rattle.alias_certificate_laws.specs.accepting.Alike.{mutate_transitive_conditionally, AlikeEffects, AlikeSite}
use Rattle.alias_certificate_laws.specs.accepting.Alike.{called, AlikeLegacy, listed, IsFull, Repeats, AlikeFunction}
use Rattle.alias_certificate_laws.specs.accepting.Alike.{seen, Elsewhere, elsewhere}
use Rattle.alias_certificate_laws.proofs.accepting.Likeness.{paired_self, paired_append, paired_map, alike_self}
use Rattle.alias_certificate_laws.proofs.accepting.Repeating.{repeats_gives, repeats_refuses, repeats_then, repeats_if}
use Rattle.alias_certificate_laws.proofs.accepting.Tabling.{AnyNumber, repeats_report}
use Rattle.alias_certificate_laws.proofs.accepting.Calling.{paired_if}

-- ---- whether arguments are immutable

same_params : (env : Environment) (away : Elsewhere env) (f g : Option HirFunction) → Maybe AlikeFunction f g
    → writes_param env f ≡ writes_param (elsewhere env away) g
same_params env away f g nothing = refl
same_params env away f g (just (seen h k a)) = refl

same_site : (env : Environment) (away : Elsewhere env) (k : Site) → is_writing_site env k
    ≡ is_writing_site (elsewhere env away) k
same_site env away (Function f) = same_params env away (slice_get env.functions f.0) (slice_get away.functions f.0)
    (function_elsewhere env away f)
same_site env away k = refl

same_sites : (env : Environment) (away : Elsewhere env) (ks : List Site) → has_writing_site env ks
    ≡ has_writing_site (elsewhere env away) ks
same_sites env away [] = refl
same_sites env away (k ∷ ks) = ap (λ b. b || has_writing_site env ks) (same_site env away k)
    ∙ ap (λ b. is_writing_site (elsewhere env away) k || b) (same_sites env away ks)

same_verdict_of_place : (env : Environment) (away : Elsewhere env) (u : State) (p q : Place) (m : Option MissingLookup)
    → verdict_of_place env u p m ≡ verdict_of_place (elsewhere env away) u (moved p q) m
same_verdict_of_place env away u p q m =
    ap (λ b. verdict (answered_by (is_still (lookup u p.identifier).kind && not b))
    (first_missing m (missing_lookup u p.identifier None))) (same_sites env away (sites_at u p.identifier))

same_verdict_by : (o : Option FunctionSignature) (env : Environment) (away : Elsewhere env) (u : State) (p q : Place)
    (m : Option MissingLookup) → verdict_by o env u p m ≡ verdict_by o (elsewhere env away) u (moved p q) m
same_verdict_by None env away u p q m = same_verdict_of_place env away u p q m
same_verdict_by (Some s) env away u p q m = refl

same_verdict : (env : Environment) (away : Elsewhere env) (u : State) (a b : PlaceOrSpreadOrHole)
    (m : Option MissingLookup) → AlikeArgument a b → verdict_of env u a m ≡ verdict_of (elsewhere env away) u b m
same_verdict env away u a b m (plain p q) = same_verdict_by (signature_at env p.identifier) env away u p q m
same_verdict env away u a b m (spread p q) = same_verdict_of_place env away u p q m
same_verdict env away u a b m hole = refl

same_immutables : (env : Environment) (away : Elsewhere env) (u : State) (args others : List PlaceOrSpreadOrHole)
    (m : Option MissingLookup) → AlikeArguments args others → immutables env u args m
    ≡ immutables (elsewhere env away) u others m
same_immutables env away u args others m none = refl
same_immutables env away u args others m (more {a = a} {b = b} {xs = xs} {ys = ys} q qs) =
    ap (λ v. unless_answered v.answer v.missing (immutables env u xs v.missing)) (same_verdict env away u a b m q)
    ∙ ap (unless_answered (verdict_of (elsewhere env away) u b m).answer
    (verdict_of (elsewhere env away) u b m).missing)
    (same_immutables env away u xs ys (verdict_of (elsewhere env away) u b m).missing qs)

same_asked : (env : Environment) (away : Elsewhere env) (s : FunctionSignature) (args others : List PlaceOrSpreadOrHole)
    (u : State) → AlikeArguments args others → asked env s args u ≡ asked (elsewhere env away) s others u
same_asked env away s args others u a = ap
    (λ c. if s.mutable_only_if_operands_are_mutable then c else checked false None)
    (same_immutables env away u args others None a)

-- ---- visits

-- what was done with places so far is alike
record AlikeVisits (v w : Visits) : Type 0 where
  out : AlikeEffects v.out w.out
  stored : AlikePlaces v.stored w.stored
  captured : AlikePlaces v.captured w.captured
  refused : Maybe AlikePlace v.refused w.refused

one_more : (e f : AliasingEffect) (v w : Visits) → Alike e f → AlikeVisits v w
    → AlikeVisits (record v { out = v.out ++ e ∷ [] }) (record w { out = w.out ++ f ∷ [] })
one_more e f v w a b = record {
  out = paired_append b.out (more a none);
  stored = b.stored;
  captured = b.captured;
  refused = b.refused;
}

iterated_alike : (env : Environment) (p q : Place) → AlikeEffects (iterated env p) (iterated env (moved p q))
iterated_alike env p q = paired_if (is_builtin_collection_at env p.identifier) _ _ _ _ none
    (more (mutate_transitive_conditionally p q) none)

visit_alike : (env : Environment) (into to : Place) (r : ValueReason) (p q : Place) (e : Effect) (v w : Visits)
    → AlikePlace into to → AlikeVisits v w → AlikeVisits (visit env into r p e v) (visit env to r (moved p q) e w)
visit_alike env into to r p q use_of.Store v w i a =
    record {
      out = paired_append a.out (more (mutate p q None None) none);
      stored = paired_append a.stored (more (at p q) none);
      captured = a.captured;
      refused = a.refused;
    }
visit_alike env into to r p q use_of.Capture v w i a =
    record {
      out = a.out;
      stored = a.stored;
      captured = paired_append a.captured (more (at p q) none);
      refused = a.refused;
    }
visit_alike env into to r p q use_of.ConditionallyMutate v w i a =
    one_more _ _ v w (mutate_transitive_conditionally p q) a
visit_alike env into to r p q use_of.ConditionallyMutateIterator v w (at x y) a =
    record {
      out = paired_append (paired_append a.out (iterated_alike env p q)) (more (capture p q x y) none);
      stored = a.stored;
      captured = a.captured;
      refused = a.refused;
    }
visit_alike env into to r p q use_of.Freeze v w i a = one_more _ _ v w (freeze p q r) a
visit_alike env into to r p q use_of.Mutate v w i a = one_more _ _ v w (mutate_transitive p q) a
visit_alike env into to r p q use_of.Read v w (at x y) a = one_more _ _ v w (immutable_capture p q x y) a
visit_alike env into to r p q use_of.Unknown v w i a = a

refused_first_alike : (b : Bool) (p q : Place) (o r : Option Place) → Maybe AlikePlace o r
    → Maybe AlikePlace (refused_first o b p) (refused_first r b (moved p q))
refused_first_alike b p q o r (just a) = just a
refused_first_alike true p q o r nothing = just (at p q)
refused_first_alike false p q o r nothing = nothing

refused_alike : (b : Bool) (p q : Place) (v w : Visits) → AlikeVisits v w
    → AlikeVisits (with_refused b p v) (with_refused b (moved p q) w)
refused_alike b p q v w a = record {
  out = a.out;
  stored = a.stored;
  captured = a.captured;
  refused = refused_first_alike b p q v.refused w.refused a.refused;
}

argument_visited : (env : Environment) (s : FunctionSignature) (into to : Place) (r : ValueReason) (i : ℕ)
    (x y : PlaceOrSpreadOrHole) (v w : Visits) → AlikePlace into to → AlikeArgument x y → AlikeVisits v w
    → AlikeVisits (visit_argument env s into r i x v) (visit_argument env s to r i y w)
argument_visited env s into to r i x y v w a (plain p q) b =
    visit_alike env into to r p q (or_effect (slice_get s.positional_params i) (rest_use s)) v w a b
argument_visited env s into to r i x y v w a (spread p q) b =
    visit_alike env into to r p q (spread_effect (rest_use s)) _ _ a (refused_alike (is_refused (rest_use s)) p q v w b)
argument_visited env s into to r i x y v w a hole b = b

arguments_visited : (env : Environment) (s : FunctionSignature) (into to : Place) (r : ValueReason) (i : ℕ)
    (args others : List PlaceOrSpreadOrHole) (v w : Visits) → AlikePlace into to → AlikeArguments args others
    → AlikeVisits v w
    → AlikeVisits (visit_arguments env s into r i args v) (visit_arguments env s to r i others w)
arguments_visited env s into to r i args others v w a none b = b
arguments_visited env s into to r i args others v w a (more {a = x} {b = y} {xs = xs} {ys = ys} q qs) b =
    arguments_visited env s into to r (i + 1) xs ys _ _ a qs (argument_visited env s into to r i x y v w a q b)

-- ---- the list

captured_in : (p : Place) (q : Place) (x y : Place) → AlikePlace x y
    → Alike (effect.Capture p x) (effect.Capture (moved p q) y)
captured_in p q x y (at _ z) = capture p q x z

links_alike : (into to : Place) (ps qs : List Place) (c d : Place) → AlikePlace into to → AlikePlaces ps qs
    → AlikePlace c d → AlikeEffects (links_of into ps c) (links_of to qs d)
links_alike into to ps qs c d (at x y) none (at a b) = more (alias a b x y) none
links_alike into to ps qs c d i (more q rest) (at a b) =
    paired_map Alike (λ (p : Place). effect.Capture a p) (λ (p : Place). effect.Capture (moved a b) p) (captured_in a b)
    (more q rest)

all_links_alike : (into to : Place) (ps qs cs ds : List Place) → AlikePlace into to → AlikePlaces ps qs
    → AlikePlaces cs ds → AlikeEffects (all_links into ps cs) (all_links to qs ds)
all_links_alike into to ps qs cs ds i s none = none
all_links_alike into to ps qs cs ds i s (more {a = c} {b = d} {xs = xs} {ys = ys} q rest) =
    paired_append (links_alike into to ps qs c d i s q) (all_links_alike into to ps qs xs ys i s rest)

still_alike : (into to : Place) (args others : List PlaceOrSpreadOrHole) → AlikePlace into to
    → AlikeArguments args others → AlikeEffects (still_captures into args) (still_captures to others)
still_alike into to args others i none = none
still_alike into to args others (at x y) (more {xs = xs} {ys = ys} (plain p q) rest) =
    more (immutable_capture p q x y) (still_alike x _ xs ys (at x y) rest)
still_alike into to args others (at x y) (more {xs = xs} {ys = ys} (spread p q) rest) =
    more (immutable_capture p q x y) (still_alike x _ xs ys (at x y) rest)
still_alike into to args others (at x y) (more {xs = xs} {ys = ys} hole rest) = still_alike x _ xs ys (at x y) rest

begun_alike : (es fs : List AliasingEffect) → AlikeEffects es fs → AlikeVisits (visits_of es) (visits_of fs)
begun_alike es fs a = record { out = a; stored = none; captured = none; refused = nothing }

result_alike : (s t : CallSite) → AlikeSite s t → AlikePlace s.into t.into
result_alike s t (called u v) = at u.into v.into

module _ (env : Environment) (away : Elsewhere env) (g : FunctionSignature) (args others : List PlaceOrSpreadOrHole)
    (arguments : AlikeArguments args others) where
  with_still_alike : (s t : CallSite) (es fs : List AliasingEffect) → AlikeSite s t → AlikeEffects es fs
      → AlikeEffects (with_still s args es) (with_still t others fs)
  with_still_alike s t es fs (called u v) a =
      paired_append (paired_append a (more (alias u.receiver v.receiver u.into v.into) none))
      (still_alike u.into _ args others (at u.into v.into) arguments)

  receiver_alike : (s t : CallSite) (es fs : List AliasingEffect) → AlikeSite s t → AlikeEffects es fs
      → AlikeEffects (with_receiver g s es) (with_receiver g t fs)
  receiver_alike s t es fs (called u v) a =
      paired_if (is_capture g.callee_effect) _ _ _ _ a
      (paired_append a (more (alias u.receiver v.receiver u.into v.into) none))

  visited_alike : (s t : CallSite) (es fs : List AliasingEffect) → AlikeSite s t → AlikeEffects es fs
      → AlikeVisits (visited env g s args es) (visited env g t others fs)
  visited_alike s t es fs (called u v) a =
      arguments_visited env g u.into _ (return_reason g) 0 args others _ _ (at u.into v.into) arguments
      (visit_alike env u.into _ (return_reason g) u.receiver v.receiver g.callee_effect _ _ (at u.into v.into)
      (begun_alike _ _ (receiver_alike u _ es fs (called u v) a)))

  created_alike : (s t : CallSite) → AlikeSite s t
      → AlikeEffects (effect.Create s.into g.return_value_kind (return_reason g) ∷ [])
      (effect.Create t.into g.return_value_kind (return_reason g) ∷ [])
  created_alike s t (called u v) = more (create u.into v.into g.return_value_kind (return_reason g)) none

  module _ {whole : List Temporary} where
    same_impure : (s t : CallSite) (es fs : List AliasingEffect) → AlikeSite s t → AlikeEffects es fs
        → Repeats IsFull whole AlikeEffects (with_impure env g s es) (with_impure (elsewhere env away) g t fs)
    same_impure s t es fs (called u v) a =
        repeats_if AlikeEffects (g.impure && env.config.validate_no_impure_functions_in_render) _ _ _ _
        (repeats_then AnyNumber AlikeEffects (λ d. tt) _ _ _ _
        (repeats_report u.receiver.identifier (impure_report g.canonical_name u.span)
        (impure_report g.canonical_name v.span))
        (λ d e n. repeats_gives AlikeEffects _ _ (paired_append a (more (impure u.receiver v.receiver d e) none))))
        (repeats_gives AlikeEffects es fs a)

    same_ended : (o p : Option Place) (into to : Place) (v w : Visits) (m : Option MissingLookup) → Maybe AlikePlace o p
        → AlikePlace into to → AlikeVisits v w → Repeats IsFull whole AlikeLegacy (ended o into v m) (ended p to w m)
    same_ended o p into to v w m (just {a = x} q) i a =
        repeats_refuses AlikeLegacy (SpreadArgument x.span (spread_report x.span)) _
    same_ended o p into to v w m nothing i a =
        repeats_gives AlikeLegacy _ _ (listed _ _ m
        (paired_append a.out (all_links_alike into to v.stored w.stored v.captured w.captured i a.stored a.captured)))

    same_legacy_after : (s t : CallSite) (c : Checked) (es fs : List AliasingEffect) → AlikeSite s t
        → AlikeEffects es fs → Repeats IsFull whole AlikeLegacy (legacy_after env g s args c es)
        (legacy_after (elsewhere env away) g t others c fs)
    same_legacy_after s t c es fs a b =
        repeats_if AlikeLegacy c.holds _ _ _ _
        (repeats_gives AlikeLegacy _ _ (listed _ _ c.missing (with_still_alike s t es fs a b)))
        (same_ended _ _ s.into t.into _ _ c.missing ((visited_alike s t es fs a b).refused) (result_alike s t a)
        (visited_alike s t es fs a b))

    pub same_legacy_expansion : (s t : CallSite) (u : State) → AlikeSite s t
        → Repeats IsFull whole AlikeLegacy (legacy_expansion env g s args u)
        (legacy_expansion (elsewhere env away) g t others u)
    same_legacy_expansion s t u a =
        repeats_then AlikeEffects AlikeLegacy (paired_self Alike alike_self) _ _ _ _
        (same_impure s t _ _ a (created_alike s t a))
        (λ es fs b. subst (λ c. Repeats IsFull whole AlikeLegacy (legacy_after env g s args (asked env g args u) es)
        (legacy_after (elsewhere env away) g t others c fs)) (same_asked env away g args others u arguments)
        (same_legacy_after s t (asked env g args u) es fs a b))
