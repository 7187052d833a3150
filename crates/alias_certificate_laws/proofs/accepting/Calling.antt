-- The lists that calls stand for are alike.
use Rattle.std.specs.Prelude.{◌≡◌, ℕ, ◌+◌, Bool, true, false, ◌&&◌, ◌||◌, not, nat_lt, List, [], ◌∷◌, length, Option}
use Rattle.std.specs.Prelude.{Some, None, slice_get, refl, if◌then◌else◌}
use Rattle.std.proofs.Common.{suc, ap, ◌∙◌, subst}
use Rattle.std.specs.List.{list_any}
use Rattle.std.specs.Option.{is_some}
use Rattle.alias_base.specs.declared.ids.FunctionId.{FunctionId}
use Rattle.alias_base.specs.declared.ids.IdentifierId.{IdentifierId}
use Rattle.alias_hir.specs.ReportNumbers.{same_text}
use Rattle.alias_hir.specs.declared.effect.AliasingEffect.{AliasingEffect}
use Rattle.alias_hir.specs.declared.effect.AliasingEffect.TheVariants as effect
use Rattle.alias_hir.specs.declared.effect.ValueReason.{ValueReason}
use Rattle.alias_hir.specs.declared.effect.MutationReason.{MutationReason}
use Rattle.alias_hir.specs.declared.report.ReportId.{ReportId}
use Rattle.alias_hir.specs.declared.env.Environment.{Environment}
use Rattle.alias_hir.specs.declared.hir.HirFunction.{HirFunction}
use Rattle.alias_hir.specs.declared.place.Place.{Place}
use Rattle.alias_hir.specs.declared.place.PlaceOrSpreadOrHole.{PlaceOrSpreadOrHole}
use Rattle.alias_hir.specs.declared.signature.AliasingEffectConfig.{AliasingEffectConfig}
use Rattle.alias_hir.specs.declared.signature.AliasingEffectConfig.TheVariants as config
use Rattle.alias_hir.specs.declared.signature.AliasingSignatureConfig.{AliasingSignatureConfig}
use Rattle.alias_hir.specs.declared.signature.ApplyArgConfig.{ApplyArgConfig}
use Rattle.alias_hir.specs.declared.signature.ApplyArgConfig.TheVariants as named
use Rattle.alias_tables.specs.Tables.{intern_report}
use Rattle.alias_tables.specs.declared.faults.Refusal.TheVariants.{SpreadArgument}
use Rattle.alias_tables.specs.declared.temp_key.TempKey.TheVariants.{Named, Rest}
use Rattle.alias_tables.specs.declared.temporaries.Temporary.{Temporary}
use Rattle.alias_apply.specs.Reports.{impure_part_report, spread_report}
use Rattle.alias_calls.specs.declared.call.CallSite.{CallSite}
use Rattle.alias_calls.specs.declared.call.SummaryNames.{SummaryNames}
use Rattle.alias_calls.specs.declared.copies.PairKind.{PairKind}
use Rattle.alias_calls.specs.declared.copies.PairKind.TheVariants as pair
use Rattle.alias_calls.specs.declared.copies.PlaceKind.{PlaceKind}
use Rattle.alias_calls.specs.declared.copies.PlaceKind.TheVariants as kind
use Rattle.alias_calls.specs.Arguments.{is_rest, with_further, with_plain, with_argument, substituted_arguments}
use Rattle.alias_calls.specs.Arguments.{is_further, has_further, is_bad_spread_of, is_bad_spread, first_bad, first_of}
use Rattle.alias_calls.specs.Configs.{name_index, or_places, substituted_first, substituted, argument_at}
use Rattle.alias_calls.specs.Configs.{inner_argument, inner_arguments, with_apply, impure_step, with_impures}
use Rattle.alias_calls.specs.Configs.{with_config_effect, with_config_effects, with_temporary, config_call}
use Rattle.alias_calls.specs.Configs.{config_expansion}
use Rattle.alias_calls.specs.Copies.{pair_of, effect_at, pairs, with_pairs, with_each, with_freezes_unless}
use Rattle.alias_calls.specs.Copies.{with_freezes}
use Rattle.alias_calls.specs.Summaries.{last_spread, rest_or_temporary, names_with, summary_names, same_id}
use Rattle.alias_calls.specs.Summaries.{substituted_context, returned, substituted_for, with_copies, is_spread}
use Rattle.alias_calls.specs.Summaries.{needs_rest, names_expansion, summary_call, summary_expansion}
use Rattle.alias_certificate_laws.specs.accepting.Alike.{Paired, none, more, Maybe, nothing, just, moved, AlikePlace}
use Rattle.alias_certificate_laws.specs.accepting.Alike.{at, AlikePlaces, AlikeArgument, plain, spread, hole}
use Rattle.alias_certificate_laws.specs.accepting.Alike.{AlikeArguments, Alike, apply, create_from, immutable_capture}
use Rattle.alias_certificate_laws.specs.accepting.Alike.{assign, alias, capture, maybe_alias, create, freeze, impure}
use Rattle.alias_certificate_laws.specs.accepting.Alike.{mutate_frozen, mutate_global, render, mutate}
use Rattle.alias_certificate_laws.specs.accepting.Alike.{mutate_conditionally, mutate_transitive}
use Rattle.alias_certificate_laws.specs.accepting.Alike.{mutate_transitive_conditionally, AlikeEffects, AlikeList}
use Rattle.alias_certificate_laws.specs.accepting.Alike.{AlikeSite, called, IsFull, Repeats, Elsewhere, elsewhere}
use Rattle.alias_certificate_laws.specs.accepting.Alike.{create_function}
use Rattle.alias_certificate_laws.proofs.accepting.Likeness.{paired_get, paired_self, paired_append, paired_map}
use Rattle.alias_certificate_laws.proofs.accepting.Likeness.{place_self, alike_self}
use Rattle.alias_certificate_laws.proofs.accepting.Repeating.{repeats_gives, repeats_refuses, repeats_then}
use Rattle.alias_certificate_laws.proofs.accepting.Repeating.{repeats_if_same, repeats_each, repeats_collect}
use Rattle.alias_certificate_laws.proofs.accepting.Tabling.{AnyNumber, repeats_report, repeats_temporary}

-- ---- lists

pub paired_if : {A : Type 0} {Q : A → A → Type 0} (b : Bool) (xs ys us vs : List A) → Paired Q xs ys → Paired Q us vs
    → Paired Q (if b then xs else us) (if b then ys else vs)
paired_if true xs ys us vs p q = p
paired_if false xs ys us vs p q = q

pub same_length : {A B : Type 0} {Q : A → B → Type 0} (xs : List A) (ys : List B) → Paired Q xs ys → length xs
    ≡ length ys
same_length xs ys none = refl
same_length xs ys (more {xs = us} {ys = vs} q qs) = ap suc (same_length us vs qs)

-- ---- what names stand for

further_alike : {K : Type 0} (same : K → K → Bool) (k : K) (rest : Option K) (p q : Place) (xs ys : List Place)
    → AlikePlaces xs ys → AlikePlaces (with_further same k rest p xs) (with_further same k rest (moved p q) ys)
further_alike same k rest p q xs ys a = paired_if (is_rest same k rest) _ _ _ _ (paired_append a (more (at p q) none)) a

plain_alike : {K : Type 0} (same : K → K → Bool) (k : K) (param rest : Option K) (p q : Place) (xs ys : List Place)
    → AlikePlaces xs ys → AlikePlaces (with_plain same k param rest p xs) (with_plain same k param rest (moved p q) ys)
plain_alike same k None rest p q xs ys a = further_alike same k rest p q xs ys a
plain_alike same k (Some x) rest p q xs ys a = paired_if (same x k) _ _ _ _ (more (at p q) none) a

argument_alike : {K : Type 0} (same : K → K → Bool) (k : K) (param rest : Option K) (x y : PlaceOrSpreadOrHole)
    (xs ys : List Place) → AlikeArgument x y → AlikePlaces xs ys
    → AlikePlaces (with_argument same k param rest x xs) (with_argument same k param rest y ys)
argument_alike same k param rest x y xs ys (plain p q) a = plain_alike same k param rest p q xs ys a
argument_alike same k param rest x y xs ys (spread p q) a = further_alike same k rest p q xs ys a
argument_alike same k param rest x y xs ys hole a = a

substituted_arguments_alike : {K : Type 0} (same : K → K → Bool) (k : K) (params : List K) (rest : Option K)
    (args others : List PlaceOrSpreadOrHole) (i : ℕ) (xs ys : List Place) → AlikeArguments args others
    → AlikePlaces xs ys
    → AlikePlaces (substituted_arguments same k params rest args i xs)
    (substituted_arguments same k params rest others i ys)
substituted_arguments_alike same k params rest args others i xs ys none a = a
substituted_arguments_alike same k params rest args others i xs ys (more {a = x} {b = y} {xs = us} {ys = vs} q qs) a =
    substituted_arguments_alike same k params rest us vs (i + 1) _ _ qs
    (argument_alike same k (slice_get params i) rest x y xs ys q a)

same_further : {K : Type 0} (o : Option K) (x y : PlaceOrSpreadOrHole) → AlikeArgument x y → is_further o x
    ≡ is_further o y
same_further None x y (plain p q) = refl
same_further (Some k) x y (plain p q) = refl
same_further o x y (spread p q) = refl
same_further o x y hole = refl

pub same_has_further : {K : Type 0} (params : List K) (args others : List PlaceOrSpreadOrHole) (i : ℕ)
    → AlikeArguments args others → has_further params args i ≡ has_further params others i
same_has_further params args others i none = refl
same_has_further params args others i (more {a = x} {b = y} {xs = us} {ys = vs} q qs) =
    ap (λ b. if b then true else has_further params us (i + 1)) (same_further (slice_get params i) x y q)
    ∙ ap (λ c. if is_further (slice_get params i) y then true else c) (same_has_further params us vs (i + 1) qs)

same_is_spread : (a b : PlaceOrSpreadOrHole) → AlikeArgument a b → is_spread a ≡ is_spread b
same_is_spread a b (plain p q) = refl
same_is_spread a b (spread p q) = refl
same_is_spread a b hole = refl

same_spreads : (args others : List PlaceOrSpreadOrHole) → AlikeArguments args others → list_any is_spread args
    ≡ list_any is_spread others
same_spreads args others none = refl
same_spreads args others (more {a = a} {b = b} {xs = us} {ys = vs} q qs) =
    ap (λ c. c || list_any is_spread us) (same_is_spread a b q) ∙ ap (λ c. is_spread b || c) (same_spreads us vs qs)

same_needs_rest : (params : List IdentifierId) (args others : List PlaceOrSpreadOrHole) → AlikeArguments args others
    → needs_rest params args ≡ needs_rest params others
same_needs_rest params args others a =
    ap (λ n. nat_lt (length params) n || list_any is_spread args) (same_length args others a)
    ∙ ap (λ c. nat_lt (length params) (length others) || c) (same_spreads args others a)

same_bad_of : (env : Environment) (x : IdentifierId) (a b : PlaceOrSpreadOrHole) → AlikeArgument a b
    → is_bad_spread_of env x a ≡ is_bad_spread_of env x b
same_bad_of env x a b (plain p q) = refl
same_bad_of env x a b (spread p q) = refl
same_bad_of env x a b hole = refl

same_bad : (env : Environment) (args others : List PlaceOrSpreadOrHole) (x : IdentifierId) → AlikeArguments args others
    → is_bad_spread env args x ≡ is_bad_spread env others x
same_bad env args others x none = refl
same_bad env args others x (more {a = a} {b = b} {xs = us} {ys = vs} q qs) =
    ap (λ c. c || is_bad_spread env us x) (same_bad_of env x a b q)
    ∙ ap (λ c. is_bad_spread_of env x b || c) (same_bad env us vs x qs)

bad_if : (b : Bool) (p q : Place) (o r : Option Place) → Maybe AlikePlace o r
    → Maybe AlikePlace (if b then Some p else o) (if b then Some (moved p q) else r)
bad_if true p q o r m = just (at p q)
bad_if false p q o r m = m

bad_alike : (env : Environment) (args others : List PlaceOrSpreadOrHole) (ps qs : List Place)
    → AlikeArguments args others → AlikePlaces ps qs
    → Maybe AlikePlace (first_bad env args ps) (first_bad env others qs)
bad_alike env args others ps qs a none = nothing
bad_alike env args others ps qs a (more {xs = us} {ys = vs} (at p q) rest) =
    subst (λ b. Maybe AlikePlace (first_bad env args (p ∷ us))
    (if b then Some (moved p q) else first_bad env others vs)) (same_bad env args others p.identifier a)
    (bad_if (is_bad_spread env args p.identifier) p q (first_bad env args us) (first_bad env others vs)
    (bad_alike env args others us vs a rest))

first_alike : (ps qs : List Place) → AlikePlaces ps qs → Maybe AlikePlace (first_of ps) (first_of qs)
first_alike ps qs none = nothing
first_alike ps qs (more q rest) = just q

-- ---- copies

pair_alike : (k : PairKind) (a b x y : Place) → Alike (pair_of k a x) (pair_of k (moved a b) (moved x y))
pair_alike pair.CreateFrom a b x y = create_from a b x y
pair_alike pair.ImmutableCapture a b x y = immutable_capture a b x y
pair_alike pair.Assign a b x y = assign a b x y
pair_alike pair.Alias a b x y = alias a b x y
pair_alike pair.Capture a b x y = capture a b x y
pair_alike pair.MaybeAlias a b x y = maybe_alias a b x y

at_alike : (k : PlaceKind) (p q : Place) → Alike (effect_at k p) (effect_at k (moved p q))
at_alike (kind.Create k r) p q = create p q k r
at_alike (kind.Freeze r) p q = freeze p q r
at_alike (kind.Impure d) p q = impure p q d d
at_alike (kind.MutateFrozen d) p q = mutate_frozen p q d d
at_alike (kind.MutateGlobal d) p q = mutate_global p q d d
at_alike kind.Render p q = render p q
at_alike (kind.Mutate r) p q = mutate p q r r
at_alike kind.MutateConditionally p q = mutate_conditionally p q
at_alike kind.MutateTransitive p q = mutate_transitive p q
at_alike kind.MutateTransitiveConditionally p q = mutate_transitive_conditionally p q

pair_placed : (k : PairKind) (a b x y : Place) → AlikePlace x y → Alike (pair_of k a x) (pair_of k (moved a b) y)
pair_placed k a b x y (at _ z) = pair_alike k a b x z

pub at_placed : (k : PlaceKind) (p q : Place) → AlikePlace p q → Alike (effect_at k p) (effect_at k q)
at_placed k p q (at _ z) = at_alike k p z

pairs_alike : (k : PairKind) (ps qs xs ys : List Place) → AlikePlaces ps qs → AlikePlaces xs ys
    → AlikeEffects (pairs k ps xs) (pairs k qs ys)
pairs_alike k ps qs xs ys none b = none
pairs_alike k ps qs xs ys (more {xs = us} {ys = vs} (at p q) rest) b =
    paired_append (paired_map Alike (pair_of k p) (pair_of k (moved p q)) (pair_placed k p q) b)
    (pairs_alike k us vs xs ys rest b)

module _ {whole : List Temporary} where
  same_pairs : (k : PairKind) (ps qs xs ys : List Place) (out others_ : List AliasingEffect) → AlikePlaces ps qs
      → AlikePlaces xs ys → AlikeEffects out others_
      → Repeats IsFull whole AlikeList (with_pairs k ps xs out) (with_pairs k qs ys others_)
  same_pairs k ps qs xs ys out others_ a b c =
      repeats_gives AlikeList _ _ (just (paired_append c (pairs_alike k ps qs xs ys a b)))

  same_each_place : (k : PlaceKind) (ps qs : List Place) (out others_ : List AliasingEffect) → AlikePlaces ps qs
      → AlikeEffects out others_ → Repeats IsFull whole AlikeList (with_each k ps out) (with_each k qs others_)
  same_each_place k ps qs out others_ a c =
      repeats_gives AlikeList _ _ (just (paired_append c
      (paired_map Alike (effect_at k) (effect_at k) (at_placed k) a)))

  same_freezes_unless : (o p : Option Place) (r : ValueReason) (ps qs : List Place) (out others_ : List AliasingEffect)
      → Maybe AlikePlace o p → AlikePlaces ps qs → AlikeEffects out others_
      → Repeats IsFull whole AlikeList (with_freezes_unless o r ps out) (with_freezes_unless p r qs others_)
  same_freezes_unless o p r ps qs out others_ (just {a = x} b) a c =
      repeats_refuses AlikeList (SpreadArgument x.span (spread_report x.span)) _
  same_freezes_unless o p r ps qs out others_ nothing a c = same_each_place (kind.Freeze r) ps qs out others_ a c

  same_freezes : (env : Environment) (away : Elsewhere env) (args others : List PlaceOrSpreadOrHole) (r : ValueReason)
      (ps qs : List Place) (out others_ : List AliasingEffect) → AlikeArguments args others → AlikePlaces ps qs
      → AlikeEffects out others_
      → Repeats IsFull whole AlikeList (with_freezes env args r ps out)
      (with_freezes (elsewhere env away) others r qs others_)
  same_freezes env away args others r ps qs out others_ b a c =
      same_freezes_unless (first_bad env args ps) (first_bad env others qs) r ps qs out others_
      (bad_alike env args others ps qs b a) a c

  same_impure_step : (p q : Place) (es fs : List AliasingEffect) → AlikePlace p q → AlikeEffects es fs
      → Repeats IsFull whole AlikeEffects (impure_step p es) (impure_step q fs)
  unfolding impure_step
  same_impure_step p q es fs (at _ z) a =
      repeats_then AnyNumber AlikeEffects (λ d. tt) (intern_report p.identifier impure_part_report)
      (intern_report p.identifier impure_part_report) _ _
      (repeats_report p.identifier impure_part_report impure_part_report)
      (λ d e n. repeats_gives AlikeEffects _ _ (paired_append a (more (impure p z d e) none)))

  same_impures : (ps qs : List Place) (es fs : List AliasingEffect) → AlikePlaces ps qs → AlikeEffects es fs
      → Repeats IsFull whole AlikeList (with_impures ps es) (with_impures qs fs)
  same_impures ps qs es fs a b =
      repeats_then AlikeEffects AlikeList (paired_self Alike alike_self) _ _ _ _
      (repeats_each AlikePlace AlikeEffects (paired_self Alike alike_self) impure_step impure_step
      (λ p q d x y e. same_impure_step p q x y d e) ps qs a es fs b)
      (λ x y d. repeats_gives AlikeList _ _ (just d))

-- ---- aliasing parts

first_substituted_alike : (c : AliasingSignatureConfig) (s t : CallSite) (q : List ℕ) → AlikeSite s t
    → AlikePlaces (substituted_first c s q) (substituted_first c t q)
first_substituted_alike c s t q (called u v) =
    paired_if (same_text c.returns q) _ _ _ _ (more (at u.into v.into) none)
    (paired_if (same_text c.receiver q) _ _ _ _ (more (at u.receiver v.receiver) none) none)

or_places_alike : (o p : Option Place) (xs ys : List Place) → Maybe AlikePlace o p → AlikePlaces xs ys
    → AlikePlaces (or_places o xs) (or_places p ys)
or_places_alike o p xs ys nothing a = a
or_places_alike o p xs ys (just q) a = more q none

argument_at_alike : (o p : Option Place) → Maybe AlikePlace o p → AlikeArguments (argument_at o) (argument_at p)
argument_at_alike o p nothing = none
argument_at_alike o p (just (at x y)) = more (plain x y) none

module _ (c : AliasingSignatureConfig) (s t : CallSite) (args others : List PlaceOrSpreadOrHole) (ts us : List Place)
    (site : AlikeSite s t) (arguments : AlikeArguments args others) (temporaries : AlikePlaces ts us) where
  substituted_alike : (q : List ℕ) → AlikePlaces (substituted (config_call c s args ts) q)
      (substituted (config_call c t others us) q)
  substituted_alike q =
      or_places_alike _ _ _ _ (paired_get (name_index q c.temporaries) ts us temporaries)
      (substituted_arguments_alike same_text q c.params c.rest args others 0 _ _ arguments
      (first_substituted_alike c s t q site))

  first_at : (q : List ℕ) → Maybe AlikePlace (first_of (substituted (config_call c s args ts) q))
      (first_of (substituted (config_call c t others us) q))
  first_at q = first_alike _ _ (substituted_alike q)

  inner_alike : (a : ApplyArgConfig) → AlikeArguments (inner_argument (config_call c s args ts) a)
      (inner_argument (config_call c t others us) a)
  inner_alike named.Hole = more hole none
  inner_alike (named.Place q) = argument_at_alike _ _ (first_at q)

  all_inner_alike : (xs : List ApplyArgConfig)
      → AlikeArguments (inner_arguments (config_call c s args ts) xs) (inner_arguments (config_call c t others us) xs)
  all_inner_alike [] = none
  all_inner_alike (x ∷ xs) = paired_append (inner_alike x) (all_inner_alike xs)

  module _ {whole : List Temporary} where
    same_apply : (o p m n i j : Option Place) (mutates : Bool) (inner : List ApplyArgConfig)
        (es fs : List AliasingEffect) → Maybe AlikePlace o p → Maybe AlikePlace m n → Maybe AlikePlace i j
        → AlikeEffects es fs
        → Repeats IsFull whole AlikeList (with_apply (config_call c s args ts) o m i mutates inner es)
        (with_apply (config_call c t others us) p n j mutates inner fs)
    same_apply o p m n i j mutates inner es fs (just (at r q)) (just (at f g)) (just (at x y)) a =
        repeats_gives AlikeList _ _ (just (paired_append a
        (more (apply r q f g x y mutates _ _ None s.span t.span (all_inner_alike inner)) none)))
    same_apply o p m n i j mutates inner es fs (just q) (just g) nothing a = repeats_gives AlikeList None None nothing
    same_apply o p m n i j mutates inner es fs (just q) nothing k a = repeats_gives AlikeList None None nothing
    same_apply o p m n i j mutates inner es fs nothing g k a = repeats_gives AlikeList None None nothing

    same_config_effect : (env : Environment) (away : Elsewhere env) (e : AliasingEffectConfig)
        (es fs : List AliasingEffect) → AlikeEffects es fs
        → Repeats IsFull whole AlikeList (with_config_effect env (config_call c s args ts) e es)
        (with_config_effect (elsewhere env away) (config_call c t others us) e fs)
    same_config_effect env away (config.Freeze v r) es fs b =
        same_freezes env away args others r _ _ es fs arguments (substituted_alike v) b
    same_config_effect env away (config.Create x k r) es fs b =
        same_each_place (kind.Create k r) _ _ es fs (substituted_alike x) b
    same_config_effect env away (config.CreateFrom a x) es fs b =
        same_pairs pair.CreateFrom _ _ _ _ es fs (substituted_alike a) (substituted_alike x) b
    same_config_effect env away (config.Assign a x) es fs b =
        same_pairs pair.Assign _ _ _ _ es fs (substituted_alike a) (substituted_alike x) b
    same_config_effect env away (config.Alias a x) es fs b =
        same_pairs pair.Alias _ _ _ _ es fs (substituted_alike a) (substituted_alike x) b
    same_config_effect env away (config.Capture a x) es fs b =
        same_pairs pair.Capture _ _ _ _ es fs (substituted_alike a) (substituted_alike x) b
    same_config_effect env away (config.ImmutableCapture a x) es fs b =
        same_pairs pair.ImmutableCapture _ _ _ _ es fs (substituted_alike a) (substituted_alike x) b
    same_config_effect env away (config.Impure p) es fs b = same_impures _ _ es fs (substituted_alike p) b
    same_config_effect env away (config.Mutate v) es fs b =
        same_each_place (kind.Mutate None) _ _ es fs (substituted_alike v) b
    same_config_effect env away (config.MutateTransitiveConditionally v) es fs b =
        same_each_place kind.MutateTransitiveConditionally _ _ es fs (substituted_alike v) b
    same_config_effect env away (config.Apply r f mutates inner x) es fs b =
        same_apply _ _ _ _ _ _ mutates inner es fs (first_at r) (first_at f) (first_at x) b

    same_config_effects : (env : Environment) (away : Elsewhere env) (xs : List AliasingEffectConfig)
        (es fs : List AliasingEffect) → AlikeEffects es fs
        → Repeats IsFull whole AlikeList (with_config_effects env (config_call c s args ts) xs es)
        (with_config_effects (elsewhere env away) (config_call c t others us) xs fs)
    same_config_effects env away xs es fs b =
        repeats_collect (λ x y. x ≡ y) AlikeEffects (paired_self Alike alike_self)
        (with_config_effect env (config_call c s args ts))
        (with_config_effect (elsewhere env away) (config_call c t others us))
        (λ x y e u v d. subst (λ z. Repeats IsFull whole AlikeList
        (with_config_effect env (config_call c s args ts) x u)
        (with_config_effect (elsewhere env away) (config_call c t others us) z v)) e
        (same_config_effect env away x u v d))
        xs xs (paired_self (λ x y. x ≡ y) (λ x. refl) xs) es fs b

module _ {whole : List Temporary} where
  same_with_temporary : (env : Environment) (away : Elsewhere env) (s t : CallSite) (name : List ℕ) (ps qs : List Place)
      → AlikeSite s t → AlikePlaces ps qs → Repeats IsFull whole AlikePlaces (with_temporary env s name ps)
      (with_temporary (elsewhere env away) t name qs)
  same_with_temporary env away s t name ps qs (called u v) a =
      repeats_then AlikePlace AlikePlaces place_self _ _ _ _
      (repeats_temporary env away (Named u.into.identifier (record { text = name })) u.receiver.span
      v.receiver.span)
      (λ p q b. repeats_gives AlikePlaces _ _ (paired_append a (more b none)))

  pub same_config_expansion : (env : Environment) (away : Elsewhere env) (c : AliasingSignatureConfig) (s t : CallSite)
      (args others : List PlaceOrSpreadOrHole) → AlikeSite s t → AlikeArguments args others
      → Repeats IsFull whole AlikeList (config_expansion env c s args)
      (config_expansion (elsewhere env away) c t others)
  same_config_expansion env away c s t args others a b =
      repeats_if_same AlikeList _ _ _ _ _ _ (ap (λ f. f && not (is_some c.rest))
      (same_has_further c.params args others 0 b)) (repeats_gives AlikeList None None nothing)
      (repeats_then AlikePlaces AlikeList (paired_self AlikePlace place_self) _ _ _ _
      (repeats_each (λ x y. x ≡ y) AlikePlaces (paired_self AlikePlace place_self) (with_temporary env s)
      (with_temporary (elsewhere env away) t)
      (λ x y e u v d. subst (λ z. Repeats IsFull whole AlikePlaces (with_temporary env s x u)
      (with_temporary (elsewhere env away) t z v)) e (same_with_temporary env away s t x u v a d))
      c.temporaries c.temporaries (paired_self (λ x y. x ≡ y) (λ x. refl) c.temporaries) [] [] none)
      (λ ts us d. same_config_effects c s t args others ts us a b d env away c.effects [] [] none))

-- ---- summaries

impure_placed : (d e : ReportId) (p q : Place) → AlikePlace p q → Alike (effect.Impure p d) (effect.Impure q e)
impure_placed d e p q (at _ z) = impure p z d e

frozen_placed : (d e : ReportId) (p q : Place) → AlikePlace p q
    → Alike (effect.MutateFrozen p d) (effect.MutateFrozen q e)
frozen_placed d e p q (at _ z) = mutate_frozen p z d e

global_placed : (d e : ReportId) (p q : Place) → AlikePlace p q
    → Alike (effect.MutateGlobal p d) (effect.MutateGlobal q e)
global_placed d e p q (at _ z) = mutate_global p z d e

mutate_placed : (r s : Option MutationReason) (p q : Place) → AlikePlace p q
    → Alike (effect.Mutate p r) (effect.Mutate q s)
mutate_placed r s p q (at _ z) = mutate p z r s

returned_alike : (names : SummaryNames) (p q : Place) (x : IdentifierId) → AlikePlace p q
    → AlikePlaces (returned names p x) (returned names q x)
returned_alike names p q x a = paired_if (same_id names.returns x) _ _ _ _ (more a none) none

context_alike : (q : IdentifierId) (context xs ys : List Place) → AlikePlaces xs ys
    → AlikePlaces (substituted_context q context xs) (substituted_context q context ys)
context_alike q [] xs ys a = a
context_alike q (p ∷ ps) xs ys a = context_alike q ps _ _
    (paired_if (same_id p.identifier q) _ _ _ _ (more (place_self p) none) a)

module _ (names : SummaryNames) (into to : Place) (args others : List PlaceOrSpreadOrHole) (context : List Place)
    (result : AlikePlace into to) (arguments : AlikeArguments args others) where
  substituted_for_alike : (q : IdentifierId)
      → AlikePlaces (substituted_for (summary_call names into args context) q)
      (substituted_for (summary_call names to others context) q)
  substituted_for_alike q = context_alike q context _ _
      (substituted_arguments_alike same_id q names.params names.rest args others 0 _ _ arguments
      (returned_alike names into to q result))

  module _ {whole : List Temporary} where
    same_kinds : (k l : PlaceKind) → ((p q : Place) → AlikePlace p q → Alike (effect_at k p) (effect_at l q))
        → (x : IdentifierId) (es fs : List AliasingEffect) → AlikeEffects es fs
        → Repeats IsFull whole AlikeList (with_each k (substituted_for (summary_call names into args context) x) es)
        (with_each l (substituted_for (summary_call names to others context) x) fs)
    same_kinds k l h x es fs b = repeats_gives AlikeList _ _
        (just (paired_append b (paired_map Alike (effect_at k) (effect_at l) h (substituted_for_alike x))))

    same_linked : (k : PairKind) (a x : IdentifierId) (es fs : List AliasingEffect) → AlikeEffects es fs
        → Repeats IsFull whole AlikeList (with_pairs k (substituted_for (summary_call names into args context) a)
        (substituted_for (summary_call names into args context) x) es)
        (with_pairs k (substituted_for (summary_call names to others context) a)
        (substituted_for (summary_call names to others context) x) fs)
    same_linked k a x es fs b = same_pairs k _ _ _ _ es fs (substituted_for_alike a) (substituted_for_alike x) b

    -- what is copied of effects that are alike
    same_copies : (env : Environment) (away : Elsewhere env) (e f : AliasingEffect) (es fs : List AliasingEffect)
        → Alike e f → AlikeEffects es fs
        → Repeats IsFull whole AlikeList (with_copies env (summary_call names into args context) e es)
        (with_copies (elsewhere env away) (summary_call names to others context) f fs)
    same_copies env away e f es fs (apply r q g h x y mutates args others signature span other a) b =
        repeats_gives AlikeList _ _ (just b)
    same_copies env away e f es fs (create_from a d x y) b =
        same_linked pair.CreateFrom a.identifier x.identifier es fs b
    same_copies env away e f es fs (immutable_capture a d x y) b =
        same_linked pair.ImmutableCapture a.identifier x.identifier es fs b
    same_copies env away e f es fs (assign a d x y) b = same_linked pair.Assign a.identifier x.identifier es fs b
    same_copies env away e f es fs (alias a d x y) b = same_linked pair.Alias a.identifier x.identifier es fs b
    same_copies env away e f es fs (capture a d x y) b = same_linked pair.Capture a.identifier x.identifier es fs b
    same_copies env away e f es fs (maybe_alias a d x y) b =
        same_linked pair.MaybeAlias a.identifier x.identifier es fs b
    same_copies env away e f es fs (create x y k r) b =
        same_kinds (kind.Create k r) (kind.Create k r) (at_placed (kind.Create k r)) x.identifier es fs b
    same_copies env away e f es fs (freeze v w r) b =
        same_freezes env away args others r _ _ es fs arguments (substituted_for_alike v.identifier) b
    same_copies env away e f es fs (impure p q d g) b =
        same_kinds (kind.Impure d) (kind.Impure g) (λ x y a. impure_placed d g x y a) p.identifier es fs b
    same_copies env away e f es fs (mutate_frozen p q d g) b =
        same_kinds (kind.MutateFrozen d) (kind.MutateFrozen g) (λ x y a. frozen_placed d g x y a) p.identifier es fs b
    same_copies env away e f es fs (mutate_global p q d g) b =
        same_kinds (kind.MutateGlobal d) (kind.MutateGlobal g) (λ x y a. global_placed d g x y a) p.identifier es fs b
    same_copies env away e f es fs (render p q) b =
        same_kinds kind.Render kind.Render (at_placed kind.Render) p.identifier es fs b
    same_copies env away e f es fs (mutate v w r t) b =
        same_kinds (kind.Mutate r) (kind.Mutate t) (λ x y a. mutate_placed r t x y a) v.identifier es fs b
    same_copies env away e f es fs (mutate_conditionally v w) b =
        same_kinds kind.MutateConditionally kind.MutateConditionally (at_placed kind.MutateConditionally) v.identifier
        es fs b
    same_copies env away e f es fs (mutate_transitive v w) b =
        same_kinds kind.MutateTransitive kind.MutateTransitive (at_placed kind.MutateTransitive) v.identifier es fs b
    same_copies env away e f es fs (mutate_transitive_conditionally v w) b =
        same_kinds kind.MutateTransitiveConditionally kind.MutateTransitiveConditionally
        (at_placed kind.MutateTransitiveConditionally) v.identifier es fs b
    same_copies env away e f es fs (create_function x y g ps qs a) b = repeats_gives AlikeList None None nothing

    same_names_expansion : (env : Environment) (away : Elsewhere env) (summary claimed : List AliasingEffect)
        → AlikeEffects summary claimed
        → Repeats IsFull whole AlikeList (names_expansion env (summary_call names into args context) summary)
        (names_expansion (elsewhere env away) (summary_call names to others context) claimed)
    same_names_expansion env away summary claimed a =
        repeats_if_same AlikeList _ _ _ _ _ _
        (ap (λ n. nat_lt n (length names.params)) (same_length args others arguments))
        (repeats_gives AlikeList None None nothing)
        (repeats_if_same AlikeList _ _ _ _ _ _
        (ap (λ f. f && not (is_some names.rest)) (same_needs_rest names.params args others arguments))
        (repeats_gives AlikeList None None nothing)
        (repeats_collect Alike AlikeEffects (paired_self Alike alike_self)
        (with_copies env (summary_call names into args context))
        (with_copies (elsewhere env away) (summary_call names to others context))
        (λ x y e u v d. same_copies env away x y u v e d) summary claimed a [] [] none))

abbrev SameId : IdentifierId → IdentifierId → Type 0
SameId x y = x ≡ y

abbrev SameNames : SummaryNames → SummaryNames → Type 0
SameNames m n = m ≡ n

placed_same : (p q : Place) → AlikePlace p q → SameId p.identifier q.identifier
placed_same p q (at _ z) = refl

-- the other function, as it is seen
abbrev pub seen_as : HirFunction → HirFunction → HirFunction
seen_as f g = record g { params = f.params; context = f.context; returns = f.returns }

module _ {whole : List Temporary} where
  same_rest : (o : Option IdentifierId) (env : Environment) (away : Elsewhere env) (f : FunctionId)
      (function there : HirFunction) → Repeats IsFull whole SameId (rest_or_temporary o env f function)
      (rest_or_temporary o (elsewhere env away) f (seen_as function there))
  same_rest (Some rest) env away f function there = repeats_gives SameId rest rest refl
  same_rest None env away f function there =
      repeats_then AlikePlace SameId place_self _ _ _ _ (repeats_temporary env away (Rest f) function.span there.span)
      (λ p q a. repeats_gives SameId _ _ (placed_same p q a))

  same_names : (env : Environment) (away : Elsewhere env) (f : FunctionId) (function there : HirFunction)
      → Repeats IsFull whole SameNames (summary_names env f function)
      (summary_names (elsewhere env away) f (seen_as function there))
  same_names env away f function there =
      repeats_then SameId SameNames (λ x. refl) _ _ _ _
      (same_rest (last_spread function.params None) env away f function there)
      (λ x y e. repeats_gives SameNames _ _ (ap (names_with function) e))

  pub same_summary_expansion : (env : Environment) (away : Elsewhere env) (f : FunctionId)
      (function there : HirFunction) (summary claimed : List AliasingEffect) (into to : Place)
      (args others : List PlaceOrSpreadOrHole) → AlikeEffects summary claimed → AlikePlace into to
      → AlikeArguments args others
      → Repeats IsFull whole AlikeList (summary_expansion env f function summary into args)
      (summary_expansion (elsewhere env away) f (seen_as function there) claimed to others)
  same_summary_expansion env away f function there summary claimed into to args others k a b =
      repeats_then SameNames AlikeList (λ n. refl) _ _ _ _ (same_names env away f function there)
      (λ m n e. subst (λ z. Repeats IsFull whole AlikeList
      (names_expansion env (summary_call m into args function.context) summary)
      (names_expansion (elsewhere env away) (summary_call z to others function.context) claimed)) e
      (same_names_expansion m into to args others function.context a b env away summary claimed k))
