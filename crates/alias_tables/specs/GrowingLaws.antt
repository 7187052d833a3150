-- Tables grow at their ends, and what was found or added in them is found again.
use Rattle.std.specs.Prelude.{◌≡◌, Bool, true, false, List, [], ◌∷◌, ◌++◌, length, Option, Some, None, Ok, Err, refl}
use Rattle.std.specs.Prelude.{if◌then◌else◌}
use Rattle.std.proofs.Common.{ap, sym, ◌∙◌, subst, append_assoc, append-nil}
use Rattle.alias_base.specs.Indexes.{first_new, first_still}
use Rattle.alias_hir.specs.declared.error.Counter.TheVariants.{Identifiers}
use Rattle.alias_hir.specs.declared.place.Place.{Place}
use Rattle.alias_hir.specs.declared.place.Span.{Span}
use Rattle.alias_hir.specs.declared.effect.AliasingEffect.{AliasingEffect}
use Rattle.alias_hir.specs.declared.effect.AliasingEffect.TheVariants as effect
use Rattle.alias_hir.specs.declared.env.Environment.{Environment}
use Rattle.alias_tables.specs.declared.key.EffectKey.{EffectKey}
use Rattle.alias_tables.specs.Keys.{key_of, with_error_of}
use Rattle.alias_tables.specs.declared.faults.Refusal.{Refusal}
use Rattle.alias_tables.specs.declared.faults.Refusal.TheVariants.{TooMany}
use Rattle.alias_tables.specs.declared.temp_key.TempKey.{TempKey}
use Rattle.alias_tables.specs.declared.temporaries.Temporary.{Temporary}
use Rattle.alias_tables.specs.Steps.{gives, refuses, ◌>>=◌, each, if_some, collect}
use Rattle.alias_tables.specs.ReplayLaws.{Replays, tables_are, first_is, not_given, replays_gives as any_gives}
use Rattle.alias_tables.specs.ReplayLaws.{replays_refuses as any_refuses, replays_then as any_then}
use Rattle.alias_tables.specs.ReplayLaws.{replays_if as any_if, replays_each as any_each}
use Rattle.alias_tables.specs.InternedEffects.{same_key, keys_are_told_apart, first_like}
use Rattle.alias_tables.specs.Temporaries.{same_temp, temps_are_told_apart, key_in, temp_like, temporary_of}
use Rattle.alias_tables.specs.Tables.{TableLists, Step, intern, intern_by, intern_after, has_room, new_place, temporary}
use Rattle.alias_tables.specs.Tables.{temporary_after}

-- the second list is the first, with more behind its end
pub record Grows {A : Type 0} (xs ys : List A) : Type 0 where
  pub more : List A
  pub is : xs ++ more ≡ ys

pub grows_self : {A : Type 0} (xs : List A) → Grows xs xs
grows_self xs = record { more = []; is = append-nil xs }

pub grows_by : {A : Type 0} (xs more : List A) → Grows xs (xs ++ more)
grows_by xs more = record { more = more; is = refl }

pub grows_through : {A : Type 0} (xs ys zs : List A) → Grows xs ys → Grows ys zs → Grows xs zs
grows_through xs ys zs g h = record {
  more = g.more ++ h.more;
  is = sym (append_assoc xs g.more h.more) ∙ ap (λ l. l ++ h.more) g.is ∙ h.is;
}

-- each table grew at its end
pub record Extends (t u : TableLists) : Type 0 where
  pub first : Grows t.first u.first
  pub temporaries : Grows t.temporaries u.temporaries
  pub reports : Grows t.reports u.reports
  pub reads : Grows t.reads u.reads

pub extends_self : (t : TableLists) → Extends t t
extends_self t = record {
  first = grows_self t.first;
  temporaries = grows_self t.temporaries;
  reports = grows_self t.reports;
  reads = grows_self t.reads;
}

pub extends_through : (t u v : TableLists) → Extends t u → Extends u v → Extends t v
extends_through t u v a b = record {
  first = grows_through t.first u.first v.first a.first b.first;
  temporaries = grows_through t.temporaries u.temporaries v.temporaries a.temporaries b.temporaries;
  reports = grows_through t.reports u.reports v.reports a.reports b.reports;
  reads = grows_through t.reads u.reads v.reads a.reads b.reads;
}

-- ---- the law of replay, over these tables

-- A step repeated under the tables that it left, or under ones that extend them, gives the same and leaves them.
abbrev pub Again : {A : Type 0} → Step A → Type 0
Again f = Replays Extends f

pub again_gives : {A : Type 0} (x : A) → Again (gives x)
again_gives x = any_gives extends_self extends_through x

pub again_refuses : {A : Type 0} (c : Refusal) → Again {A = A} (refuses c)
again_refuses c = any_refuses extends_self extends_through c

pub again_then : {A B : Type 0} (f : Step A) (g : A → Step B) → Again f → ((x : A) → Again (g x)) → Again (f >>= g)
again_then f g = any_then extends_self extends_through f g

pub again_if : {A : Type 0} (b : Bool) (f g : Step A) → Again f → Again g → Again (if b then f else g)
again_if b f g = any_if extends_self extends_through b f g

pub again_each : {X A : Type 0} (f : X → A → Step A) → ((x : X) (a : A) → Again (f x a)) → (xs : List X) (a : A)
    → Again (each f xs a)
again_each f = any_each extends_self extends_through f

again_if_some : {A B : Type 0} (o : Option A) (f : A → Step (Option B)) → ((x : A) → Again (f x)) → Again (if_some o f)
again_if_some None f h = again_gives None
again_if_some (Some x) f h = h x

pub again_collect : {X A : Type 0} (f : X → A → Step (Option A)) → ((x : X) (a : A) → Again (f x a))
    → (xs : List X) (a : A) → Again (collect f xs a)
again_collect f h [] a = again_gives (Some a)
again_collect f h (x ∷ xs) a = again_then (f x a) (λ o. if_some o (collect f xs)) (h x a)
    (λ o. again_if_some o (collect f xs) (again_collect f h xs))

-- ---- effects

error_kept : (e : AliasingEffect) → with_error_of e e ≡ e
error_kept (effect.Apply receiver function mutates args into signature span) = refl
error_kept (effect.CreateFrom a x) = refl
error_kept (effect.ImmutableCapture a x) = refl
error_kept (effect.Assign a x) = refl
error_kept (effect.Alias a x) = refl
error_kept (effect.Capture a x) = refl
error_kept (effect.MaybeAlias a x) = refl
error_kept (effect.Create x k r) = refl
error_kept (effect.Freeze v r) = refl
error_kept (effect.Impure p error) = refl
error_kept (effect.MutateFrozen p error) = refl
error_kept (effect.MutateGlobal p error) = refl
error_kept (effect.Render p) = refl
error_kept (effect.Mutate v r) = refl
error_kept (effect.MutateConditionally v) = refl
error_kept (effect.MutateTransitive v) = refl
error_kept (effect.MutateTransitiveConditionally v) = refl
error_kept (effect.CreateFunction x f captures) = refl

abbrev with_effect : TableLists → AliasingEffect → TableLists
with_effect t e = record t { first = t.first ++ e ∷ [] }

effect_added : (t : TableLists) (e : AliasingEffect) → Extends t (with_effect t e)
effect_added t e = record {
  first = grows_by t.first (e ∷ []);
  temporaries = grows_self t.temporaries;
  reports = grows_self t.reports;
  reads = grows_self t.reads;
}

still_there : (k : EffectKey) (u v : TableLists) (e : AliasingEffect) → first_like k u.first ≡ Some e → Extends u v
    → first_like k v.first ≡ Some e
still_there k u v e h x = ap (first_like k) (sym x.first.is) ∙ first_still same_key key_of k u.first x.first.more e h

interned_grows : (o : Option AliasingEffect) (e : AliasingEffect) (t u : TableLists) (y : AliasingEffect)
    → intern_after o e t ≡ Ok (y, u) → Extends t u
interned_grows None e t u y h = subst (Extends t) (tables_are e y (with_effect t e) u h) (effect_added t e)
interned_grows (Some z) e t u y h = subst (Extends t) (tables_are (with_error_of z e) y t u h) (extends_self t)

interned_again : (k : EffectKey) (o : Option AliasingEffect) (e : AliasingEffect) (t u v : TableLists)
    (y : AliasingEffect) → key_of e ≡ Some k → first_like k t.first ≡ o → intern_after o e t ≡ Ok (y, u) → Extends u v
    → intern_after (first_like k v.first) e v ≡ Ok (y, v)
interned_again k None e t u v y is none h x =
    let tables : with_effect t e ≡ u = tables_are e y (with_effect t e) u h in
    let there : first_like k u.first ≡ Some e = ap (λ (w : TableLists). first_like k w.first) (sym tables)
    ∙ first_new same_key key_of keys_are_told_apart k t.first e is none in
    ap (λ o. intern_after o e v) (still_there k u v e there x)
    ∙ ap (λ z. Ok (z, v)) (error_kept e ∙ first_is e y (with_effect t e) u h)
interned_again k (Some z) e t u v y is found h x =
    let tables : t ≡ u = tables_are (with_error_of z e) y t u h in
    let there : first_like k u.first ≡ Some z = ap (λ (w : TableLists). first_like k w.first) (sym tables) ∙ found in
    ap (λ o. intern_after o e v) (still_there k u v z there x)
    ∙ ap (λ w. Ok (w, v)) (first_is (with_error_of z e) y t u h)

again_intern_by : (o : Option EffectKey) (e : AliasingEffect) → key_of e ≡ o → Again (intern_by o e)
again_intern_by None e is = again_gives e
again_intern_by (Some k) e is = record {
  grows = λ t u y h. interned_grows (first_like k t.first) e t u y h;
  again = λ t u v y h x. interned_again k (first_like k t.first) e t u v y is refl h x;
}

-- an effect is found again by its key
pub again_intern : (e : AliasingEffect) → Again (intern e)
again_intern e = again_intern_by (key_of e) e refl

-- ---- temporaries

abbrev with_temporary : TableLists → Temporary → TableLists
with_temporary t x = record t { temporaries = t.temporaries ++ x ∷ [] }

temporary_added : (t : TableLists) (x : Temporary) → Extends t (with_temporary t x)
temporary_added t x = record {
  first = grows_self t.first;
  temporaries = grows_by t.temporaries (x ∷ []);
  reports = grows_self t.reports;
  reads = grows_self t.reads;
}

still_temporary : (k : TempKey) (u v : TableLists) (x : Temporary) → temp_like k u.temporaries ≡ Some x → Extends u v
    → temp_like k v.temporaries ≡ Some x
still_temporary k u v x h e = ap (temp_like k) (sym e.temporaries.is)
    ∙ first_still same_temp key_in k u.temporaries e.temporaries.more x h

module _ (env : Environment) (key : TempKey) (span : Option Span) where
  abbrev place_in : TableLists → Place
  place_in t = new_place (length env.identifiers) (length t.temporaries) span

  abbrev made_if : Bool → Step Place
  made_if b t = if b then Ok (place_in t, with_temporary t (temporary_of key (place_in t)))
      else Err (TooMany Identifiers)

  abbrev room_in : TableLists → Bool
  room_in t = has_room (length env.identifiers) (length env.types) (length t.temporaries)

  module _ (t u : TableLists) (y : Place) where
    new_grows : (b : Bool) → made_if b t ≡ Ok (y, u) → Extends t u
    new_grows true h = subst (Extends t) (tables_are (place_in t) y _ u h)
        (temporary_added t (temporary_of key (place_in t)))
    new_grows false h = not_given _ y u h

    temporary_grows : (o : Option Temporary) → temporary_after o env key span t ≡ Ok (y, u) → Extends t u
    temporary_grows None h = new_grows (room_in t) h
    temporary_grows (Some x) h = subst (Extends t) (tables_are x.place y t u h) (extends_self t)

    module _ (v : TableLists) (e : Extends u v) where
      new_again : (b : Bool) → temp_like key t.temporaries ≡ None → made_if b t ≡ Ok (y, u) → temporary env key span v
          ≡ Ok (y, v)
      new_again true none h =
          let x = temporary_of key (place_in t) in
          let tables : with_temporary t x ≡ u = tables_are (place_in t) y (with_temporary t x) u h in
          let there : temp_like key u.temporaries ≡ Some x =
          ap (λ (w : TableLists). temp_like key w.temporaries) (sym tables)
          ∙ first_new same_temp key_in temps_are_told_apart key t.temporaries x refl none in
          ap (λ o. temporary_after o env key span v) (still_temporary key u v x there e)
          ∙ ap (λ p. Ok (p, v)) (first_is (place_in t) y (with_temporary t x) u h)
      new_again false none h = not_given _ y u h

      temporary_again : (o : Option Temporary) → temp_like key t.temporaries ≡ o → temporary_after o env key span t
          ≡ Ok (y, u) → temporary env key span v ≡ Ok (y, v)
      temporary_again None none h = new_again (room_in t) none h
      temporary_again (Some x) found h =
          let tables : t ≡ u = tables_are x.place y t u h in
          let there : temp_like key u.temporaries ≡ Some x =
          ap (λ (w : TableLists). temp_like key w.temporaries) (sym tables) ∙ found in
          ap (λ o. temporary_after o env key span v) (still_temporary key u v x there e)
          ∙ ap (λ p. Ok (p, v)) (first_is x.place y t u h)

  -- a temporary is found again by its key
  pub again_temporary : Again (temporary env key span)
  again_temporary = record {
    grows = λ t u y h. temporary_grows t u y (temp_like key t.temporaries) h;
    again = λ t u v y h e. temporary_again t u y v e (temp_like key t.temporaries) refl h;
  }
