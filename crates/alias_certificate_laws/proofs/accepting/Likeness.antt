-- What is alike: to itself, the other way round, and through a third.
use Rattle.std.proofs.Common.{List, [], ◌∷◌, ◌++◌, Option, Some, None, map}
use Rattle.alias_hir.specs.declared.effect.AliasingEffect.{AliasingEffect}
use Rattle.alias_hir.specs.declared.effect.AliasingEffect.TheVariants as effect
use Rattle.alias_hir.specs.declared.place.Place.{Place}
use Rattle.alias_hir.specs.declared.place.PlaceOrSpreadOrHole.{PlaceOrSpreadOrHole}
use Rattle.alias_hir.specs.declared.place.PlaceOrSpreadOrHole.TheVariants as arg
use Rattle.alias_lattice.specs.declared.lookup.MissingLookup.{MissingLookup}
use Rattle.alias_apply.specs.declared.progress.StepProgress.{StepProgress}
use Rattle.std.specs.Prelude.{ℕ, slice_get, zero, suc}
use Rattle.alias_certificate_laws.specs.accepting.Alike.{Paired, none, more, Maybe, nothing, just, moved, AlikePlace}
use Rattle.alias_certificate_laws.specs.accepting.Alike.{at, AlikeArgument, plain, spread, hole, Alike, apply}
use Rattle.alias_certificate_laws.specs.accepting.Alike.{create_from, immutable_capture, assign, alias, capture}
use Rattle.alias_certificate_laws.specs.accepting.Alike.{maybe_alias, create, freeze, impure, mutate_frozen}
use Rattle.alias_certificate_laws.specs.accepting.Alike.{mutate_global, render, mutate, mutate_conditionally}
use Rattle.alias_certificate_laws.specs.accepting.Alike.{mutate_transitive, mutate_transitive_conditionally}
use Rattle.alias_certificate_laws.specs.accepting.Alike.{create_function, AlikeLookup, there, missing, AlikeProgress}
use Rattle.alias_certificate_laws.specs.accepting.Alike.{like}

-- ---- lists

pub paired_self : {A : Type 0} (Q : A → A → Type 0) → ((x : A) → Q x x) → (xs : List A) → Paired Q xs xs
paired_self Q self [] = none
paired_self Q self (x ∷ xs) = more (self x) (paired_self Q self xs)

pub paired_sym : {A : Type 0} (Q : A → A → Type 0) → ((x y : A) → Q x y → Q y x) → {xs ys : List A} → Paired Q xs ys
    → Paired Q ys xs
paired_sym Q back none = none
paired_sym Q back (more q qs) = more (back _ _ q) (paired_sym Q back qs)

pub paired_trans : {A : Type 0} (Q : A → A → Type 0) → ((x y z : A) → Q x y → Q y z → Q x z) → {xs ys zs : List A}
    → Paired Q xs ys → Paired Q ys zs → Paired Q xs zs
paired_trans Q through none none = none
paired_trans Q through (more q qs) (more r rs) = more (through _ _ _ q r) (paired_trans Q through qs rs)

pub paired_append : {A B : Type 0} {Q : A → B → Type 0} {xs us : List A} {ys vs : List B} → Paired Q xs ys
    → Paired Q us vs → Paired Q (xs ++ us) (ys ++ vs)
paired_append none r = r
paired_append (more q qs) r = more q (paired_append qs r)

pub paired_map : {A B C D : Type 0} {Q : A → B → Type 0} (R : C → D → Type 0) (f : A → C) (g : B → D)
    → ((x : A) (y : B) → Q x y → R (f x) (g y)) → {xs : List A} {ys : List B} → Paired Q xs ys
    → Paired R (map f xs) (map g ys)
paired_map R f g h none = none
paired_map R f g h (more q qs) = more (h _ _ q) (paired_map R f g h qs)

pub paired_get : {A : Type 0} {Q : A → A → Type 0} (n : ℕ) (xs ys : List A) → Paired Q xs ys
    → Maybe Q (slice_get xs n) (slice_get ys n)
paired_get n xs ys none = nothing
paired_get zero xs ys (more q qs) = just q
paired_get (suc n) xs ys (more {xs = us} {ys = vs} q qs) = paired_get n us vs qs

-- ---- places and arguments

pub place_self : (p : Place) → AlikePlace p p
place_self p = at p p

pub place_sym : (p q : Place) → AlikePlace p q → AlikePlace q p
place_sym p q (at _ r) = at (moved p r) p

pub place_trans : (p q r : Place) → AlikePlace p q → AlikePlace q r → AlikePlace p r
place_trans p q r (at _ s) (at _ t) = at p t

pub argument_self : (a : PlaceOrSpreadOrHole) → AlikeArgument a a
argument_self (arg.Place p) = plain p p
argument_self (arg.Spread s) = spread s.place s.place
argument_self arg.Hole = hole

argument_sym : (a b : PlaceOrSpreadOrHole) → AlikeArgument a b → AlikeArgument b a
argument_sym a b (plain p q) = plain (moved p q) p
argument_sym a b (spread p q) = spread (moved p q) p
argument_sym a b hole = hole

argument_trans : (a b c : PlaceOrSpreadOrHole) → AlikeArgument a b → AlikeArgument b c → AlikeArgument a c
argument_trans a b c (plain p q) (plain _ r) = plain p r
argument_trans a b c (spread p q) (spread _ r) = spread p r
argument_trans a b c hole hole = hole

-- ---- effects

pub alike_self : (e : AliasingEffect) → Alike e e
alike_self (effect.Apply r f mutates args x signature span) =
    apply r r f f x x mutates args args signature span span (paired_self AlikeArgument argument_self args)
alike_self (effect.CreateFrom a x) = create_from a a x x
alike_self (effect.ImmutableCapture a x) = immutable_capture a a x x
alike_self (effect.Assign a x) = assign a a x x
alike_self (effect.Alias a x) = alias a a x x
alike_self (effect.Capture a x) = capture a a x x
alike_self (effect.MaybeAlias a x) = maybe_alias a a x x
alike_self (effect.Create x k r) = create x x k r
alike_self (effect.Freeze v r) = freeze v v r
alike_self (effect.Impure p d) = impure p p d d
alike_self (effect.MutateFrozen p d) = mutate_frozen p p d d
alike_self (effect.MutateGlobal p d) = mutate_global p p d d
alike_self (effect.Render p) = render p p
alike_self (effect.Mutate v r) = mutate v v r r
alike_self (effect.MutateConditionally v) = mutate_conditionally v v
alike_self (effect.MutateTransitive v) = mutate_transitive v v
alike_self (effect.MutateTransitiveConditionally v) = mutate_transitive_conditionally v v
alike_self (effect.CreateFunction x f ps) = create_function x x f ps ps (paired_self AlikePlace place_self ps)

pub alike_sym : (e f : AliasingEffect) → Alike e f → Alike f e
alike_sym e f (apply r s g h x y mutates args others signature span other a) =
    apply (moved r s) r (moved g h) g (moved x y) x mutates others args signature other span
    (paired_sym AlikeArgument argument_sym a)
alike_sym e f (create_from a b x y) = create_from (moved a b) a (moved x y) x
alike_sym e f (immutable_capture a b x y) = immutable_capture (moved a b) a (moved x y) x
alike_sym e f (assign a b x y) = assign (moved a b) a (moved x y) x
alike_sym e f (alias a b x y) = alias (moved a b) a (moved x y) x
alike_sym e f (capture a b x y) = capture (moved a b) a (moved x y) x
alike_sym e f (maybe_alias a b x y) = maybe_alias (moved a b) a (moved x y) x
alike_sym e f (create x y k r) = create (moved x y) x k r
alike_sym e f (freeze v w r) = freeze (moved v w) v r
alike_sym e f (impure p q d g) = impure (moved p q) p g d
alike_sym e f (mutate_frozen p q d g) = mutate_frozen (moved p q) p g d
alike_sym e f (mutate_global p q d g) = mutate_global (moved p q) p g d
alike_sym e f (render p q) = render (moved p q) p
alike_sym e f (mutate v w r s) = mutate (moved v w) v s r
alike_sym e f (mutate_conditionally v w) = mutate_conditionally (moved v w) v
alike_sym e f (mutate_transitive v w) = mutate_transitive (moved v w) v
alike_sym e f (mutate_transitive_conditionally v w) = mutate_transitive_conditionally (moved v w) v
alike_sym e f (create_function x y g ps qs a) =
    create_function (moved x y) x g qs ps (paired_sym AlikePlace place_sym a)

pub alike_trans : (e f g : AliasingEffect) → Alike e f → Alike f g → Alike e g
alike_trans e f g (apply r _ h _ x _ mutates args _ signature span _ a) (apply _ s _ i _ y _ _ others _ _ other b) =
    apply r s h i x y mutates args others signature span other (paired_trans AlikeArgument argument_trans a b)
alike_trans e f g (create_from a _ x _) (create_from _ b _ y) = create_from a b x y
alike_trans e f g (immutable_capture a _ x _) (immutable_capture _ b _ y) = immutable_capture a b x y
alike_trans e f g (assign a _ x _) (assign _ b _ y) = assign a b x y
alike_trans e f g (alias a _ x _) (alias _ b _ y) = alias a b x y
alike_trans e f g (capture a _ x _) (capture _ b _ y) = capture a b x y
alike_trans e f g (maybe_alias a _ x _) (maybe_alias _ b _ y) = maybe_alias a b x y
alike_trans e f g (create x _ k r) (create _ y _ _) = create x y k r
alike_trans e f g (freeze v _ r) (freeze _ w _) = freeze v w r
alike_trans e f g (impure p _ d _) (impure _ q _ h) = impure p q d h
alike_trans e f g (mutate_frozen p _ d _) (mutate_frozen _ q _ h) = mutate_frozen p q d h
alike_trans e f g (mutate_global p _ d _) (mutate_global _ q _ h) = mutate_global p q d h
alike_trans e f g (render p _) (render _ q) = render p q
alike_trans e f g (mutate v _ r _) (mutate _ w _ s) = mutate v w r s
alike_trans e f g (mutate_conditionally v _) (mutate_conditionally _ w) = mutate_conditionally v w
alike_trans e f g (mutate_transitive v _) (mutate_transitive _ w) = mutate_transitive v w
alike_trans e f g (mutate_transitive_conditionally v _) (mutate_transitive_conditionally _ w) =
    mutate_transitive_conditionally v w
alike_trans e f g (create_function x _ h ps _ a) (create_function _ y _ _ qs b) =
    create_function x y h ps qs (paired_trans AlikePlace place_trans a b)

-- ---- steps

pub lookup_self : (o : Option MissingLookup) → AlikeLookup o o
lookup_self None = there
lookup_self (Some l) = missing l l

pub progress_self : (s : StepProgress) → AlikeProgress s s
progress_self s = like s s.recorded s.missing (paired_self Alike alike_self s.recorded) (lookup_self s.missing)
