-- Interning gives what is alike, whatever interned effects there are.
use Rattle.std.proofs.Common.{◌≡◌, ℕ, Bool, true, false, cond, List, [], ◌∷◌, ◌++◌, Option, Some, None, Result, Ok}
use Rattle.std.proofs.Common.{refl, ap, sym, ◌∙◌, subst, eqb-true}
use Rattle.std.specs.Cmp.{unsigned_tied}
use Rattle.std.specs.Ordering.{ordering_then, is_eq, nat_cmp}
use Rattle.std.specs.declared.cmp.Ordering.{Ordering}
use Rattle.std.specs.declared.cmp.Ordering.TheVariants.{Less, Equal, Greater}
use Rattle.alias_base.specs.Indexes.{has_key}
use Rattle.alias_base.specs.declared.ids.FunctionId.{FunctionId}
use Rattle.alias_hir.specs.declared.effect.AliasingEffect.{AliasingEffect}
use Rattle.alias_hir.specs.declared.effect.AliasingEffect.TheVariants as effect
use Rattle.alias_hir.specs.declared.effect.ValueKind.{ValueKind}
use Rattle.alias_hir.specs.declared.effect.ValueReason.{ValueReason}
use Rattle.alias_hir.specs.declared.place.Place.{Place}
use Rattle.alias_lattice.specs.Kinds.{kind_cmp}
use Rattle.alias_lattice.specs.KindLaws.{kinds_apart}
use Rattle.alias_lattice.specs.ReasonOrder.{reason_cmp}
use Rattle.alias_lattice.specs.ReasonOrderLaws.{reasons_apart}
use Rattle.alias_tables.specs.CaptureOrder.{by_ids}
use Rattle.alias_tables.specs.InternedEffects.{same_key, first_like}
use Rattle.alias_tables.specs.GrowingLaws.{again_intern}
use Rattle.alias_tables.specs.Keys.{key_of, with_error_of, ids_of}
use Rattle.alias_tables.specs.ReplayLaws.{first_is}
use Rattle.alias_tables.specs.Tables.{TableLists, intern, intern_by, intern_after}
use Rattle.alias_tables.specs.declared.faults.Refusal.{Refusal}
use Rattle.alias_tables.specs.declared.key.EffectKey.{EffectKey}
use Rattle.alias_tables.specs.declared.temporaries.Temporary.{Temporary}
use Rattle.alias_certificate_laws.specs.accepting.Alike.{none, more, moved, AlikePlace, at, AlikePlaces, Alike}
use Rattle.alias_certificate_laws.specs.accepting.Alike.{create_from, immutable_capture, assign, alias, capture}
use Rattle.alias_certificate_laws.specs.accepting.Alike.{maybe_alias, create, freeze, impure, mutate_frozen}
use Rattle.alias_certificate_laws.specs.accepting.Alike.{mutate_global, render, mutate, mutate_conditionally}
use Rattle.alias_certificate_laws.specs.accepting.Alike.{mutate_transitive, mutate_transitive_conditionally}
use Rattle.alias_certificate_laws.specs.accepting.Alike.{create_function, AlikeTemporaries, given, Repeats}
use Rattle.alias_certificate_laws.proofs.accepting.Likeness.{alike_self, alike_sym, alike_trans}

-- ---- keys that are the same

tied_first : (a b : Ordering) → is_eq (ordering_then a b) ≡ true → is_eq a ≡ true
tied_first Less b h = h
tied_first Equal b h = refl
tied_first Greater b h = h

tied_second : (a b : Ordering) → is_eq (ordering_then a b) ≡ true → is_eq b ≡ true
tied_second Less b h = cc
tied_second Equal b h = h
tied_second Greater b h = cc

is_equal : (a : Ordering) → is_eq a ≡ true → a ≡ Equal
is_equal Less h = cc
is_equal Equal h = refl
is_equal Greater h = cc

same_number : (m n : ℕ) → is_eq (nat_cmp m n) ≡ true → m ≡ n
same_number m n h = eqb-true m n (sym (unsigned_tied m n) ∙ h)

same_pair : (a b x y : ℕ) → is_eq (ordering_then (nat_cmp a b) (nat_cmp x y)) ≡ true → (a ≡ b) × (x ≡ y)
same_pair a b x y h = (
  same_number a b (tied_first (nat_cmp a b) (nat_cmp x y) h),
  same_number x y (tied_second (nat_cmp a b) (nat_cmp x y) h),
)

same_kind : (k l : ValueKind) → is_eq (kind_cmp k l) ≡ true → k ≡ l
same_kind k l h = kinds_apart k l (is_equal (kind_cmp k l) h)

same_reason : (r s : ValueReason) → is_eq (reason_cmp r s) ≡ true → r ≡ s
same_reason r s h = reasons_apart r s (is_equal (reason_cmp r s) h)

same_function : (f g : FunctionId) → f.0 ≡ g.0 → f ≡ g
same_function f g h = ap (λ (n : ℕ). let r : FunctionId = record { 0 = n } in r) h

-- ---- places of the same identifier

there_already : (p q : Place) → q.identifier.0 ≡ p.identifier.0 → moved p q ≡ q
there_already p q h = ap (λ (n : ℕ). let r : Place = record q { identifier = record { 0 = n } } in r) (sym h)

same_ids : (ps qs : List Place) → is_eq (by_ids (record { ids = ids_of qs }) (record { ids = ids_of ps })) ≡ true
    → AlikePlaces ps qs
same_ids [] [] h = none
same_ids [] (q ∷ qs) h = cc
same_ids (p ∷ ps) [] h = cc
same_ids (p ∷ ps) (q ∷ qs) h =
    let rest = by_ids (record { ids = ids_of qs }) (record { ids = ids_of ps }) in
    let first : q.identifier.0 ≡ p.identifier.0 =
    same_number q.identifier.0 p.identifier.0 (tied_first (nat_cmp q.identifier.0 p.identifier.0) rest h) in
    more (subst (AlikePlace p) (there_already p q first) (at p q))
    (same_ids ps qs (tied_second (nat_cmp q.identifier.0 p.identifier.0) rest h))

-- ---- an effect of the same key

module _ (P : Place → Place → AliasingEffect)
    (alike : (a b x y : Place) → Alike (P a x) (P (moved a b) (moved x y))) where
  two_places : (a x b y : Place) → is_eq (ordering_then (nat_cmp b.identifier.0 a.identifier.0)
      (nat_cmp y.identifier.0 x.identifier.0)) ≡ true → Alike (P a x) (P b y)
  two_places a x b y h =
      let s = same_pair b.identifier.0 a.identifier.0 y.identifier.0 x.identifier.0 h in
      subst (Alike (P a x)) (ap (λ z. P z (moved x y)) (there_already a b s.0) ∙ ap (P b) (there_already x y s.1))
      (alike a b x y)

module _ (P : Place → AliasingEffect) (e : AliasingEffect) where
  one_place : (v w : Place) → Alike e (P (moved v w)) → is_eq (nat_cmp w.identifier.0 v.identifier.0) ≡ true
      → Alike e (P w)
  one_place v w a h = subst (Alike e) (ap P (there_already v w (same_number w.identifier.0 v.identifier.0 h))) a

-- the effect has this key
abbrev has_this : AliasingEffect → Option EffectKey → Bool
has_this f None = false
has_this f (Some k) = has_key same_key key_of k f

-- it is alike to any effect of that key
keyed : (e f : AliasingEffect) → has_this f (key_of e) ≡ true → Alike e (with_error_of f e)
keyed (effect.CreateFrom a x) (effect.CreateFrom b y) h = two_places effect.CreateFrom create_from a x b y h
keyed (effect.ImmutableCapture a x) (effect.ImmutableCapture b y) h =
    two_places effect.ImmutableCapture immutable_capture a x b y h
keyed (effect.Assign a x) (effect.Assign b y) h = two_places effect.Assign assign a x b y h
keyed (effect.Alias a x) (effect.Alias b y) h = two_places effect.Alias alias a x b y h
keyed (effect.Capture a x) (effect.Capture b y) h = two_places effect.Capture capture a x b y h
keyed (effect.MaybeAlias a x) (effect.MaybeAlias b y) h = two_places effect.MaybeAlias maybe_alias a x b y h
keyed (effect.Create x k r) (effect.Create y l s) h =
    let later = tied_second (nat_cmp y.identifier.0 x.identifier.0) _ h in
    let kinds : l ≡ k = same_kind l k (tied_first (kind_cmp l k) (reason_cmp s r) later) in
    let reasons : s ≡ r = same_reason s r (tied_second (kind_cmp l k) (reason_cmp s r) later) in
    let whole : effect.Create y k r ≡ effect.Create y l s = cc in
    subst (Alike (effect.Create x k r)) whole
    (one_place (λ p. effect.Create p k r) (effect.Create x k r) x y (create x y k r)
    (tied_first (nat_cmp y.identifier.0 x.identifier.0) _ h))
keyed (effect.Freeze v r) (effect.Freeze w s) h =
    let reasons : s ≡ r = same_reason s r (tied_second (nat_cmp w.identifier.0 v.identifier.0) (reason_cmp s r) h) in
    let whole : effect.Freeze w r ≡ effect.Freeze w s = cc in
    subst (Alike (effect.Freeze v r)) whole
    (one_place (λ p. effect.Freeze p r) (effect.Freeze v r) v w (freeze v w r)
    (tied_first (nat_cmp w.identifier.0 v.identifier.0) (reason_cmp s r) h))
keyed (effect.Impure p d) (effect.Impure q g) h =
    one_place (λ z. effect.Impure z d) (effect.Impure p d) p q (impure p q d d) h
keyed (effect.MutateFrozen p d) (effect.MutateFrozen q g) h =
    one_place (λ z. effect.MutateFrozen z d) (effect.MutateFrozen p d) p q (mutate_frozen p q d d)
    (tied_first (nat_cmp q.identifier.0 p.identifier.0) (nat_cmp g.identity d.identity) h)
keyed (effect.MutateGlobal p d) (effect.MutateGlobal q g) h =
    one_place (λ z. effect.MutateGlobal z d) (effect.MutateGlobal p d) p q (mutate_global p q d d)
    (tied_first (nat_cmp q.identifier.0 p.identifier.0) (nat_cmp g.identity d.identity) h)
keyed (effect.Render p) (effect.Render q) h = one_place effect.Render (effect.Render p) p q (render p q) h
keyed (effect.Mutate v r) (effect.Mutate w s) h =
    one_place (λ z. effect.Mutate z s) (effect.Mutate v r) v w (mutate v w r s) h
keyed (effect.MutateConditionally v) (effect.MutateConditionally w) h =
    one_place effect.MutateConditionally (effect.MutateConditionally v) v w (mutate_conditionally v w) h
keyed (effect.MutateTransitive v) (effect.MutateTransitive w) h =
    one_place effect.MutateTransitive (effect.MutateTransitive v) v w (mutate_transitive v w) h
keyed (effect.MutateTransitiveConditionally v) (effect.MutateTransitiveConditionally w) h =
    one_place effect.MutateTransitiveConditionally (effect.MutateTransitiveConditionally v) v w
    (mutate_transitive_conditionally v w) h
keyed (effect.CreateFunction x f ps) (effect.CreateFunction y g qs) h =
    let taken = by_ids (record { ids = ids_of qs }) (record { ids = ids_of ps }) in
    let later = tied_second (nat_cmp y.identifier.0 x.identifier.0) (ordering_then (nat_cmp g.0 f.0) taken) h in
    let same : g ≡ f = same_function g f (same_number g.0 f.0 (tied_first (nat_cmp g.0 f.0) taken later)) in
    let whole : effect.CreateFunction y f qs ≡ effect.CreateFunction y g qs =
    ap (λ i. effect.CreateFunction y i qs) (sym same) in
    subst (Alike (effect.CreateFunction x f ps)) whole
    (one_place (λ p. effect.CreateFunction p f qs) (effect.CreateFunction x f ps) x y
    (create_function x y f ps qs (same_ids ps qs (tied_second (nat_cmp g.0 f.0) taken later)))
    (tied_first (nat_cmp y.identifier.0 x.identifier.0) (ordering_then (nat_cmp g.0 f.0) taken) h))
keyed e f h = cc

-- ---- interning

step_has : (b : Bool) (p : AliasingEffect → Bool) (e z : AliasingEffect) (o : Option AliasingEffect)
    → (b ≡ true → p e ≡ true) → (o ≡ Some z → p z ≡ true) → cond b (Some e) o ≡ Some z → p z ≡ true
step_has true p e z o f g h = let is : e ≡ z = cc in ap p (sym is) ∙ f refl
step_has false p e z o f g h = g h

first_has_key : (k : EffectKey) (es : List AliasingEffect) (z : AliasingEffect) → first_like k es ≡ Some z
    → has_key same_key key_of k z ≡ true
first_has_key k [] z h = cc
first_has_key k (e ∷ es) z h = step_has (has_key same_key key_of k e) (has_key same_key key_of k) e z (first_like k es)
    (λ b. b) (first_has_key k es z) h

-- an effect is interned as one that is alike, and temporaries stay
pub record IsInterned (e : AliasingEffect) (t : TableLists) (r : Result (AliasingEffect × TableLists) Refusal) : Type
    0 where
  pub effect : AliasingEffect
  pub tables : TableLists
  pub is : r ≡ Ok (effect, tables)
  pub alike : Alike e effect
  pub same : tables.temporaries ≡ t.temporaries

interned_after : (o : Option AliasingEffect) (e : AliasingEffect) (t : TableLists)
    → ((f : AliasingEffect) → o ≡ Some f → Alike e (with_error_of f e)) → IsInterned e t (intern_after o e t)
interned_after None e t h = record {
  effect = e;
  tables = record t { first = t.first ++ e ∷ [] };
  is = refl;
  alike = alike_self e;
  same = refl;
}
interned_after (Some f) e t h = record {
  effect = with_error_of f e;
  tables = t;
  is = refl;
  alike = h f refl;
  same = refl;
}

interned_by : (o : Option EffectKey) (e : AliasingEffect) (t : TableLists) → key_of e ≡ o
    → IsInterned e t (intern_by o e t)
interned_by None e t own = record { effect = e; tables = t; is = refl; alike = alike_self e; same = refl }
interned_by (Some k) e t own =
    interned_after (first_like k t.first) e t (λ f h. keyed e f (ap (has_this f) own ∙ first_has_key k t.first f h))

pub interned : (e : AliasingEffect) (t : TableLists) → IsInterned e t (intern e t)
interned e t = interned_by (key_of e) e t refl

module _ {is_excused : Refusal → Type 0} {whole : List Temporary} where
  pub repeats_intern : (e f : AliasingEffect) → Alike e f → Repeats is_excused whole Alike (intern e) (intern f)
  repeats_intern e f a = record {
    grows = λ t u x h. ((again_intern e).grows t u x h).temporaries;
    again = λ t u v x h g like.
        let i = interned e t in
        let j = interned f v in
        let first : i.effect ≡ x = first_is i.effect x i.tables u (sym i.is ∙ h) in
        given j.effect j.tables j.is
        (alike_trans x e j.effect (alike_sym e x (subst (Alike e) first i.alike)) (alike_trans e f j.effect a j.alike))
        (subst (AlikeTemporaries whole) (sym j.same) like);
  }
