-- The interned effect of a key makes what each effect of the key makes.
use Rattle.std.specs.Prelude.{◌≡◌, Bool, true, false, cond, List, [], ◌∷◌, Option, None, Some, refl}
use Rattle.std.proofs.Common.{ap, sym, ◌∙◌, subst}
use Rattle.alias_base.specs.Indexes.{is_key, has_key}
use Rattle.alias_hir.specs.declared.effect.AliasingEffect.{AliasingEffect}
use Rattle.alias_hir.specs.declared.effect.AliasingEffect.TheVariants as effect
use Rattle.alias_hir.specs.declared.place.Place.{Place}
use Rattle.alias_tables.specs.InternedEffects.{same_key, first_like}
use Rattle.alias_tables.specs.Keys.{key_of, with_error_of}
use Rattle.alias_tables.specs.ReplayLaws.{first_is}
use Rattle.alias_tables.specs.Tables.{TableLists, intern_after, intern_by, intern}
use Rattle.alias_tables.specs.declared.key.EffectKey.{EffectKey}
use Rattle.alias_tables.specs.declared.key.EffectKey.TheVariants as key
use Rattle.alias_apply.specs.ProperLaws.{Sound}
use Rattle.alias_key_laws.specs.KeySites.{made_site}
use Rattle.alias_key_laws.proofs.KeySites.{named_by, named, same}

-- ---- the interned effect of a key

key_is : (o : Option EffectKey) (k : EffectKey) → is_key same_key key_of o k ≡ true → o ≡ Some k
key_is None k h = cc
key_is (Some l) k h = ap (λ z. Some z) (same l k h)

step_is : (b : Bool) (k : EffectKey) (e z : AliasingEffect) (o : Option AliasingEffect) → (b ≡ true → key_of e ≡ Some k)
    → (o ≡ Some z → key_of z ≡ Some k) → cond b (Some e) o ≡ Some z → key_of z ≡ Some k
step_is true k e z o f g h = let is : e ≡ z = cc in subst (λ x. key_of x ≡ Some k) is (f refl)
step_is false k e z o f g h = g h

pub first_has_it : (k : EffectKey) (es : List AliasingEffect) (z : AliasingEffect) → first_like k es ≡ Some z → key_of z
    ≡ Some k
first_has_it k [] z h = cc
first_has_it k (e ∷ es) z h = step_is (has_key same_key key_of k e) k e z (first_like k es) (key_is (key_of e) k)
    (first_has_it k es z) h

-- another report doesn't change what is made
error_made : (z e : AliasingEffect) → made_site (with_error_of z e) ≡ made_site z
error_made (effect.Impure p error) (effect.Impure q own) = refl
error_made (effect.MutateFrozen p error) (effect.MutateFrozen q own) = refl
error_made (effect.MutateGlobal p error) (effect.MutateGlobal q own) = refl
error_made z e = refl

-- the effect makes what the other one makes
abbrev pub MakesAs : AliasingEffect → AliasingEffect → Type 0
MakesAs e z = made_site z ≡ made_site e

after_makes : (o : Option AliasingEffect) (e : AliasingEffect) → ((z : AliasingEffect) → o ≡ Some z → MakesAs e z)
    → Sound (MakesAs e) (intern_after o e)
after_makes None e h t u y i = subst (MakesAs e) (first_is e y _ u i) refl
after_makes (Some z) e h t u y i = subst (MakesAs e) (first_is (with_error_of z e) y t u i) (error_made z e ∙ h z refl)

by_makes : (o : Option EffectKey) (e : AliasingEffect) → key_of e ≡ o → Sound (MakesAs e) (intern_by o e)
by_makes None e own t u y i = subst (MakesAs e) (first_is e y t u i) refl
by_makes (Some k) e own t u y i =
    after_makes (first_like k t.first) e (λ z is. named z ∙ ap named_by (first_has_it k t.first z is ∙ sym own)
    ∙ sym (named e)) t u y i

-- what is stepped in place of the effect makes what it makes
pub interned_makes : (e : AliasingEffect) → Sound (MakesAs e) (intern e)
interned_makes e = by_makes (key_of e) e refl

-- ---- captures

abbrev is_capture : AliasingEffect → Bool
is_capture (effect.Capture a x) = true
is_capture e = false

abbrev pub IsCapture : AliasingEffect → Type 0
IsCapture e = is_capture e ≡ true

key_captures : (z : AliasingEffect) (p x : Place) → key_of z ≡ Some (key.Capture p.identifier x.identifier)
    → IsCapture (with_error_of z (effect.Capture p x))
key_captures (effect.Capture a y) p x h = refl
key_captures z p x h = cc

after_captures : (o : Option AliasingEffect) (p x : Place)
    → ((z : AliasingEffect) → o ≡ Some z → key_of z ≡ Some (key.Capture p.identifier x.identifier))
    → Sound IsCapture (intern_after o (effect.Capture p x))
after_captures None p x h t u y i = subst IsCapture (first_is (effect.Capture p x) y _ u i) refl
after_captures (Some z) p x h t u y i = subst IsCapture (first_is (with_error_of z (effect.Capture p x)) y t u i)
    (key_captures z p x (h z refl))

-- what is stepped in place of a capture is one
pub interned_captures : (p x : Place) → Sound IsCapture (intern (effect.Capture p x))
interned_captures p x t u y i =
    let k = key.Capture p.identifier x.identifier in
    after_captures (first_like k t.first) p x (λ z is. first_has_it k t.first z is) t u y i
