-- Effects of equal keys give the same site.
use Rattle.std.specs.Prelude.{◌≡◌, true, Option, None, Some, refl}
use Rattle.std.proofs.Common.{ap, sym, ◌∙◌}
use Rattle.std.specs.Ordering.{is_eq}
use Rattle.std.specs.declared.cmp.Ordering.{Ordering}
use Rattle.std.specs.declared.cmp.Ordering.TheVariants.{Less, Equal, Greater}
use Rattle.alias_base.specs.declared.ids.IdentifierId.{IdentifierId}
use Rattle.alias_hir.specs.declared.effect.AliasingEffect.{AliasingEffect}
use Rattle.alias_hir.specs.declared.effect.AliasingEffect.TheVariants as effect
use Rattle.alias_lattice.specs.declared.site.Site.{Site}
use Rattle.alias_lattice.specs.declared.site.Site.TheVariants.{Created, CreatedFrom, Function}
use Rattle.alias_tables.specs.InternedEffects.{key_cmp, same_key}
use Rattle.alias_tables.specs.Keys.{key_of}
use Rattle.alias_tables.specs.declared.key.EffectKey.{EffectKey}
use Rattle.alias_tables.specs.declared.key.EffectKey.TheVariants as key
use Rattle.alias_key_laws.specs.KeySites.{made_site, HaveOneKey}
use Rattle.alias_key_laws.proofs.Apart.{keys_apart}

-- the identifier and the site, as the key says them
abbrev pub named_by : Option EffectKey → Option (IdentifierId × Site)
named_by (Some (key.Create x k r)) = Some (x, Created x k r)
named_by (Some (key.CreateFrom a x)) = Some (x, CreatedFrom a x)
named_by (Some (key.CreateFunction x f captures)) = Some (x, Function f)
named_by k = None

pub named : (e : AliasingEffect) → made_site e ≡ named_by (key_of e)
named (effect.Create x k r) = refl
named (effect.CreateFrom a x) = refl
named (effect.CreateFunction x f captures) = refl
named e = refl

ties : (r : Ordering) → is_eq r ≡ true → r ≡ Equal
ties Less h = cc
ties Equal h = refl
ties Greater h = cc

pub same : (k l : EffectKey) → same_key k l ≡ true → k ≡ l
same k l h = keys_apart k l (ties (key_cmp k l) h)

pub one_key_one_site : (e f : AliasingEffect) → HaveOneKey e f → made_site e ≡ made_site f
one_key_one_site e f h =
    named e
    ∙ ap named_by (h.2 ∙ ap (λ k. Some k) (same h.0 h.1 h.4) ∙ sym h.3)
    ∙ sym (named f)
