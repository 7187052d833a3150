-- The sites that effects give to what they make.
use Rattle.std.specs.Prelude.{◌≡◌, true, Option, None, Some}
use Rattle.alias_base.specs.declared.ids.IdentifierId.{IdentifierId}
use Rattle.alias_hir.specs.declared.effect.AliasingEffect.{AliasingEffect}
use Rattle.alias_hir.specs.declared.effect.AliasingEffect.TheVariants as effect
use Rattle.alias_lattice.specs.declared.site.Site.{Site}
use Rattle.alias_lattice.specs.declared.site.Site.TheVariants.{Created, CreatedFrom, Function}
use Rattle.alias_tables.specs.declared.key.EffectKey.{EffectKey}
use Rattle.alias_tables.specs.InternedEffects.{same_key}
use Rattle.alias_tables.specs.Keys.{key_of}

-- the identifier that the effect makes as a new value, and the site that it gives it
abbrev pub made_site : AliasingEffect → Option (IdentifierId × Site)
made_site (effect.Create x k r) = Some (x.identifier, Created x.identifier k r)
made_site (effect.CreateFrom a x) = Some (x.identifier, CreatedFrom a.identifier x.identifier)
made_site (effect.CreateFunction x f captures) = Some (x.identifier, Function f)
-- what an Assign gives is its source's, and the others make nothing; each is named, so that a new effect doesn't go
-- without a line
made_site (effect.ImmutableCapture a x) = None
made_site (effect.Assign a x) = None
made_site (effect.Alias a x) = None
made_site (effect.Capture a x) = None
made_site (effect.MaybeAlias a x) = None
made_site (effect.Freeze v reason) = None
made_site (effect.Impure p error) = None
made_site (effect.MutateFrozen p error) = None
made_site (effect.MutateGlobal p error) = None
made_site (effect.Render p) = None
made_site (effect.Mutate v reason) = None
made_site (effect.MutateConditionally v) = None
made_site (effect.MutateTransitive v) = None
made_site (effect.MutateTransitiveConditionally v) = None
made_site (effect.Apply receiver function mutates args into signature span) = None

-- the effects have keys, and these are equal
abbrev pub HaveOneKey : AliasingEffect → AliasingEffect → Type 0
HaveOneKey e f = (k : EffectKey) × (l : EffectKey) × (key_of e ≡ Some k) × (key_of f ≡ Some l) × (same_key k l ≡ true)
