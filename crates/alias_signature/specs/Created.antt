-- The effect that makes a value.
use Rattle.alias_hir.specs.declared.effect.AliasingEffect.{AliasingEffect}
use Rattle.alias_hir.specs.declared.effect.AliasingEffect.TheVariants.{Create}
use Rattle.alias_hir.specs.declared.effect.ValueKind.{ValueKind}
use Rattle.alias_hir.specs.declared.effect.ValueReason.TheVariants.{Other}
use Rattle.alias_hir.specs.declared.place.Place.{Place}

-- a new value of the kind, for no reason that is known
abbrev pub created : Place → ValueKind → AliasingEffect
created p k = Create p k Other
