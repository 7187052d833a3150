-- The bounds of memoization that the author wrote.
use Rattle.std.specs.Prelude.{List, [], ◌∷◌, ◌++◌, map, if◌then◌else◌}
use Rattle.alias_hir.specs.declared.effect.AliasingEffect.{AliasingEffect}
use Rattle.alias_hir.specs.declared.effect.AliasingEffect.TheVariants.{Freeze}
use Rattle.alias_hir.specs.declared.effect.ValueKind.TheVariants.{Primitive}
use Rattle.alias_hir.specs.declared.effect.ValueReason.TheVariants.{HookCaptured}
use Rattle.alias_hir.specs.declared.env.Environment.{Environment}
use Rattle.alias_hir.specs.declared.place.Place.{Place}
use Rattle.alias_signature.specs.Created.{created}

abbrev pub frozen : Place → AliasingEffect
frozen p = Freeze p HookCaptured

-- the operands are frozen where memoization that is there is kept
abbrev pub memoize_effects : Environment → Place → List Place → List AliasingEffect
memoize_effects env l operands = (if env.config.enable_preserve_existing_memoization_guarantees then map frozen operands
    else []) ++ created l Primitive ∷ []
