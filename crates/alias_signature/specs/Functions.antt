-- New functions.
use Rattle.std.specs.Prelude.{List, [], ◌∷◌}
use Rattle.std.specs.List.{flat_map}
use Rattle.alias_base.specs.declared.ids.FunctionId.{FunctionId}
use Rattle.alias_hir.specs.declared.effect.AliasingEffect.{AliasingEffect}
use Rattle.alias_hir.specs.declared.effect.AliasingEffect.TheVariants.{CreateFunction}
use Rattle.alias_hir.specs.declared.env.Environment.{Environment}
use Rattle.alias_hir.specs.declared.place.Effect.{Effect}
use Rattle.alias_hir.specs.declared.place.Effect.TheVariants as operand
use Rattle.alias_hir.specs.declared.place.Place.{Place}
use Rattle.alias_visit.specs.Operands.{context_at}

abbrev pub captured_by : Effect → Place → List Place
captured_by operand.Capture p = p ∷ []
captured_by e p = []

-- the place, if its effect is Capture
abbrev pub captured : Place → List Place
captured p = captured_by p.effect p

-- a new function, which captures those of its context places whose effect is Capture
abbrev pub function_effects : Environment → Place → FunctionId → List AliasingEffect
function_effects env l f = CreateFunction l f (flat_map captured (context_at env f)) ∷ []
