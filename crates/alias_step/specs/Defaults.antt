-- A call of which nothing is known.
use Rattle.std.specs.Prelude.{◌&&◌, not, List, if◌then◌else◌}
use Rattle.alias_hir.specs.declared.effect.AliasingEffect.TheVariants as effect
use Rattle.alias_hir.specs.declared.effect.ValueKind.TheVariants.{Mutable}
use Rattle.alias_hir.specs.declared.effect.ValueReason.TheVariants.{Other}
use Rattle.alias_hir.specs.Types.{is_builtin_collection_at}
use Rattle.alias_tables.specs.Steps.{◌>>=◌, gives, each}
use Rattle.alias_tables.specs.Tables.{Step}
use Rattle.alias_apply.specs.declared.progress.StepProgress.{StepProgress}
use Rattle.alias_apply.specs.Apply.{intern_and_apply_simple}
use Rattle.alias_apply.specs.Contexts.{StepContext}
use Rattle.alias_step.specs.declared.call.Operand.{Operand}
use Rattle.alias_step.specs.Operands.{Call, same_place, operands}

module _ (c : StepContext) where
  -- an operand may be written, unless it is a function that the call doesn't write
  abbrev pub mutate_operand : Call → Operand → StepProgress → Step StepProgress
  mutate_operand call o s =
      if same_place o.place call.function && not call.mutates_function then gives s
      else intern_and_apply_simple c (effect.MutateTransitiveConditionally o.place) s

  -- a spread is iterated, which may write it unless it is an array, a set or a map
  abbrev pub iterate_operand : Operand → StepProgress → Step StepProgress
  iterate_operand o s =
      if o.is_spread && not (is_builtin_collection_at c.env o.place.identifier)
      then intern_and_apply_simple c (effect.MutateTransitiveConditionally o.place) s
      else gives s

  -- an operand may be put into another, and a spread into itself
  abbrev pub capture_operand : Operand → Operand → StepProgress → Step StepProgress
  capture_operand o other s =
      if same_place other.place o.place && not o.is_spread then gives s
      else intern_and_apply_simple c (effect.Capture o.place other.place) s

  abbrev pub capture_operand_in_each : Operand → List Operand → StepProgress → Step StepProgress
  capture_operand_in_each o = each (capture_operand o)

  -- what a call may do with an operand, where these are all of them
  abbrev pub apply_operand : Call → List Operand → Operand → StepProgress → Step StepProgress
  apply_operand call all o s = do
    t ← mutate_operand call o s
    u ← iterate_operand o t
    v ← intern_and_apply_simple c (effect.MaybeAlias o.place call.site.into) u
    capture_operand_in_each o all v

  abbrev pub apply_operands : Call → List Operand → List Operand → StepProgress → Step StepProgress
  apply_operands call all = each (apply_operand call all)

  -- the result is new, and each operand may be written, and put into the result and into each other
  abbrev pub apply_by_default : Call → StepProgress → Step StepProgress
  apply_by_default call s = do
    t ← intern_and_apply_simple c (effect.Create call.site.into Mutable Other) s
    apply_operands call (operands call) (operands call) t
