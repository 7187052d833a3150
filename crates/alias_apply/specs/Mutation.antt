-- The steps of writes, and of freezes.
use Rattle.std.specs.Prelude.{Bool, ◌||◌, Option, None, Some, if◌then◌else◌}
use Rattle.alias_hir.specs.declared.effect.AliasingEffect.{AliasingEffect}
use Rattle.alias_hir.specs.declared.effect.AliasingEffect.TheVariants as effect
use Rattle.alias_hir.specs.declared.effect.ValueKind.{ValueKind}
use Rattle.alias_hir.specs.declared.effect.ValueKind.TheVariants.{Primitive, Global, Frozen, Mutable, Context}
use Rattle.alias_hir.specs.declared.effect.ValueKind.TheVariants.{MaybeFrozen}
use Rattle.alias_hir.specs.declared.effect.ValueReason.{ValueReason}
use Rattle.alias_hir.specs.declared.env.Config.{Config}
use Rattle.alias_hir.specs.declared.place.Place.{Place}
use Rattle.alias_hir.specs.declared.report.Report.{Report}
use Rattle.alias_hir.specs.Types.{is_ref_at}
use Rattle.alias_lattice.specs.declared.value.AbstractValue.{AbstractValue}
use Rattle.alias_lattice.specs.declared.mutation.MutateVariant.{MutateVariant}
use Rattle.alias_lattice.specs.declared.mutation.MutationResult.{MutationResult}
use Rattle.alias_lattice.specs.declared.mutation.MutationResult.TheVariants as result
use Rattle.alias_lattice.specs.Mutations.{mutation}
use Rattle.alias_lattice.specs.States.{lookup, frozen, does_freeze}
use Rattle.alias_apply.specs.freezing.Contexts.{context_of}
use Rattle.alias_apply.specs.freezing.Transitive.{place_frozen_transitively}
use Rattle.alias_tables.specs.Steps.{◌>>=◌, gives}
use Rattle.alias_tables.specs.Tables.{Step, intern_report}
use Rattle.alias_apply.specs.declared.progress.StepProgress.{StepProgress}
use Rattle.alias_apply.specs.Contexts.{StepContext, hoisted_access}
use Rattle.alias_apply.specs.Kinds.{is_frozen, is_writable}
use Rattle.alias_apply.specs.Leaves.{intern_and_apply_leaf}
use Rattle.alias_apply.specs.Progress.{record_of, with_state, looked_up_with_span, noted, kind_at}
use Rattle.alias_apply.specs.Reports.{write_report, hoisting_report}

-- a report on the place is interned, and its error is stepped
abbrev pub intern_and_apply_mutate_frozen : Report → Place → StepProgress → Step StepProgress
intern_and_apply_mutate_frozen r v s = do
  error ← intern_report v.identifier r
  intern_and_apply_leaf (effect.MutateFrozen v error) s

abbrev pub intern_and_apply_mutate_global : Report → Place → StepProgress → Step StepProgress
intern_and_apply_mutate_global r v s = do
  error ← intern_report v.identifier r
  intern_and_apply_leaf (effect.MutateGlobal v error) s

-- whether a freeze goes on into the functions that it reaches
abbrev pub freezes_on : Config → Bool
freezes_on c = c.enable_preserve_existing_memoization_guarantees || c.enable_transitively_freeze_function_expressions

module _ (c : StepContext) where
  -- a write of a value that isn't to be written
  abbrev pub report_write : AbstractValue → Place → StepProgress → Step StepProgress
  report_write there v s =
      let r = write_report c.env v.identifier v.span there.reason in
      if is_frozen there.kind then intern_and_apply_mutate_frozen r v s else intern_and_apply_mutate_global r v s

  -- a write of a value that may be frozen: of a variable that is hoisted, it comes before the declaration
  abbrev pub report_hoisted_write : Option (Option Place) → AbstractValue → Place → StepProgress → Step StepProgress
  report_hoisted_write (Some access) there v s =
      intern_and_apply_mutate_frozen (hoisting_report c.env v.identifier v.span access) v s
  report_hoisted_write None there v s = report_write there v s

  -- what a definite write does, by the kind of what it writes
  abbrev pub record_mutation : ValueKind → AbstractValue → AliasingEffect → Place → StepProgress → Step StepProgress
  record_mutation Mutable there e v s = gives (record_of e s)
  record_mutation Context there e v s = gives (record_of e s)
  record_mutation Primitive there e v s = gives s
  record_mutation Frozen there e v s = report_hoisted_write (hoisted_access c v.identifier) there v s
  record_mutation MaybeFrozen there e v s = report_hoisted_write (hoisted_access c v.identifier) there v s
  record_mutation Global there e v s = report_write there v s

  -- Mutate and MutateTransitive: a ref may be written
  abbrev pub apply_mutate : AliasingEffect → Place → StepProgress → Step StepProgress
  apply_mutate e v s =
      if is_ref_at c.env v.identifier then gives s
      else record_mutation (kind_at v s) (lookup s.state v.identifier) e v (looked_up_with_span v s)

  -- the conditional ones: recorded where the value is writable
  abbrev pub apply_mutate_conditionally : AliasingEffect → Place → StepProgress → StepProgress
  apply_mutate_conditionally e v s =
      if is_ref_at c.env v.identifier then s
      else (if is_writable (kind_at v s) then record_of e (looked_up_with_span v s) else looked_up_with_span v s)

  -- the same, by what the state answers of a write
  abbrev pub record_result : MutationResult → AliasingEffect → Place → StepProgress → Step StepProgress
  record_result result.Mutate e v s = gives (record_of e s)
  record_result result.None e v s = gives s
  record_result result.MutateRef e v s = gives s
  record_result result.MutateFrozen e v s =
      report_hoisted_write (hoisted_access c v.identifier) (lookup s.state v.identifier) v s
  record_result result.MutateGlobal e v s = report_write (lookup s.state v.identifier) v s

  abbrev pub apply_mutation : MutateVariant → AliasingEffect → Place → StepProgress → Step StepProgress
  apply_mutation w e v s =
      let m = mutation c.env w v.identifier v.span s.state in
      record_result m.result e v (noted m.missing s)

  -- Freeze: recorded where it acts, and gone on with where that is asked
  abbrev pub apply_freeze : Place → ValueReason → StepProgress → StepProgress
  apply_freeze v r s =
      let u = record_of (effect.Freeze v r) (with_state (frozen v.identifier r s.state) s) in
      if does_freeze s.state v.identifier then (if freezes_on c.env.config
      then with_state (place_frozen_transitively r (context_of c.env) v.identifier u.state) u else u)
      else with_state (frozen v.identifier r s.state) s
