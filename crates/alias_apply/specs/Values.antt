-- The steps of effects that make a value, or that put one into another.
use Rattle.std.specs.Prelude.{if◌then◌else◌}
use Rattle.alias_hir.specs.declared.effect.AliasingEffect.{AliasingEffect}
use Rattle.alias_hir.specs.declared.effect.AliasingEffect.TheVariants as effect
use Rattle.alias_hir.specs.declared.effect.ValueKind.{ValueKind}
use Rattle.alias_hir.specs.declared.effect.ValueKind.TheVariants.{Primitive, Global, Frozen, Mutable, Context}
use Rattle.alias_hir.specs.declared.effect.ValueKind.TheVariants.{MaybeFrozen}
use Rattle.alias_hir.specs.declared.effect.ValueReason.{ValueReason}
use Rattle.alias_hir.specs.declared.place.Place.{Place}
use Rattle.alias_lattice.specs.declared.site.Site.TheVariants.{Created, CreatedFrom, AssignFrozen, AssignCopy}
use Rattle.alias_lattice.specs.declared.value.AbstractValue.{AbstractValue}
use Rattle.alias_lattice.specs.Reasons.{primary_reason}
use Rattle.alias_lattice.specs.States.{lookup, given, assigned}
use Rattle.alias_tables.specs.declared.faults.Refusal.TheVariants.{AliasBeforeCreate}
use Rattle.alias_tables.specs.Steps.{◌>>=◌, gives, refuses}
use Rattle.alias_tables.specs.Tables.{Step}
use Rattle.alias_apply.specs.declared.progress.StepProgress.{StepProgress}
use Rattle.alias_apply.specs.Kinds.{is_constant, is_frozen, may_be_frozen, captures, may_alias, value_with}
use Rattle.alias_apply.specs.Leaves.{intern_and_apply_leaf, intern_and_apply_aliasing}
use Rattle.alias_apply.specs.Progress.{record_of, with_state, looked_up_at, looked_up_with_span, kind_at, is_made, made}

-- ---- values that are made

-- Create: the target gets a site of its own
abbrev pub apply_create : Place → ValueKind → ValueReason → StepProgress → Step StepProgress
apply_create x k r s = do
  u ← made x.identifier s
  gives (record_of (effect.Create x k r) (with_state
      (given x.identifier (Created x.identifier k r) (value_with k r) u.state) u))

-- what is recorded of a target that is made from a part, by the source's kind
abbrev pub record_create_from : ValueKind → ValueReason → Place → Place → StepProgress → Step StepProgress
record_create_from Primitive r a x s = gives (record_of (effect.Create x Primitive r) s)
record_create_from Global r a x s = gives (record_of (effect.Create x Global r) s)
record_create_from Frozen r a x s = intern_and_apply_leaf (effect.ImmutableCapture a x)
    (record_of (effect.Create x Frozen r) s)
record_create_from Mutable r a x s = gives (record_of (effect.CreateFrom a x) s)
record_create_from Context r a x s = gives (record_of (effect.CreateFrom a x) s)
record_create_from MaybeFrozen r a x s = gives (record_of (effect.CreateFrom a x) s)

-- CreateFrom: the target gets a site of its own, with the source's value
abbrev pub apply_create_from : Place → Place → StepProgress → Step StepProgress
apply_create_from a x s = do
  u ← made x.identifier s
  let v = lookup u.state a.identifier
  record_create_from v.kind (primary_reason v.reason) a x
      (with_state (given x.identifier (CreatedFrom a.identifier x.identifier) v u.state) (looked_up_at a u))

-- a target that is the same value, by the source's kind
abbrev pub assign_value : AbstractValue → Place → Place → StepProgress → Step StepProgress
assign_value v a x s =
    if is_frozen v.kind then (do
      u ← intern_and_apply_leaf (effect.ImmutableCapture a x) s
      gives (with_state (given x.identifier (AssignFrozen a.identifier x.identifier) v u.state) u))
    else (if is_constant v.kind then gives
    (with_state (given x.identifier (AssignCopy a.identifier x.identifier) v s.state) s)
    else gives (record_of (effect.Assign a x) (with_state (assigned x.identifier a.identifier s.state) s)))

abbrev pub apply_assign : Place → Place → StepProgress → Step StepProgress
apply_assign a x s = do
  u ← made x.identifier s
  assign_value (lookup u.state a.identifier) a x (looked_up_with_span a u)

-- ---- values that are put into others

-- Capture and Alias: by the kinds of source and target
abbrev pub apply_link : AliasingEffect → Place → Place → StepProgress → Step StepProgress
apply_link e a x s =
    let u = looked_up_with_span a (looked_up_with_span x s) in
    if may_be_frozen (kind_at a s) then intern_and_apply_leaf (effect.ImmutableCapture a x) u
    else (if captures (kind_at a s) (kind_at x s) then gives (record_of e u)
    else (if may_alias (kind_at a s) (kind_at x s) then intern_and_apply_aliasing (effect.MaybeAlias a x) u
    else gives u))

-- an Alias needs a target that is made here
abbrev pub apply_alias : Place → Place → StepProgress → Step StepProgress
apply_alias a x s =
    if is_made x.identifier s.made then apply_link (effect.Alias a x) a x s
    else refuses (AliasBeforeCreate x.identifier)
