-- The steps of the effects that lead to no other, and of those that lead to these alone. An effect is raised by
-- interning it, and
-- then it is stepped. Steps lead to others in layers, so that none leads back to itself: leaves, aliasing, simple and
-- plain ones.
use Rattle.std.specs.Prelude.{if◌then◌else◌}
use Rattle.alias_hir.specs.declared.effect.AliasingEffect.{AliasingEffect}
use Rattle.alias_hir.specs.declared.effect.AliasingEffect.TheVariants as effect
use Rattle.alias_hir.specs.declared.place.Place.{Place}
use Rattle.alias_tables.specs.Steps.{◌>>=◌, gives}
use Rattle.alias_tables.specs.Tables.{Step, intern}
use Rattle.alias_apply.specs.declared.progress.StepProgress.{StepProgress}
use Rattle.alias_apply.specs.Kinds.{is_constant, may_be_frozen}
use Rattle.alias_apply.specs.Progress.{record_of, looked_up_at, looked_up_with_span, kind_at}

-- ImmutableCapture: recorded unless the source is constant
abbrev pub apply_immutable_capture : Place → Place → StepProgress → StepProgress
apply_immutable_capture a x s =
    if is_constant (kind_at a s) then looked_up_at a s else record_of (effect.ImmutableCapture a x) (looked_up_at a s)

-- ImmutableCapture, and the effects that are just recorded
abbrev pub apply_leaf : AliasingEffect → StepProgress → StepProgress
apply_leaf (effect.ImmutableCapture a x) s = apply_immutable_capture a x s
apply_leaf (effect.Impure p error) s = record_of (effect.Impure p error) s
apply_leaf (effect.MutateFrozen p error) s = record_of (effect.MutateFrozen p error) s
apply_leaf (effect.MutateGlobal p error) s = record_of (effect.MutateGlobal p error) s
apply_leaf (effect.Render p) s = record_of (effect.Render p) s
-- the layers above have the steps of these; each is named, so that a new effect doesn't go without a step
apply_leaf (effect.Create x kind reason) s = s
apply_leaf (effect.CreateFrom a x) s = s
apply_leaf (effect.CreateFunction x f captures) s = s
apply_leaf (effect.Assign a x) s = s
apply_leaf (effect.Alias a x) s = s
apply_leaf (effect.MaybeAlias a x) s = s
apply_leaf (effect.Capture a x) s = s
apply_leaf (effect.Freeze v reason) s = s
apply_leaf (effect.Mutate v reason) s = s
apply_leaf (effect.MutateConditionally v) s = s
apply_leaf (effect.MutateTransitive v) s = s
apply_leaf (effect.MutateTransitiveConditionally v) s = s
apply_leaf (effect.Apply receiver function mutates args into signature span) s = s

abbrev pub intern_and_apply_leaf : AliasingEffect → StepProgress → Step StepProgress
intern_and_apply_leaf e s = do
  first ← intern e
  gives (apply_leaf first s)

-- ---- MaybeAlias

abbrev pub apply_maybe_alias : Place → Place → StepProgress → Step StepProgress
apply_maybe_alias a x s =
    let u = looked_up_with_span a (looked_up_with_span x s) in
    if may_be_frozen (kind_at a s) then intern_and_apply_leaf (effect.ImmutableCapture a x) u
    else gives (record_of (effect.MaybeAlias a x) u)

-- MaybeAlias, and the leaves
abbrev pub apply_aliasing : AliasingEffect → StepProgress → Step StepProgress
apply_aliasing (effect.MaybeAlias a x) s = apply_maybe_alias a x s
apply_aliasing e s = gives (apply_leaf e s)

abbrev pub intern_and_apply_aliasing : AliasingEffect → StepProgress → Step StepProgress
intern_and_apply_aliasing e s = do
  first ← intern e
  apply_aliasing first s
