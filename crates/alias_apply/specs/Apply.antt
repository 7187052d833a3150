-- The step of each effect but calls.
use Rattle.std.specs.Prelude.{Bool, true, false, ◌&&◌, ◌||◌, List, Option, None, Some, if◌then◌else◌}
use Rattle.std.specs.List.{list_any}
use Rattle.std.specs.Option.{is_some}
use Rattle.alias_base.specs.declared.ids.FunctionId.{FunctionId}
use Rattle.alias_hir.specs.declared.effect.AliasingEffect.{AliasingEffect}
use Rattle.alias_hir.specs.declared.effect.AliasingEffect.TheVariants as effect
use Rattle.alias_hir.specs.declared.effect.ValueKind.TheVariants.{Frozen, Mutable}
use Rattle.alias_hir.specs.declared.place.Effect.{Effect}
use Rattle.alias_hir.specs.declared.place.Effect.TheVariants as use_of
use Rattle.alias_hir.specs.declared.place.Place.{Place}
use Rattle.alias_hir.specs.Effects.{error_of}
use Rattle.alias_hir.specs.Types.{is_ref_at}
use Rattle.alias_lattice.specs.declared.site.Site.TheVariants.{Function}
use Rattle.alias_lattice.specs.declared.value.AbstractValue.{AbstractValue}
use Rattle.alias_lattice.specs.States.{State, lookup, sites_of, given}
use Rattle.alias_apply.specs.freezing.Contexts.{context_of}
use Rattle.alias_tables.specs.Steps.{◌>>=◌, gives, each}
use Rattle.alias_tables.specs.Tables.{Step, intern, noted}
use Rattle.alias_apply.specs.declared.progress.StepProgress.{StepProgress}
use Rattle.alias_apply.specs.Contexts.{StepContext, summary_of}
use Rattle.alias_apply.specs.Kinds.{is_writable, is_read_only}
use Rattle.alias_apply.specs.Leaves.{apply_aliasing}
use Rattle.alias_apply.specs.Mutation.{apply_mutate, apply_mutate_conditionally, apply_freeze}
use Rattle.alias_apply.specs.Progress.{record_of, with_state, made}
use Rattle.alias_apply.specs.Values.{apply_create, apply_create_from, apply_assign, apply_link, apply_alias}

-- the place is defined, and may be written
abbrev pub is_mutable_capture : State → Place → Bool
is_mutable_capture u p = is_some (sites_of u p.identifier) && is_writable (lookup u p.identifier).kind

abbrev pub is_error : AliasingEffect → Bool
is_error e = is_some (error_of e)

abbrev pub has_error : Option (List AliasingEffect) → Bool
has_error None = false
has_error (Some summary) = list_any is_error summary

abbrev pub function_value : Bool → AbstractValue
function_value b = record { kind = (if b then Mutable else Frozen); reason = 0 }

abbrev pub is_capture : Effect → Bool
is_capture use_of.Capture = true
is_capture u = false

-- the function takes the place in, and its value is only read
abbrev pub is_read_capture : State → Place → Bool
is_read_capture u p = is_capture p.effect && is_some (sites_of u p.identifier)
    && is_read_only (lookup u p.identifier).kind

abbrev pub note_read_capture : FunctionId → Place → StepProgress → Step StepProgress
note_read_capture f p s = if is_read_capture s.state p then noted (record { function = f; place = p.identifier }) s
    else gives s

module _ (c : StepContext) where
  -- the effects that create no function and are no calls
  abbrev pub apply_simple : AliasingEffect → StepProgress → Step StepProgress
  apply_simple (effect.Create x k r) s = apply_create x k r s
  apply_simple (effect.CreateFrom a x) s = apply_create_from a x s
  apply_simple (effect.Assign a x) s = apply_assign a x s
  apply_simple (effect.Capture a x) s = apply_link (effect.Capture a x) a x s
  apply_simple (effect.Alias a x) s = apply_alias a x s
  apply_simple (effect.Freeze v r) s = gives (apply_freeze c v r s)
  apply_simple (effect.Mutate v r) s = apply_mutate c (effect.Mutate v r) v s
  apply_simple (effect.MutateTransitive v) s = apply_mutate c (effect.MutateTransitive v) v s
  apply_simple (effect.MutateConditionally v) s =
      gives (apply_mutate_conditionally c (effect.MutateConditionally v) v s)
  apply_simple (effect.MutateTransitiveConditionally v) s =
      gives (apply_mutate_conditionally c (effect.MutateTransitiveConditionally v) v s)
  apply_simple e s = apply_aliasing e s

  abbrev pub intern_and_apply_simple : AliasingEffect → StepProgress → Step StepProgress
  intern_and_apply_simple e s = do
    first ← intern e
    apply_simple first s

  -- a function is mutable where it takes in what may be written, its summary has an error, or it takes in a ref
  abbrev pub is_mutable_function : FunctionId → List Place → State → Bool
  is_mutable_function f captures u =
      list_any (is_mutable_capture u) captures || has_error (summary_of c.env f)
      || list_any (λ (p : Place). is_ref_at c.env p.identifier) (context_of c.env f)

  -- each of the places is captured
  abbrev pub capture_each : Place → List Place → StepProgress → Step StepProgress
  capture_each x captures = each (λ p. intern_and_apply_simple (effect.Capture p x)) captures

  abbrev pub apply_create_function : Place → FunctionId → List Place → StepProgress → Step StepProgress
  apply_create_function x f captures s = do
    u ← made x.identifier s
    v ← each (note_read_capture f) (context_of c.env f) (record_of (effect.CreateFunction x f captures) u)
    capture_each x captures (with_state (given x.identifier (Function f)
        (function_value (is_mutable_function f captures v.state)) v.state) v)

  -- all effects but calls, which are stepped elsewhere
  abbrev pub apply_plain : AliasingEffect → StepProgress → Step StepProgress
  apply_plain (effect.CreateFunction x f captures) s = apply_create_function x f captures s
  apply_plain (effect.Apply receiver function mutates args into signature span) s = gives s
  apply_plain e s = apply_simple e s

  abbrev pub intern_and_apply_plain : AliasingEffect → StepProgress → Step StepProgress
  intern_and_apply_plain e s = do
    first ← intern e
    apply_plain first s

  -- the steps of a list of effects that holds no call
  abbrev pub intern_and_apply_all_plain : List AliasingEffect → StepProgress → Step StepProgress
  intern_and_apply_all_plain = each intern_and_apply_plain
