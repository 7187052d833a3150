-- How many reports and recorded effects the step of an effect adds, which is no call and creates no function: two at
-- most.
use Rattle.std.specs.Prelude.{◌≡◌, ℕ, ◌+◌, ◌*◌, ◌≤◌, Bool, true, false, if◌then◌else◌, List, [], ◌∷◌, ◌++◌, length}
use Rattle.std.specs.Prelude.{Option, Some, None, refl}
use Rattle.std.specs.List.{AllByRecursion}
use Rattle.std.proofs.Common.{ap, ◌∙◌, arith}
use Rattle.std.proofs.lemmas.List.{length-append}
use Rattle.alias_base.specs.declared.ids.IdentifierId.{IdentifierId}
use Rattle.alias_hir.specs.declared.effect.AliasingEffect.{AliasingEffect}
use Rattle.alias_hir.specs.declared.effect.AliasingEffect.TheVariants as effect
use Rattle.alias_hir.specs.declared.effect.ValueKind.{ValueKind}
use Rattle.alias_hir.specs.declared.effect.ValueKind.TheVariants.{Primitive, Global, Frozen, Mutable, Context}
use Rattle.alias_hir.specs.declared.effect.ValueKind.TheVariants.{MaybeFrozen}
use Rattle.alias_hir.specs.declared.effect.ValueReason.{ValueReason}
use Rattle.alias_hir.specs.declared.place.Place.{Place}
use Rattle.alias_hir.specs.declared.report.ReportId.{ReportId}
use Rattle.alias_hir.specs.declared.report.Report.{Report}
use Rattle.alias_hir.specs.Types.{is_ref_at}
use Rattle.alias_lattice.specs.declared.site.Site.TheVariants.{Created, CreatedFrom, AssignFrozen, AssignCopy}
use Rattle.alias_lattice.specs.declared.value.AbstractValue.{AbstractValue}
use Rattle.alias_lattice.specs.Reasons.{primary_reason}
use Rattle.alias_lattice.specs.States.{lookup, given, assigned, frozen, does_freeze}
use Rattle.alias_tables.specs.declared.faults.Refusal.TheVariants.{Reinitialized, AliasBeforeCreate}
use Rattle.alias_tables.specs.Steps.{◌>>=◌, gives, refuses}
use Rattle.alias_tables.specs.Tables.{Step, intern, intern_report}
use Rattle.alias_apply.specs.declared.progress.StepProgress.{StepProgress}
use Rattle.alias_apply.specs.Apply.{apply_simple, apply_plain, intern_and_apply_plain}
use Rattle.alias_apply.specs.Contexts.{StepContext, hoisted_access}
use Rattle.alias_apply.specs.Kinds.{is_constant, is_frozen, is_writable, may_be_frozen, captures, may_alias, value_with}
use Rattle.alias_apply.specs.Leaves.{apply_leaf, intern_and_apply_leaf, apply_maybe_alias, apply_aliasing}
use Rattle.alias_apply.specs.Leaves.{intern_and_apply_aliasing}
use Rattle.alias_apply.specs.Mutation.{intern_and_apply_mutate_frozen, intern_and_apply_mutate_global, report_write}
use Rattle.alias_apply.specs.Mutation.{report_hoisted_write, record_mutation, apply_mutate, apply_mutate_conditionally}
use Rattle.alias_apply.specs.Mutation.{apply_freeze, freezes_on}
use Rattle.alias_apply.specs.Progress.{record_of, with_state, looked_up_at, looked_up_with_span, kind_at, is_made, made}
use Rattle.alias_apply.specs.Reports.{write_report, hoisting_report}
use Rattle.alias_apply.specs.Values.{apply_create, record_create_from, apply_create_from, assign_value, apply_assign}
use Rattle.alias_apply.specs.Values.{apply_link, apply_alias}
use Rattle.alias_step.specs.Calls.{apply_effect, apply_effects}
use Rattle.alias_completeness.specs.Shapes.{shape_at, IsAlike}
use Rattle.alias_made_result_laws.specs.counts.Adding.{IsOther, Adds, adds_gives, adds_on, adds_then, adds_if}
use Rattle.alias_made_result_laws.specs.counts.Adding.{adds_report, adds_intern}

-- from s at most k effects more were recorded
abbrev pub IsWithin : ℕ → StepProgress → StepProgress → Type 0
IsWithin k s u = length u.recorded ≤ length s.recorded + k

-- a step from s adds at most k reports, and at most k effects are recorded
abbrev pub Counts : ℕ → StepProgress → Step StepProgress → Type 0
Counts k s f = Adds IsOther k (IsWithin k s) f

-- ---- steps one after the other

pub counts_gives : (k : ℕ) (s u : StepProgress) → IsWithin k s u → Counts k s (gives u)
counts_gives k s u h = adds_gives IsOther k (IsWithin k s) u h

pub counts_on : (j k : ℕ) (s : StepProgress) (f : Step StepProgress) → j ≤ k → Counts j s f → Counts k s f
counts_on j k s f le h = adds_on IsOther j k (IsWithin j s) (IsWithin k s) f le (λ u w. omega (arith, le, w)) h

pub counts_then : (j k : ℕ) (s : StepProgress) (f : Step StepProgress) (g : StepProgress → Step StepProgress)
    → Counts j s f → ((u : StepProgress) → Counts k u (g u)) → Counts (j + k) s (f >>= g)
counts_then j k s f g h m =
    adds_then IsOther j k (IsWithin j s) (IsWithin (j + k) s) f g h
    (λ u w. adds_on IsOther k k (IsWithin k u) (IsWithin (j + k) s) (g u) (omega arith) (λ v x. omega (arith, w, x))
    (m u))

pub counts_if : (k : ℕ) (s : StepProgress) (b : Bool) (f g : Step StepProgress) → Counts k s f → Counts k s g
    → Counts k s (if b then f else g)
counts_if k s b f g h m = adds_if IsOther k (IsWithin k s) b f g h m

-- ---- what is recorded

recorded_one : (e : AliasingEffect) (s : StepProgress) → IsWithin 1 s (record_of e s)
recorded_one e s = omega (arith, length-append s.recorded (e ∷ []))

within_if : (k : ℕ) (s : StepProgress) (b : Bool) (u v : StepProgress) → IsWithin k s u → IsWithin k s v
    → IsWithin k s (if b then u else v)
within_if k s true u v h m = h
within_if k s false u v h m = m

within_one : (s : StepProgress) → IsWithin 1 s s
within_one s = omega arith

within_leaf : (e : AliasingEffect) (s : StepProgress) → IsWithin 1 s (apply_leaf e s)
within_leaf (effect.ImmutableCapture a x) s =
    within_if 1 s (is_constant (kind_at a s)) (looked_up_at a s)
    (record_of (effect.ImmutableCapture a x) (looked_up_at a s)) (within_one s)
    (recorded_one (effect.ImmutableCapture a x) s)
within_leaf (effect.Impure p error) s = recorded_one (effect.Impure p error) s
within_leaf (effect.MutateFrozen p error) s = recorded_one (effect.MutateFrozen p error) s
within_leaf (effect.MutateGlobal p error) s = recorded_one (effect.MutateGlobal p error) s
within_leaf (effect.Render p) s = recorded_one (effect.Render p) s
within_leaf e s = within_one s

module _ (c : StepContext) where
  counts_recorded : (e : AliasingEffect) (s : StepProgress) → Counts 1 s (gives (record_of e s))
  counts_recorded e s = counts_gives 1 s (record_of e s) (recorded_one e s)

  counts_recorded_more : (e : AliasingEffect) (s : StepProgress) → Counts 2 s (gives (record_of e s))
  counts_recorded_more e s = counts_on 1 2 s (gives (record_of e s)) (omega arith) (counts_recorded e s)

  counts_raised : (k : ℕ) (s : StepProgress) (step : AliasingEffect → Step StepProgress) (e : AliasingEffect)
      → ((f : AliasingEffect) → IsAlike e f → Counts k s (step f)) → Counts k s (intern e >>= step)
  counts_raised k s step e h = adds_on IsOther (0 + k) k (IsWithin k s) (IsWithin k s) (intern e >>= step) (omega arith)
      (λ u w. w) (adds_then IsOther 0 k (IsAlike e) (IsWithin k s) (intern e) step (adds_intern c.env e) h)

  counts_intern_and_apply_leaf : (e : AliasingEffect) (s : StepProgress) → Counts 1 s (intern_and_apply_leaf e s)
  counts_intern_and_apply_leaf e s = counts_raised 1 s (λ f. gives (apply_leaf f s)) e
      (λ f a. counts_gives 1 s (apply_leaf f s) (within_leaf f s))

  counts_maybe_alias : (a x : Place) (s : StepProgress) → Counts 1 s (apply_maybe_alias a x s)
  counts_maybe_alias a x s =
      let u = looked_up_with_span a (looked_up_with_span x s) in
      counts_if 1 s (may_be_frozen (kind_at a s)) (intern_and_apply_leaf (effect.ImmutableCapture a x) u)
      (gives (record_of (effect.MaybeAlias a x) u)) (counts_intern_and_apply_leaf (effect.ImmutableCapture a x) u)
      (counts_recorded (effect.MaybeAlias a x) u)

  counts_aliasing : (e : AliasingEffect) (s : StepProgress) → Counts 1 s (apply_aliasing e s)
  counts_aliasing (effect.MaybeAlias a x) s = counts_maybe_alias a x s
  counts_aliasing e s = counts_gives 1 s (apply_leaf e s) (within_leaf e s)

  counts_intern_and_apply_aliasing : (e : AliasingEffect) (s : StepProgress)
      → Counts 1 s (intern_and_apply_aliasing e s)
  counts_intern_and_apply_aliasing e s = counts_raised 1 s (λ f. apply_aliasing f s) e (λ f a. counts_aliasing f s)

  -- ---- values

  counts_made : (x : IdentifierId) (s : StepProgress) → Counts 0 s (made x s)
  counts_made x s = counts_if 0 s (is_made x s.made) (refuses (Reinitialized x))
      (gives (record s { made = s.made ++ x ∷ [] })) (λ t room. tt)
      (counts_gives 0 s (record s { made = s.made ++ x ∷ [] }) (omega arith))

  counts_create : (x : Place) (k : ValueKind) (r : ValueReason) (s : StepProgress) → Counts 1 s (apply_create x k r s)
  counts_create x k r s =
      counts_then 0 1 s (made x.identifier s)
      (λ u. gives (record_of (effect.Create x k r)
      (with_state (given x.identifier (Created x.identifier k r) (value_with k r) u.state) u)))
      (counts_made x.identifier s)
      (λ u. counts_recorded (effect.Create x k r)
      (with_state (given x.identifier (Created x.identifier k r) (value_with k r) u.state) u))

  counts_record_from : (k : ValueKind) (r : ValueReason) (a x : Place) (s : StepProgress)
      → Counts 2 s (record_create_from k r a x s)
  counts_record_from Primitive r a x s = counts_recorded_more (effect.Create x Primitive r) s
  counts_record_from Global r a x s = counts_recorded_more (effect.Create x Global r) s
  counts_record_from Frozen r a x s = counts_then 1 1 s (gives (record_of (effect.Create x Frozen r) s))
      (intern_and_apply_leaf (effect.ImmutableCapture a x)) (counts_recorded (effect.Create x Frozen r) s)
      (counts_intern_and_apply_leaf (effect.ImmutableCapture a x))
  counts_record_from Mutable r a x s = counts_recorded_more (effect.CreateFrom a x) s
  counts_record_from Context r a x s = counts_recorded_more (effect.CreateFrom a x) s
  counts_record_from MaybeFrozen r a x s = counts_recorded_more (effect.CreateFrom a x) s

  counts_create_from : (a x : Place) (s : StepProgress) → Counts 2 s (apply_create_from a x s)
  counts_create_from a x s =
      counts_then 0 2 s (made x.identifier s) _ (counts_made x.identifier s)
      (λ u. let v = lookup u.state a.identifier in
      counts_record_from v.kind (primary_reason v.reason) a x
      (with_state (given x.identifier (CreatedFrom a.identifier x.identifier) v u.state) (looked_up_at a u)))

  counts_assigned : (v : AbstractValue) (a x : Place) (s : StepProgress) → Counts 1 s (assign_value v a x s)
  counts_assigned v a x s =
      counts_if 1 s (is_frozen v.kind) (intern_and_apply_leaf (effect.ImmutableCapture a x) s
      >>= (λ u. gives (with_state (given x.identifier (AssignFrozen a.identifier x.identifier) v u.state) u)))
      (if is_constant v.kind then gives (with_state
      (given x.identifier (AssignCopy a.identifier x.identifier) v s.state) s)
      else gives (record_of (effect.Assign a x) (with_state (assigned x.identifier a.identifier s.state) s)))
      (counts_then 1 0 s (intern_and_apply_leaf (effect.ImmutableCapture a x) s)
      (λ u. gives (with_state (given x.identifier (AssignFrozen a.identifier x.identifier) v u.state) u))
      (counts_intern_and_apply_leaf (effect.ImmutableCapture a x) s)
      (λ u. counts_gives 0 u (with_state (given x.identifier (AssignFrozen a.identifier x.identifier) v u.state) u)
      (omega arith)))
      (counts_if 1 s (is_constant v.kind) (gives
      (with_state (given x.identifier (AssignCopy a.identifier x.identifier) v s.state) s))
      (gives (record_of (effect.Assign a x) (with_state (assigned x.identifier a.identifier s.state) s)))
      (counts_gives 1 s (with_state (given x.identifier (AssignCopy a.identifier x.identifier) v s.state) s)
      (within_one s)) (counts_recorded (effect.Assign a x)
      (with_state (assigned x.identifier a.identifier s.state) s)))

  counts_assign : (a x : Place) (s : StepProgress) → Counts 1 s (apply_assign a x s)
  counts_assign a x s = counts_then 0 1 s (made x.identifier s)
      (λ u. assign_value (lookup u.state a.identifier) a x (looked_up_with_span a u)) (counts_made x.identifier s)
      (λ u. counts_assigned (lookup u.state a.identifier) a x (looked_up_with_span a u))

  counts_link : (e : AliasingEffect) (a x : Place) (s : StepProgress) → Counts 1 s (apply_link e a x s)
  counts_link e a x s =
      let u = looked_up_with_span a (looked_up_with_span x s) in
      counts_if 1 s (may_be_frozen (kind_at a s)) _ _ (counts_intern_and_apply_leaf (effect.ImmutableCapture a x) u)
      (counts_if 1 s (captures (kind_at a s) (kind_at x s)) _ _ (counts_recorded e u)
      (counts_if 1 s (may_alias (kind_at a s) (kind_at x s)) _ _
      (counts_intern_and_apply_aliasing (effect.MaybeAlias a x) u) (counts_gives 1 s u (within_one s))))

  counts_alias : (a x : Place) (s : StepProgress) → Counts 1 s (apply_alias a x s)
  counts_alias a x s = counts_if 1 s (is_made x.identifier s.made) _ (refuses (AliasBeforeCreate x.identifier))
      (counts_link (effect.Alias a x) a x s) (λ t room. tt)

  -- ---- writes

  counts_reported : (id : IdentifierId) (r : Report) (s : StepProgress) (step : ReportId → Step StepProgress)
      → ((d : ReportId) → Counts 1 s (step d)) → Counts 2 s (intern_report id r >>= step)
  counts_reported id r s step h = adds_then IsOther 1 1 (λ (d : ReportId). Unit {0}) (IsWithin 2 s) (intern_report id r)
      step (adds_report id r) (λ d q. adds_on IsOther 1 1 (IsWithin 1 s) (IsWithin 2 s) (step d) (omega arith)
      (λ u w. omega (arith, w)) (h d))

  counts_frozen : (r : Report) (v : Place) (s : StepProgress) → Counts 2 s (intern_and_apply_mutate_frozen r v s)
  counts_frozen r v s = counts_reported v.identifier r s (λ d. intern_and_apply_leaf (effect.MutateFrozen v d) s)
      (λ d. counts_intern_and_apply_leaf (effect.MutateFrozen v d) s)

  counts_global : (r : Report) (v : Place) (s : StepProgress) → Counts 2 s (intern_and_apply_mutate_global r v s)
  counts_global r v s = counts_reported v.identifier r s (λ d. intern_and_apply_leaf (effect.MutateGlobal v d) s)
      (λ d. counts_intern_and_apply_leaf (effect.MutateGlobal v d) s)

  counts_write : (there : AbstractValue) (v : Place) (s : StepProgress) → Counts 2 s (report_write c there v s)
  counts_write there v s = let r = write_report c.env v.identifier v.span there.reason in
      counts_if 2 s (is_frozen there.kind) _ _ (counts_frozen r v s) (counts_global r v s)

  counts_hoisted : (o : Option (Option Place)) (there : AbstractValue) (v : Place) (s : StepProgress)
      → Counts 2 s (report_hoisted_write c o there v s)
  counts_hoisted (Some access) there v s = counts_frozen (hoisting_report c.env v.identifier v.span access) v s
  counts_hoisted None there v s = counts_write there v s

  counts_mutation : (k : ValueKind) (there : AbstractValue) (e : AliasingEffect) (v : Place) (s : StepProgress)
      → Counts 2 s (record_mutation c k there e v s)
  counts_mutation Mutable there e v s = counts_recorded_more e s
  counts_mutation Context there e v s = counts_recorded_more e s
  counts_mutation Primitive there e v s = counts_gives 2 s s (omega arith)
  counts_mutation Frozen there e v s = counts_hoisted (hoisted_access c v.identifier) there v s
  counts_mutation MaybeFrozen there e v s = counts_hoisted (hoisted_access c v.identifier) there v s
  counts_mutation Global there e v s = counts_write there v s

  counts_mutate : (e : AliasingEffect) (v : Place) (s : StepProgress) → Counts 2 s (apply_mutate c e v s)
  counts_mutate e v s = counts_if 2 s (is_ref_at c.env v.identifier) _ _ (counts_gives 2 s s (omega arith))
      (counts_mutation (kind_at v s) (lookup s.state v.identifier) e v (looked_up_with_span v s))

  within_conditionally : (e : AliasingEffect) (v : Place) (s : StepProgress)
      → IsWithin 1 s (apply_mutate_conditionally c e v s)
  within_conditionally e v s = within_if 1 s (is_ref_at c.env v.identifier) _ _ (within_one s)
      (within_if 1 s (is_writable (kind_at v s)) _ _ (recorded_one e (looked_up_with_span v s)) (within_one s))

  within_freeze : (v : Place) (r : ValueReason) (s : StepProgress) → IsWithin 1 s (apply_freeze c v r s)
  within_freeze v r s =
      let u = record_of (effect.Freeze v r) (with_state (frozen v.identifier r s.state) s) in
      let one = recorded_one (effect.Freeze v r) (with_state (frozen v.identifier r s.state) s) in
      within_if 1 s (does_freeze s.state v.identifier) _ _ (within_if 1 s (freezes_on c.env.config) _ _ one one)
      (within_one s)

  -- ---- all effects but calls and functions

  counts_more : (s : StepProgress) (f : Step StepProgress) → Counts 1 s f → Counts 2 s f
  counts_more s f h = counts_on 1 2 s f (omega arith) h

  counts_conditionally : (e : AliasingEffect) (v : Place) (s : StepProgress)
      → Counts 2 s (gives (apply_mutate_conditionally c e v s))
  counts_conditionally e v s = counts_more s (gives (apply_mutate_conditionally c e v s))
      (counts_gives 1 s (apply_mutate_conditionally c e v s) (within_conditionally e v s))

  counts_simple : (e : AliasingEffect) (s : StepProgress) → Counts 2 s (apply_simple c e s)
  counts_simple (effect.Create x k r) s = counts_more s (apply_create x k r s) (counts_create x k r s)
  counts_simple (effect.CreateFrom a x) s = counts_create_from a x s
  counts_simple (effect.Assign a x) s = counts_more s (apply_assign a x s) (counts_assign a x s)
  counts_simple (effect.Capture a x) s = counts_more s (apply_link (effect.Capture a x) a x s)
      (counts_link (effect.Capture a x) a x s)
  counts_simple (effect.Alias a x) s = counts_more s (apply_alias a x s) (counts_alias a x s)
  counts_simple (effect.Freeze v r) s = counts_more s (gives (apply_freeze c v r s))
      (counts_gives 1 s (apply_freeze c v r s) (within_freeze v r s))
  counts_simple (effect.Mutate v r) s = counts_mutate (effect.Mutate v r) v s
  counts_simple (effect.MutateTransitive v) s = counts_mutate (effect.MutateTransitive v) v s
  counts_simple (effect.MutateConditionally v) s = counts_conditionally (effect.MutateConditionally v) v s
  counts_simple (effect.MutateTransitiveConditionally v) s =
      counts_conditionally (effect.MutateTransitiveConditionally v) v s
  counts_simple e s = counts_more s (apply_aliasing e s) (counts_aliasing e s)

  counts_plain : (e : AliasingEffect) (s : StepProgress) → (shape_at e).creates ≡ None → Counts 2 s (apply_plain c e s)
  counts_plain (effect.CreateFunction x f captures) s h = cc
  counts_plain (effect.Apply receiver function mutates args into signature span) s h = counts_gives 2 s s (omega arith)
  counts_plain e s h = counts_simple e s

  counts_intern_and_apply_plain : (e : AliasingEffect) (s : StepProgress) → (shape_at e).creates ≡ None
      → Counts 2 s (intern_and_apply_plain c e s)
  counts_intern_and_apply_plain e s h = counts_raised 2 s (λ f. apply_plain c f s) e
      (λ f a. counts_plain f s (ap (λ sh. sh.creates) a ∙ h))

-- no call, and creates no function
abbrev pub IsLight : AliasingEffect → Type 0
IsLight (effect.Apply receiver function mutates args into signature span) = ⊥
IsLight (effect.CreateFunction x f captures) = ⊥
IsLight e = Unit {0}

counts_effect : (c : StepContext) (e : AliasingEffect) (s : StepProgress) → IsLight e → Counts 2 s (apply_effect c e s)
counts_effect c (effect.Apply receiver function mutates args into signature span) s h = absurd h
counts_effect c (effect.CreateFunction x f captures) s h = absurd h
counts_effect c e s h = counts_intern_and_apply_plain c e s refl

-- a list of them adds two for each
pub counts_effects : (c : StepContext) (es : List AliasingEffect) (s : StepProgress) → AllByRecursion IsLight es
    → Counts (2 * length es) s (apply_effects c es s)
counts_effects c [] s h = counts_gives 0 s s (omega arith)
counts_effects c (e ∷ es) s h =
    counts_on (2 + 2 * length es) (2 * length (e ∷ es)) s (apply_effects c (e ∷ es) s) (omega arith)
    (counts_then 2 (2 * length es) s (apply_effect c e s) (apply_effects c es) (counts_effect c e s h.0)
    (λ u. counts_effects c es u h.1))
