-- The step of an effect that makes a value gives it its site.
use Rattle.std.specs.Prelude.{◌≡◌, Bool, true, false, cond, List, Some, if◌then◌else◌}
use Rattle.std.proofs.Common.{ap, sym, ◌∙◌, subst, true≢false}
use Rattle.std.specs.Cmp.{tied_itself}
use Rattle.std.specs.FinMap.{find}
use Rattle.std.specs.FinMap.Entries.{find-put}
use Rattle.std.specs.Ordering.{is_eq}
use Rattle.alias_base.specs.declared.ids.FunctionId.{FunctionId}
use Rattle.alias_base.specs.declared.ids.IdentifierId.{IdentifierId}
use Rattle.alias_hir.specs.declared.effect.AliasingEffect.{AliasingEffect}
use Rattle.alias_hir.specs.declared.effect.AliasingEffect.TheVariants as effect
use Rattle.alias_hir.specs.declared.effect.ValueKind.{ValueKind}
use Rattle.alias_hir.specs.declared.effect.ValueKind.TheVariants.{Primitive, Global, Frozen, Mutable, Context}
use Rattle.alias_hir.specs.declared.effect.ValueKind.TheVariants.{MaybeFrozen}
use Rattle.alias_hir.specs.declared.effect.ValueReason.{ValueReason}
use Rattle.alias_hir.specs.declared.place.Place.{Place}
use Rattle.alias_lattice.specs.Keys.{id_cmp}
use Rattle.alias_lattice.specs.KeyLaws.{ids_total}
use Rattle.alias_lattice.specs.Reasons.{primary_reason}
use Rattle.alias_lattice.specs.States.{State, lookup, sites_of, one_site, given}
use Rattle.alias_lattice.specs.declared.site.Site.{Site}
use Rattle.alias_lattice.specs.declared.site.Site.TheVariants.{Created, CreatedFrom, Function}
use Rattle.alias_lattice.specs.declared.value.AbstractValue.{AbstractValue}
use Rattle.alias_apply.specs.freezing.Contexts.{context_of}
use Rattle.alias_tables.specs.Steps.{gives, each}
use Rattle.alias_tables.specs.Tables.{intern}
use Rattle.alias_apply.specs.declared.progress.StepProgress.{StepProgress}
use Rattle.alias_apply.specs.Apply.{apply_simple, intern_and_apply_simple, note_read_capture, is_mutable_function}
use Rattle.alias_apply.specs.Apply.{function_value, capture_each, apply_create_function, apply_plain}
use Rattle.alias_apply.specs.Apply.{intern_and_apply_plain}
use Rattle.alias_apply.specs.Contexts.{StepContext}
use Rattle.alias_apply.specs.Kinds.{is_constant, may_be_frozen, captures, may_alias, value_with}
use Rattle.alias_apply.specs.Leaves.{apply_immutable_capture, apply_leaf, intern_and_apply_leaf, apply_maybe_alias}
use Rattle.alias_apply.specs.Leaves.{apply_aliasing, intern_and_apply_aliasing}
use Rattle.alias_apply.specs.Progress.{record_of, with_state, looked_up_at, looked_up_with_span, kind_at, made}
use Rattle.alias_apply.specs.ProperLaws.{Sound, sound_gives, sound_then, sound_after, sound_if, sound_each}
use Rattle.alias_apply.specs.Values.{apply_create, record_create_from, apply_create_from, apply_link}
use Rattle.alias_key_laws.specs.KeySites.{made_site}
use Rattle.alias_key_laws.specs.sites.Given.{IsGiven}
use Rattle.alias_key_laws.proofs.sites.First.{MakesAs, interned_makes, IsCapture, interned_captures}

given_has : (x : IdentifierId) (k : Site) (v : AbstractValue) (s : State) → sites_of (given x k v s) x
    ≡ Some (one_site k)
given_has x k v s =
    find-put id_cmp ids_total x x (one_site k) s.variables
    ∙ ap (λ r. cond (is_eq r) (Some (one_site k)) (find id_cmp x s.variables)) (tied_itself ids_total x)

-- ---- the steps that leave the state

module _ (P : State → Type 0) where
  -- the state that the step has come to is P
  abbrev Has : StepProgress → Type 0
  Has s = P s.state

  either_has : (b : Bool) (u v : StepProgress) → Has u → Has v → Has (if b then u else v)
  either_has true u v h g = h
  either_has false u v h g = g

  leaf_has : (e : AliasingEffect) (s : StepProgress) → Has s → Has (apply_leaf e s)
  leaf_has (effect.ImmutableCapture a x) s h =
      either_has (is_constant (kind_at a s)) (looked_up_at a s)
      (record_of (effect.ImmutableCapture a x) (looked_up_at a s)) h h
  leaf_has (effect.Impure p error) s h = h
  leaf_has (effect.MutateFrozen p error) s h = h
  leaf_has (effect.MutateGlobal p error) s h = h
  leaf_has (effect.Render p) s h = h
  leaf_has e s h = h

  intern_and_apply_leaf_has : (e : AliasingEffect) (s : StepProgress) → Has s → Sound Has (intern_and_apply_leaf e s)
  intern_and_apply_leaf_has e s h = sound_after Has (intern e) (λ f. gives (apply_leaf f s))
      (λ f. sound_gives Has (apply_leaf f s) (leaf_has f s h))

  maybe_alias_has : (a x : Place) (s : StepProgress) → Has s → Sound Has (apply_maybe_alias a x s)
  maybe_alias_has a x s h =
      let u = looked_up_with_span a (looked_up_with_span x s) in
      sound_if Has (may_be_frozen (kind_at a s)) _ _ (intern_and_apply_leaf_has (effect.ImmutableCapture a x) u h)
      (sound_gives Has (record_of (effect.MaybeAlias a x) u) h)

  aliasing_has : (e : AliasingEffect) (s : StepProgress) → Has s → Sound Has (apply_aliasing e s)
  aliasing_has (effect.MaybeAlias a x) s h = maybe_alias_has a x s h
  aliasing_has e s h = sound_gives Has (apply_leaf e s) (leaf_has e s h)

  intern_and_apply_aliasing_has : (e : AliasingEffect) (s : StepProgress) → Has s
      → Sound Has (intern_and_apply_aliasing e s)
  intern_and_apply_aliasing_has e s h = sound_after Has (intern e) (λ f. apply_aliasing f s) (λ f. aliasing_has f s h)

  link_has : (e : AliasingEffect) (a x : Place) (s : StepProgress) → Has s → Sound Has (apply_link e a x s)
  link_has e a x s h =
      let u = looked_up_with_span a (looked_up_with_span x s) in
      sound_if Has (may_be_frozen (kind_at a s)) _ _ (intern_and_apply_leaf_has (effect.ImmutableCapture a x) u h)
      (sound_if Has (captures (kind_at a s) (kind_at x s)) _ _ (sound_gives Has (record_of e u) h)
      (sound_if Has (may_alias (kind_at a s) (kind_at x s)) _ _
      (intern_and_apply_aliasing_has (effect.MaybeAlias a x) u h) (sound_gives Has u h)))

  module _ (c : StepContext) where
    capture_has : (e : AliasingEffect) (s : StepProgress) → Has s → IsCapture e → Sound Has (apply_simple c e s)
    capture_has (effect.Capture a x) s h is = link_has (effect.Capture a x) a x s h
    capture_has e s h is = absurd (true≢false (sym is))

    pub captured_has : (p x : Place) (s : StepProgress) → Has s
        → Sound Has (intern_and_apply_simple c (effect.Capture p x) s)
    captured_has p x s h = sound_then IsCapture Has (intern (effect.Capture p x)) (λ f. apply_simple c f s)
        (interned_captures p x) (λ f is. capture_has f s h is)

  pub record_has : (k : ValueKind) (r : ValueReason) (a x : Place) (s : StepProgress) → Has s
      → Sound Has (record_create_from k r a x s)
  record_has Primitive r a x s h = sound_gives Has (record_of (effect.Create x Primitive r) s) h
  record_has Global r a x s h = sound_gives Has (record_of (effect.Create x Global r) s) h
  record_has Frozen r a x s h = intern_and_apply_leaf_has (effect.ImmutableCapture a x)
      (record_of (effect.Create x Frozen r) s) h
  record_has Mutable r a x s h = sound_gives Has (record_of (effect.CreateFrom a x) s) h
  record_has Context r a x s h = sound_gives Has (record_of (effect.CreateFrom a x) s) h
  record_has MaybeFrozen r a x s h = sound_gives Has (record_of (effect.CreateFrom a x) s) h

-- ---- the steps that make a value

-- the identifier has this site alone
abbrev HasSite : IdentifierId → Site → State → Type 0
HasSite x k s = sites_of s x ≡ Some (one_site k)

abbrev Leaves : IdentifierId → Site → StepProgress → Type 0
Leaves x k s = HasSite x k s.state

create_gives : (x : Place) (k : ValueKind) (r : ValueReason) (s : StepProgress)
    → Sound (Leaves x.identifier (Created x.identifier k r)) (apply_create x k r s)
create_gives x k r s =
    let site = Created x.identifier k r in
    sound_after (Leaves x.identifier site) (made x.identifier s) _
    (λ u. sound_gives (Leaves x.identifier site)
    (record_of (effect.Create x k r) (with_state (given x.identifier site (value_with k r) u.state) u))
    (given_has x.identifier site (value_with k r) u.state))

create_from_gives : (a x : Place) (s : StepProgress)
    → Sound (Leaves x.identifier (CreatedFrom a.identifier x.identifier)) (apply_create_from a x s)
create_from_gives a x s =
    let site = CreatedFrom a.identifier x.identifier in
    sound_after (Leaves x.identifier site) (made x.identifier s) _
    (λ u. let v = lookup u.state a.identifier in
    record_has (HasSite x.identifier site) v.kind (primary_reason v.reason) a x
    (with_state (given x.identifier site v u.state) (looked_up_at a u)) (given_has x.identifier site v u.state))

module _ (c : StepContext) where
  create_function_gives : (x : Place) (f : FunctionId) (taken : List Place) (s : StepProgress)
      → Sound (Leaves x.identifier (Function f)) (apply_create_function c x f taken s)
  create_function_gives x f taken s =
      let P = HasSite x.identifier (Function f) in
      sound_after (Leaves x.identifier (Function f)) (made x.identifier s) _
      (λ u. sound_after (Leaves x.identifier (Function f))
      (each (note_read_capture f) (context_of c.env f) (record_of (effect.CreateFunction x f taken) u)) _
      (λ v. let value = function_value (is_mutable_function c f taken v.state) in
      sound_each (Leaves x.identifier (Function f)) (λ p. intern_and_apply_simple c (effect.Capture p x))
      (λ p w h. captured_has P c p x w h) taken
      (with_state (given x.identifier (Function f) value v.state) v)
      (given_has x.identifier (Function f) value v.state)))

  -- what the effect makes is given its site
  abbrev Gives : AliasingEffect → StepProgress → Type 0
  Gives e s = IsGiven (made_site e) s.state

  pub step_gives : (e : AliasingEffect) (s : StepProgress) → Sound (Gives e) (apply_plain c e s)
  step_gives (effect.Create x k r) s = create_gives x k r s
  step_gives (effect.CreateFrom a x) s = create_from_gives a x s
  step_gives (effect.CreateFunction x f taken) s = create_function_gives x f taken s
  step_gives e s = λ t u y i. tt

  pub interned_gives : (e : AliasingEffect) (s : StepProgress) → Sound (Gives e) (intern_and_apply_plain c e s)
  interned_gives e s = sound_then (MakesAs e) (Gives e) (intern e) (λ f. apply_plain c f s) (interned_makes e)
      (λ f is t u y i. subst (λ m. IsGiven m y.state) is (step_gives f s t u y i))
