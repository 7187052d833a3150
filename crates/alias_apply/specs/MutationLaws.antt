-- What the state answers of a write decides as the kind of the value does.
use Rattle.std.specs.Prelude.{◌≡◌, refl, Bool, true, false, Option, Some, None, if◌then◌else◌}
use Rattle.std.proofs.Common.{ap}
use Rattle.alias_hir.specs.declared.effect.AliasingEffect.{AliasingEffect}
use Rattle.alias_hir.specs.declared.effect.ValueKind.{ValueKind}
use Rattle.alias_hir.specs.declared.effect.ValueKind.TheVariants.{Primitive, Global, Frozen, Mutable, Context}
use Rattle.alias_hir.specs.declared.effect.ValueKind.TheVariants.{MaybeFrozen}
use Rattle.alias_hir.specs.declared.place.Place.{Place}
use Rattle.alias_hir.specs.Types.{is_ref_at}
use Rattle.alias_lattice.specs.declared.lookup.MissingLookup.{MissingLookup}
use Rattle.alias_lattice.specs.declared.mutation.Mutation.{Mutation}
use Rattle.alias_lattice.specs.declared.mutation.MutateVariant.{MutateVariant}
use Rattle.alias_lattice.specs.declared.mutation.MutateVariant.TheVariants.{Mutate, MutateConditionally}
use Rattle.alias_lattice.specs.declared.mutation.MutationResult.TheVariants as result
use Rattle.alias_lattice.specs.Mutations.{definite_result, conditional_result, mutation_result}
use Rattle.alias_lattice.specs.States.{lookup, missing_lookup}
use Rattle.alias_tables.specs.Steps.{gives}
use Rattle.alias_apply.specs.declared.progress.StepProgress.{StepProgress}
use Rattle.alias_apply.specs.Contexts.{StepContext}
use Rattle.alias_apply.specs.Kinds.{is_writable}
use Rattle.alias_apply.specs.Mutation.{record_mutation, record_result, apply_mutation, apply_mutate}
use Rattle.alias_apply.specs.Mutation.{apply_mutate_conditionally}
use Rattle.alias_apply.specs.Progress.{first_missing, noted, looked_up_with_span, record_of, kind_at}

first_stays : (m : Option MissingLookup) → first_missing m None ≡ m
first_stays None = refl
first_stays (Some l) = refl

-- where no lookup is missing, nothing is noted
nothing_noted : (s : StepProgress) → noted None s ≡ s
nothing_noted s = ap (λ m. record s { missing = m }) (first_stays s.missing)

module _ (c : StepContext) (e : AliasingEffect) (v : Place) where
  definite_by_kind : (k : ValueKind) (s : StepProgress) → record_result c (definite_result k) e v s
      ≡ record_mutation c k (lookup s.state v.identifier) e v s
  definite_by_kind Primitive s = refl
  definite_by_kind Global s = refl
  definite_by_kind Frozen s = refl
  definite_by_kind Mutable s = refl
  definite_by_kind Context s = refl
  definite_by_kind MaybeFrozen s = refl

  conditional_by_kind : (k : ValueKind) (s : StepProgress) → record_result c (conditional_result k) e v s
      ≡ gives (if is_writable k then record_of e s else s)
  conditional_by_kind Primitive s = refl
  conditional_by_kind Global s = refl
  conditional_by_kind Frozen s = refl
  conditional_by_kind Mutable s = refl
  conditional_by_kind Context s = refl
  conditional_by_kind MaybeFrozen s = refl

  -- the answer of a write of the variant, where b tells whether the place is a ref
  abbrev answer : MutateVariant → Bool → StepProgress → Mutation
  answer w b s =
      if b then record { result = result.MutateRef; missing = None }
      else record { result = mutation_result w (kind_at v s); missing = missing_lookup s.state v.identifier v.span }

  definite_at : (b : Bool) (s : StepProgress)
      → record_result c (answer Mutate b s).result e v (noted (answer Mutate b s).missing s)
      ≡ (if b then gives s else record_mutation c (kind_at v s) (lookup s.state v.identifier) e v
      (looked_up_with_span v s))
  definite_at true s = ap gives (nothing_noted s)
  definite_at false s = definite_by_kind (kind_at v s) (looked_up_with_span v s)

  conditional_at : (b : Bool) (s : StepProgress)
      → record_result c (answer MutateConditionally b s).result e v (noted (answer MutateConditionally b s).missing s)
      ≡ gives (if b then s else (if is_writable (kind_at v s) then record_of e (looked_up_with_span v s)
      else looked_up_with_span v s))
  conditional_at true s = ap gives (nothing_noted s)
  conditional_at false s = conditional_by_kind (kind_at v s) (looked_up_with_span v s)

  -- a definite write
  pub mutate_by_kind : (s : StepProgress) → apply_mutation c Mutate e v s ≡ apply_mutate c e v s
  mutate_by_kind s = definite_at (is_ref_at c.env v.identifier) s

  -- a conditional one
  pub mutate_conditionally_by_kind : (s : StepProgress) → apply_mutation c MutateConditionally e v s
      ≡ gives (apply_mutate_conditionally c e v s)
  mutate_conditionally_by_kind s = conditional_at (is_ref_at c.env v.identifier) s
