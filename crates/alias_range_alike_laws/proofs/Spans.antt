-- What is read of identifiers is the same where their spans are others: ends of ranges and types.
use Rattle.std.specs.Prelude.{◌≡◌, ℕ, false, List, [], ◌∷◌, Option, Some, None, if◌then◌else◌, nat_lt, map, slice_get}
use Rattle.std.specs.Prelude.{slice_set, refl}
use Rattle.std.proofs.Common.{ap, ◌∙◌}
use Rattle.std.specs.Option.{option_map_or}
use Rattle.alias_base.specs.declared.ids.EvaluationOrder.{EvaluationOrder}
use Rattle.alias_base.specs.declared.ids.IdentifierId.{IdentifierId}
use Rattle.alias_hir.specs.Types.{is_primitive_type, is_jsx_type, type_at}
use Rattle.alias_hir.specs.declared.effect.AliasingEffect.{AliasingEffect}
use Rattle.alias_hir.specs.declared.effect.AliasingEffect.TheVariants as effect
use Rattle.alias_hir.specs.declared.effect.ValueKind.TheVariants.{Primitive, Frozen, Mutable}
use Rattle.alias_hir.specs.declared.effect.ValueReason.TheVariants.{KnownReturnSignature}
use Rattle.alias_hir.specs.declared.env.Environment.{Environment}
use Rattle.alias_hir.specs.declared.env.Identifier.{Identifier}
use Rattle.alias_hir.specs.declared.env.MutableRange.{MutableRange}
use Rattle.alias_hir.specs.declared.hir.HirFunction.{HirFunction}
use Rattle.alias_hir.specs.declared.hir.Instruction.{Instruction}
use Rattle.alias_hir.specs.declared.hir.Phi.{Phi}
use Rattle.alias_hir.specs.declared.place.Effect.{Effect}
use Rattle.alias_hir.specs.declared.place.Effect.TheVariants.{Capture, Read, Store}
use Rattle.alias_hir.specs.declared.place.Place.{Place}
use Rattle.alias_hir.specs.declared.types.Ty.{Ty}
use Rattle.alias_hir.specs.declared.value.InstructionValue.{InstructionValue}
use Rattle.alias_hir.specs.declared.value.InstructionValue.TheVariants as value
use Rattle.alias_visit.specs.Operands.{operands_of, lvalues_of}
use Rattle.alias_graph.specs.NodeMarks.{raised, ranges_after, range_visited}
use Rattle.alias_graph.specs.Reach.{end_of}
use Rattle.alias_graph.specs.declared.types.Entry.{Entry}
use Rattle.alias_range_pass.specs.places.Blocks.{operand_with, phi_placed, with_effect}
use Rattle.alias_range_pass.specs.places.Ranges.{with_range, ranged, all_ranged, assigned, begun, stored, merged}
use Rattle.alias_range_pass.specs.places.Ranges.{value_stored, phis_merged}
use Rattle.alias_range_pass.specs.places.Tables.{Table, set_effect, source_effect, flow_tabled, effect_tabled}
use Rattle.alias_range_pass.specs.places.Tables.{effects_tabled, recorded, table_of}
use Rattle.alias_range_pass.specs.summary.Summaries.{returns_created}
use Rattle.alias_certificate_laws.specs.accepting.Alike.{Paired, Maybe, nothing, just}
use Rattle.alias_certificate_laws.proofs.accepting.Likeness.{paired_get}
use Rattle.alias_range_alike_laws.specs.Spans.{Respanned, respanned}
use Rattle.alias_range_alike_laws.proofs.Answers.{paired_set}

abbrev pub Spans : List Identifier → List Identifier → Type 0
Spans = Paired Respanned

-- ---- ranges that are changed

-- a change of an identifier that leaves spans out
abbrev Leaves : (Identifier → Identifier) → Type 0
Leaves f = (x y : Identifier) → Respanned x y → Respanned (f x) (f y)

ranged_leaves : (f : MutableRange → MutableRange) → Leaves (with_range f)
ranged_leaves f x y (respanned _ s) = respanned (with_range f x) s

raised_leaves : (end : EvaluationOrder) → Leaves (raised end)
raised_leaves end x y (respanned _ s) = respanned (raised end x) s

put_alike : (f : Identifier → Identifier) → Leaves f → (n : ℕ) (xs ys : List Identifier) (o p : Option Identifier)
    → Spans xs ys → Maybe Respanned o p → Spans (option_map_or (λ x. slice_set xs n (f x)) o xs)
    (option_map_or (λ x. slice_set ys n (f x)) p ys)
put_alike f h n xs ys o p q nothing = q
put_alike f h n xs ys o p q (just {a = x} {b = y} r) = paired_set n (f x) (f y) xs ys (h x y r) q

pub ranged_spans : (f : MutableRange → MutableRange) (id : IdentifierId) (xs ys : List Identifier) → Spans xs ys
    → Spans (ranged f id xs) (ranged f id ys)
ranged_spans f id xs ys q = put_alike (with_range f) (ranged_leaves f) id.0 xs ys (slice_get xs id.0)
    (slice_get ys id.0) q (paired_get id.0 xs ys q)

pub all_ranged_spans : (f : MutableRange → MutableRange) (ps : List Place) (xs ys : List Identifier) → Spans xs ys
    → Spans (all_ranged f ps xs) (all_ranged f ps ys)
all_ranged_spans f [] xs ys q = q
all_ranged_spans f (p ∷ ps) xs ys q = all_ranged_spans f ps (ranged f p.identifier xs) (ranged f p.identifier ys)
    (ranged_spans f p.identifier xs ys q)

pub assigned_spans : (i : Instruction) (xs ys : List Identifier) → Spans xs ys → Spans (assigned i xs) (assigned i ys)
assigned_spans i xs ys q = all_ranged_spans (begun i.id) (i.lvalue ∷ lvalues_of i.value) xs ys q

pub stored_spans : (t : EvaluationOrder) (v : InstructionValue) (xs ys : List Identifier) → Spans xs ys
    → Spans (value_stored t v xs) (value_stored t v ys)
stored_spans t (value.StoreContext lvalue x) xs ys q = ranged_spans (stored t) x.identifier xs ys q
stored_spans t v xs ys q = q

pub merged_spans : (t : EvaluationOrder) (phis : List Phi) (xs ys : List Identifier) → Spans xs ys
    → Spans (phis_merged t phis xs) (phis_merged t phis ys)
merged_spans t [] xs ys q = q
merged_spans t (phi ∷ phis) xs ys q = merged_spans t phis (ranged (merged t) phi.place.identifier xs)
    (ranged (merged t) phi.place.identifier ys) (ranged_spans (merged t) phi.place.identifier xs ys q)

visited_spans : (end : Option EvaluationOrder) (id : IdentifierId) (xs ys : List Identifier) → Spans xs ys
    → Spans (range_visited end id xs) (range_visited end id ys)
visited_spans None id xs ys q = q
visited_spans (Some end) id xs ys q = put_alike (raised end) (raised_leaves end) id.0 xs ys (slice_get xs id.0)
    (slice_get ys id.0) q (paired_get id.0 xs ys q)

pub raised_spans : (end : Option EvaluationOrder) (es : List Entry) (xs ys : List Identifier) → Spans xs ys
    → Spans (ranges_after end xs es) (ranges_after end ys es)
raised_spans end [] xs ys q = q
raised_spans end (e ∷ es) xs ys q = visited_spans end e.id (ranges_after end xs es) (ranges_after end ys es)
    (raised_spans end es xs ys q)

-- ---- ends

same_end : (o p : Option Identifier) → Maybe Respanned o p → end_of p ≡ end_of o
same_end o p nothing = refl
same_end o p (just (respanned x s)) = refl

module _ (xs ys : List Identifier) (q : Spans xs ys) (t : EvaluationOrder) where
  source_same : (id : IdentifierId) → source_effect ys t id ≡ source_effect xs t id
  source_same id = ap (λ (n : ℕ). if nat_lt t.0 n then Capture else Read)
      (same_end (slice_get xs id.0) (slice_get ys id.0) (paired_get id.0 xs ys q))

  flow_same : (a x : Place) (table : Table) → flow_tabled ys t a x table ≡ flow_tabled xs t a x table
  flow_same a x table = ap (λ (e : Effect). set_effect x.identifier Store (set_effect a.identifier e table))
      (source_same x.identifier)

  effect_same : (e : AliasingEffect) (table : Table) → effect_tabled ys t e table ≡ effect_tabled xs t e table
  effect_same (effect.CreateFrom a x) table = flow_same a x table
  effect_same (effect.Assign a x) table = flow_same a x table
  effect_same (effect.Alias a x) table = flow_same a x table
  effect_same (effect.Capture a x) table = flow_same a x table
  effect_same (effect.MaybeAlias a x) table = flow_same a x table
  effect_same (effect.Freeze x reason) table = refl
  effect_same (effect.Mutate x reason) table = refl
  effect_same (effect.MutateConditionally x) table = refl
  effect_same (effect.MutateTransitive x) table = refl
  effect_same (effect.MutateTransitiveConditionally x) table = refl
  effect_same (effect.Apply receiver function mutates args into signature span) table = refl
  effect_same (effect.ImmutableCapture a x) table = refl
  effect_same (effect.Create x kind reason) table = refl
  effect_same (effect.Impure p error) table = refl
  effect_same (effect.MutateFrozen p error) table = refl
  effect_same (effect.MutateGlobal p error) table = refl
  effect_same (effect.Render p) table = refl
  effect_same (effect.CreateFunction x f captures) table = refl

  effects_same : (es : List AliasingEffect) (table : Table) → effects_tabled ys t es table
      ≡ effects_tabled xs t es table
  effects_same [] table = refl
  effects_same (e ∷ es) table = ap (λ z. effects_tabled ys t es z) (effect_same e table)
      ∙ effects_same es (effect_tabled xs t e table)

  -- a phi and its operands get the same effects
  phi_same : (phi : Phi) → phi_placed ys t phi ≡ phi_placed xs t phi
  phi_same phi = ap (λ (e : Effect). record phi
      { place = with_effect Store phi.place; operands = map (operand_with e) phi.operands })
      (source_same phi.place.identifier)

  pub phis_same : (phis : List Phi) → map (phi_placed ys t) phis ≡ map (phi_placed xs t) phis
  phis_same [] = refl
  phis_same (phi ∷ phis) = ap (λ z. z ∷ map (phi_placed ys t) phis) (phi_same phi)
      ∙ ap (λ z. phi_placed xs t phi ∷ z) (phis_same phis)

pub table_spans : (i : Instruction) (xs ys : List Identifier) → Spans xs ys → table_of ys i ≡ table_of xs i
table_spans i xs ys q = effects_same xs ys q i.id (recorded i.effects) []

-- ---- environments

abbrev pub spanned : Environment → List Identifier → Environment
spanned env ids = record env { identifiers = ids }

pub operands_spans : (env : Environment) (ids : List Identifier) (v : InstructionValue)
    → operands_of (spanned env ids) v ≡ operands_of env v
operands_spans env ids (value.FunctionExpression lowered) = refl
operands_spans env ids (value.ObjectMethod lowered) = refl
operands_spans env ids v = refl

same_type : (env : Environment) (ids : List Identifier) (o p : Option Identifier) → Maybe Respanned o p
    → type_at (spanned env ids) p ≡ type_at env o
same_type env ids o p nothing = refl
same_type env ids o p (just (respanned x s)) = refl

-- what is returned is made the same way
pub returns_spans : (env : Environment) (ids : List Identifier) (f : HirFunction) → Spans env.identifiers ids
    → returns_created (spanned env ids) f ≡ returns_created env f
returns_spans env ids f q =
    ap (λ (o : Option Ty). effect.Create f.returns
    (if option_map_or is_primitive_type o false then Primitive
    else (if option_map_or is_jsx_type o false then Frozen else Mutable)) KnownReturnSignature)
    (same_type env ids (slice_get env.identifiers f.returns.identifier.0) (slice_get ids f.returns.identifier.0)
    (paired_get f.returns.identifier.0 env.identifiers ids q))
