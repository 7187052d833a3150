-- Of the environment only ranges and the effects of context places change, and no end falls.
use Rattle.std.specs.Prelude.{◌≡◌, ℕ, ◌≤◌, ◌==◌, Bool, true, false, if◌then◌else◌, List, [], ◌∷◌, Option, Some, None}
use Rattle.std.specs.Prelude.{map, length, slice_get, slice_set, refl, zero, suc}
use Rattle.std.proofs.Common.{ap, sym, ◌∙◌, subst, arith}
use Rattle.std.proofs.lemmas.Bool.Decides.{nat_tests}
use Rattle.std.specs.Option.{option_map_or}
use Rattle.alias_base.specs.declared.ids.EvaluationOrder.{EvaluationOrder}
use Rattle.alias_base.specs.declared.ids.FunctionId.{FunctionId}
use Rattle.alias_base.specs.declared.ids.IdentifierId.{IdentifierId}
use Rattle.alias_hir.specs.Values.{created}
use Rattle.alias_hir.specs.declared.effect.AliasingEffect.{AliasingEffect}
use Rattle.alias_hir.specs.declared.env.Environment.{Environment}
use Rattle.alias_hir.specs.declared.env.Identifier.{Identifier}
use Rattle.alias_hir.specs.declared.env.MutableRange.{MutableRange}
use Rattle.alias_hir.specs.declared.hir.BasicBlock.{BasicBlock}
use Rattle.alias_hir.specs.declared.hir.HirFunction.{HirFunction}
use Rattle.alias_hir.specs.declared.hir.Instruction.{Instruction}
use Rattle.alias_hir.specs.declared.hir.Phi.{Phi}
use Rattle.alias_hir.specs.declared.place.Effect.TheVariants.{Read}
use Rattle.alias_hir.specs.declared.place.Place.{Place}
use Rattle.alias_hir.specs.declared.value.InstructionValue.{InstructionValue}
use Rattle.alias_hir.specs.declared.value.InstructionValue.TheVariants as value
use Rattle.alias_graph.specs.Reach.{end_at}
use Rattle.alias_visit.specs.Operands.{operands_of, lvalues_of}
use Rattle.alias_range_pass.specs.places.Blocks.{block_merged, first_order}
use Rattle.alias_range_pass.specs.places.Instructions.{context_placed, created_placed, surroundings, surrounded}
use Rattle.alias_range_pass.specs.places.Instructions.{with_identifiers, env_assigned, instruction_placed}
use Rattle.alias_range_pass.specs.places.Keeping.{but_range, but_effect, but_context, but_ranges, RangesKept, EnvKept}
use Rattle.alias_range_pass.specs.places.Ranges.{begun, started, stored, merged, with_range, ranged, all_ranged}
use Rattle.alias_range_pass.specs.places.Ranges.{phis_merged, assigned, value_stored}
use Rattle.alias_range_pass.specs.places.Tables.{Table, table_of, with_table}

ranges_same : (ids : List Identifier) → RangesKept ids ids
ranges_same ids = record { rest = refl; ends = λ i. omega arith }

ranges_trans : (a b c : List Identifier) → RangesKept a b → RangesKept b c → RangesKept a c
ranges_trans a b c g h = record {
  rest = h.rest ∙ g.rest;
  ends = λ i. let p = g.ends i in let q = h.ends i in omega arith;
}

pub keeps_same : (env : Environment) → EnvKept env env
keeps_same env = record { rest = refl; ends = λ i. omega arith }

pub keeps_trans : (a b c : Environment) → EnvKept a b → EnvKept b c → EnvKept a c
keeps_trans a b c g h = record {
  rest = h.rest ∙ g.rest;
  ends = λ i. let p = g.ends i in let q = h.ends i in omega arith;
}

-- ---- ranges

-- one range of a list changed
abbrev pub set_in : (MutableRange → MutableRange) → List Identifier → ℕ → List Identifier
set_in f [] i = []
set_in f (r ∷ rs) zero = with_range f r ∷ rs
set_in f (r ∷ rs) (suc i) = r ∷ set_in f rs i

push_in : (f : MutableRange → MutableRange) (o : Option Identifier) (r : Identifier) (rs : List Identifier) (i : ℕ)
    → option_map_or (λ x. r ∷ slice_set rs i (with_range f x)) o (r ∷ rs) ≡ r
    ∷ option_map_or (λ x. slice_set rs i (with_range f x)) o rs
push_in f None r rs i = refl
push_in f (Some x) r rs i = refl

pub sets : (f : MutableRange → MutableRange) (rs : List Identifier) (i : ℕ)
    → option_map_or (λ x. slice_set rs i (with_range f x)) (slice_get rs i) rs ≡ set_in f rs i
sets f [] i = refl
sets f (r ∷ rs) zero = refl
sets f (r ∷ rs) (suc i) = push_in f (slice_get rs i) r rs i ∙ ap (λ z. r ∷ z) (sets f rs i)

set_rest : (f : MutableRange → MutableRange) (rs : List Identifier) (i : ℕ) → map but_range (set_in f rs i)
    ≡ map but_range rs
set_rest f [] i = refl
set_rest f (r ∷ rs) zero = refl
set_rest f (r ∷ rs) (suc i) = ap (λ z. but_range r ∷ z) (set_rest f rs i)

-- a change of ranges that lets no end fall
abbrev Lasts : (MutableRange → MutableRange) → Type 0
Lasts f = (r : MutableRange) → r.end.0 ≤ (f r).end.0

set_ends : (f : MutableRange → MutableRange) → Lasts f → (rs : List Identifier) (i j : ℕ) → end_at rs j
    ≤ end_at (set_in f rs i) j
set_ends f h [] i j = omega arith
set_ends f h (r ∷ rs) zero zero = h r.mutable_range
set_ends f h (r ∷ rs) zero (suc j) = omega arith
set_ends f h (r ∷ rs) (suc i) zero = omega arith
set_ends f h (r ∷ rs) (suc i) (suc j) = set_ends f h rs i j

ranged_kept : (f : MutableRange → MutableRange) → Lasts f → (id : IdentifierId) (ids : List Identifier)
    → RangesKept ids (ranged f id ids)
ranged_kept f h id ids = subst (λ z. RangesKept ids z) (sym (sets f ids id.0))
    (record { rest = set_rest f ids id.0; ends = λ i. set_ends f h ids id.0 i })

all_kept : (f : MutableRange → MutableRange) → Lasts f → (ps : List Place) (ids : List Identifier)
    → RangesKept ids (all_ranged f ps ids)
all_kept f h [] ids = ranges_same ids
all_kept f h (p ∷ ps) ids = ranges_trans ids (ranged f p.identifier ids) (all_ranged f (p ∷ ps) ids)
    (ranged_kept f h p.identifier ids) (all_kept f h ps (ranged f p.identifier ids))

begun_lasts : (t : EvaluationOrder) → Lasts (begun t)
begun_lasts t r = grind (arith, nat_tests)

started_lasts : (t : EvaluationOrder) → Lasts (started t)
started_lasts t r = omega arith

stored_lasts : (t : EvaluationOrder) → Lasts (stored t)
stored_lasts t r = grind (arith, nat_tests)

merged_lasts : (t : EvaluationOrder) → Lasts (merged t)
merged_lasts t r = omega arith

phis_kept : (t : EvaluationOrder) (phis : List Phi) (ids : List Identifier) → RangesKept ids (phis_merged t phis ids)
phis_kept t [] ids = ranges_same ids
phis_kept t (phi ∷ phis) ids = ranges_trans ids (ranged (merged t) phi.place.identifier ids)
    (phis_merged t (phi ∷ phis) ids) (ranged_kept (merged t) (merged_lasts t) phi.place.identifier ids)
    (phis_kept t phis (ranged (merged t) phi.place.identifier ids))

-- ---- the environment

identifiers_keep : (env : Environment) (ids : List Identifier) → RangesKept env.identifiers ids
    → EnvKept env (with_identifiers ids env)
identifiers_keep env ids k = record {
  rest = ap (λ z. record (but_ranges env) { identifiers = z }) k.rest;
  ends = k.ends;
}

pub assigned_keeps : (i : Instruction) (env : Environment) → EnvKept env (env_assigned i env)
assigned_keeps i env = identifiers_keep env (assigned i env.identifiers)
    (all_kept (begun i.id) (begun_lasts i.id) (i.lvalue ∷ lvalues_of i.value) env.identifiers)

pub merged_keeps : (f : HirFunction) (b : BasicBlock) (env : Environment) → EnvKept env (block_merged f b env)
merged_keeps f b env = identifiers_keep env (phis_merged (first_order f.instructions b) b.phis env.identifiers)
    (phis_kept (first_order f.instructions b) b.phis env.identifiers)

effects_rest : (table : Table) (ps : List Place) → map but_effect (map (with_table table Read) ps) ≡ map but_effect ps
effects_rest table [] = refl
effects_rest table (p ∷ ps) = ap (λ z. but_effect p ∷ z) (effects_rest table ps)

context_rest : (table : Table) (f : HirFunction) → but_context (context_placed table f) ≡ but_context f
context_rest table f = ap (λ z. record f { context = z }) (effects_rest table f.context)

push_function : (table : Table) (o : Option HirFunction) (f : HirFunction) (fs : List HirFunction) (i : ℕ)
    → option_map_or (λ x. f ∷ slice_set fs i (context_placed table x)) o (f ∷ fs) ≡ f
    ∷ option_map_or (λ x. slice_set fs i (context_placed table x)) o fs
push_function table None f fs i = refl
push_function table (Some x) f fs i = refl

functions_rest : (table : Table) (fs : List HirFunction) (i : ℕ)
    → map but_context (option_map_or (λ x. slice_set fs i (context_placed table x)) (slice_get fs i) fs)
    ≡ map but_context fs
functions_rest table [] i = refl
functions_rest table (f ∷ fs) zero = ap (λ z. z ∷ map but_context fs) (context_rest table f)
functions_rest table (f ∷ fs) (suc i) = ap (map but_context) (push_function table (slice_get fs i) f fs i)
    ∙ ap (λ z. but_context f ∷ z) (functions_rest table fs i)

created_rest : (table : Table) (o : Option FunctionId) (fs : List HirFunction)
    → map but_context (created_placed table o fs) ≡ map but_context fs
created_rest table None fs = refl
created_rest table (Some g) fs = functions_rest table fs g.0

stored_kept : (t : EvaluationOrder) (v : InstructionValue) (ids : List Identifier)
    → RangesKept ids (value_stored t v ids)
stored_kept t (value.StoreContext lvalue x) ids = ranged_kept (stored t) (stored_lasts t) x.identifier ids
stored_kept t v ids = ranges_same ids

surroundings_keep : (table : Table) (t : EvaluationOrder) (v : InstructionValue) (env : Environment)
    → EnvKept env (surroundings table t v env)
surroundings_keep table t v env =
    let started_ids : List Identifier = all_ranged (started t) (operands_of env v) env.identifiers in
    let k = ranges_trans env.identifiers started_ids (value_stored t v started_ids)
    (all_kept (started t) (started_lasts t) (operands_of env v) env.identifiers) (stored_kept t v started_ids) in
    record {
      rest = ap (λ z. record (but_ranges env)
          { identifiers = z; functions = map but_context (created_placed table (created v) env.functions) }) k.rest
          ∙ ap (λ z. record (but_ranges env) { functions = z }) (created_rest table (created v) env.functions);
      ends = k.ends;
    }

surrounded_keep : (b : Bool) (table : Table) (t : EvaluationOrder) (v : InstructionValue) (env : Environment)
    → EnvKept env (if b then env else surroundings table t v env)
surrounded_keep true table t v env = keeps_same env
surrounded_keep false table t v env = surroundings_keep table t v env

surrounded_keeps : (o : Option (List AliasingEffect)) (table : Table) (t : EvaluationOrder) (v : InstructionValue)
    (env : Environment) → EnvKept env (surrounded o table t v env)
surrounded_keeps None table t v env = keeps_same env
surrounded_keeps (Some es) table t v env = surrounded_keep (length es == 0) table t v env

pub instruction_keeps : (i : Instruction) (env : Environment) → EnvKept env (instruction_placed i env).1
instruction_keeps i env =
    let table : Table = table_of (assigned i env.identifiers) i in
    keeps_trans env (env_assigned i env) (surrounded i.effects table i.id i.value (env_assigned i env))
    (assigned_keeps i env) (surrounded_keeps i.effects table i.id i.value (env_assigned i env))
