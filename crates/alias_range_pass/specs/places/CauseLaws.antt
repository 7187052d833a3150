-- Each range end that is another by default has a cause.
use Rattle.std.specs.Prelude.{◌≡◌, ℕ, ◌+◌, ◌⊎◌, ◌==◌, Bool, true, false, if◌then◌else◌, List, [], ◌∷◌, ◌++◌, Option}
use Rattle.std.specs.Prelude.{Some, None, map, option_map, length, slice_get, refl, zero, suc}
use Rattle.std.proofs.Common.{inl, inr, ⊎_elim, ap, sym, ◌∙◌, subst, arith}
use Rattle.alias_base.specs.declared.ids.BlockId.{BlockId}
use Rattle.alias_base.specs.declared.ids.EvaluationOrder.{EvaluationOrder}
use Rattle.alias_base.specs.declared.ids.IdentifierId.{IdentifierId}
use Rattle.alias_base.specs.declared.ids.InstructionId.{InstructionId}
use Rattle.alias_graph.specs.recorded.Fitting.{AllOf}
use Rattle.alias_graph.proofs.FitLaws.{all_at, all_set}
use Rattle.alias_hir.specs.Parts.{pattern_places}
use Rattle.alias_hir.specs.declared.effect.AliasingEffect.{AliasingEffect}
use Rattle.alias_hir.specs.declared.env.Environment.{Environment}
use Rattle.alias_hir.specs.declared.env.Identifier.{Identifier}
use Rattle.alias_hir.specs.declared.env.MutableRange.{MutableRange}
use Rattle.alias_hir.specs.declared.hir.BasicBlock.{BasicBlock}
use Rattle.alias_hir.specs.declared.hir.Instruction.{Instruction}
use Rattle.alias_hir.specs.declared.hir.Phi.{Phi}
use Rattle.alias_hir.specs.declared.place.Effect.TheVariants.{ConditionallyMutate}
use Rattle.alias_hir.specs.declared.place.Place.{Place}
use Rattle.alias_hir.specs.declared.value.InstructionValue.{InstructionValue}
use Rattle.alias_hir.specs.declared.value.InstructionValue.TheVariants as value
use Rattle.alias_graph.proofs.Legality.{in_left, in_right}
use Rattle.alias_graph.specs.Reach.{end_at}
use Rattle.alias_graph.specs.Walks.{IsOneOf}
use Rattle.alias_visit.specs.Operands.{operands_of, lvalues_of}
use Rattle.alias_range_pass.specs.places.Blocks.{first_order, block_merged, Placed, ends_at_slot, placed_at}
use Rattle.alias_range_pass.specs.places.Blocks.{block_placed, blocks_placed, function_placed}
use Rattle.alias_range_pass.specs.places.Causes.{numbers_of, stored_places, written, InstructionCause, EndsCaused}
use Rattle.alias_range_pass.specs.places.Instructions.{value_placed, places_placed, surroundings, surrounded}
use Rattle.alias_range_pass.specs.places.Instructions.{env_assigned, instruction_placed, placed_in, instruction_at}
use Rattle.alias_range_pass.specs.places.Instructions.{instructions_placed}
use Rattle.alias_range_pass.specs.places.KeepLaws.{set_in, sets}
use Rattle.alias_range_pass.specs.places.MappedLaws.{pattern_back}
use Rattle.alias_range_pass.specs.places.Ranges.{begun, started, stored, merged, ranged, all_ranged, phis_merged}
use Rattle.alias_range_pass.specs.places.Ranges.{assigned, value_stored}
use Rattle.alias_range_pass.specs.places.Tables.{Table, table_of, with_table}

-- ---- ranges

-- a change of ranges that keeps the end, or makes it one past the order
abbrev EndsAs : EvaluationOrder → (MutableRange → MutableRange) → Type 0
EndsAs t f = (r : MutableRange) → ((f r).end.0 ≡ r.end.0) ⊎ ((f r).end.0 ≡ t.0 + 1)

set_cause : (t : EvaluationOrder) (f : MutableRange → MutableRange) → EndsAs t f → (rs : List Identifier) (i k : ℕ)
    → (end_at (set_in f rs i) k ≡ end_at rs k) ⊎ ((k ≡ i) × (end_at (set_in f rs i) k ≡ t.0 + 1))
set_cause t f h [] i k = inl refl
set_cause t f h (r ∷ rs) zero zero = ⊎_elim (λ p. inl p) (λ p. inr (refl, p)) (h r.mutable_range)
set_cause t f h (r ∷ rs) zero (suc k) = inl refl
set_cause t f h (r ∷ rs) (suc i) zero = inl refl
set_cause t f h (r ∷ rs) (suc i) (suc k) = ⊎_elim (λ p. inl p) (λ p. inr (ap suc p.0, p.1)) (set_cause t f h rs i k)

ranged_cause : (t : EvaluationOrder) (f : MutableRange → MutableRange) → EndsAs t f
    → (id : IdentifierId) (rs : List Identifier) (k : ℕ) → (end_at (ranged f id rs) k ≡ end_at rs k)
    ⊎ ((k ≡ id.0) × (end_at (ranged f id rs) k ≡ t.0 + 1))
ranged_cause t f h id rs k =
    let P : List Identifier → Type 0 = λ z. (end_at z k ≡ end_at rs k) ⊎ ((k ≡ id.0) × (end_at z k ≡ t.0 + 1)) in
    subst P (sym (sets f rs id.0)) (set_cause t f h rs id.0 k)

all_cause : (t : EvaluationOrder) (f : MutableRange → MutableRange) → EndsAs t f
    → (ps : List Place) (rs : List Identifier) (k : ℕ) → (end_at (all_ranged f ps rs) k ≡ end_at rs k)
    ⊎ (IsOneOf k (numbers_of ps) × (end_at (all_ranged f ps rs) k ≡ t.0 + 1))
all_cause t f h [] rs k = inl refl
all_cause t f h (p ∷ ps) rs k =
    let mid : List Identifier = ranged f p.identifier rs in
    ⊎_elim
    (λ later. ⊎_elim (λ now. inl (later ∙ now)) (λ now. inr (inl now.0, later ∙ now.1))
    (ranged_cause t f h p.identifier rs k))
    (λ later. inr (inr later.0, later.1))
    (all_cause t f h ps mid k)

-- a change of ranges that keeps the end
abbrev KeepsEnd : (MutableRange → MutableRange) → Type 0
KeepsEnd f = (r : MutableRange) → (f r).end.0 ≡ r.end.0

set_same : (f : MutableRange → MutableRange) → KeepsEnd f → (rs : List Identifier) (i k : ℕ) → end_at (set_in f rs i) k
    ≡ end_at rs k
set_same f h [] i k = refl
set_same f h (r ∷ rs) zero zero = h r.mutable_range
set_same f h (r ∷ rs) zero (suc k) = refl
set_same f h (r ∷ rs) (suc i) zero = refl
set_same f h (r ∷ rs) (suc i) (suc k) = set_same f h rs i k

ranged_same : (f : MutableRange → MutableRange) → KeepsEnd f → (id : IdentifierId) (rs : List Identifier) (k : ℕ)
    → end_at (ranged f id rs) k ≡ end_at rs k
ranged_same f h id rs k = ap (λ z. end_at z k) (sets f rs id.0) ∙ set_same f h rs id.0 k

all_same : (f : MutableRange → MutableRange) → KeepsEnd f → (ps : List Place) (rs : List Identifier) (k : ℕ)
    → end_at (all_ranged f ps rs) k ≡ end_at rs k
all_same f h [] rs k = refl
all_same f h (p ∷ ps) rs k = all_same f h ps (ranged f p.identifier rs) k ∙ ranged_same f h p.identifier rs k

phis_same : (t : EvaluationOrder) (phis : List Phi) (rs : List Identifier) (k : ℕ) → end_at (phis_merged t phis rs) k
    ≡ end_at rs k
phis_same t [] rs k = refl
phis_same t (phi ∷ phis) rs k = phis_same t phis (ranged (merged t) phi.place.identifier rs) k
    ∙ ranged_same (merged t) (λ r. refl) phi.place.identifier rs k

begun_ends : (t : EvaluationOrder) → EndsAs t (begun t)
begun_ends t r = grind (arith)

stored_ends : (t : EvaluationOrder) → EndsAs t (stored t)
stored_ends t r = grind (arith)

-- ---- an instruction

numbers_back : (table : Table) (ps : List Place) → numbers_of (map (with_table table ConditionallyMutate) ps)
    ≡ numbers_of ps
numbers_back table [] = refl
numbers_back table (p ∷ ps) = ap (λ z. p.identifier.0 ∷ z) (numbers_back table ps)

-- placing changes no identifier
written_lvalues : (table : Table) (v : InstructionValue) → numbers_of (lvalues_of (value_placed table v))
    ≡ numbers_of (lvalues_of v)
written_lvalues table (value.Destructure lvalue x) =
    ap numbers_of (pattern_back (with_table table ConditionallyMutate) lvalue.pattern)
    ∙ numbers_back table (pattern_places lvalue.pattern)
written_lvalues table v = refl

written_stored : (table : Table) (v : InstructionValue) → numbers_of (stored_places (value_placed table v))
    ≡ numbers_of (stored_places v)
written_stored table (value.StoreContext lvalue x) = refl
written_stored table v = refl

written_same : (table : Table) (i : Instruction) → written (places_placed table i) ≡ written i
written_same table i =
    ap (λ z. (i.lvalue.identifier.0 ∷ z) ++ numbers_of (stored_places (value_placed table i.value)))
    (written_lvalues table i.value)
    ∙ ap (λ z. (i.lvalue.identifier.0 ∷ numbers_of (lvalues_of i.value)) ++ z) (written_stored table i.value)

stored_cause : (t : EvaluationOrder) (v : InstructionValue) (rs : List Identifier) (k : ℕ)
    → (end_at (value_stored t v rs) k ≡ end_at rs k)
    ⊎ (IsOneOf k (numbers_of (stored_places v)) × (end_at (value_stored t v rs) k ≡ t.0 + 1))
stored_cause t (value.StoreContext lvalue x) rs k =
    ⊎_elim (λ h. inl h) (λ h. inr (inl h.0, h.1)) (ranged_cause t (stored t) (stored_ends t) x.identifier rs k)
stored_cause t v rs k = inl refl

abbrev Ended : Environment → Environment → List ℕ → EvaluationOrder → ℕ → Type 0
Ended old new places t k = (end_at new.identifiers k ≡ end_at old.identifiers k)
    ⊎ (IsOneOf k places × (end_at new.identifiers k ≡ t.0 + 1))

around_cause : (table : Table) (t : EvaluationOrder) (v : InstructionValue) (env : Environment) (k : ℕ)
    → Ended env (surroundings table t v env) (numbers_of (stored_places v)) t k
around_cause table t v env k =
    let mid : List Identifier = all_ranged (started t) (operands_of env v) env.identifiers in
    let e : end_at mid k ≡ end_at env.identifiers k =
    all_same (started t) (λ r. refl) (operands_of env v) env.identifiers k in
    ⊎_elim (λ h. inl (h ∙ e)) (λ h. inr h) (stored_cause t v mid k)

surround_cause : (b : Bool) (table : Table) (t : EvaluationOrder) (v : InstructionValue) (env : Environment) (k : ℕ)
    → Ended env (if b then env else surroundings table t v env) (numbers_of (stored_places v)) t k
surround_cause true table t v env k = inl refl
surround_cause false table t v env k = around_cause table t v env k

surrounded_cause : (o : Option (List AliasingEffect)) (table : Table) (t : EvaluationOrder) (v : InstructionValue)
    (env : Environment) (k : ℕ) → Ended env (surrounded o table t v env) (numbers_of (stored_places v)) t k
surrounded_cause None table t v env k = inl refl
surrounded_cause (Some es) table t v env k = surround_cause (length es == 0) table t v env k

instruction_cause : (i : Instruction) (env : Environment) (k : ℕ)
    → Ended env (instruction_placed i env).1 (written i) i.id k
instruction_cause i env k =
    let table : Table = table_of (assigned i env.identifiers) i in
    let first : List ℕ = numbers_of (i.lvalue ∷ lvalues_of i.value) in
    let second : List ℕ = numbers_of (stored_places i.value) in
    ⊎_elim
    (λ later. ⊎_elim
    (λ now. inl (later ∙ now))
    (λ now. inr (in_left first second k now.0, later ∙ now.1))
    (all_cause i.id (begun i.id) (begun_ends i.id) (i.lvalue ∷ lvalues_of i.value) env.identifiers k))
    (λ later. inr (in_right first second k later.0, later.1))
    (surrounded_cause i.effects table i.id i.value (env_assigned i env) k)

-- ---- instructions and blocks

module _ (all : List Instruction) where
  -- an instruction of the function, but for effects of places
  abbrev Original : Instruction → Type 0
  Original x = (y : Instruction) × IsOneOf y all × (y.id ≡ x.id) × (written y ≡ written x)

  abbrev Cause : Environment → Environment → ℕ → Type 0
  Cause old new k = (end_at new.identifiers k ≡ end_at old.identifiers k)
      ⊎ InstructionCause all k (end_at new.identifiers k)

  cause_trans : (a b c : Environment) (k : ℕ) → Cause a b k → Cause b c k → Cause a c k
  cause_trans a b c k p (inr h) = inr h
  cause_trans a b c k p (inl h) =
      let P : ℕ → Type 0 = λ z. InstructionCause all k z in
      ⊎_elim (λ q. inl (h ∙ q)) (λ q. inr (subst P (sym h) q)) p

  original : (i : Instruction) (env : Environment) → Original i → Original (instruction_placed i env).0
  original i env o = (o.0, o.1, o.2, o.3 ∙ sym (written_same (table_of (assigned i env.identifiers) i) i))

  in_original : (is : List Instruction) (env : Environment) (id : InstructionId) (o : Option Instruction)
      → AllOf Original is → slice_get is id.0 ≡ o → AllOf Original (placed_in is env id o).0
  in_original is env id None p e = p
  in_original is env id (Some i) p e = all_set Original is id.0 (instruction_placed i env).0 p
      (original i env (all_at Original is id.0 i p e))

  in_cause : (is : List Instruction) (env : Environment) (id : InstructionId) (o : Option Instruction) (k : ℕ)
      → AllOf Original is → slice_get is id.0 ≡ o → Cause env (placed_in is env id o).1 k
  in_cause is env id None k p e = inl refl
  in_cause is env id (Some i) k p e =
      let o = all_at Original is id.0 i p e in
      let P : List ℕ → Type 0 = λ z. IsOneOf k z in
      ⊎_elim (λ h. inl h) (λ h. inr (o.0, o.1, subst P (sym o.3) h.0, h.1 ∙ ap (λ z. z.0 + 1) (sym o.2)))
      (instruction_cause i env k)

  instructions_original : (ids : List InstructionId) (s : List Instruction × Environment) → AllOf Original s.0
      → AllOf Original (instructions_placed ids s).0
  instructions_original [] s p = p
  instructions_original (id ∷ ids) s p = instructions_original ids (instruction_at s id)
      (in_original s.0 s.1 id (slice_get s.0 id.0) p refl)

  instructions_cause : (ids : List InstructionId) (s : List Instruction × Environment) (k : ℕ) → AllOf Original s.0
      → Cause s.1 (instructions_placed ids s).1 k
  instructions_cause [] s k p = inl refl
  instructions_cause (id ∷ ids) s k p =
      cause_trans s.1 (instruction_at s id).1 (instructions_placed (id ∷ ids) s).1 k
      (in_cause s.0 s.1 id (slice_get s.0 id.0) k p refl)
      (instructions_cause ids (instruction_at s id) k (in_original s.0 s.1 id (slice_get s.0 id.0) p refl))

  at_original : (b : Bool) (j : ℕ) (o : Option BasicBlock) (s : Placed) → AllOf Original s.0.instructions
      → AllOf Original (placed_at b j o s).0.instructions
  at_original b j None s p = p
  at_original b j (Some x) s p = instructions_original x.instructions (s.0.instructions, (ends_at_slot b j x s.0 s.1).1)
      p

  at_cause : (b : Bool) (j : ℕ) (o : Option BasicBlock) (s : Placed) (k : ℕ) → AllOf Original s.0.instructions
      → Cause s.1 (placed_at b j o s).1 k
  at_cause b j None s k p = inl refl
  at_cause b j (Some x) s k p =
      let mid : Environment = block_merged s.0 x s.1 in
      cause_trans s.1 mid (placed_at b j (Some x) s).1 k
      (inl (phis_same (first_order s.0.instructions x) x.phis s.1.identifiers k))
      (instructions_cause x.instructions (s.0.instructions, mid) k p)

  blocks_cause : (b : Bool) (n j : ℕ) (s : Placed) (k : ℕ) → AllOf Original s.0.instructions
      → Cause s.1 (blocks_placed b n j s).1 k
  blocks_cause b zero j s k p = inl refl
  blocks_cause b (suc n) j s k p =
      let o : Option BasicBlock = option_map (λ (e : BlockId × BasicBlock). e.1) (slice_get s.0.body.blocks j) in
      cause_trans s.1 (block_placed b j s).1 (blocks_placed b (suc n) j s).1 k (at_cause b j o s k p)
      (blocks_cause b n (j + 1) (block_placed b j s) k (at_original b j o s p))

  all_original : (is : List Instruction) → ((x : Instruction) → IsOneOf x is → IsOneOf x all) → AllOf Original is
  all_original [] h = tt
  all_original (i ∷ is) h = ((i, h i (inl refl), refl, refl), all_original is (λ x p. h x (inr p)))

-- an end that a function's placing changed is one past an instruction that assigns the identifier, or stores it
pub function_causes : (b : Bool) (s : Placed)
    → EndsCaused s.0.instructions s.1.identifiers (function_placed b s).1.identifiers
function_causes b s k = blocks_cause s.0.instructions b (length s.0.body.blocks) 0 s k
    (all_original s.0.instructions s.0.instructions (λ x p. p))
