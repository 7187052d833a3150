-- Instructions that carry alike set the same effects of places and the same ranges.
use Rattle.std.specs.Prelude.{◌≡◌, ℕ, zero, suc, ◌⊎◌, ◌==◌, Bool, false, List, [], ◌∷◌, Option, Some, None}
use Rattle.std.specs.Prelude.{if◌then◌else◌, length, slice_get, slice_set, refl}
use Rattle.std.proofs.Common.{ap, sym, ◌∙◌, subst, subst₂, inl, inr, ⊎_elim, arith, ne_eqb}
use Rattle.alias_base.specs.declared.ids.EvaluationOrder.{EvaluationOrder}
use Rattle.alias_base.specs.declared.ids.FunctionId.{FunctionId}
use Rattle.alias_base.specs.declared.ids.InstructionId.{InstructionId}
use Rattle.alias_hir.specs.Values.{created}
use Rattle.alias_hir.specs.declared.effect.AliasingEffect.{AliasingEffect}
use Rattle.alias_hir.specs.declared.env.Environment.{Environment}
use Rattle.alias_hir.specs.declared.env.Identifier.{Identifier}
use Rattle.alias_hir.specs.declared.hir.Instruction.{Instruction}
use Rattle.alias_hir.specs.declared.report.Interned.{Interned}
use Rattle.alias_hir.specs.declared.value.InstructionValue.{InstructionValue}
use Rattle.alias_hir.specs.declared.value.InstructionValue.TheVariants as value
use Rattle.alias_graph.specs.Walks.{IsOneOf}
use Rattle.alias_range_pass.specs.places.Instructions.{value_placed, places_placed, created_placed, surroundings}
use Rattle.alias_range_pass.specs.places.Instructions.{surrounded, env_assigned, placed_by, instruction_placed}
use Rattle.alias_range_pass.specs.places.Instructions.{placed_in, instruction_at, instructions_placed}
use Rattle.alias_range_pass.specs.places.Ranges.{started, assigned, value_stored}
use Rattle.alias_range_pass.specs.places.Tables.{Table, effect_tabled, effects_tabled, recorded, table_of}
use Rattle.alias_certificate_laws.specs.accepting.Alike.{Paired, none, more, Maybe, nothing, just, Alike, apply}
use Rattle.alias_certificate_laws.specs.accepting.Alike.{create_from, immutable_capture, assign, alias, capture}
use Rattle.alias_certificate_laws.specs.accepting.Alike.{maybe_alias, create, freeze, impure, mutate_frozen}
use Rattle.alias_certificate_laws.specs.accepting.Alike.{mutate_global, render, mutate, mutate_conditionally}
use Rattle.alias_certificate_laws.specs.accepting.Alike.{mutate_transitive, mutate_transitive_conditionally}
use Rattle.alias_certificate_laws.specs.accepting.Alike.{create_function, AlikeEffects}
use Rattle.alias_certificate_laws.proofs.accepting.Likeness.{paired_get}
use Rattle.alias_range_alike_laws.specs.Ranging.{CarryAlike, carried, Sets}
use Rattle.alias_range_alike_laws.proofs.Answers.{paired_set}
use Rattle.alias_range_alike_laws.proofs.Around.{AlikeEnv, of_env, around, weaken}
use Rattle.alias_range_alike_laws.proofs.Contexts.{operands_ranged, created_near}

-- ---- tables

tabled_same : (ids : List Identifier) (t : EvaluationOrder) (e f : AliasingEffect) (table : Table) → Alike e f
    → effect_tabled ids t f table ≡ effect_tabled ids t e table
tabled_same ids t e f table (apply r s g h x y mutates args others signature span other a) = refl
tabled_same ids t e f table (create_from a b x y) = refl
tabled_same ids t e f table (immutable_capture a b x y) = refl
tabled_same ids t e f table (assign a b x y) = refl
tabled_same ids t e f table (alias a b x y) = refl
tabled_same ids t e f table (capture a b x y) = refl
tabled_same ids t e f table (maybe_alias a b x y) = refl
tabled_same ids t e f table (create x y k r) = refl
tabled_same ids t e f table (freeze v w r) = refl
tabled_same ids t e f table (impure p q d g) = refl
tabled_same ids t e f table (mutate_frozen p q d g) = refl
tabled_same ids t e f table (mutate_global p q d g) = refl
tabled_same ids t e f table (render p q) = refl
tabled_same ids t e f table (mutate v w r s) = refl
tabled_same ids t e f table (mutate_conditionally v w) = refl
tabled_same ids t e f table (mutate_transitive v w) = refl
tabled_same ids t e f table (mutate_transitive_conditionally v w) = refl
tabled_same ids t e f table (create_function x y g ps qs a) = refl

effects_tabled_same : (ids : List Identifier) (t : EvaluationOrder) (es fs : List AliasingEffect) (table : Table)
    → AlikeEffects es fs → effects_tabled ids t fs table ≡ effects_tabled ids t es table
effects_tabled_same ids t es fs table none = refl
effects_tabled_same ids t es fs table (more {a = e} {b = f} {xs = us} {ys = vs} q qs) =
    ap (λ z. effects_tabled ids t vs z) (tabled_same ids t e f table q)
    ∙ effects_tabled_same ids t us vs (effect_tabled ids t e table) qs

recorded_tabled_same : (ids : List Identifier) (t : EvaluationOrder) (o p : Option (List AliasingEffect))
    → Maybe AlikeEffects o p → effects_tabled ids t (recorded p) [] ≡ effects_tabled ids t (recorded o) []
recorded_tabled_same ids t o p nothing = refl
recorded_tabled_same ids t o p (just {a = es} {b = fs} q) = effects_tabled_same ids t es fs [] q

-- ---- one instruction

-- an effect at least is carried, and the k-th function created
abbrev IsSet : Option (List AliasingEffect) → Option FunctionId → ℕ → Type 0
IsSet es o k = (e : AliasingEffect) × (others : List AliasingEffect) × (es ≡ Some (e ∷ others))
    × (o ≡ Some (record { 0 = k }))

carried_is : (e : AliasingEffect) (es : List AliasingEffect) (table : Table) (t : EvaluationOrder)
    (v : InstructionValue) (env : Environment) → surrounded (Some (e ∷ es)) table t v env ≡ surroundings table t v env
carried_is e es table t v env =
    let some : (length (e ∷ es) == 0) ≡ false = ne_eqb (length (e ∷ es)) 0 (λ is. omega arith) in
    ap (λ (b : Bool). if b then env else surroundings table t v env) some

module _ (P : ℕ → Type 0) (recording : Bool) (interned : List Interned) where
  surroundings_alike : (table : Table) (t : EvaluationOrder) (v : InstructionValue) (env other : Environment)
      → AlikeEnv P recording interned env other
      → AlikeEnv (λ k. P k ⊎ (created v ≡ Some (record { 0 = k }))) recording interned (surroundings table t v env)
      (surroundings table t v other)
  surroundings_alike table t v env other (of_env _ fs errors q same) =
      let Q : ℕ → Type 0 = λ k. P k ⊎ (created v ≡ Some (record { 0 = k })) in
      let there : Environment = around env fs interned errors in
      subst (λ (ids : List Identifier). AlikeEnv Q recording interned (surroundings table t v env)
      (record there { identifiers = value_stored t v ids; functions = created_placed table (created v) fs }))
      (sym (operands_ranged (started t) env fs interned errors env.identifiers q.near v))
      (of_env (surroundings table t v env) (created_placed table (created v) fs) errors
      (created_near P table (created v) env.functions fs q) same)

  surrounded_alike : (es fs : Option (List AliasingEffect)) (table : Table) (t : EvaluationOrder) (v : InstructionValue)
      (env other : Environment) → Maybe AlikeEffects es fs → AlikeEnv P recording interned env other
      → AlikeEnv (λ k. P k ⊎ IsSet es (created v) k) recording interned (surrounded es table t v env)
      (surrounded fs table t v other)
  surrounded_alike es fs table t v env other nothing q =
      weaken recording interned (λ k. P k ⊎ IsSet None (created v) k) P
      (λ k. ⊎_elim (λ h. h) (λ (s : IsSet None (created v) k). let no : None ≡ Some (s.0 ∷ s.1) = s.2 in cc)) env other
      q
  surrounded_alike es fs table t v env other (just none) q =
      weaken recording interned (λ k. P k ⊎ IsSet (Some []) (created v) k) P
      (λ k. ⊎_elim (λ h. h) (λ (s : IsSet (Some []) (created v) k). let no : Some [] ≡ Some (s.0 ∷ s.1) = s.2 in cc))
      env other q
  surrounded_alike es fs table t v env other (just (more {a = e} {b = f} {xs = us} {ys = vs} p ps)) q =
      let Q : ℕ → Type 0 = λ k. P k ⊎ IsSet (Some (e ∷ us)) (created v) k in
      subst₂ (λ (x y : Environment). AlikeEnv Q recording interned x y) (sym (carried_is e us table t v env))
      (sym (carried_is f vs table t v other))
      (weaken recording interned Q (λ k. P k ⊎ (created v ≡ Some (record { 0 = k })))
      (λ k. ⊎_elim (λ h. inl h) (λ (s : IsSet (Some (e ∷ us)) (created v) k). inr s.3))
      (surroundings table t v env) (surroundings table t v other) (surroundings_alike table t v env other q))

  assigned_alike : (i : Instruction) (effects : Option (List AliasingEffect)) (env other : Environment)
      → AlikeEnv P recording interned env other
      → AlikeEnv P recording interned (env_assigned i env) (env_assigned (record i { effects = effects }) other)
  assigned_alike i effects env other (of_env _ fs errors q same) = of_env (env_assigned i env) fs errors q same

  same_identifiers : (env other : Environment) → AlikeEnv P recording interned env other → other.identifiers
      ≡ env.identifiers
  same_identifiers env other (of_env _ fs errors q same) = refl

  -- the table is the same
  table_same : (i : Instruction) (effects : Option (List AliasingEffect)) (env other : Environment)
      → Maybe AlikeEffects i.effects effects → AlikeEnv P recording interned env other
      → table_of (assigned (record i { effects = effects }) other.identifiers) (record i { effects = effects })
      ≡ table_of (assigned i env.identifiers) i
  table_same i effects env other a q =
      ap (λ (ids : List Identifier). table_of (assigned i ids) (record i { effects = effects }))
      (same_identifiers env other q) ∙ recorded_tabled_same (assigned i env.identifiers) i.id i.effects effects a

-- what an instruction leaves
pub record AlikePlaced (P : ℕ → Type 0) (recording : Bool) (interned : List Interned)
    (s t : Instruction × Environment) : Type 0 where
  pub instruction : CarryAlike s.0 t.0
  pub env : AlikeEnv P recording interned s.1 t.1

placed_alike : (P : ℕ → Type 0) (recording : Bool) (interned : List Interned) (i : Instruction)
    (effects : Option (List AliasingEffect)) (env other : Environment) → Maybe AlikeEffects i.effects effects
    → AlikeEnv P recording interned env other
    → AlikePlaced (λ k. P k ⊎ IsSet i.effects (created i.value) k) recording interned (instruction_placed i env)
    (instruction_placed (record i { effects = effects }) other)
placed_alike P recording interned i effects env other a q =
    let j : Instruction = record i { effects = effects } in
    let Q : ℕ → Type 0 = λ k. P k ⊎ IsSet i.effects (created i.value) k in
    let table : Table = table_of (assigned i env.identifiers) i in
    subst (λ (z : Table). AlikePlaced Q recording interned (instruction_placed i env)
    (placed_by z j (env_assigned j other))) (sym (table_same P recording interned i effects env other a q))
    (record {
      instruction = carried (places_placed table i) effects a;
      env = surrounded_alike P recording interned i.effects effects table i.id i.value (env_assigned i env)
          (env_assigned j other) a (assigned_alike P recording interned i effects env other q);
    })

-- ---- the instructions of a function

abbrev pub State : Type 0
State = List Instruction × Environment

pub record AlikeState (P : ℕ → Type 0) (recording : Bool) (interned : List Interned) (s t : State) : Type 0 where
  pub instructions : Paired CarryAlike s.0 t.0
  pub env : AlikeEnv P recording interned s.1 t.1

pub weaken_state : (P Q : ℕ → Type 0) (recording : Bool) (interned : List Interned) → ((k : ℕ) → P k → Q k)
    → (s t : State) → AlikeState Q recording interned s t → AlikeState P recording interned s t
weaken_state P Q recording interned h s t q =
    record { instructions = q.instructions; env = weaken recording interned P Q h s.1 t.1 q.env }

is_set : (i : Instruction) (k : ℕ) → Sets (Some i) k → IsSet i.effects (created i.value) k
is_set i k s =
    let there : Some i ≡ Some s.instruction = s.there in
    let same : i ≡ s.instruction = cc in
    subst (λ (z : Instruction). IsSet z.effects (created z.value) k) (sym same)
    (s.first, s.others, s.carries, s.creates)

module _ (recording : Bool) (interned : List Interned) where
  in_alike : (P : ℕ → Type 0) (xs ys : List Instruction) (env other : Environment) (id : InstructionId)
      (o p : Option Instruction) → Paired CarryAlike xs ys → AlikeEnv P recording interned env other
      → Maybe CarryAlike o p
      → AlikeState (λ k. P k ⊎ Sets o k) recording interned (placed_in xs env id o) (placed_in ys other id p)
  in_alike P xs ys env other id o p a q nothing =
      record {
        instructions = a;
        env = weaken recording interned (λ k. P k ⊎ Sets None k) P
            (λ k. ⊎_elim (λ h. h) (λ (s : Sets None k). let no : None ≡ Some s.instruction = s.there in cc)) env other
            q;
      }
  in_alike P xs ys env other id o p a q (just (carried i effects c)) =
      let r = placed_alike P recording interned i effects env other c q in
      let j : Instruction = record i { effects = effects } in
      record {
        instructions = paired_set id.0 (instruction_placed i env).0 (instruction_placed j other).0 xs ys r.instruction
            a;
        env = weaken recording interned (λ k. P k ⊎ Sets (Some i) k) (λ k. P k ⊎ IsSet i.effects (created i.value) k)
            (λ k. ⊎_elim (λ h. inl h) (λ s. inr (is_set i k s))) (instruction_placed i env).1
            (instruction_placed j other).1 r.env;
      }

  at_alike : (P : ℕ → Type 0) (s t : State) (id : InstructionId) → AlikeState P recording interned s t
      → AlikeState (λ k. P k ⊎ Sets (slice_get s.0 id.0) k) recording interned (instruction_at s id)
      (instruction_at t id)
  at_alike P s t id q = in_alike P s.0 t.0 s.1 t.1 id (slice_get s.0 id.0) (slice_get t.0 id.0) q.instructions q.env
      (paired_get id.0 s.0 t.0 q.instructions)

-- ---- what is set stays so

created_stays : (table : Table) (v : InstructionValue) → created (value_placed table v) ≡ created v
created_stays table (value.FunctionExpression lowered) = refl
created_stays table (value.ObjectMethod lowered) = refl
created_stays table v = refl

one_stays : (table : Table) (i : Instruction) (k : ℕ) → Sets (Some i) k → Sets (Some (places_placed table i)) k
one_stays table i k s =
    let r = is_set i k s in
    record {
      instruction = places_placed table i;
      there = refl;
      creates = created_stays table i.value ∙ r.3;
      first = r.0;
      others = r.1;
      carries = r.2;
    }

sets_in : (xs : List Instruction) (n m k : ℕ) (i : Instruction) (table : Table) → slice_get xs n ≡ Some i
    → Sets (slice_get xs m) k → Sets (slice_get (slice_set xs n (places_placed table i)) m) k
sets_in [] n m k i table at s = s
sets_in (x ∷ xs) zero zero k i table at s = let same : x ≡ i = cc in
    one_stays table i k (subst (λ z. Sets (Some z) k) same s)
sets_in (x ∷ xs) zero (suc m) k i table at s = s
sets_in (x ∷ xs) (suc n) zero k i table at s = s
sets_in (x ∷ xs) (suc n) (suc m) k i table at s = sets_in xs n m k i table at s

sets_by : (xs : List Instruction) (env : Environment) (id : InstructionId) (o : Option Instruction) → slice_get xs id.0
    ≡ o → (m k : ℕ) → Sets (slice_get xs m) k → Sets (slice_get (placed_in xs env id o).0 m) k
sets_by xs env id None at m k s = s
sets_by xs env id (Some i) at m k s = sets_in xs id.0 m k i (table_of (assigned i env.identifiers) i) at s

sets_at : (s : State) (id : InstructionId) (m k : ℕ) → Sets (slice_get s.0 m) k
    → Sets (slice_get (instruction_at s id).0 m) k
sets_at s id m k h = sets_by s.0 s.1 id (slice_get s.0 id.0) refl m k h

pub sets_stay : (ids : List InstructionId) (s : State) (m k : ℕ) → Sets (slice_get s.0 m) k
    → Sets (slice_get (instructions_placed ids s).0 m) k
sets_stay [] s m k h = h
sets_stay (id ∷ ids) s m k h = sets_stay ids (instruction_at s id) m k (sets_at s id m k h)

-- ---- all instructions of a block

-- one of these instructions creates the k-th function, and carries an effect at least
abbrev pub OneSets : List Instruction → List InstructionId → ℕ → Type 0
OneSets xs ids k = (id : InstructionId) × IsOneOf id ids × Sets (slice_get xs id.0) k

one_sets : (s : State) (id : InstructionId) (ids : List InstructionId) (k : ℕ) → OneSets s.0 (id ∷ ids) k
    → Sets (slice_get s.0 id.0) k ⊎ OneSets (instruction_at s id).0 ids k
one_sets s id ids k h = ⊎_elim (λ (is : h.0 ≡ id).
    inl (subst (λ (z : InstructionId). Sets (slice_get s.0 z.0) k) is h.2))
    (λ (one : IsOneOf h.0 ids). inr (h.0, one, sets_at s id h.0.0 k h.2)) h.1

module _ (recording : Bool) (interned : List Interned) where
  pub instructions_alike : (P : ℕ → Type 0) (ids : List InstructionId) (s t : State)
      → AlikeState P recording interned s t → AlikeState (λ k. P k ⊎ OneSets s.0 ids k) recording interned
      (instructions_placed ids s) (instructions_placed ids t)
  instructions_alike P [] s t q = weaken_state (λ k. P k ⊎ OneSets s.0 [] k) P recording interned
      (λ k. ⊎_elim (λ h. h) (λ (h : OneSets s.0 [] k). absurd h.1)) s t q
  instructions_alike P (id ∷ ids) s t q =
      let P1 : ℕ → Type 0 = λ k. P k ⊎ Sets (slice_get s.0 id.0) k in
      let s1 : State = instruction_at s id in
      let t1 : State = instruction_at t id in
      let r = instructions_alike P1 ids s1 t1 (at_alike recording interned P s t id q) in
      weaken_state (λ k. P k ⊎ OneSets s.0 (id ∷ ids) k) (λ k. P1 k ⊎ OneSets s1.0 ids k) recording interned
      (λ k. ⊎_elim (λ h. inl (inl h)) (λ (h : OneSets s.0 (id ∷ ids) k).
      ⊎_elim (λ a. inl (inr a)) (λ b. inr b) (one_sets s id ids k h)))
      (instructions_placed ids s1) (instructions_placed ids t1) r
