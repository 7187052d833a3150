-- The first validation comes to no operand without an effect, where the functions that it walks have none.
use Rattle.std.specs.Prelude.{◌≡◌, ℕ, Bool, true, false, cond, ◌||◌, List, [], ◌∷◌, ◌++◌, Option, Some, None, Result}
use Rattle.std.specs.Prelude.{Ok, Err, ⊤, map, slice_get, refl}
use Rattle.std.specs.List.{AllByRecursion, flat_map}
use Rattle.std.proofs.Common.{zero, suc}
use Rattle.alias_base.specs.Answer.{◌>>=◌}
use Rattle.alias_base.specs.declared.ids.BlockId.{BlockId}
use Rattle.alias_base.specs.declared.ids.FunctionId.{FunctionId}
use Rattle.alias_base.specs.declared.ids.IdentifierId.{IdentifierId}
use Rattle.alias_base.specs.declared.ids.InstructionId.{InstructionId}
use Rattle.alias_hir.specs.Tables.{has_no_alias}
use Rattle.alias_hir.specs.Terminals.{terminal_places}
use Rattle.alias_hir.specs.Values.{created}
use Rattle.alias_hir.specs.declared.env.Environment.{Environment}
use Rattle.alias_hir.specs.declared.error.InferError.{InferError}
use Rattle.alias_hir.specs.declared.error.InferError.TheVariants.{EffectsNotInferred}
use Rattle.alias_hir.specs.declared.hir.BasicBlock.{BasicBlock}
use Rattle.alias_hir.specs.declared.hir.HirFunction.{HirFunction}
use Rattle.alias_hir.specs.declared.hir.Instruction.{Instruction}
use Rattle.alias_hir.specs.declared.place.Place.{Place}
use Rattle.alias_hir.specs.declared.value.InstructionValue.{InstructionValue}
use Rattle.alias_hir.specs.declared.value.InstructionValue.TheVariants.{CallExpression, MethodCall, FunctionExpression}
use Rattle.alias_hir.specs.declared.value.InstructionValue.TheVariants.{ObjectMethod, DeclareContext, LoadLocal}
use Rattle.alias_hir.specs.declared.value.InstructionValue.TheVariants.{StoreContext, StoreLocal}
use Rattle.alias_nested.specs.Created.{one_of, created_by, created_by_all, created_functions}
use Rattle.alias_nested.specs.Units.{validated}
use Rattle.alias_validate.specs.InstructionSteps.{plain_step}
use Rattle.alias_validate.specs.Marking.{is_unknown, mark_of}
use Rattle.alias_validate.specs.OperandMarks.{ReassigningFunctions, Seen, first_mark, marked_operand, operand, checked}
use Rattle.alias_validate.specs.OperandMarks.{other_step}
use Rattle.alias_validate.specs.Reassigning.{Below, created_step, value_step, instruction_step, instruction_steps}
use Rattle.alias_validate.specs.Reassigning.{block_step, block_steps, context_reassignment, reassigned_reports}
use Rattle.alias_validate.specs.Reassigning.{with_reassigned}
use Rattle.alias_validate.specs.Walks.{each, ended}
use Rattle.alias_validate.specs.declared.outcome.Shared.{Shared}
use Rattle.alias_validate.specs.declared.outcome.WalkOutcome.{WalkOutcome}
use Rattle.alias_visit.specs.Operands.{owned_operands, lvalue_ids}
use Rattle.alias_answer_laws.specs.answers.Avoiding.{is_not_inferred, Answered, Avoids, avoids_then, avoids_and_then}
use Rattle.alias_answer_laws.specs.answers.KnownValueLaws.{IsKnown, OperandsKnown}
use Rattle.alias_answer_laws.specs.answers.KnownFunctionLaws.{KnownAt, IdsKnown, listed_in, FunctionKnown}

-- no operand is said to have no effect, and what is answered has the property
abbrev pub Comes : {A : Type 0} → (A → Type 0) → Result A InferError → Type 0
Comes P r = Avoids is_not_inferred P r

-- no operand is said to have no effect
abbrev pub Passes : {A : Type 0} → Result A InferError → Type 0
Passes {A} r = Comes (Answered {A = A}) r

-- the function on a level, where there is one, and those that it creates on the n - 1 levels below, have operands with
-- effects
unfoldable pub WalkKnown : ℕ → Environment → Option HirFunction → Type 0
WalkKnown zero env o = ⊤
WalkKnown (suc n) env None = ⊤
WalkKnown (suc n) env (Some f) = FunctionKnown f
    × AllByRecursion (λ (id : FunctionId). WalkKnown n env (slice_get env.functions id.0)) (created_functions f)

-- ---- parts of walks

passes_then : {A B : Type 0} (r : Result A InferError) (g : A → Result B InferError) → Passes r
    → ((x : A) → Passes (g x)) → Passes (r >>= g)
passes_then {A} {B} r g h k = avoids_then is_not_inferred (Answered {A = A}) (Answered {A = B}) r g h (λ x q. k x)

passes_each : {S X : Type 0} (f : S → X → Result (S × WalkOutcome) InferError) (Q : X → Type 0)
    → ((s : S) (x : X) → Q x → Passes (f s x)) → (xs : List X) → AllByRecursion Q xs → (s : S) → Passes (each f s xs)
passes_each f Q h [] q s = tt
passes_each f Q h (x ∷ xs) q s = passes_then (f s x) _ (h s x q.0)
    (λ r. avoids_and_then is_not_inferred (λ t. each f t xs) r.0 r.1 (passes_each f Q h xs q.1 r.0))

pub both_parts : {X : Type 0} (P : X → Type 0) (xs ys : List X) → AllByRecursion P (xs ++ ys) → AllByRecursion P xs
    × AllByRecursion P ys
both_parts P [] ys h = (tt, h)
both_parts P (x ∷ xs) ys h = let b = both_parts P xs ys h.1 in ((h.0, b.0), b.1)

-- ---- instructions

passes_operand : (unknown : Bool) (e : InferError) (r : ReassigningFunctions × WalkOutcome) → unknown ≡ false
    → Passes (cond unknown (Err e) (Ok r))
passes_operand true e r h = cc
passes_operand false e r h = tt

operand_passes : (lvalues : List IdentifierId) (ms : ReassigningFunctions) (o : Place) → IsKnown o
    → Passes (operand lvalues ms o)
operand_passes lvalues ms o h = passes_operand (is_unknown o.effect) (EffectsNotInferred o.identifier)
    (marked_operand lvalues ms o.effect (mark_of ms o.identifier)) h

known_either : (b : Bool) (xs ys : List Place) → AllByRecursion IsKnown xs → AllByRecursion IsKnown ys
    → AllByRecursion IsKnown (cond b xs ys)
known_either true xs ys h k = h
known_either false xs ys h k = k

checked_known : (env : Environment) (v : InstructionValue) → created v ≡ None → OperandsKnown v
    → AllByRecursion IsKnown (checked env v)
checked_known env (CallExpression callee args) h k =
    known_either (has_no_alias env callee.identifier) (callee ∷ []) (owned_operands (CallExpression callee args))
    (k.0, tt) k
checked_known env (MethodCall receiver property args) h k =
    known_either (has_no_alias env property.identifier) (receiver ∷ property ∷ [])
    (owned_operands (MethodCall receiver property args)) (k.0, (k.1.0, tt)) k
checked_known env (FunctionExpression lowered) h k = cc
checked_known env (ObjectMethod lowered) h k = cc
checked_known env v h k = k

other_passes : (env : Environment) (s : Seen) (lvalues : List IdentifierId) (v : InstructionValue) → created v ≡ None
    → OperandsKnown v → Passes (other_step env s lvalues v)
other_passes env s lvalues v h k = passes_then (each (operand lvalues) s.0 (checked env v)) _
    (passes_each (operand lvalues) IsKnown (operand_passes lvalues) (checked env v) (checked_known env v h k) s.0)
    (λ r. tt)

plain_passes : (env : Environment) (b : Bool) (s : Seen) (lvalue : IdentifierId) (lvalues : List IdentifierId)
    (v : InstructionValue) → created v ≡ None → OperandsKnown v → Passes (plain_step env b s lvalue lvalues v)
plain_passes env b s lvalue lvalues (LoadLocal place) h k = tt
plain_passes env b s lvalue lvalues (StoreLocal target value) h k = tt
plain_passes env b s lvalue lvalues (DeclareContext target) h k = tt
plain_passes env b s lvalue lvalues (StoreContext target value) h k = tt
plain_passes env b s lvalue lvalues v h k = other_passes env s lvalues v h k

-- ---- functions

module _ (env : Environment) (n : ℕ) (below : Below)
    (passes : (async : Bool) (f : HirFunction) (sh : Shared) → WalkKnown n env (Some f)
    → Passes (below async f sh)) where
  abbrev SlotWalk : FunctionId → Type 0
  SlotWalk id = WalkKnown n env (slice_get env.functions id.0)

  created_passes : (async : Bool) (lvalue : IdentifierId) (s : Seen) (o : Option HirFunction) → WalkKnown n env o
      → Passes (created_step env below async lvalue s o)
  created_passes async lvalue s None h = tt
  created_passes async lvalue s (Some f) h =
      passes_then (below (async || f.is_async) f s.1) _ (passes (async || f.is_async) f s.1 h) (λ r. tt)

  value_passes : (b async : Bool) (s : Seen) (i : Instruction) (o : Option FunctionId) → created i.value ≡ o
      → OperandsKnown i.value → AllByRecursion SlotWalk (one_of o) → Passes (value_step env below b async s i o)
  value_passes b async s i None e k h = plain_passes env b s i.lvalue.identifier (lvalue_ids i) i.value e k
  value_passes b async s i (Some f) e k h = created_passes async i.lvalue.identifier s (slice_get env.functions f.0) h.0

  instruction_passes : (b async : Bool) (s : Seen) (o : Option Instruction) → KnownAt o
      → AllByRecursion SlotWalk (created_by o) → Passes (instruction_step env below b async s o)
  instruction_passes b async s None k h = tt
  instruction_passes b async s (Some i) k h = value_passes b async s i (created i.value) refl k h

  module _ (b async : Bool) (f : HirFunction) where
    abbrev IdWalk : InstructionId → Type 0
    IdWalk id = KnownAt (slice_get f.instructions id.0)
        × AllByRecursion SlotWalk (created_by (slice_get f.instructions id.0))

    ids_walk : (ids : List InstructionId) → IdsKnown f.instructions ids → AllByRecursion SlotWalk (created_by_all f ids)
        → AllByRecursion IdWalk ids
    ids_walk [] k h = tt
    ids_walk (id ∷ ids) k h = let p = both_parts SlotWalk (created_by (slice_get f.instructions id.0))
        (created_by_all f ids) h in ((k.0, p.0), ids_walk ids k.1 p.1)

    abbrev BlockWalk : BlockId × BasicBlock → Type 0
    BlockWalk x = AllByRecursion IdWalk x.1.instructions

    blocks_walk : (bs : List (BlockId × BasicBlock)) → AllByRecursion (IdsKnown f.instructions) (map listed_in bs)
        → AllByRecursion SlotWalk (flat_map (λ (x : BlockId × BasicBlock). created_by_all f x.1.instructions) bs)
        → AllByRecursion BlockWalk bs
    blocks_walk [] k h = tt
    blocks_walk (x ∷ bs) k h =
        let p = both_parts SlotWalk (created_by_all f x.1.instructions)
        (flat_map (λ (y : BlockId × BasicBlock). created_by_all f y.1.instructions) bs) h in
        (ids_walk x.1.instructions k.0 p.0, blocks_walk bs k.1 p.1)

    block_passes : (s : Seen) (x : BlockId × BasicBlock) → BlockWalk x → Passes (block_step env below b async f s x.1)
    block_passes s x h =
        passes_then (instruction_steps env below b async f s x.1.instructions) _
        (passes_each (λ t (i : InstructionId). instruction_step env below b async t (slice_get f.instructions i.0))
        IdWalk (λ t i q. instruction_passes b async t (slice_get f.instructions i.0) q.0 q.1) x.1.instructions h s)
        (λ r. avoids_and_then is_not_inferred
        (λ (t : Seen). Ok (t, ended (first_mark t.0 (terminal_places x.1.terminal)))) r.0 r.1 tt)

    blocks_pass : (s : Seen) → AllByRecursion BlockWalk f.body.blocks
        → Passes (block_steps env below b async f s f.body.blocks)
    blocks_pass s h = passes_each (λ t (x : BlockId × BasicBlock). block_step env below b async f t x.1) BlockWalk
        block_passes f.body.blocks h s

-- a walk of a function whose operands have effects, and those of the functions below it
reassignment_passes : (n : ℕ) (env : Environment) (b async : Bool) (f : HirFunction) (sh : Shared)
    → WalkKnown n env (Some f) → Passes (context_reassignment n env b async f sh)
unfolding context_reassignment WalkKnown
reassignment_passes zero env b async f sh h = tt
reassignment_passes (suc n) env b async f sh h =
    let below : Below = context_reassignment n env true in
    let passes : (async : Bool) (g : HirFunction) (sh : Shared) → WalkKnown n env (Some g) → Passes (below async g sh) =
    reassignment_passes n env true in
    passes_then (block_steps env below b async f ([], sh) f.body.blocks) _
    (blocks_pass env n below passes b async f ([], sh)
    (blocks_walk env n below passes b async f f.body.blocks h.0 h.1)) (λ r. tt)

-- both validations
pub validated_passes : (f : HirFunction) (env : Environment) → WalkKnown 64 env (Some f) → Passes (validated f env)
validated_passes f env h =
    let walked : Passes (context_reassignment 64 env false false f (record { context_variables = []; reports = [] })) =
    reassignment_passes 64 env false false f (record { context_variables = []; reports = [] }) h in
    let reported : Passes (reassigned_reports env f) =
    passes_then (context_reassignment 64 env false false f (record { context_variables = []; reports = [] })) _
    walked (λ r. tt) in
    passes_then (with_reassigned env (reassigned_reports env f)) _
    (passes_then (reassigned_reports env f) _ reported (λ rs. tt)) (λ more. tt)
