-- The validations refuse for no reason but an operand without an effect.
use Rattle.std.specs.Prelude.{◌≡◌, ℕ, Bool, true, false, cond, ◌||◌, List, [], ◌∷◌, Option, Some, None, Result, Ok, Err}
use Rattle.std.specs.Prelude.{slice_get}
use Rattle.std.proofs.Common.{zero, suc}
use Rattle.alias_base.specs.Answer.{◌>>=◌}
use Rattle.alias_base.specs.declared.ids.BlockId.{BlockId}
use Rattle.alias_base.specs.declared.ids.FunctionId.{FunctionId}
use Rattle.alias_base.specs.declared.ids.IdentifierId.{IdentifierId}
use Rattle.alias_base.specs.declared.ids.InstructionId.{InstructionId}
use Rattle.alias_hir.specs.Terminals.{terminal_places}
use Rattle.alias_hir.specs.Values.{created}
use Rattle.alias_hir.specs.declared.env.Environment.{Environment}
use Rattle.alias_hir.specs.declared.error.InferError.{InferError}
use Rattle.alias_hir.specs.declared.error.InferError.TheVariants.{EffectsNotInferred}
use Rattle.alias_hir.specs.declared.hir.BasicBlock.{BasicBlock}
use Rattle.alias_hir.specs.declared.hir.HirFunction.{HirFunction}
use Rattle.alias_hir.specs.declared.hir.Instruction.{Instruction}
use Rattle.alias_hir.specs.declared.place.Place.{Place}
use Rattle.alias_hir.specs.declared.value.InstructionValue.{InstructionValue}
use Rattle.alias_hir.specs.declared.value.InstructionValue.TheVariants.{DeclareContext, LoadLocal, StoreContext}
use Rattle.alias_hir.specs.declared.value.InstructionValue.TheVariants.{StoreLocal}
use Rattle.alias_validate.specs.InstructionSteps.{plain_step}
use Rattle.alias_validate.specs.Marking.{is_unknown}
use Rattle.alias_validate.specs.OperandMarks.{ReassigningFunctions, Seen, first_mark, operand, checked, other_step}
use Rattle.alias_validate.specs.Reassigning.{Below, created_step, value_step, instruction_step, instruction_steps}
use Rattle.alias_validate.specs.Reassigning.{block_step, block_steps, context_reassignment, reassigned_reports}
use Rattle.alias_validate.specs.Reassigning.{with_reassigned}
use Rattle.alias_validate.specs.Walks.{each, ended}
use Rattle.alias_validate.specs.declared.outcome.Shared.{Shared}
use Rattle.alias_validate.specs.declared.outcome.WalkOutcome.{WalkOutcome}
use Rattle.alias_visit.specs.Operands.{lvalue_ids}
use Rattle.alias_nested.specs.Units.{validated}
use Rattle.alias_answer_laws.specs.answers.Avoiding.{Avoids, Answered, avoids_then, avoids_and_then}

-- a reason that isn't that an operand has no effect
module _ (is : InferError → Bool) (other : (x : IdentifierId) → is (EffectsNotInferred x) ≡ false) where
  abbrev Says : {A : Type 0} → Result A InferError → Type 0
  Says {A} r = Avoids is (Answered {A = A}) r

  says_then : {A B : Type 0} (r : Result A InferError) (g : A → Result B InferError) → Says r → ((x : A) → Says (g x))
      → Says (r >>= g)
  says_then {A} {B} r g h k = avoids_then is (Answered {A = A}) (Answered {A = B}) r g h (λ x q. k x)

  says_each : {S X : Type 0} (f : S → X → Result (S × WalkOutcome) InferError) → ((s : S) (x : X) → Says (f s x))
      → (xs : List X) (s : S) → Says (each f s xs)
  says_each f h [] s = tt
  says_each f h (x ∷ xs) s = says_then (f s x) _ (h s x)
      (λ r. avoids_and_then is (λ t. each f t xs) r.0 r.1 (says_each f h xs r.0))

  -- ---- instructions

  says_operand : (unknown : Bool) (e : InferError) (r : ReassigningFunctions × WalkOutcome) → is e ≡ false
      → Says (cond unknown (Err e) (Ok r))
  says_operand true e r h = h
  says_operand false e r h = tt

  operand_says : (lvalues : List IdentifierId) (ms : ReassigningFunctions) (o : Place) → Says (operand lvalues ms o)
  operand_says lvalues ms o = says_operand (is_unknown o.effect) _ _ (other o.identifier)

  other_says : (env : Environment) (s : Seen) (lvalues : List IdentifierId) (v : InstructionValue)
      → Says (other_step env s lvalues v)
  other_says env s lvalues v = says_then (each (operand lvalues) s.0 (checked env v)) _
      (says_each (operand lvalues) (operand_says lvalues) (checked env v) s.0) (λ r. tt)

  plain_says : (env : Environment) (b : Bool) (s : Seen) (lvalue : IdentifierId) (lvalues : List IdentifierId)
      (v : InstructionValue) → Says (plain_step env b s lvalue lvalues v)
  plain_says env b s lvalue lvalues (LoadLocal place) = tt
  plain_says env b s lvalue lvalues (StoreLocal target value) = tt
  plain_says env b s lvalue lvalues (DeclareContext target) = tt
  plain_says env b s lvalue lvalues (StoreContext target value) = tt
  plain_says env b s lvalue lvalues v = other_says env s lvalues v

  module _ (env : Environment) where
    module _ (below : Below) (says : (async : Bool) (f : HirFunction) (sh : Shared) → Says (below async f sh)) where
      created_says : (async : Bool) (lvalue : IdentifierId) (s : Seen) (o : Option HirFunction)
          → Says (created_step env below async lvalue s o)
      created_says async lvalue s None = tt
      created_says async lvalue s (Some f) =
          says_then (below (async || f.is_async) f s.1) _ (says (async || f.is_async) f s.1) (λ r. tt)

      value_says : (b async : Bool) (s : Seen) (i : Instruction) (o : Option FunctionId)
          → Says (value_step env below b async s i o)
      value_says b async s i None = plain_says env b s i.lvalue.identifier (lvalue_ids i) i.value
      value_says b async s i (Some f) = created_says async i.lvalue.identifier s (slice_get env.functions f.0)

      instruction_says : (b async : Bool) (s : Seen) (o : Option Instruction)
          → Says (instruction_step env below b async s o)
      instruction_says b async s None = tt
      instruction_says b async s (Some i) = value_says b async s i (created i.value)

      -- ---- functions

      block_says : (b async : Bool) (f : HirFunction) (s : Seen) (x : BasicBlock)
          → Says (block_step env below b async f s x)
      block_says b async f s x =
          says_then (instruction_steps env below b async f s x.instructions) _
          (says_each (λ t (i : InstructionId). instruction_step env below b async t (slice_get f.instructions i.0))
          (λ t i. instruction_says b async t (slice_get f.instructions i.0)) x.instructions s)
          (λ r. avoids_and_then is (λ (t : Seen). Ok (t, ended (first_mark t.0 (terminal_places x.terminal)))) r.0 r.1
          tt)

      blocks_say : (b async : Bool) (f : HirFunction) (bs : List (BlockId × BasicBlock)) (s : Seen)
          → Says (block_steps env below b async f s bs)
      blocks_say b async f bs s = says_each (λ t (x : BlockId × BasicBlock). block_step env below b async f t x.1)
          (λ t x. block_says b async f t x.1) bs s

    reassignment_says : (n : ℕ) (b async : Bool) (f : HirFunction) (sh : Shared)
        → Says (context_reassignment n env b async f sh)
    unfolding context_reassignment
    reassignment_says zero b async f sh = tt
    reassignment_says (suc n) b async f sh =
        says_then (block_steps env (context_reassignment n env true) b async f ([], sh) f.body.blocks) _
        (blocks_say (context_reassignment n env true) (reassignment_says n true) b async f f.body.blocks ([], sh))
        (λ r. tt)

    reports_say : (f : HirFunction) → Says (reassigned_reports env f)
    reports_say f = says_then (context_reassignment 64 env false false f
        (record { context_variables = []; reports = [] })) _
        (reassignment_says 64 false false f (record { context_variables = []; reports = [] })) (λ r. tt)

  -- both validations
  pub validated_says : (f : HirFunction) (env : Environment) → Says (validated f env)
  validated_says f env =
      says_then (with_reassigned env (reassigned_reports env f)) _
      (says_then (reassigned_reports env f) _ (reports_say env f) (λ rs. tt)) (λ more. tt)
