-- A nested function that keeps its rules keeps them as a function of its own: the rules name it in their faults alone.
use Rattle.std.specs.Prelude.{◌≡◌, ℕ, Bool, true, false, ◌||◌, ◌==◌, nat_le, List, [], ◌∷◌, length, Option, Some, None}
use Rattle.std.specs.Prelude.{Result, Ok, Err, ⊤, refl, if◌then◌else◌}
use Rattle.std.proofs.Common.{ap}
use Rattle.alias_base.specs.Answer.{◌>>=◌, all_pass}
use Rattle.alias_base.specs.AnswerLaws.{both_pass}
use Rattle.alias_base.specs.declared.ids.BlockId.{BlockId}
use Rattle.alias_base.specs.declared.ids.EvaluationOrder.{EvaluationOrder}
use Rattle.alias_base.specs.declared.ids.FunctionId.{FunctionId}
use Rattle.alias_hir.specs.Terminals.{evaluation_order, optional_block, successors}
use Rattle.alias_hir.specs.declared.env.Environment.{Environment}
use Rattle.alias_hir.specs.declared.hir.BasicBlock.{BasicBlock}
use Rattle.alias_hir.specs.declared.hir.HirFunction.{HirFunction}
use Rattle.alias_hir.specs.declared.hir.Instruction.{Instruction}
use Rattle.alias_hir.specs.declared.hir.Phi.{Phi}
use Rattle.alias_hir.specs.declared.place.Place.{Place}
use Rattle.alias_rules.specs.function_rules.Rules.{is_block, named_exists, leads_to_blocks, handler_of, missing}
use Rattle.alias_rules.specs.function_rules.Rules.{first_missing, listed_instructions, twice, first_again, shared}
use Rattle.alias_rules.specs.function_rules.Rules.{handlers, has_edge, operand_fits, operands_fit, order_fits, repeated}
use Rattle.alias_rules.specs.function_rules.Rules.{own_identifiers, at_most, argument_count}
use Rattle.alias_rules.specs.declared.function_rules.fault.Holder.TheVariants as holder
use Rattle.alias_rules.specs.declared.function_rules.fault.UnitFault.{UnitFault}
use Rattle.alias_rules.specs.Functions.{rule_holds}
use Rattle.alias_rules.specs.declared.rules.Rule.{Rule}
use Rattle.alias_rules.specs.declared.rules.Rule.TheVariants.{Numbers, Entry, Successors, Listed, ListedOnce, Handlers}
use Rattle.alias_rules.specs.declared.rules.Rule.TheVariants.{Phis, Orders, Distinct, Calls, ContextValues}
use Rattle.alias_nesting_laws.specs.ClosureLaws.{left_true}
use Rattle.alias_nesting_laws.specs.FittingLaws.{then_pass}

-- ---- steps

pub then_passes : {E : Type 0} (r s r2 s2 : Result ⊤ E) → (r ≡ Ok tt → r2 ≡ Ok tt) → (s ≡ Ok tt → s2 ≡ Ok tt)
    → (r >>= (λ _. s)) ≡ Ok tt → (r2 >>= (λ _. s2)) ≡ Ok tt
then_passes r s r2 s2 f g h = let b = both_pass r s h in then_pass r2 s2 (f b.0) (g b.1)

pub passes_on : {A E : Type 0} (f g : A → Result ⊤ E) → ((x : A) → f x ≡ Ok tt → g x ≡ Ok tt) → (xs : List A)
    → all_pass f xs ≡ Ok tt → all_pass g xs ≡ Ok tt
passes_on f g h [] e = refl
passes_on f g h (x ∷ xs) e = then_passes (f x) (all_pass f xs) (g x) (all_pass g xs) (h x) (passes_on f g h xs) e

-- a test passes whatever its fault names
pub passes_with : (b : Bool) (f g : UnitFault) → ◌≡◌ {A = Result ⊤ UnitFault} (if b then Ok tt else Err f) (Ok tt)
    → ◌≡◌ {A = Result ⊤ UnitFault} (if b then Ok tt else Err g) (Ok tt)
passes_with true f g h = refl
passes_with false f g h = cc

pub passes_unless : (b : Bool) (f g : UnitFault) → ◌≡◌ {A = Result ⊤ UnitFault} (if b then Err f else Ok tt) (Ok tt)
    → ◌≡◌ {A = Result ⊤ UnitFault} (if b then Err g else Ok tt) (Ok tt)
passes_unless true f g h = cc
passes_unless false f g h = refl

weaker_with : (b c : Bool) (f g : UnitFault) → (b ≡ true → c ≡ true)
    → ◌≡◌ {A = Result ⊤ UnitFault} (if b then Ok tt else Err f) (Ok tt)
    → ◌≡◌ {A = Result ⊤ UnitFault} (if c then Ok tt else Err g) (Ok tt)
weaker_with true c f g w h = ap (λ (d : Bool). if d then Ok tt else Err g) (w refl)
weaker_with false c f g w h = cc

-- ---- the rules

module _ (k : FunctionId) where
  none_missing : (o : Option ℕ) → missing (Some k) o ≡ Ok tt → missing None o ≡ Ok tt
  none_missing None h = refl
  none_missing (Some n) h = cc

  none_twice : (o : Option ℕ) → twice (Some k) o ≡ Ok tt → twice None o ≡ Ok tt
  none_twice None h = refl
  none_twice (Some n) h = cc

  none_shared : (o : Option ℕ) → shared (Some k) o ≡ Ok tt → shared None o ≡ Ok tt
  none_shared None h = refl
  none_shared (Some n) h = cc

  none_repeated : (o : Option ℕ) → repeated (Some k) o ≡ Ok tt → repeated None o ≡ Ok tt
  none_repeated None h = refl
  none_repeated (Some n) h = cc

  module _ (func : HirFunction) where
    named_passes : (b c : BlockId) → named_exists (Some k) func b c ≡ Ok tt → named_exists None func b c ≡ Ok tt
    named_passes b c h = passes_with (is_block func c) _ _ h

    leads_passes : (e : BlockId × BasicBlock) → leads_to_blocks (Some k) func e.0 e.1.terminal ≡ Ok tt
        → leads_to_blocks None func e.0 e.1.terminal ≡ Ok tt
    leads_passes e h =
        then_passes (all_pass (named_exists (Some k) func e.0) (successors e.1.terminal))
        (all_pass (named_exists (Some k) func e.0) (optional_block (handler_of e.1.terminal)))
        (all_pass (named_exists None func e.0) (successors e.1.terminal))
        (all_pass (named_exists None func e.0) (optional_block (handler_of e.1.terminal)))
        (passes_on (named_exists (Some k) func e.0) (named_exists None func e.0) (named_passes e.0)
        (successors e.1.terminal))
        (passes_on (named_exists (Some k) func e.0) (named_exists None func e.0) (named_passes e.0)
        (optional_block (handler_of e.1.terminal))) h

    operand_passes : (b : BlockId) (x : BlockId × Place) → operand_fits (Some k) func b x.0 ≡ Ok tt
        → operand_fits None func b x.0 ≡ Ok tt
    operand_passes b x h = passes_with (has_edge func x.0 b) _ _ h

    operands_pass : (b : BlockId) (p : Phi) → operands_fit (Some k) func b p ≡ Ok tt → operands_fit None func b p
        ≡ Ok tt
    operands_pass b p h = passes_on (λ (x : BlockId × Place). operand_fits (Some k) func b x.0)
        (λ (x : BlockId × Place). operand_fits None func b x.0) (operand_passes b) p.operands h

    phis_pass : (e : BlockId × BasicBlock) → all_pass (operands_fit (Some k) func e.0) e.1.phis ≡ Ok tt
        → all_pass (operands_fit None func e.0) e.1.phis ≡ Ok tt
    phis_pass e h = passes_on (operands_fit (Some k) func e.0) (operands_fit None func e.0) (operands_pass e.0) e.1.phis
        h

  order_passes : (o : EvaluationOrder) → order_fits (Some k) o ≡ Ok tt → order_fits None o ≡ Ok tt
  order_passes o h = passes_unless ((o.0 == 0) || (o.0 == 4294967295)) _ _ h

  call_passes : (i : Instruction) → at_most (holder.Function (Some k)) 1024 (argument_count i.value) ≡ Ok tt
      → at_most (holder.Function None) 1024 (argument_count i.value) ≡ Ok tt
  call_passes i h = passes_with (nat_le (argument_count i.value) 1024) _ _ h

  -- a rule that holds of the function of a number holds of it as the root
  pub rule_of_root : (r : Rule) (env : Environment) (func : HirFunction) → rule_holds r env (Some k) func ≡ Ok tt
      → rule_holds r env None func ≡ Ok tt
  rule_of_root Numbers env func h = h
  rule_of_root Entry env func h = passes_with (is_block func func.body.entry) _ _ h
  rule_of_root Successors env func h =
      passes_on (λ (e : BlockId × BasicBlock). leads_to_blocks (Some k) func e.0 e.1.terminal)
      (λ (e : BlockId × BasicBlock). leads_to_blocks None func e.0 e.1.terminal) (leads_passes func)
      func.body.blocks h
  rule_of_root Listed env func h = none_missing (first_missing (length func.instructions) (listed_instructions func)) h
  rule_of_root ListedOnce env func h = none_twice (first_again [] (listed_instructions func)) h
  rule_of_root Handlers env func h = none_shared (first_again [] (handlers func)) h
  rule_of_root Phis env func h =
      passes_on (λ (e : BlockId × BasicBlock). all_pass (operands_fit (Some k) func e.0) e.1.phis)
      (λ (e : BlockId × BasicBlock). all_pass (operands_fit None func e.0) e.1.phis) (phis_pass func)
      func.body.blocks h
  rule_of_root Orders env func h =
      then_passes (all_pass (λ (i : Instruction). order_fits (Some k) i.id) func.instructions)
      (all_pass (λ (e : BlockId × BasicBlock). order_fits (Some k) (evaluation_order e.1.terminal))
      func.body.blocks)
      (all_pass (λ (i : Instruction). order_fits None i.id) func.instructions)
      (all_pass (λ (e : BlockId × BasicBlock). order_fits None (evaluation_order e.1.terminal)) func.body.blocks)
      (passes_on (λ (i : Instruction). order_fits (Some k) i.id) (λ (i : Instruction). order_fits None i.id)
      (λ i. order_passes i.id) func.instructions)
      (passes_on (λ (e : BlockId × BasicBlock). order_fits (Some k) (evaluation_order e.1.terminal))
      (λ (e : BlockId × BasicBlock). order_fits None (evaluation_order e.1.terminal))
      (λ e. order_passes (evaluation_order e.1.terminal)) func.body.blocks) h
  rule_of_root Distinct env func h = none_repeated (first_again [] (own_identifiers func)) h
  rule_of_root Calls env func h =
      passes_on (λ (i : Instruction). at_most (holder.Function (Some k)) 1024 (argument_count i.value))
      (λ (i : Instruction). at_most (holder.Function None) 1024 (argument_count i.value)) call_passes
      func.instructions h
  rule_of_root ContextValues env func h =
      weaker_with (length func.context_values == 0)
      ((length func.context_values == 0) || (length func.context_values == length func.context)) _ _
      (left_true (length func.context_values == 0) (length func.context_values == length func.context)) h
