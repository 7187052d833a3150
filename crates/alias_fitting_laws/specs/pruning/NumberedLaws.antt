-- The rules name a function in their faults alone: what keeps a rule under one number keeps it under another.
use Rattle.std.specs.Prelude.{◌≡◌, ℕ, Bool, true, false, ◌||◌, ◌==◌, nat_le, [], length, Option, Some, None, Ok, refl}
use Rattle.alias_base.specs.Answer.{all_pass}
use Rattle.alias_base.specs.declared.ids.BlockId.{BlockId}
use Rattle.alias_base.specs.declared.ids.EvaluationOrder.{EvaluationOrder}
use Rattle.alias_base.specs.declared.ids.FunctionId.{FunctionId}
use Rattle.alias_hir.specs.Terminals.{evaluation_order, optional_block, successors}
use Rattle.alias_hir.specs.declared.env.Environment.{Environment}
use Rattle.alias_hir.specs.declared.hir.BasicBlock.{BasicBlock}
use Rattle.alias_hir.specs.declared.hir.HirFunction.{HirFunction}
use Rattle.alias_hir.specs.declared.hir.Instruction.{Instruction}
use Rattle.alias_hir.specs.declared.hir.Phi.{Phi}
use Rattle.alias_hir.specs.declared.place.Place.{Place}
use Rattle.alias_rules.specs.function_rules.Rules.{is_block, named_exists, leads_to_blocks, handler_of, missing}
use Rattle.alias_rules.specs.function_rules.Rules.{first_missing, listed_instructions, twice, first_again, shared}
use Rattle.alias_rules.specs.function_rules.Rules.{handlers, has_edge, operand_fits, operands_fit, order_fits, repeated}
use Rattle.alias_rules.specs.function_rules.Rules.{own_identifiers, at_most, argument_count}
use Rattle.alias_rules.specs.declared.function_rules.fault.Holder.TheVariants as holder
use Rattle.alias_rules.specs.Functions.{rule_holds}
use Rattle.alias_rules.specs.declared.rules.Rule.{Rule}
use Rattle.alias_rules.specs.declared.rules.Rule.TheVariants.{Numbers, Entry, Successors, Listed, ListedOnce, Handlers}
use Rattle.alias_rules.specs.declared.rules.Rule.TheVariants.{Phis, Orders, Distinct, Calls, ContextValues}
use Rattle.alias_nesting_laws.specs.RootLaws.{then_passes, passes_on, passes_with, passes_unless}

-- the rule looks at nothing but the function: not at what the context places are, of which nested functions say nothing
abbrev pub is_own : Rule → Bool
is_own ContextValues = false
is_own r = true

module _ (k j : Option FunctionId) where
  none_missing : (o : Option ℕ) → missing k o ≡ Ok tt → missing j o ≡ Ok tt
  none_missing None h = refl
  none_missing (Some n) h = cc

  none_twice : (o : Option ℕ) → twice k o ≡ Ok tt → twice j o ≡ Ok tt
  none_twice None h = refl
  none_twice (Some n) h = cc

  none_shared : (o : Option ℕ) → shared k o ≡ Ok tt → shared j o ≡ Ok tt
  none_shared None h = refl
  none_shared (Some n) h = cc

  none_repeated : (o : Option ℕ) → repeated k o ≡ Ok tt → repeated j o ≡ Ok tt
  none_repeated None h = refl
  none_repeated (Some n) h = cc

  module _ (func : HirFunction) where
    named_passes : (b c : BlockId) → named_exists k func b c ≡ Ok tt → named_exists j func b c ≡ Ok tt
    named_passes b c h = passes_with (is_block func c) _ _ h

    leads_passes : (e : BlockId × BasicBlock) → leads_to_blocks k func e.0 e.1.terminal ≡ Ok tt
        → leads_to_blocks j func e.0 e.1.terminal ≡ Ok tt
    leads_passes e h =
        then_passes (all_pass (named_exists k func e.0) (successors e.1.terminal))
        (all_pass (named_exists k func e.0) (optional_block (handler_of e.1.terminal)))
        (all_pass (named_exists j func e.0) (successors e.1.terminal))
        (all_pass (named_exists j func e.0) (optional_block (handler_of e.1.terminal)))
        (passes_on (named_exists k func e.0) (named_exists j func e.0) (named_passes e.0) (successors e.1.terminal))
        (passes_on (named_exists k func e.0) (named_exists j func e.0) (named_passes e.0)
        (optional_block (handler_of e.1.terminal))) h

    operand_passes : (b : BlockId) (x : BlockId × Place) → operand_fits k func b x.0 ≡ Ok tt → operand_fits j func b x.0
        ≡ Ok tt
    operand_passes b x h = passes_with (has_edge func x.0 b) _ _ h

    operands_pass : (b : BlockId) (p : Phi) → operands_fit k func b p ≡ Ok tt → operands_fit j func b p ≡ Ok tt
    operands_pass b p h = passes_on (λ (x : BlockId × Place). operand_fits k func b x.0)
        (λ (x : BlockId × Place). operand_fits j func b x.0) (operand_passes b) p.operands h

    phis_pass : (e : BlockId × BasicBlock) → all_pass (operands_fit k func e.0) e.1.phis ≡ Ok tt
        → all_pass (operands_fit j func e.0) e.1.phis ≡ Ok tt
    phis_pass e h = passes_on (operands_fit k func e.0) (operands_fit j func e.0) (operands_pass e.0) e.1.phis h

  order_passes : (o : EvaluationOrder) → order_fits k o ≡ Ok tt → order_fits j o ≡ Ok tt
  order_passes o h = passes_unless ((o.0 == 0) || (o.0 == 4294967295)) _ _ h

  call_passes : (i : Instruction) → at_most (holder.Function k) 1024 (argument_count i.value) ≡ Ok tt
      → at_most (holder.Function j) 1024 (argument_count i.value) ≡ Ok tt
  call_passes i h = passes_with (nat_le (argument_count i.value) 1024) _ _ h

  -- a rule that holds of the function under one number holds of it under another
  pub rule_of_other : (r : Rule) (env : Environment) (func : HirFunction) → is_own r ≡ true → rule_holds r env k func
      ≡ Ok tt → rule_holds r env j func ≡ Ok tt
  rule_of_other Numbers env func own h = h
  rule_of_other Entry env func own h = passes_with (is_block func func.body.entry) _ _ h
  rule_of_other Successors env func own h =
      passes_on (λ (e : BlockId × BasicBlock). leads_to_blocks k func e.0 e.1.terminal)
      (λ (e : BlockId × BasicBlock). leads_to_blocks j func e.0 e.1.terminal) (leads_passes func) func.body.blocks h
  rule_of_other Listed env func own h = none_missing
      (first_missing (length func.instructions) (listed_instructions func)) h
  rule_of_other ListedOnce env func own h = none_twice (first_again [] (listed_instructions func)) h
  rule_of_other Handlers env func own h = none_shared (first_again [] (handlers func)) h
  rule_of_other Phis env func own h =
      passes_on (λ (e : BlockId × BasicBlock). all_pass (operands_fit k func e.0) e.1.phis)
      (λ (e : BlockId × BasicBlock). all_pass (operands_fit j func e.0) e.1.phis) (phis_pass func) func.body.blocks
      h
  rule_of_other Orders env func own h =
      then_passes (all_pass (λ (i : Instruction). order_fits k i.id) func.instructions)
      (all_pass (λ (e : BlockId × BasicBlock). order_fits k (evaluation_order e.1.terminal)) func.body.blocks)
      (all_pass (λ (i : Instruction). order_fits j i.id) func.instructions)
      (all_pass (λ (e : BlockId × BasicBlock). order_fits j (evaluation_order e.1.terminal)) func.body.blocks)
      (passes_on (λ (i : Instruction). order_fits k i.id) (λ (i : Instruction). order_fits j i.id)
      (λ i. order_passes i.id) func.instructions)
      (passes_on (λ (e : BlockId × BasicBlock). order_fits k (evaluation_order e.1.terminal))
      (λ (e : BlockId × BasicBlock). order_fits j (evaluation_order e.1.terminal))
      (λ e. order_passes (evaluation_order e.1.terminal)) func.body.blocks) h
  rule_of_other Distinct env func own h = none_repeated (first_again [] (own_identifiers func)) h
  rule_of_other Calls env func own h =
      passes_on (λ (i : Instruction). at_most (holder.Function k) 1024 (argument_count i.value))
      (λ (i : Instruction). at_most (holder.Function j) 1024 (argument_count i.value)) call_passes func.instructions
      h
  rule_of_other ContextValues env func own h = cc
