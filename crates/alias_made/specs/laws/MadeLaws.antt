-- Made units are well formed.
use Rattle.std.proofs.Common.{◌≡◌, refl, ap, sym, ◌∙◌, ℕ, ◌+◌, ◌-◌, ◌*◌, ◌<◌, ◌≤◌, true, ◌&&◌, [], length, map, not}
use Rattle.std.proofs.Common.{None, Ok, arith}
use Rattle.std.specs.Prelude.{find, if◌then◌else◌, nat_le}
use Rattle.std.specs.List.{list_all, range_with_len}
use Rattle.std.proofs.lemmas.List.FromFn.{length-map-range_with_len}
use Rattle.alias_base.specs.Answer.{all_pass}
use Rattle.alias_hir.specs.Tables.{fresh_identifier}
use Rattle.alias_rules.specs.function_rules.Rules.{below, too_deep, types_fit, tables_fit, identifier_fits}
use Rattle.alias_rules.specs.function_rules.Rules.{instruction_is_uninferred, handler_of, identifier_is_uninferred}
use Rattle.alias_rules.specs.function_rules.Rules.{numbers_fit, block_fits, place_fits, entry_exists, is_block}
use Rattle.alias_rules.specs.function_rules.Rules.{successors_exist, leads_to_blocks, instructions_listed, missing}
use Rattle.alias_rules.specs.function_rules.Rules.{none_listed_twice, first_again, twice, is_among, handlers_distinct}
use Rattle.alias_rules.specs.function_rules.Rules.{shared, phis_fit, operands_fit, orders_fit, order_fits}
use Rattle.alias_rules.specs.function_rules.Rules.{nothing_inferred, function_is_uninferred, environment_is_uninferred}
use Rattle.alias_rules.specs.function_rules.Rules.{block_is_uninferred}
use Rattle.alias_rules.specs.Functions.{in_unit, rule_holds, Tables, Types, Signatures, Apart, Each, UnitRule, Family}
use Rattle.alias_rules.specs.Functions.{Tree, Depth, Uninferred, unit_holds, rules_hold}
use Rattle.alias_rules.specs.RuleLaws.{all_hold_of_unit}
use Rattle.alias_rules.specs.declared.rules.Rule.{Rule}
use Rattle.alias_rules.specs.declared.function_rules.fault.Table.TheVariants.{Instructions}
use Rattle.alias_base.specs.declared.ids.BlockId.{BlockId}
use Rattle.alias_hir.specs.Types.{levels}
use Rattle.alias_hir.specs.declared.types.Ty.{fold-roll-Ty}
use Rattle.alias_hir.specs.declared.types.Ty.TheOpen.{Ty-F}
use Rattle.alias_hir.specs.declared.types.Ty.TheVariants.{Var, rolls-Var}
use Rattle.alias_hir.specs.Terminals.{evaluation_order, optional_block}
use Rattle.alias_rules.specs.declared.rules.Rule.TheVariants.{Numbers, Entry, Successors, Listed, ListedOnce, Handlers}
use Rattle.alias_rules.specs.declared.rules.Rule.TheVariants.{Phis, Orders, Distinct, Calls, ContextValues}
use Rattle.alias_made.specs.Instructions.{use_of, object_of}
use Rattle.alias_made.specs.Blocks.{made_blocks}
use Rattle.alias_made.specs.Units.{made_identifiers, made_environment, made_function, made_instructions, made_unit}
use Rattle.alias_made.specs.laws.RangeLaws.{then_passes, both, each_passes, each_holds, none_twice, none_missing}
use Rattle.alias_made.specs.laws.InstructionLaws.{when_true, number_fits, order_within, instructions_fit}
use Rattle.alias_made.specs.laws.InstructionLaws.{instruction_orders_fit, instructions_uninferred}
use Rattle.alias_made.specs.laws.InstructionLaws.{instructions_call_nothing, length-made_instructions}
use Rattle.alias_made.specs.laws.BlockLaws.{blocks_pass, blocks_hold, blocks_list_nothing, block_there, listed_in_order}

length-made_identifiers : (size : ℕ) → length (made_identifiers size) ≡ 3 * size + 1
length-made_identifiers size = length-map-range_with_len (λ n. fresh_identifier None n 0) 0 (3 * size + 1)

tables_kept : (size : ℕ) → tables_fit (made_environment size) ≡ Ok tt
tables_kept size =
    each_passes (identifier_fits (made_environment size)) (λ n. fresh_identifier None n 0) 0 (3 * size + 1)
    (λ k below. then_passes _ (Ok tt) (number_fits _ (length (made_identifiers size)) k
    (omega (arith, below, length-made_identifiers size))) refl)

levels-Var : levels Var ≡ 1
levels-Var = ap levels (sym rolls-Var) ∙ fold-roll-Ty ℕ _ Ty-F.Var

types_kept : (size : ℕ) → types_fit (made_environment size) ≡ Ok tt
types_kept size = ap (λ n. if nat_le n 32 then Ok tt else too_deep 0) levels-Var

-- a number below that of identifiers is one of them
place_there : (size n : ℕ) → n < 3 * size + 1 → place_fits (made_environment size) (use_of n) ≡ Ok tt
place_there size n below = number_fits _ (length (made_identifiers size)) n
    (omega (arith, below, length-made_identifiers size))

numbers_kept : (seed size : ℕ) → 1 ≤ size → numbers_fit (made_environment size) (made_function seed size) ≡ Ok tt
numbers_kept seed size some =
    let env = made_environment size in
    let func = made_function seed size in
    let listed : (n : ℕ) → n < 3 * size → below Instructions (length (made_instructions seed size)) n ≡ Ok tt =
    λ n h. number_fits Instructions (length (made_instructions seed size)) n
    (omega (arith, h, length-made_instructions seed size)) in
    then_passes _ _ (place_there size 0 (omega arith))
    (then_passes _ _ (instructions_fit env seed size (length-made_identifiers size))
    (blocks_pass (λ e. block_fits env func e.1) size
    (λ j h. then_passes _ (Ok tt) (then_passes _ _ (listed (3 * j) (omega arith))
    (then_passes _ _ (listed (3 * j + 1) (omega arith))
    (then_passes _ (Ok tt) (listed (3 * j + 2) (omega arith)) refl))) refl)
    (then_passes _ (Ok tt) (place_there size (object_of (size - 1)) (omega arith)) refl)))

entry_kept : (seed size : ℕ) → entry_exists None (made_function seed size) ≡ Ok tt
entry_kept seed size = when_true (is_block (made_function seed size) (record { 0 = 0 })) _ (Ok tt)
    (block_there size 0 (omega arith)) refl

successors_kept : (seed size : ℕ) → successors_exist None (made_function seed size) ≡ Ok tt
successors_kept seed size =
    let func = made_function seed size in
    blocks_pass (λ e. leads_to_blocks None func e.0 e.1.terminal) size
    (λ j h. then_passes _ (Ok tt) (then_passes _ (Ok tt)
    (when_true (is_block func (record { 0 = j + 1 })) _ (Ok tt) (block_there size (j + 1) (omega arith)) refl) refl)
    refl)
    refl

listed_kept : (seed size : ℕ) → instructions_listed None (made_function seed size) ≡ Ok tt
listed_kept seed size =
    let func = made_function seed size in
    ap (λ xs. missing None (find (λ k. not (is_among xs k)) (range_with_len 0 (length func.instructions))))
    (listed_in_order size)
    ∙ ap (λ n. missing None (find (λ k. not (is_among (range_with_len 0 (3 * size)) k)) (range_with_len 0 n)))
    (length-made_instructions seed size)
    ∙ ap (missing None) (none_missing (3 * size))

once_kept : (seed size : ℕ) → none_listed_twice None (made_function seed size) ≡ Ok tt
once_kept seed size = ap (λ xs. twice None (first_again [] xs)) (listed_in_order size)
    ∙ ap (twice None) (none_twice (3 * size))

handlers_kept : (seed size : ℕ) → handlers_distinct None (made_function seed size) ≡ Ok tt
handlers_kept seed size =
    ap (λ xs. shared None (first_again [] xs))
    (blocks_list_nothing (λ e. map (λ (b : BlockId). b.0) (optional_block (handler_of e.1.terminal))) size
    (λ j. refl) refl)

phis_kept : (seed size : ℕ) → phis_fit None (made_function seed size) ≡ Ok tt
phis_kept seed size = blocks_pass (λ e. all_pass (operands_fit None (made_function seed size) e.0) e.1.phis) size
    (λ j h. refl) refl

orders_kept : (seed size : ℕ) → size ≤ 1000 → orders_fit None (made_function seed size) ≡ Ok tt
orders_kept seed size limit =
    then_passes _ _ (instruction_orders_fit seed size limit)
    (blocks_pass (λ e. order_fits None (evaluation_order e.1.terminal)) size
    (λ j h. order_within (4 * j + 4) (omega arith) (omega arith))
    (order_within (4 * size + 1) (omega arith) (omega arith)))

nothing_inferred_yet : (seed size : ℕ) → nothing_inferred (made_environment size) (made_function seed size) ≡ Ok tt
nothing_inferred_yet seed size =
    let tables : environment_is_uninferred (made_environment size) ≡ true =
    both (list_all identifier_is_uninferred (made_identifiers size)) true
    (each_holds identifier_is_uninferred (λ n. fresh_identifier None n 0) 0 (3 * size + 1) (λ k h. refl)) refl in
    let root : function_is_uninferred (made_function seed size) ≡ true =
    both (list_all instruction_is_uninferred (made_instructions seed size))
    (list_all (λ e. block_is_uninferred e.1) (made_blocks size)) (instructions_uninferred seed size)
    (blocks_hold (λ e. block_is_uninferred e.1) size (λ j. refl) refl) in
    when_true (environment_is_uninferred (made_environment size) && function_is_uninferred (made_function seed size)) _
    (Ok tt) (both _ _ tables root) refl

-- the root keeps a rule, and there are no nested functions
alone : (rule : Rule) (seed size : ℕ) → rule_holds rule (made_environment size) None (made_function seed size) ≡ Ok tt
    → in_unit rule (made_unit seed size) ≡ Ok tt
alone rule seed size h = then_passes (rule_holds rule (made_environment size) None (made_function seed size)) (Ok tt) h
    refl

-- the rule of one function holds of the root
made_keeps : (seed size : ℕ) → 1 ≤ size → size ≤ 1000 → (rule : Rule)
    → rule_holds rule (made_environment size) None (made_function seed size) ≡ Ok tt
made_keeps seed size some limit Numbers = numbers_kept seed size some
made_keeps seed size some limit Entry = entry_kept seed size
made_keeps seed size some limit Successors = successors_kept seed size
made_keeps seed size some limit Listed = listed_kept seed size
made_keeps seed size some limit ListedOnce = once_kept seed size
made_keeps seed size some limit Handlers = handlers_kept seed size
made_keeps seed size some limit Phis = phis_kept seed size
made_keeps seed size some limit Orders = orders_kept seed size limit
made_keeps seed size some limit Distinct = refl
made_keeps seed size some limit Calls = instructions_call_nothing seed size
made_keeps seed size some limit ContextValues = refl

-- and so does each rule of the unit
unit_keeps : (seed size : ℕ) → 1 ≤ size → size ≤ 1000 → (rule : UnitRule) → unit_holds (made_unit seed size) rule
    ≡ Ok tt
unit_keeps seed size some limit (Family Tables) = tables_kept size
unit_keeps seed size some limit (Family Types) = types_kept size
unit_keeps seed size some limit (Family Signatures) = refl
unit_keeps seed size some limit (Family Apart) = refl
unit_keeps seed size some limit (Family (Each r)) = alone r seed size (made_keeps seed size some limit r)
unit_keeps seed size some limit Tree = refl
unit_keeps seed size some limit Depth = refl
unit_keeps seed size some limit Uninferred = nothing_inferred_yet seed size

-- all rules hold of the unit that is made from a seed
pub made_unit_keeps_rules : (seed size : ℕ) → 1 ≤ size → size ≤ 1000 → rules_hold (made_unit seed size) ≡ Ok tt
made_unit_keeps_rules seed size some limit = all_hold_of_unit (made_unit seed size) (unit_keeps seed size some limit)
