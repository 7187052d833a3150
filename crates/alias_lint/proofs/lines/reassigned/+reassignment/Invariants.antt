use Rattle.std.proofs.Common.{◌≡◌, ◌+◌, ◌*◌, true, Some, drop}
use Rattle.alias_lint.specs.Reassigned.{block_steps, instruction_steps, reassignment}
use Rattle.alias_lint.proofs.lines.reassigned.+reassignment.Given as goal

abbrev pub decreases-walk_blocks : goal.decreases-walk_blocks
decreases-walk_blocks l = l.levels * 6 + 5

abbrev pub decreases-walk_block : goal.decreases-walk_block
decreases-walk_block l = l.levels * 6 + 4

abbrev pub decreases-walk_instructions : goal.decreases-walk_instructions
decreases-walk_instructions l = l.levels * 6 + 3

abbrev pub decreases-walk_instruction : goal.decreases-walk_instruction
decreases-walk_instruction l = l.levels * 6 + 2

abbrev pub decreases-walk_created : goal.decreases-walk_created
decreases-walk_created l = l.levels * 6 + 1

abbrev pub decreases-reassignment : goal.decreases-reassignment
decreases-reassignment l = l.levels * 6

-- what is left decides
abbrev pub invariant-walk_instructions-loop-id : goal.invariant-walk_instructions-loop-id
invariant-walk_instructions-loop-id l =
    instruction_steps l.env (λ k. reassignment l.levels l.env true (Some k)) l.is_function_expression l.is_async l.name
    l.func l.block ((l.initial.marks, l.initial.shared), l.initial.lints) l.ids
    ≡ instruction_steps l.env (λ k. reassignment l.levels l.env true (Some k)) l.is_function_expression l.is_async
    l.name l.func l.block ((l.marks, l.shared), l.lints) (drop l.id-index l.ids)

abbrev pub invariant-walk_blocks-loop-id : goal.invariant-walk_blocks-loop-id
invariant-walk_blocks-loop-id l =
    block_steps l.env (λ k. reassignment l.levels l.env true (Some k)) l.is_function_expression l.is_async l.name l.func
    ((l.initial.marks, l.initial.shared), l.initial.lints) l.func.body.blocks
    ≡ block_steps l.env (λ k. reassignment l.levels l.env true (Some k)) l.is_function_expression l.is_async l.name
    l.func ((l.marks, l.shared), l.lints) l.id-iterator
