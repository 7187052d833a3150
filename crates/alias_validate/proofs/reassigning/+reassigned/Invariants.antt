use Rattle.std.proofs.Common.{◌≡◌, ◌+◌, ◌*◌, true, drop}
use Rattle.alias_validate.specs.Reassigning.{block_steps, instruction_steps, context_reassignment}
use Rattle.alias_validate.proofs.reassigning.+reassigned.Given as goal

abbrev pub decreases-walk_blocks : goal.decreases-walk_blocks
decreases-walk_blocks l = l.levels * 6 + 5

abbrev pub decreases-walk_block : goal.decreases-walk_block
decreases-walk_block l = l.levels * 6 + 4

abbrev pub decreases-walk_instructions : goal.decreases-walk_instructions
decreases-walk_instructions l = l.levels * 6 + 3

abbrev pub decreases-walk_instruction : goal.decreases-walk_instruction
decreases-walk_instruction l = l.levels * 6 + 2

abbrev pub decreases-walk_created : goal.decreases-walk_created
decreases-walk_created l = l.levels * 6 + 1

abbrev pub decreases-get_context_reassignment : goal.decreases-get_context_reassignment
decreases-get_context_reassignment l = l.levels * 6

-- what is left decides
abbrev pub invariant-walk_instructions-loop-id : goal.invariant-walk_instructions-loop-id
invariant-walk_instructions-loop-id l =
    instruction_steps l.env (context_reassignment l.levels l.env true) l.is_function_expression l.is_async l.func
    (l.initial.marks, l.initial.shared) l.instructions
    ≡ instruction_steps l.env (context_reassignment l.levels l.env true) l.is_function_expression l.is_async l.func
    (l.marks, l.shared) (drop l.id-index l.instructions)

abbrev pub invariant-walk_blocks-loop-block : goal.invariant-walk_blocks-loop-block
invariant-walk_blocks-loop-block l =
    block_steps l.env (context_reassignment l.levels l.env true) l.is_function_expression l.is_async l.func
    (l.initial.marks, l.initial.shared) l.func.body.blocks
    ≡ block_steps l.env (context_reassignment l.levels l.env true) l.is_function_expression l.is_async l.func
    (l.marks, l.shared) l.block-iterator
