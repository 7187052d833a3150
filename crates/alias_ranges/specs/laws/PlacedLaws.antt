-- Of the environment the effects of places and the ranges by default change only ranges and the effects of context
-- places, over a whole function.
use Rattle.std.specs.Prelude.{ℕ, ◌+◌, Bool, List, [], ◌∷◌, Option, Some, None, option_map, slice_get, length, zero, suc}
use Rattle.alias_base.specs.declared.ids.BlockId.{BlockId}
use Rattle.alias_base.specs.declared.ids.InstructionId.{InstructionId}
use Rattle.alias_hir.specs.declared.env.Environment.{Environment}
use Rattle.alias_hir.specs.declared.hir.BasicBlock.{BasicBlock}
use Rattle.alias_hir.specs.declared.hir.Instruction.{Instruction}
use Rattle.alias_range_pass.specs.places.Blocks.{block_merged, Placed, placed_at, block_placed, blocks_placed}
use Rattle.alias_range_pass.specs.places.Blocks.{function_placed}
use Rattle.alias_range_pass.specs.places.Instructions.{placed_in, instruction_at, instructions_placed}
use Rattle.alias_range_pass.specs.places.Keeping.{EnvKept}
use Rattle.alias_range_pass.specs.places.KeepLaws.{keeps_same, keeps_trans, merged_keeps, instruction_keeps}

in_keeps : (is : List Instruction) (env : Environment) (id : InstructionId) (o : Option Instruction)
    → EnvKept env (placed_in is env id o).1
in_keeps is env id None = keeps_same env
in_keeps is env id (Some i) = instruction_keeps i env

instructions_keep : (ids : List InstructionId) (s : List Instruction × Environment)
    → EnvKept s.1 (instructions_placed ids s).1
instructions_keep [] s = keeps_same s.1
instructions_keep (id ∷ ids) s =
    keeps_trans s.1 (instruction_at s id).1 (instructions_placed (id ∷ ids) s).1
    (in_keeps s.0 s.1 id (slice_get s.0 id.0)) (instructions_keep ids (instruction_at s id))

at_keeps : (b : Bool) (k : ℕ) (o : Option BasicBlock) (s : Placed) → EnvKept s.1 (placed_at b k o s).1
at_keeps b k None s = keeps_same s.1
at_keeps b k (Some x) s =
    let mid : Environment = block_merged s.0 x s.1 in
    keeps_trans s.1 mid (placed_at b k (Some x) s).1 (merged_keeps s.0 x s.1)
    (instructions_keep x.instructions (s.0.instructions, mid))

blocks_keep : (b : Bool) (n k : ℕ) (s : Placed) → EnvKept s.1 (blocks_placed b n k s).1
blocks_keep b zero k s = keeps_same s.1
blocks_keep b (suc n) k s =
    let o : Option BasicBlock = option_map (λ (e : BlockId × BasicBlock). e.1) (slice_get s.0.body.blocks k) in
    keeps_trans s.1 (block_placed b k s).1 (blocks_placed b (suc n) k s).1 (at_keeps b k o s)
    (blocks_keep b n (k + 1) (block_placed b k s))

-- a function with the effects of its places, and its environment with ranges by default
pub function_keeps : (is_function_expression : Bool) (s : Placed)
    → EnvKept s.1 (function_placed is_function_expression s).1
function_keeps b s = blocks_keep b (length s.0.body.blocks) 0 s
