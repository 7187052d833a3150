-- A function whose first block lists other instructions.
use Rattle.std.specs.Prelude.{◌≡◌, List, ◌++◌, slice_get}
use Rattle.std.specs.Option.{option_map_or}
use Rattle.indexmap.specs.IndexMap.{set_value_at}
use Rattle.alias_base.specs.declared.ids.BlockId.{BlockId}
use Rattle.alias_base.specs.declared.ids.InstructionId.{InstructionId}
use Rattle.alias_hir.specs.declared.hir.BasicBlock.{BasicBlock}
use Rattle.alias_hir.specs.declared.hir.HirFunction.{HirFunction}

-- the blocks, the first of which lists these
abbrev pub first_lists : List InstructionId → List (BlockId × BasicBlock) → List (BlockId × BasicBlock)
first_lists l bs = option_map_or (λ (x : BlockId × BasicBlock). set_value_at bs 0 (record x.1 { instructions = l }))
    (slice_get bs 0) bs

-- the function with such blocks
abbrev pub with_first : List InstructionId → HirFunction → HirFunction
with_first l f = record f { body = record f.body { blocks = first_lists l f.body.blocks } }

-- what the first block lists; these where there is none
abbrev pub first_or : List InstructionId → List (BlockId × BasicBlock) → List InstructionId
first_or l bs = option_map_or (λ (x : BlockId × BasicBlock). x.1.instructions) (slice_get bs 0) l

-- the second list begins with the first
abbrev pub IsFront : List InstructionId → List InstructionId → Type 0
IsFront front all = (rest : List InstructionId) × (all ≡ front ++ rest)
