use Rattle.std.proofs.Common.{◌≡◌, find}
use Rattle.std.specs.Option.{option_map_or}
use Rattle.alias_base.specs.declared.ids.BlockId.{BlockId}
use Rattle.alias_hir.specs.declared.hir.BasicBlock.{BasicBlock}
use Rattle.alias_lint.specs.Sites.{lists, block_of}
use Rattle.alias_lint.proofs.lines.block_table.search_blocks.Given as goal

abbrev pub invariant-loop-block : goal.invariant-loop-block
invariant-loop-block l = option_map_or (λ (e : BlockId × BasicBlock). e.0) (find (lists l.id) l.block-iterator)
    l.func.body.entry ≡ block_of l.func l.id
