use Rattle.std.proofs.Common.{◌≡◌, ◌++◌}
use Rattle.std.specs.List.{flat_map}
use Rattle.alias_base.specs.declared.ids.BlockId.{BlockId}
use Rattle.alias_hir.specs.declared.hir.BasicBlock.{BasicBlock}
use Rattle.alias_visit.specs.Places.{block_places}
use Rattle.alias_visit.proofs.function_places.push_blocks.Given as goal

abbrev pub invariant-loop-block : goal.invariant-loop-block
invariant-loop-block l = l.initial.places.items
    ++ flat_map (λ (e : BlockId × BasicBlock). block_places e.1) l.func.body.blocks ≡ l.places.items
    ++ flat_map (λ (e : BlockId × BasicBlock). block_places e.1) l.block-iterator
