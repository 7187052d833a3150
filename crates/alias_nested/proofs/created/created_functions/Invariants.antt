use Rattle.std.proofs.Common.{◌≡◌, ◌++◌}
use Rattle.std.specs.List.{flat_map}
use Rattle.alias_base.specs.declared.ids.BlockId.{BlockId}
use Rattle.alias_hir.specs.declared.hir.BasicBlock.{BasicBlock}
use Rattle.alias_nested.specs.Created.{created_by_all, created_functions}
use Rattle.alias_nested.proofs.created.created_functions.Given as goal

-- what the blocks so far create, and what those that are left do, is what all of them create
abbrev pub invariant-loop-block : goal.invariant-loop-block
invariant-loop-block l = created_functions l.func ≡ l.found
    ++ flat_map (λ (b : BlockId × BasicBlock). created_by_all l.func b.1.instructions) l.block-iterator
