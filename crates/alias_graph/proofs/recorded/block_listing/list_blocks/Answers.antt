use Rattle.std.proofs.Common.{◌≡◌, ℕ, ◌+◌, drop, slice_get, Some, ap, sym, ◌∙◌, rules}
use Rattle.std.specs.Prelude.{Result}
use Rattle.alias_base.specs.Answer.{◌>>=◌}
use Rattle.alias_base.specs.declared.ids.BlockId.{BlockId}
use Rattle.alias_hir.specs.declared.error.HirError.{HirError}
use Rattle.alias_hir.specs.declared.hir.BasicBlock.{BasicBlock}
use Rattle.alias_hir.specs.declared.hir.HirFunction.{HirFunction}
use Rattle.alias_graph.specs.declared.recorded.listing.Listing.{Listing}
use Rattle.alias_graph.specs.recorded.BlockListings.{block_listed, blocks_listed}
use Rattle.alias_graph.proofs.recorded.Drops.{drop_here}
use Rattle.alias_graph.proofs.recorded.block_listing.list_blocks.Goals as goal

-- the blocks from the k-th on are that block and the others
first_block : (f : HirFunction) (k : ℕ) (b : BlockId × BasicBlock) (l : Listing) (all : Result Listing HirError)
    → slice_get f.body.blocks k ≡ Some b → blocks_listed f k (drop k f.body.blocks) l ≡ all
    → all ≡ (block_listed f k b.1 l >>= (λ z. blocks_listed f (k + 1) (drop (k + 1) f.body.blocks) z))
first_block f k b l all here is = sym is ∙ ap (λ bs. blocks_listed f k bs l) (drop_here f.body.blocks k b here)

pub loop-slot-preserved : goal.loop-slot-preserved
loop-slot-preserved c =
    let e = first_block c.args.func.now c.loop-slot.slot _ c.loop-slot.listing _ (sym c.in-Some.ensures)
    c.loop-slot.invariant in
    sym (e ∙ ap (λ r. r >>= (λ z. blocks_listed c.args.func.now (c.loop-slot.slot + 1)
    (drop (c.loop-slot.slot + 1) c.args.func.now.body.blocks) z)) c.in_ok-list_block.ensures)

pub returns-in_err-list_block : goal.returns-in_err-list_block
returns-in_err-list_block c =
    let e = first_block c.args.func.now c.loop-slot.slot _ c.loop-slot.listing _ (sym c.in-Some.ensures)
    c.loop-slot.invariant in
    rw e (search rules)
