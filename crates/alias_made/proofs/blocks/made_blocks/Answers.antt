use Rattle.std.proofs.Common.{◌≡◌, refl, ap, ◌∙◌, ◌++◌, ◌∷◌, [], map, arith}
use Rattle.std.specs.List.{range_with_len}
use Rattle.alias_made.specs.Blocks.{block_of}
use Rattle.alias_made.proofs.Ranges.{map-range_more, with_value-range}
use Rattle.alias_made.proofs.blocks.made_blocks.Goals as goal

pub loop-block-preserved : goal.loop-block-preserved
loop-block-preserved c =
    let block = c.loop-block.block in
    let pushed = with_value-range block_of block c.in_ok-block_of.field-0 c.loop-block.blocks (λ j. refl)
    c.loop-block.invariant in
    map-range_more block_of block c.loop-block.blocks c.insert.new.self _ c.loop-block.invariant
    (ap (λ b. (record { 0 = block }, b)) c.in_ok-block_of.ensures) (c.in_ok-insert.ensures.entries ∙ pushed)

pub returns : goal.returns
returns c =
    let size = c.args.size in
    let ended : c.loop-block.block ≡ size = omega arith in
    let before : c.loop-block.blocks ≡ map block_of (range_with_len 0 size) = c.loop-block.invariant
    ∙ ap (λ n. map block_of (range_with_len 0 n)) ended in
    let pushed = with_value-range block_of size c.last_block.result c.loop-block.blocks (λ j. refl) before in
    c.in_ok-insert-2.ensures.entries ∙ pushed ∙ ap (λ es. es ++ (record { 0 = size }, c.last_block.result) ∷ []) before
    ∙ ap (λ b. map block_of (range_with_len 0 size) ++ (record { 0 = size }, b) ∷ []) c.last_block.ensures
