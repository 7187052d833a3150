use Rattle.std.proofs.Common.{◌≡◌, ap, ◌∙◌, sym, add-one}
use Rattle.alias_made.specs.Draws.{next_state, state_before, block_drawn}
use Rattle.alias_made.specs.Instructions.{instructions_of}
use Rattle.alias_made.specs.Units.{drawn_instructions}
use Rattle.alias_made.proofs.Ranges.{flat_map-range_more}
use Rattle.alias_made.proofs.unit.made_instructions.Goals as goal

pub loop-block-preserved : goal.loop-block-preserved
loop-block-preserved c =
    let seed = c.args.seed in
    let block = c.loop-block.block in
    let known = c.loop-block.invariant in
    let next : c.draw_block-draw.new.self.state ≡ next_state (next_state (state_before seed block)) =
    c.draw_block-draw.ensures.state ∙ ap (λ state. next_state (next_state state)) known.drawn in
    let made : instructions_of block c.draw_block-draw.result ≡ drawn_instructions seed block =
    ap (instructions_of block) (c.draw_block-draw.ensures.drawn
    ∙ ap (λ state. block_drawn state block) known.drawn) in
    record {
      drawn = next ∙ sym (ap (state_before seed) (add-one block));
      pushed = flat_map-range_more (drawn_instructions seed) block c.loop-block.instructions _ _ known.pushed made
          c.in_ok-push_instructions.ensures;
    }
