use Rattle.std.proofs.Common.{◌∙◌}
use Rattle.alias_range_pass.proofs.places.Steps.{block_step}
use Rattle.alias_range_pass.specs.places.KeepLaws.{keeps_trans}
use Rattle.alias_range_pass.proofs.places.blocks.place_blocks.Goals as goal

pub loop-slot-preserved : goal.loop-slot-preserved
loop-slot-preserved c = (
  block_step c.args.is_function_expression c.len-slot-end.result c.loop-slot.slot (c.loop-slot.func, c.loop-slot.env)
      (c.place_block.new.func, c.place_block.new.env) c.loop-slot-test.true c.in_ok-place_block.ensures.ok
      ∙ c.loop-slot.invariant.0,
  c.place_block.ensures.fit,
  keeps_trans c.args.env.now c.loop-slot.env c.place_block.new.env c.loop-slot.invariant.2 c.place_block.ensures.kept,
  c.place_block.ensures.still ∙ c.loop-slot.invariant.3,
)
