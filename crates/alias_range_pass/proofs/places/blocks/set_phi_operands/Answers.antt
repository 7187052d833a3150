use Rattle.std.proofs.Common.{ap, ◌∙◌}
use Rattle.alias_range_pass.specs.places.Blocks.{with_effect, effect_set_at}
use Rattle.alias_range_pass.proofs.places.Mapping.{value_step}
use Rattle.alias_range_pass.proofs.places.blocks.set_phi_operands.Goals as goal

pub loop-index-preserved : goal.loop-index-preserved
loop-index-preserved c = (
  c.set_operand.ensures ∙ ap (effect_set_at c.args.effect c.loop-index.index) c.loop-index.invariant.0
      ∙ value_step (with_effect c.args.effect) c.args.operands.now c.loop-index.index,
  c.loop-index.invariant.1,
)
