use Rattle.alias_graph.proofs.Cutting.{grow_trans, flags_more}
use Rattle.alias_graph.proofs.part.flag_targets.Goals as goal

pub loop-id-preserved : goal.loop-id-preserved
loop-id-preserved c = (
  grow_trans c.args.flags.now.items c.loop-id.flags.items c.flag_id.new.flags.items c.loop-id.invariant.0
      c.in_ok-flag_id.ensures.grow,
  flags_more c.args.nodes.now c.args.targets.now c.loop-id.id-index _ c.loop-id.flags.items c.flag_id.new.flags.items
      c.loop-id-test.true c.in_ok-flag_id.ensures.grow c.loop-id.invariant.1 c.in_ok-flag_id.ensures.there,
)
