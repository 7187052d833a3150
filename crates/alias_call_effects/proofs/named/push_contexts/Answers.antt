use Rattle.std.proofs.Common.{arith}
use Rattle.alias_call_effects.specs.PartLaws.{contexts_step}
use Rattle.alias_call_effects.proofs.named.push_contexts.Goals as goal

pub loop-left-preserved : goal.loop-left-preserved
loop-left-preserved c = (
  omega (arith, c.loop-left.invariant.0),
  contexts_step c.args.env.now c.args.context.now c.loop-left.left _ c.loop-left.named c.push_context.new.named _
      c.loop-left-test.true c.loop-left.invariant.0 c.loop-left.invariant.1 c.in_ok-push_context.ensures,
)
