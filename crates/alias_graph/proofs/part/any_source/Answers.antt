use Rattle.std.proofs.Common.{length, sym, ◌∙◌}
use Rattle.alias_graph.specs.Cutting.{flagged}
use Rattle.alias_graph.proofs.Cutting.{source_found, source_passed, rest_below}
use Rattle.alias_graph.proofs.part.any_source.Goals as goal

pub returns-then-is_flagged : goal.returns-then-is_flagged
returns-then-is_flagged c = source_found (flagged c.args.nodes.now c.args.flags.now) c.args.links.now c.args.slots.now
    c.loop-slot.slot-index c.loop-slot-test.true c.loop-slot.invariant.0
    (sym c.is_flagged.ensures ∙ c.if-is_flagged.true)

pub loop-slot-preserved : goal.loop-slot-preserved
loop-slot-preserved c = (
  source_passed (flagged c.args.nodes.now c.args.flags.now) c.args.links.now c.args.slots.now c.loop-slot.slot-index
      c.loop-slot-test.true c.loop-slot.invariant.0 (sym c.is_flagged.ensures ∙ c.if-is_flagged.false),
  rest_below (flagged c.args.nodes.now c.args.flags.now) c.args.links.now c.args.slots.now c.loop-slot.slot-index
      c.loop-slot-test.true (length c.args.links.now) c.loop-slot.invariant.1,
)
