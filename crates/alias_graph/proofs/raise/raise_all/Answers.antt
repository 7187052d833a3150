use Rattle.std.proofs.Common.{ap, ◌∙◌, replicate}
use Rattle.alias_graph.specs.Flat.{nodes_of}
use Rattle.alias_graph.specs.Seen.{nothing_seen}
use Rattle.alias_graph.proofs.Raising.{swept_begun, rise_same, rise_trans, raised_next}
use Rattle.alias_graph.proofs.raise.raise_all.Goals as goal

pub loop-walk-init : goal.loop-walk-init
loop-walk-init g c = (
  swept_begun c.args.links.now c.args.nodes.now 4294967295 4294967295 c.args.identifiers.now c.begin.new.self.seen
      (c.in_ok-begin.ensures.seen ∙ ap (λ n. replicate n nothing_seen) c.len.ensures),
  rise_same c.args.identifiers.now,
  λ last h. h,
)

pub raise_from-requires-clause-table : goal.raise_from-requires-clause-table
raise_from-requires-clause-table g c = c.in_ok-ready.ensures c.args.links.now c.loop-walk.identifiers
    c.loop-walk.invariant.0

pub loop-walk-preserved : goal.loop-walk-preserved
loop-walk-preserved g c = (
  c.in_ok-raise_from.ensures.table,
  rise_trans c.args.identifiers.now c.loop-walk.identifiers c.raise_from.new.identifiers c.loop-walk.invariant.1
      c.raise_from.ensures.rise,
  λ last h. c.loop-walk.invariant.2 last (raised_next (nodes_of c.args.links.now c.args.nodes.now) c.args.walks.now
      c.loop-walk.walk-index _ c.loop-walk.identifiers c.raise_from.new.identifiers last c.loop-walk-test.true
      c.raise_from.ensures.rise c.in_ok-raise_from.ensures.covered c.in_ok-raise_from.ensures.cause h),
)
