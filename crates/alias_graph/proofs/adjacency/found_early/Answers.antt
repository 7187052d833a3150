use Rattle.std.proofs.Common.{Some, ap, ◌∙◌}
use Rattle.alias_graph.proofs.KnownLinks.{early_few, early_many}
use Rattle.alias_graph.proofs.adjacency.found_early.Goals as goal

pub returns-then-slots-lt-FEW : goal.returns-then-slots-lt-FEW
returns-then-slots-lt-FEW c = early_few c.args.links.now c.args.from c.args.slots.now c.if-slots-lt-FEW.true

pub returns : goal.returns
returns c = ap Some c.has_source.ensures
    ∙ early_many c.args.links.now c.args.from c.args.slots.now c.if-slots-lt-FEW.false
