use Rattle.alias_graph.proofs.recorded.listing.list_effect.Goals as goal

pub returns-in-Assign : goal.returns-in-Assign
returns-in-Assign c = rw c.in-Assign.is c.assign.ensures
