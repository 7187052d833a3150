use Rattle.alias_graph.proofs.Undoing.{last_popped}
use Rattle.alias_graph.proofs.adjacency.drop_last.Goals as goal

pub returns : goal.returns
returns c = last_popped c.pop-last.result _ _ c.pop-last.ensures
