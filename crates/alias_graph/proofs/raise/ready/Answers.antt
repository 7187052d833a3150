use Rattle.std.proofs.Common.{ap, ◌∙◌, replicate}
use Rattle.alias_graph.specs.Seen.{nothing_seen}
use Rattle.alias_graph.proofs.Raising.{swept_begun}
use Rattle.alias_graph.proofs.raise.ready.Goals as goal

pub returns : goal.returns
returns c = λ links rs h. swept_begun links c.args.nodes.now c.args.walk.index c.args.walk.end.0 rs
    c.begin.new.self.seen (c.in_ok-begin.ensures.seen ∙ ap (λ n. replicate n nothing_seen) c.len.ensures)
