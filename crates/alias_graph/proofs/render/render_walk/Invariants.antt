use Rattle.std.proofs.Common.{◌≡◌, ◌+◌, ◌≤◌, vec_capacity}
use Rattle.alias_graph.specs.Links.{all_links}
use Rattle.alias_graph.specs.Flat.{nodes_of}
use Rattle.alias_graph.specs.Renders.{render_to, render_reports}
use Rattle.alias_graph.specs.Reports.{with_reports}
use Rattle.alias_graph.proofs.Rendering.{Rendering}
use Rattle.alias_graph.proofs.render.render_walk.Given as goal

abbrev pub invariant-loop : goal.invariant-loop
invariant-loop l =
    Rendering (nodes_of l.links l.nodes) l.index l.fn.start l.seen.items l.stack.items l.counter
    × (1 + all_links (nodes_of l.links l.nodes) ≤ vec_capacity l.stack)
    × (l.env ≡ with_reports (render_reports l.initial.env (nodes_of l.links l.nodes)
    (render_to (nodes_of l.links l.nodes) l.index l.fn.start l.counter).done) l.initial.env)
