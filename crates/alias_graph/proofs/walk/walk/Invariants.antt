use Rattle.std.proofs.Common.{◌≡◌, ℕ, ◌+◌, ◌-◌, ◌*◌, ◌≤◌, vec_len, vec_capacity, length}
use Rattle.alias_graph.specs.Links.{all_links, step_to}
use Rattle.alias_graph.specs.Flat.{AllFit, nodes_of}
use Rattle.alias_graph.specs.Reports.{walked}
use Rattle.alias_graph.specs.Waiting.{waiting}
use Rattle.alias_graph.proofs.Searching.{coming, Comes}
use Rattle.alias_graph.proofs.Walking.{Walking}
use Rattle.alias_graph.proofs.walk.walk.Given as goal

abbrev pub invariant-walk : goal.invariant-walk
invariant-walk g l =
    (n : ℕ)
    × (l.steps ≡ l.fn.steps + n)
    × Walking (nodes_of l.links l.fn.nodes) l.fn.env.identifiers l.index l.origin l.end l.fn.start
    (nodes_of l.links l.nodes) l.env.identifiers l.scratch.seen
    (coming (waiting l.links l.nodes l.index l.scratch.stack.items) l.next) n
    × Comes l.nodes l.scratch.seen (waiting l.links l.nodes l.index l.scratch.stack.items) l.next
    × (vec_len l.scratch.stack ≤ 5 * length (step_to (nodes_of l.links l.fn.nodes) l.index l.fn.start n).done)
    × (40 * length l.fn.nodes ≤ vec_capacity l.scratch.stack)
    × AllFit (length l.links) l.nodes
    × (l.env ≡ walked l.should_record_errors l.index l.origin l.end (nodes_of l.links l.fn.nodes)
    (step_to (nodes_of l.links l.fn.nodes) l.index l.fn.start n).done l.fn.env)

abbrev pub decreases-walk : goal.decreases-walk
decreases-walk g l = l.fn.steps + (1 + 8 * all_links (nodes_of l.links l.fn.nodes)) - l.steps
