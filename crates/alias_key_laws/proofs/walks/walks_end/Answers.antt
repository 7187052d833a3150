use Rattle.std.specs.Prelude.{◌+◌, ◌*◌}
use Rattle.alias_graph.specs.Links.{all_links, covers, next, node_exists}
use Rattle.alias_graph.specs.Nodes.{same_id}
use Rattle.alias_graph.specs.Renders.{lit, sources}
use Rattle.alias_graph.proofs.Ending.{walk_empties}
use Rattle.alias_graph.proofs.Endings.{run_empties, run_ends}
use Rattle.alias_graph.proofs.Lighting.{renders_few}
use Rattle.alias_key_laws.proofs.walks.walks_end.Goals as goal

pub returns-clause-walk : goal.returns-clause-walk
returns-clause-walk c = λ g m start. walk_empties g m start

pub returns-clause-walk_stays : goal.returns-clause-walk_stays
returns-clause-walk_stays c = λ g m start n le.
    run_ends covers (node_exists g) (next g m) start (1 + 8 * all_links g) n le (walk_empties g m start)

pub returns-clause-render : goal.returns-clause-render
returns-clause-render c = λ g m start. run_empties same_id (lit g) (sources g m) start (1 + all_links g)
    (renders_few g m start (1 + all_links g))

pub returns-clause-render_stays : goal.returns-clause-render_stays
returns-clause-render_stays c = λ g m start n le.
    run_ends same_id (lit g) (sources g m) start (1 + all_links g) n le
    (run_empties same_id (lit g) (sources g m) start (1 + all_links g) (renders_few g m start (1 + all_links g)))
