-- The walk of a render.
use Rattle.std.specs.Prelude.{◌≡◌, ℕ, ◌+◌, ◌||◌, Bool, true, false, cond, not, List, [], ◌∷◌, ◌++◌, Option, Some, None}
use Rattle.std.specs.Prelude.{nat_lt, is_some, slice_index_or, slice_set}
use Rattle.alias_base.specs.declared.ids.IdentifierId.{IdentifierId}
use Rattle.alias_hir.specs.declared.env.Environment.{Environment}
use Rattle.alias_hir.specs.declared.report.Report.{Report}
use Rattle.alias_graph.specs.declared.types.Node.{Node as StoredNode}
use Rattle.alias_graph.specs.Links.{all_links}
use Rattle.alias_graph.specs.Nodes.{Node, Nodes, Source, node_at, same_id}
use Rattle.alias_graph.specs.Reports.{reported_at}
use Rattle.alias_graph.specs.Walks.{IsOneOf, AllNew, Path, Walk, run}

-- a node without a mark
abbrev pub is_lit : Option Node → Bool
is_lit None = false
is_lit (Some n) = not (is_some n.local || is_some n.transitive)

abbrev pub stored_is_lit : Option StoredNode → Bool
stored_is_lit None = false
stored_is_lit (Some n) = not (is_some n.local || is_some n.transitive)

-- a node without a mark is there
abbrev pub lit : Nodes → IdentifierId → Bool
lit g id = is_lit (node_at g id)

-- the sources before m
abbrev pub before : ℕ → List Source → List IdentifierId
before m [] = []
before m (l ∷ ls) = cond (nat_lt l.index m) (l.other ∷ before m ls) (before m ls)

-- what the node was made from, what it is, and what it holds, before m
abbrev pub sources_of : ℕ → Node → List IdentifierId
sources_of m n = before m n.created_from ++ before m n.aliases ++ before m n.captures

abbrev pub sources_at_node : ℕ → Option Node → List IdentifierId
sources_at_node m None = []
sources_at_node m (Some n) = sources_of m n

abbrev pub sources : Nodes → ℕ → IdentifierId → List IdentifierId
sources g m id = sources_at_node m (node_at g id)

abbrev pub render_to : Nodes → ℕ → IdentifierId → ℕ → Walk IdentifierId
render_to g m start n = run same_id (lit g) (sources g m) start n

-- the whole walk of a render at m
abbrev pub rendered : Nodes → ℕ → IdentifierId → Walk IdentifierId
rendered g m start = render_to g m start (1 + all_links g)

-- the reports of a render that expanded the nodes of these identifiers, the latest first
abbrev pub render_reports : Environment → Nodes → List IdentifierId → List Report
render_reports env g [] = []
render_reports env g (id ∷ ids) = render_reports env g ids ++ reported_at env (node_at g id)

-- the walk expanded what paths over nodes without a mark reach, all of it, and each once
pub record Renders (g : Nodes) (m : ℕ) (start : IdentifierId) (done : List IdentifierId) : Type 0 where
  pub legal : (id : IdentifierId) → IsOneOf id done → Path (lit g) (sources g m) start id
  pub reached : (id : IdentifierId) → Path (lit g) (sources g m) start id → IsOneOf id done
  pub new : AllNew same_id done

-- nothing was taken away
abbrev pub Grown : List Report → List Report → Type 0
Grown old new = (more : List Report) × (new ≡ old ++ more)

-- the slot of a node that is new there
abbrev pub lit_claim : Option ℕ → Bool → List Bool → Option ℕ
lit_claim None is_lit seen = None
lit_claim (Some p) is_lit seen = cond is_lit (cond (slice_index_or seen p false) None (Some p)) None

abbrev pub lit_noted : Option ℕ → List Bool → List Bool
lit_noted None seen = seen
lit_noted (Some p) seen = slice_set seen p true
