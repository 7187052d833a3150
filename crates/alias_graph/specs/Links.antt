-- Which entries an entry of a walk leads to.
use Rattle.std.specs.Prelude.{ℕ, ◌+◌, Bool, true, false, cond, not, ◌&&◌, ◌||◌, ◌==◌, List, [], ◌∷◌, ◌++◌, Option, Some}
use Rattle.std.specs.Prelude.{None, nat_lt, is_some, length, ◌*◌}
use Rattle.alias_base.specs.declared.ids.IdentifierId.{IdentifierId}
use Rattle.alias_graph.specs.declared.types.MutationKind.{MutationKind}
use Rattle.alias_graph.specs.declared.types.MutationKind.TheVariants.{Conditional, Definite}
use Rattle.alias_graph.specs.declared.types.Direction.{Direction}
use Rattle.alias_graph.specs.declared.types.Direction.TheVariants.{Backwards, Forwards}
use Rattle.alias_graph.specs.declared.types.EdgeKind.{EdgeKind}
use Rattle.alias_graph.specs.declared.types.EdgeKind.TheVariants.{Capture, Alias, MaybeAlias}
use Rattle.alias_graph.specs.declared.types.NodeValue.{NodeValue}
use Rattle.alias_graph.specs.declared.types.NodeValue.TheVariants.{Object, Phi, Function}
use Rattle.alias_graph.specs.Nodes.{Edge}
use Rattle.alias_graph.specs.Nodes.{Source}
use Rattle.alias_graph.specs.declared.types.Entry.{Entry}
use Rattle.alias_graph.specs.Nodes.{Node}
use Rattle.alias_graph.specs.Nodes.{Nodes, node_at}
use Rattle.alias_graph.specs.Walks.{Walk, run}

abbrev pub is_phi : NodeValue → Bool
is_phi Object = false
is_phi Phi = true
is_phi (Function f) = false

abbrev pub is_backwards : Direction → Bool
is_backwards Backwards = true
is_backwards Forwards = false

abbrev pub is_definite : MutationKind → Bool
is_definite Definite = true
is_definite Conditional = false

-- where the second is set, the first is
abbrev pub at_least : Bool → Bool → Bool
at_least true b = true
at_least false b = not b

-- d has at least the flag, the direction and the kind of e
abbrev pub mode_covers : Entry → Entry → Bool
mode_covers d e = at_least d.transitive e.transitive && at_least (is_backwards d.direction) (is_backwards e.direction)
    && at_least (is_definite d.kind) (is_definite e.kind)

abbrev pub covers : Entry → Entry → Bool
covers d e = (d.id.0 == e.id.0) && mode_covers d e

abbrev pub entry : IdentifierId → Bool → Direction → MutationKind → Entry
entry id transitive direction kind = record { id = id; transitive = transitive; direction = direction; kind = kind }

-- the entries of the sources before m
abbrev pub back_entries : ℕ → Bool → MutationKind → List Source → List Entry
back_entries m t k [] = []
back_entries m t k (l ∷ ls) = cond (nat_lt l.index m) (entry l.other t Backwards k ∷ back_entries m t k ls)
    (back_entries m t k ls)

abbrev pub along : EdgeKind → IdentifierId → Bool → MutationKind → Entry
along Capture id t k = entry id t Backwards k
along Alias id t k = entry id t Forwards k
along MaybeAlias id t k = entry id t Forwards Conditional

-- the entries of the edges before m
abbrev pub forward_entries : ℕ → Bool → MutationKind → List Edge → List Entry
forward_entries m t k [] = []
forward_entries m t k (l ∷ ls) = cond (nat_lt l.index m) (along l.kind l.other t k ∷ forward_entries m t k ls)
    (forward_entries m t k ls)

-- a phi that is entered forwards leads to no source
abbrev pub opens : NodeValue → Direction → Bool
opens value direction = not (is_phi value) || is_backwards direction

abbrev pub alias_entries : Bool → ℕ → Bool → MutationKind → List Source → List Source → List Entry
alias_entries true m t k aliases maybes = back_entries m t k aliases ++ back_entries m t Conditional maybes
alias_entries false m t k aliases maybes = []

abbrev pub capture_entries : Bool → ℕ → MutationKind → List Source → List Entry
capture_entries true m k captures = back_entries m true k captures
capture_entries false m k captures = []

-- what an entry at this node leads to, for a mutation at m
abbrev pub led_to : ℕ → Entry → Node → List Entry
led_to m e n =
    forward_entries m e.transitive e.kind n.forward
    ++ back_entries m true e.kind n.created_from
    ++ alias_entries (opens n.value e.direction) m e.transitive e.kind n.aliases n.maybe_aliases
    ++ capture_entries e.transitive m e.kind n.captures

abbrev pub led_from : ℕ → Entry → Option Node → List Entry
led_from m e None = []
led_from m e (Some n) = led_to m e n

-- what an entry leads to
abbrev pub next : Nodes → ℕ → Entry → List Entry
next g m e = led_from m e (node_at g e.id)

abbrev pub node_exists : Nodes → Entry → Bool
node_exists g e = is_some (node_at g e.id)

-- how many links a node has
abbrev pub links_of : Node → ℕ
links_of n = length n.forward + length n.created_from + length n.aliases + length n.maybe_aliases + length n.captures

abbrev pub all_links : Nodes → ℕ
all_links [] = 0
all_links (e ∷ g) = links_of e.1 + all_links g

abbrev pub step_to : Nodes → ℕ → Entry → ℕ → Walk Entry
step_to g m start n = run covers (node_exists g) (next g m) start n

-- the whole walk of a mutation at m
abbrev pub walk : Nodes → ℕ → Entry → Walk Entry
walk g m start = step_to g m start (1 + 8 * all_links g)
