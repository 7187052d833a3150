-- Links that are known by their ends, where a node has too many sources to look through them all for each new one.
use Rattle.std.specs.Prelude.{◌≡◌, ℕ, ◌+◌, ◌*◌, Bool, true, ◌==◌, nat_lt, List, [], ◌∷◌, Option, Some, None, take, drop}
use Rattle.std.specs.Prelude.{length, if◌then◌else◌}
use Rattle.std.specs.List.{list_any, AllByRecursion}
use Rattle.std.specs.Option.{option_map_or}
use Rattle.alias_base.specs.declared.ids.IdentifierId.{IdentifierId}
use Rattle.alias_graph.specs.declared.types.EdgeKind.{EdgeKind}
use Rattle.alias_graph.specs.declared.types.EdgeKind.TheVariants.{Capture, Alias, MaybeAlias}
use Rattle.alias_graph.specs.Nodes.{Source, Node, Nodes, node_at}
use Rattle.alias_graph.specs.Graph.{has_source}

-- a link by its ends
abbrev pub ends : IdentifierId → IdentifierId → ℕ
ends from into = from.0 * 4294967296 + into.0

abbrev pub is_known : ℕ → List ℕ → Bool
is_known e known = list_any (λ k. e == k) known

-- what was known still is
abbrev pub Grows : List ℕ → List ℕ → Type 0
Grows old new = (e : ℕ) → is_known e old ≡ true → is_known e new ≡ true

-- so many sources of a list are looked through
abbrev pub few : ℕ
few = 8

-- the links from these sources are known, but for the first few
abbrev pub AreKnown : List ℕ → IdentifierId → List Source → Type 0
AreKnown known into ss = AllByRecursion (λ (s : Source). is_known (ends s.other into) known ≡ true) (drop few ss)

pub record SourcesKnown (known : List ℕ) (id : IdentifierId) (n : Node) : Type 0 where
  pub captures : AreKnown known id n.captures
  pub aliases : AreKnown known id n.aliases
  pub maybe_aliases : AreKnown known id n.maybe_aliases

-- of each node
abbrev pub AllKnown : List ℕ → Nodes → Type 0
AllKnown known [] = Unit {0}
AllKnown known (e ∷ g) = SourcesKnown known e.0 e.1 × AllKnown known g

abbrev pub sources_of : EdgeKind → Node → List Source
sources_of Capture n = n.captures
sources_of Alias n = n.aliases
sources_of MaybeAlias n = n.maybe_aliases

-- the sources of the identifier's node, in the list that links of this kind have
abbrev pub sources_into : Nodes → IdentifierId → EdgeKind → List Source
sources_into g id kind = option_map_or (sources_of kind) (node_at g id) []

-- whether the source is among the first few, where there are more
abbrev pub found_early : IdentifierId → List Source → Option Bool
found_early from ss = if nat_lt (length ss) few then None else Some (has_source from (take few ss))
