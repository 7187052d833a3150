-- Sets of identifiers, and the identifiers that a list of events makes.
use Rattle.std.specs.Prelude.{◌≡◌, Bool, List, Option, Some, None, is_some}
use Rattle.std.specs.Map.{lookup}
use Rattle.indexmap.specs.IndexMap.{insert_entry}
use Rattle.alias_base.specs.declared.ids.IdentifierId.{IdentifierId}
use Rattle.alias_graph.specs.Nodes.{same_id}
use Rattle.alias_graph.specs.declared.events.GraphEvent.{GraphEvent}
use Rattle.alias_graph.specs.declared.events.GraphEvent.TheVariants.{Make, CreateFrom, Link}
use Rattle.alias_graph.specs.Events.{events_of}
use Rattle.alias_graph.specs.RemainingLinks.{was_made}

abbrev pub Ids : Type 0
Ids = List (IdentifierId × Unit {0})

abbrev pub is_in : Ids → IdentifierId → Bool
is_in ids id = is_some (lookup (same_id id) ids)

abbrev pub with_id : Ids → IdentifierId → Ids
with_id ids id = insert_entry same_id ids id (tt {0})

-- the identifier that an event makes
abbrev pub made_id : GraphEvent → Option IdentifierId
made_id (Make id value) = Some id
made_id (CreateFrom index from into) = Some into
made_id (Link kind index from into) = None

-- some event makes the identifier
abbrev pub has_made : List GraphEvent → IdentifierId → Bool
has_made events id = was_made id (events_of events)

-- the set has the identifiers that the events make
abbrev pub Knows : Ids → List GraphEvent → Type 0
Knows ids events = (id : IdentifierId) → is_in ids id ≡ has_made events id
