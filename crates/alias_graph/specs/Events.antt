-- The events that code lists.
use Rattle.std.specs.Prelude.{List, [], ◌∷◌}
use Rattle.alias_graph.specs.declared.events.GraphEvent.{GraphEvent}
use Rattle.alias_graph.specs.declared.events.GraphEvent.TheVariants.{Make, CreateFrom, Link}
use Rattle.alias_graph.specs.Graph.{Event, made, created_out, joined}

abbrev pub event_of : GraphEvent → Event
event_of (Make id value) = made id value
event_of (CreateFrom index from into) = created_out index from into
event_of (Link kind index from into) = joined kind index from into

abbrev pub events_of : List GraphEvent → List Event
events_of [] = []
events_of (e ∷ es) = event_of e ∷ events_of es
