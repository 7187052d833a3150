-- The flows from parameters and context places into each other and into what is returned.
use Rattle.std.specs.Prelude.{ℕ, ◌+◌, ◌==◌, ◌&&◌, Bool, true, false, not, List, [], ◌∷◌, ◌++◌, Option, Some, None}
use Rattle.std.specs.Prelude.{if◌then◌else◌}
use Rattle.std.specs.Option.{option_map_or}
use Rattle.std.specs.List.{flat_map}
use Rattle.alias_hir.specs.declared.effect.AliasingEffect.{AliasingEffect}
use Rattle.alias_hir.specs.declared.effect.AliasingEffect.TheVariants as effect
use Rattle.alias_hir.specs.declared.place.Place.{Place}
use Rattle.alias_graph.specs.declared.types.MutationKind.TheVariants.{Conditional}
use Rattle.alias_graph.specs.Nodes.{Node, Nodes}
use Rattle.alias_range_pass.specs.declared.summary.start.WalkStart.{WalkStart}
use Rattle.alias_range_pass.specs.summary.MarkedPlaces.{marks_at}
use Rattle.alias_range_pass.specs.summary.Walking.{nodes_after}

-- the walk that is simulated from a tracked place: transitive, conditional, and without an end
abbrev pub flow_start : ℕ → Place → WalkStart
flow_start index into = record {
  index = index;
  place = into;
  transitive = true;
  kind = Conditional;
  reason = None;
  end = None;
}

abbrev pub ends_at : ℕ → Option Node → Bool
ends_at index None = false
ends_at index (Some n) = option_map_or (λ k. k == index) n.last_mutated false

-- the last walk that came to the place is the one at this position
abbrev pub is_last : Nodes → ℕ → Place → Bool
is_last g index x = ends_at index (marks_at g x.identifier)

-- what is returned is an alias; another place captures
abbrev pub flow_effect : Place → Place → Place → AliasingEffect
flow_effect returns from into = if into.identifier.0 == returns.identifier.0 then effect.Alias from into
    else effect.Capture from into

-- a flow from one place into another is listed where they are different, the first is not what is returned, and the
-- walk from the second came to it
abbrev pub is_flow : Nodes → ℕ → Place → Place → Place → Bool
is_flow g index returns into from =
    not (from.identifier.0 == into.identifier.0)
    && (not (from.identifier.0 == returns.identifier.0) && is_last g index from)

abbrev pub flow_from : Nodes → ℕ → Place → Place → Place → List AliasingEffect
flow_from g index returns into from = if is_flow g index returns into from then flow_effect returns from into ∷ []
    else []

-- the flows into a place, after the walk from it
abbrev pub flows_into : Nodes → ℕ → Place → List Place → Place → List AliasingEffect
flows_into g index returns places into = flat_map (λ from. flow_from g index returns into from) places

-- the flows into these places in order, of which the first walks at this position, and each further one at the next
abbrev pub flows_listed : Nodes → ℕ → Place → List Place → List Place → List AliasingEffect
flows_listed g index returns places [] = []
flows_listed g index returns places (into ∷ intos) =
    flows_into (nodes_after (flow_start index into) g) index returns places into
    ++ flows_listed (nodes_after (flow_start index into) g) (index + 1) returns places intos
