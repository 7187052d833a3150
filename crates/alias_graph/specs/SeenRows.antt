-- The rows that walks have written, as what one of the walks has seen.
use Rattle.std.specs.Prelude.{ℕ, ◌<◌, ◌==◌, cond, List, [], ◌∷◌, map}
use Rattle.alias_graph.specs.declared.seen.Seen.{Seen}
use Rattle.alias_graph.specs.declared.seen_table.SeenRow.{SeenRow}
use Rattle.alias_graph.specs.Seen.{nothing_seen}

-- a row of another walk has seen nothing
abbrev pub row_seen_by : ℕ → SeenRow → Seen
row_seen_by walk row = cond (row.walk == walk) row.seen nothing_seen

abbrev pub seen_by : ℕ → List SeenRow → List Seen
seen_by walk rows = map (row_seen_by walk) rows

-- each row is of a walk before this one
abbrev pub AllRowsBefore : ℕ → List SeenRow → Type 0
AllRowsBefore walk [] = Unit {0}
AllRowsBefore walk (row ∷ rows) = (row.walk < walk) × AllRowsBefore walk rows
