use Rattle.std.proofs.Common.{◌≡◌, ℕ, ◌<◌, length}
use Rattle.alias_graph.specs.SeenRows.{AllRowsBefore}
use Rattle.alias_graph.proofs.seen_table.add_rows.Given as goal

abbrev pub invariant-loop : goal.invariant-loop
invariant-loop l =
    (length l.rows.items ≡ l.counter)
    × ((walk : ℕ) → 0 < walk → AllRowsBefore walk l.fn.rows.items → AllRowsBefore walk l.rows.items)
