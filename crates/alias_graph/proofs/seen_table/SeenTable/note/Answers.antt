use Rattle.std.proofs.Common.{◌+◌, slice_set, ap, ◌∙◌, arith}
use Rattle.alias_graph.specs.declared.seen_table.SeenRow.{SeenRow}
use Rattle.alias_graph.specs.Seen.{see}
use Rattle.alias_graph.proofs.Rows.{before_set, seen_noted}
use Rattle.alias_graph.proofs.seen_table.SeenTable.note.Goals as goal

pub invariant_of-self : goal.invariant_of-self
invariant_of-self c =
    let row : SeenRow = record { walk = c.self.inside.walk; seen = c.note.new.self } in
    before_set (c.self.inside.walk + 1) c.args.slot c.self.inside.rows.items row (omega arith) c.self.invariant

pub returns : goal.returns
returns c =
    seen_noted c.self.inside.walk c.args.slot c.self.inside.rows.items c.note.new.self
    ∙ ap (λ xs. slice_set xs c.args.slot c.note.new.self) c.self.view_is
    ∙ ap (slice_set c.args.self.now c.args.slot) (c.note.ensures ∙ ap (see c.args.entry) c.at-seen.ensures)
