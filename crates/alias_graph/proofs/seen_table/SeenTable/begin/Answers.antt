use Rattle.std.proofs.Common.{◌+◌, arith}
use Rattle.alias_graph.proofs.Rows.{before_grown, before_up, begun}
use Rattle.alias_graph.proofs.seen_table.SeenTable.begin.Goals as goal

pub invariant_of-self : goal.invariant_of-self
invariant_of-self c =
    let walk = c.next_walk-self-inside.result in
    let rows = c.next_walk-self-inside.new.rows.items in
    before_up walk (walk + 1) c.add_rows.new.rows.items (omega arith)
    (before_grown walk c.args.slots rows c.truncate.new.self.items c.add_rows.new.rows.items
    c.next_walk-self-inside.ensures.before c.truncate.ensures.items c.next_walk-self-inside.ensures.some
    c.add_rows.ensures.before)

pub invariant_of-self-2 : goal.invariant_of-self-2
invariant_of-self-2 c =
    let walk = c.next_walk-self-inside.result in
    let rows = c.next_walk-self-inside.new.rows.items in
    before_up walk (walk + 1) c.add_rows.new.rows.items (omega arith)
    (before_grown walk c.args.slots rows c.truncate.new.self.items c.add_rows.new.rows.items
    c.next_walk-self-inside.ensures.before c.truncate.ensures.items c.next_walk-self-inside.ensures.some
    c.add_rows.ensures.before)

pub returns : goal.returns
returns c =
    let walk = c.next_walk-self-inside.result in
    let rows = c.next_walk-self-inside.new.rows.items in
    begun walk c.args.slots c.add_rows.new.rows.items
    (before_grown walk c.args.slots rows c.truncate.new.self.items c.add_rows.new.rows.items
    c.next_walk-self-inside.ensures.before c.truncate.ensures.items c.next_walk-self-inside.ensures.some
    c.add_rows.ensures.before) c.in_ok-add_rows.ensures.length
