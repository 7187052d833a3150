use Rattle.std.proofs.Common.{◌≡◌, ◌-◌, List, Some, subst, arith}
use Rattle.json.specs.Token.{Token}
use Rattle.json.specs.Json.{after_end_array}
use Rattle.alias_straight.specs.Takes.{Takes}
use Rattle.alias_straight.proofs.Fielding.{takes-shorter}
use Rattle.alias_straight.proofs.Entering.{opened_map, entry_more, map_taken}
use Rattle.alias_straight.proofs.entries.BlockMapFromTokens.from_tokens.Goals as goal

pub items-init : goal.items-init
items-init g c = rw c.new-found.ensures (opened_map g.V.FromEntry.reads_entry c.args.depth c.args.reader.now
    c.open_array.new.reader (omega arith) c.in_ok-open_array.ensures)

pub items-smaller-in_ok-insert : goal.items-smaller-in_ok-insert
items-smaller-in_ok-insert g c =
    let same : c.take_end_array.new.self ≡ c.items.reader = grind arith in
    takes-shorter (g.V.FromEntry.reads_entry c.items.found) (c.args.depth - 1) c.items.reader c.take_entry.new.reader _
    (subst (λ (l : List Token). Takes (g.V.FromEntry.reads_entry c.items.found) (c.args.depth - 1) l
    (c.in_ok-id.id, c.in_ok-id.entry) c.take_entry.new.reader) same c.in_ok-id.ensures)

pub items-preserved-in_ok-insert : goal.items-preserved-in_ok-insert
items-preserved-in_ok-insert g c =
    let same : c.take_end_array.new.self ≡ c.items.reader = grind arith in
    rw c.in_ok-insert.ensures.entries
    (entry_more g.V.FromEntry.reads_entry c.args.depth c.args.reader.now c.items.reader c.take_entry.new.reader
    c.items.found (c.in_ok-id.id, c.in_ok-id.entry) c.items.invariant
    (subst (λ (l : List Token). Takes (g.V.FromEntry.reads_entry c.items.found) (c.args.depth - 1) l
    (c.in_ok-id.id, c.in_ok-id.entry) c.take_entry.new.reader) same c.in_ok-id.ensures))

pub items-smaller : goal.items-smaller
items-smaller g c =
    let same : c.take_end_array.new.self ≡ c.items.reader = grind arith in
    takes-shorter (g.V.FromEntry.reads_entry c.items.found) (c.args.depth - 1) c.items.reader c.take_entry.new.reader _
    (subst (λ (l : List Token). Takes (g.V.FromEntry.reads_entry c.items.found) (c.args.depth - 1) l
    (c.in_ok-id.id, c.in_ok-id.entry) c.take_entry.new.reader) same c.in_ok-id.ensures)

pub items-preserved : goal.items-preserved
items-preserved g c =
    let same : c.take_end_array.new.self ≡ c.items.reader = grind arith in
    rw c.in_ok-insert.ensures.entries
    (entry_more g.V.FromEntry.reads_entry c.args.depth c.args.reader.now c.items.reader c.take_entry.new.reader
    c.items.found (c.in_ok-id.id, c.in_ok-id.entry) c.items.invariant
    (subst (λ (l : List Token). Takes (g.V.FromEntry.reads_entry c.items.found) (c.args.depth - 1) l
    (c.in_ok-id.id, c.in_ok-id.entry) c.take_entry.new.reader) same c.in_ok-id.ensures))

pub returns : goal.returns
returns g c =
    let ended : after_end_array c.items.reader ≡ Some c.take_end_array.new.self = grind arith in
    map_taken g.V.FromEntry.reads_entry c.args.depth c.args.reader.now c.items.reader c.take_end_array.new.self
    c.items.found c.items.invariant ended
