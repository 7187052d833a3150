use Rattle.std.proofs.Common.{◌≡◌, [], drop}
use Rattle.alias_json.specs.Tree.{items_view}
use Rattle.alias_json.specs.Pointer.{pointer}
use Rattle.alias_read.specs.Entries.{entry_items_at}
use Rattle.alias_read.proofs.entries.entries.Given as goal

abbrev pub invariant-loop-index : goal.invariant-loop-index
invariant-loop-index g l =
    entry_items_at g.V.FromEntry.reads_entry (pointer l.path) 0 [] (items_view l.values)
    ≡ entry_items_at g.V.FromEntry.reads_entry (pointer l.path) l.index l.found (items_view (drop l.index l.values))
