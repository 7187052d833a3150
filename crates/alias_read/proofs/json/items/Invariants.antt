use Rattle.std.proofs.Common.{◌≡◌, [], drop}
use Rattle.alias_json.specs.Tree.{items_view}
use Rattle.alias_json.specs.Pointer.{pointer}
use Rattle.alias_read.specs.Json.{items_at}
use Rattle.alias_read.proofs.json.items.Given as goal

abbrev pub invariant-loop-index : goal.invariant-loop-index
invariant-loop-index g l =
    items_at g.T.FromJson.reads (pointer l.path) 0 [] (items_view l.values)
    ≡ items_at g.T.FromJson.reads (pointer l.path) l.index l.found.items (items_view (drop l.index l.values))
