use Rattle.std.proofs.Common.{◌≡◌, [], drop}
use Rattle.alias_json.specs.Tree.{items_view}
use Rattle.alias_json.specs.Pointer.{pointer}
use Rattle.alias_read.specs.Shapes.{shape_items_at}
use Rattle.alias_read.proofs.shapes.shapes.Given as goal

abbrev pub invariant-loop-index : goal.invariant-loop-index
invariant-loop-index l = shape_items_at (pointer l.path) 0 [] (items_view l.values)
    ≡ shape_items_at (pointer l.path) l.index l.found (items_view (drop l.index l.values))
