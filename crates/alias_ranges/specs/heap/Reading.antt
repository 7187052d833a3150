-- What ranges say of the heap.
use Rattle.std.specs.Prelude.{◌≡◌, ◌<◌, true, List}
use Rattle.alias_base.specs.declared.ids.IdentifierId.{IdentifierId}
use Rattle.alias_hir.specs.declared.env.Identifier.{Identifier}
use Rattle.alias_hir.specs.declared.hir.HirFunction.{HirFunction}
use Rattle.alias_graph.specs.Reach.{end_at}
use Rattle.alias_ranges.specs.heap.Making.{makes_once}
use Rattle.alias_ranges.specs.heap.Heap.{Object, Reaches, Writes}
use Rattle.alias_ranges.specs.heap.Paths.{is_forward, Moment, history_at}

-- at each moment on a path of blocks, where an effect writes an object, the range of each identifier that reaches the
-- object ends past the instruction
abbrev pub EndsPastWrites : HirFunction → List Identifier → Type 0
EndsPastWrites f identifiers = (m : Moment f) (o : Object) → Writes (history_at m) m.next o → (y : IdentifierId)
    → Reaches (history_at m) y o → m.order.0 < end_at identifiers y.0

-- that holds of a forward function that makes each place at most once, and before another is aliased into it
abbrev pub HeapIsCovered : HirFunction → List Identifier → Type 0
HeapIsCovered f identifiers = is_forward f ≡ true → makes_once f ≡ true → EndsPastWrites f identifiers
