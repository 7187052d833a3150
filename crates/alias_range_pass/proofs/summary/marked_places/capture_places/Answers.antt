use Rattle.std.proofs.Common.{arith, ap, ◌∙◌, slice_set}
use Rattle.std.proofs.lemmas.List.{get_or_default}
use Rattle.std.proofs.lemmas.List.Edits.{map_over_more}
use Rattle.alias_range_pass.specs.summary.MarkedPlaces.{captured}
use Rattle.alias_range_pass.proofs.summary.marked_places.capture_places.Goals as goal

pub loop-place-preserved : goal.loop-place-preserved
loop-place-preserved c =
    ap (λ z. slice_set c.loop-place.places c.loop-place.place-index z) c.capture.ensures
    ∙ map_over_more (captured c.args.graph.now) c.args.places.now c.loop-place.places c.loop-place.place-index _
    (omega arith) c.loop-place.invariant (get_or_default c.loop-place.places c.loop-place.place-index _ _
    (omega arith))
