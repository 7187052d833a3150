use Rattle.std.proofs.Common.{arith, ap, ◌∙◌, slice_set}
use Rattle.std.proofs.lemmas.List.{get_or_default}
use Rattle.std.proofs.lemmas.List.Edits.{map_over_more}
use Rattle.alias_range_pass.specs.summary.MarkedPlaces.{param_captured}
use Rattle.alias_range_pass.proofs.summary.marked_places.capture_params.Goals as goal

pub loop-param-preserved : goal.loop-param-preserved
loop-param-preserved c =
    ap (λ z. slice_set c.loop-param.params c.loop-param.param-index z) c.capture_param.ensures
    ∙ map_over_more (param_captured c.args.graph.now) c.args.params.now c.loop-param.params c.loop-param.param-index _
    (omega arith) c.loop-param.invariant (get_or_default c.loop-param.params c.loop-param.param-index _ _
    (omega arith))
