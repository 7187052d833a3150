use Rattle.std.proofs.Common.{◌≡◌, ◌++◌, drop, take, map}
use Rattle.alias_range_pass.specs.summary.MarkedPlaces.{param_captured}
use Rattle.alias_range_pass.proofs.summary.marked_places.capture_params.Given as goal

abbrev pub invariant-loop-param : goal.invariant-loop-param
invariant-loop-param l = l.params ≡ map (param_captured l.graph) (take l.param-index l.initial.params)
    ++ drop l.param-index l.initial.params
