use Rattle.std.proofs.Common.{◌≡◌, ◌++◌, take, map}
use Rattle.alias_hir.specs.Parts.{param_place}
use Rattle.alias_range_pass.proofs.summary.summary.push_params.Given as goal

abbrev pub invariant-loop-param : goal.invariant-loop-param
invariant-loop-param l = l.places ≡ l.initial.places ++ map param_place (take l.param-index l.params)
