use Rattle.std.proofs.Common.{◌≡◌, ◌-◌}
use Rattle.std.specs.List.{list_all}
use Rattle.alias_flow.specs.Machine.{up}
use Rattle.alias_verify.specs.Edges.{goes_on, goes_forward}
use Rattle.alias_verify.proofs.forward.goes_forward.Given as goal

abbrev pub invariant-loop-at : goal.invariant-loop-at
invariant-loop-at l = goes_forward l.func ≡ list_all (goes_on l.func.body.blocks) (up l.at (l.at-end - l.at))
