use Rattle.std.proofs.Common.{◌≡◌, ◌++◌, drop, take, map}
use Rattle.alias_range_pass.specs.places.Blocks.{phi_placed}
use Rattle.alias_range_pass.proofs.places.blocks.place_phis.Given as goal

abbrev pub invariant-loop-phi : goal.invariant-loop-phi
invariant-loop-phi l = l.phis ≡ map (phi_placed l.identifiers l.first) (take l.phi-index l.initial.phis)
    ++ drop l.phi-index l.initial.phis
