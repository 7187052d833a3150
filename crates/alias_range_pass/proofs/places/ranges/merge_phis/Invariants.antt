use Rattle.std.proofs.Common.{◌≡◌, drop}
use Rattle.alias_range_pass.specs.places.Ranges.{phis_merged}
use Rattle.alias_range_pass.proofs.places.ranges.merge_phis.Given as goal

abbrev pub invariant-loop-phi : goal.invariant-loop-phi
invariant-loop-phi l = phis_merged l.first (drop l.phi-index l.phis) l.identifiers
    ≡ phis_merged l.first l.phis l.initial.identifiers
