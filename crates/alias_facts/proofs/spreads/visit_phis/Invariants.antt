use Rattle.std.proofs.Common.{◌≡◌, drop}
use Rattle.std.specs.List.{fold}
use Rattle.alias_facts.specs.Spreads.{after_phi}
use Rattle.alias_facts.proofs.spreads.visit_phis.Given as goal

abbrev pub invariant-loop-phi : goal.invariant-loop-phi
invariant-loop-phi l = fold after_phi l.candidates (drop l.phi-index l.phis)
    ≡ fold after_phi l.initial.candidates l.phis
