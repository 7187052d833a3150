use Rattle.std.proofs.Common.{◌≡◌}
use Rattle.std.specs.List.{fold}
use Rattle.alias_facts.specs.Spreads.{after_operand, after_phi}
use Rattle.alias_facts.proofs.spreads.visit_phi.Given as goal

abbrev pub invariant-loop-operand : goal.invariant-loop-operand
invariant-loop-operand l = after_phi l.initial.candidates l.phi ≡ fold after_operand l.candidates l.operand-iterator
