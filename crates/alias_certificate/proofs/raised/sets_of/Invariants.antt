use Rattle.std.proofs.Common.{◌≡◌, [], drop}
use Rattle.alias_certificate.specs.states.Lines.{with_sets}
use Rattle.alias_certificate.proofs.raised.sets_of.Given as goal

abbrev pub invariant-loop-variable : goal.invariant-loop-variable
invariant-loop-variable l = with_sets (drop l.variable-index l.variables) l.sets ≡ with_sets l.variables []
