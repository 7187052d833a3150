use Rattle.std.proofs.Common.{◌≡◌, drop}
use Rattle.alias_certificate.specs.states.States.{with_variables}
use Rattle.alias_certificate.proofs.states.define_variables.Given as goal

abbrev pub invariant-loop-variable : goal.invariant-loop-variable
invariant-loop-variable l = with_variables l.identifiers (drop l.variable-index l.variables) l.state
    ≡ with_variables l.identifiers l.variables l.initial.state
