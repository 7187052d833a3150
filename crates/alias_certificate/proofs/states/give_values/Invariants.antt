use Rattle.std.proofs.Common.{◌≡◌, drop}
use Rattle.alias_certificate.specs.states.States.{with_values}
use Rattle.alias_certificate.proofs.states.give_values.Given as goal

abbrev pub invariant-loop-value : goal.invariant-loop-value
invariant-loop-value l = with_values (drop l.value-index l.values) l.state ≡ with_values l.values l.initial.state
