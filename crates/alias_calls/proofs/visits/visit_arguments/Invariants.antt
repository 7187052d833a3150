use Rattle.std.proofs.Common.{◌≡◌, drop}
use Rattle.alias_calls.specs.Visits.{visit_arguments}
use Rattle.alias_calls.proofs.visits.visit_arguments.Given as goal

-- the arguments that are left lead where all of them do
abbrev pub invariant-loop-argument : goal.invariant-loop-argument
invariant-loop-argument l =
    (l.index ≡ l.argument-index)
    × (visit_arguments l.env l.signature l.into l.reason l.index (drop l.argument-index l.args) l.visits
    ≡ visit_arguments l.env l.signature l.into l.reason 0 l.args l.initial.visits)
