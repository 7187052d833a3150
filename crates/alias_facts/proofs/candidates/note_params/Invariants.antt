use Rattle.std.proofs.Common.{◌≡◌, drop}
use Rattle.std.specs.List.{fold}
use Rattle.alias_facts.specs.Candidates.{after_param}
use Rattle.alias_facts.proofs.candidates.note_params.Given as goal

abbrev pub invariant-loop-param : goal.invariant-loop-param
invariant-loop-param l = fold after_param l.candidates (drop l.param-index l.params)
    ≡ fold after_param l.initial.candidates l.params
