use Rattle.std.proofs.Common.{◌≡◌}
use Rattle.std.specs.List.{fold}
use Rattle.alias_facts.specs.Candidates.{with_self, selves}
use Rattle.alias_facts.proofs.candidates.selves.Given as goal

abbrev pub invariant-loop-identifier : goal.invariant-loop-identifier
invariant-loop-identifier l = selves l.candidates ≡ fold with_self l.selves l.identifier-iterator
