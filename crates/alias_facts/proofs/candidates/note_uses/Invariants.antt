use Rattle.std.proofs.Common.{◌≡◌, drop}
use Rattle.std.specs.List.{fold}
use Rattle.alias_facts.specs.Candidates.{after_use}
use Rattle.alias_facts.proofs.candidates.note_uses.Given as goal

abbrev pub invariant-loop-place : goal.invariant-loop-place
invariant-loop-place l = fold after_use l.candidates (drop l.place-index l.places)
    ≡ fold after_use l.initial.candidates l.places
