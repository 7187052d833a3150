use Rattle.std.proofs.Common.{◌≡◌, drop}
use Rattle.std.specs.List.{fold}
use Rattle.alias_facts.specs.Hoisted.{after_read}
use Rattle.alias_facts.proofs.hoisted.read_all.Given as goal

abbrev pub invariant-loop-place : goal.invariant-loop-place
invariant-loop-place l = fold (after_read l.env) l.hoisted (drop l.place-index l.places)
    ≡ fold (after_read l.env) l.initial.hoisted l.places
