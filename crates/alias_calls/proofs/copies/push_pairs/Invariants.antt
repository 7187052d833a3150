use Rattle.std.proofs.Common.{◌≡◌, ◌++◌, drop}
use Rattle.alias_calls.specs.Copies.{pairs}
use Rattle.alias_calls.proofs.copies.push_pairs.Given as goal

-- the effects so far, and those of the sources that are left
abbrev pub invariant-loop-from : goal.invariant-loop-from
invariant-loop-from l = l.out ++ pairs l.kind (drop l.from-index l.sources) l.targets ≡ l.initial.out
    ++ pairs l.kind l.sources l.targets
