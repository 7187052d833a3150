use Rattle.std.proofs.Common.{◌≡◌, ◌++◌, drop}
use Rattle.std.specs.Prelude.{map}
use Rattle.alias_calls.specs.Copies.{pair_of}
use Rattle.alias_calls.proofs.copies.push_targets.Given as goal

-- the effects so far, and those of the targets that are left
abbrev pub invariant-loop-into : goal.invariant-loop-into
invariant-loop-into l = l.out ++ map (pair_of l.kind l.from) (drop l.into-index l.targets) ≡ l.initial.out
    ++ map (pair_of l.kind l.from) l.targets
