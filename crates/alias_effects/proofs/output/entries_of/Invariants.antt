use Rattle.std.proofs.Common.{◌≡◌, ◌++◌, length, drop}
use Rattle.alias_effects.specs.Inference.{entries_of}
use Rattle.alias_effects.proofs.output.entries_of.Given as goal

-- the entries so far, and those of the states that are left, are all entries
abbrev pub invariant-loop-index : goal.invariant-loop-index
invariant-loop-index l =
    (length l.states ≡ length l.blocks)
    × (l.entries ++ entries_of (drop l.index l.blocks) (drop l.index l.states) ≡ entries_of l.blocks l.initial.states)
