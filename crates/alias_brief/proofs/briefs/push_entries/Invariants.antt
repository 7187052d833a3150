use Rattle.std.proofs.Common.{◌≡◌, ◌++◌, drop}
use Rattle.alias_brief.specs.Briefs.{blocks_from}
use Rattle.alias_brief.specs.Fitting.{FittingFrom}
use Rattle.alias_brief.proofs.briefs.push_entries.Given as goal

-- the blocks that are left complete the text, and all fit where they do
abbrev pub invariant-loop-position : goal.invariant-loop-position
invariant-loop-position l =
    (l.out ++ blocks_from l.func l.beyond l.position (drop l.position l.entries)
    ≡ l.initial.out ++ blocks_from l.func l.beyond 0 l.entries)
    × (FittingFrom l.func l.beyond l.position (drop l.position l.entries) → FittingFrom l.func l.beyond 0 l.entries)
