use Rattle.std.proofs.Common.{◌≡◌, ◌++◌, drop}
use Rattle.std.specs.List.{flat_map, enumerate_from}
use Rattle.alias_text.specs.Ranges.{numbered_text, ranges_text}
use Rattle.alias_text.proofs.ranges.push_ranges.Given as goal

-- the ranges that are left complete the text
abbrev pub invariant-loop-index : goal.invariant-loop-index
invariant-loop-index l = l.out ++ flat_map numbered_text (enumerate_from l.index (drop l.index l.identifiers))
    ≡ l.initial.out ++ ranges_text l.identifiers
