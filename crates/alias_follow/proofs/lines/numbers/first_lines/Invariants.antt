use Rattle.std.proofs.Common.{◌≡◌, take}
use Rattle.alias_follow.specs.lines.First.{first_lines}
use Rattle.alias_follow.proofs.lines.numbers.first_lines.Given as goal

-- the lines so far are noted
abbrev pub invariant-loop-number : goal.invariant-loop-number
invariant-loop-number l = l.numbers.items ≡ first_lines (take l.number l.lines) l.names
