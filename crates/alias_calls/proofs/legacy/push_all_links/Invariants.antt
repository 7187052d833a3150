use Rattle.std.proofs.Common.{◌≡◌, ◌++◌, drop}
use Rattle.alias_calls.specs.Legacy.{all_links}
use Rattle.alias_calls.proofs.legacy.push_all_links.Given as goal

-- the links so far, and those of the captured places that are left
abbrev pub invariant-loop-from : goal.invariant-loop-from
invariant-loop-from l = l.out ++ all_links l.into l.stored (drop l.from-index l.captured) ≡ l.initial.out
    ++ all_links l.into l.stored l.captured
