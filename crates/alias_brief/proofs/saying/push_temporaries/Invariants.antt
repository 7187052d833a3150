use Rattle.std.proofs.Common.{◌≡◌, ◌++◌, map, take}
use Rattle.alias_brief.specs.Saying.{said_temporary}
use Rattle.alias_brief.proofs.saying.push_temporaries.Given as goal

abbrev pub invariant-loop-temporary : goal.invariant-loop-temporary
invariant-loop-temporary l = l.out ≡ l.initial.out ++ map said_temporary (take l.temporary-index l.temporaries)
