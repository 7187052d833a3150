use Rattle.std.proofs.Common.{◌≡◌, ◌++◌, take}
use Rattle.std.specs.List.{AllByRecursion, flat_map}
use Rattle.alias_text.specs.Certificates.{temporary_line}
use Rattle.alias_text.specs.Fitting.{SmallTemporary}
use Rattle.alias_text.proofs.certificates.push_temporaries.Given as goal

abbrev pub invariant-loop-temporary : goal.invariant-loop-temporary
invariant-loop-temporary l = (l.out ≡ l.initial.out ++ flat_map temporary_line (take l.temporary-index l.temporaries))
    × AllByRecursion SmallTemporary (take l.temporary-index l.temporaries)
