use Rattle.std.proofs.Common.{◌≡◌, drop}
use Rattle.std.specs.List.{list_all}
use Rattle.alias_plain.specs.laws.Scans.{sure_in}
use Rattle.alias_plain.proofs.conditions.all_are_sure.Given as goal

-- what is left decides
abbrev pub invariant-loop-number : goal.invariant-loop-number
invariant-loop-number l = list_all (sure_in l.unsure) (drop l.number-index l.numbers)
    ≡ list_all (sure_in l.unsure) l.numbers
