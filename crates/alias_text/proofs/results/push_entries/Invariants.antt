use Rattle.std.proofs.Common.{◌≡◌, ◌++◌, take}
use Rattle.std.specs.List.{AllByRecursion}
use Rattle.alias_text.specs.Results.{blocks_text}
use Rattle.alias_text.specs.Fitting.{FittingEntry, IfCertify}
use Rattle.alias_text.proofs.results.push_entries.Given as goal

-- the blocks so far were appended
abbrev pub invariant-loop-entry : goal.invariant-loop-entry
invariant-loop-entry l = (l.out ≡ l.initial.out ++ blocks_text l.detail l.func (take l.entry-index l.entries))
    × IfCertify l.detail (AllByRecursion (FittingEntry l.func) (take l.entry-index l.entries))
