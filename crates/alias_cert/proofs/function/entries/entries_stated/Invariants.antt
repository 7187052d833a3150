use Rattle.std.proofs.Common.{◌≡◌, [], drop}
use Rattle.alias_cert.specs.function.Entries.{entries_stated}
use Rattle.alias_cert.proofs.function.entries.entries_stated.Given as goal

abbrev pub invariant-loop-number : goal.invariant-loop-number
invariant-loop-number l =
    entries_stated l.function l.identifiers l.created l.lines l.entries (drop l.number-index l.numbers)
    ≡ entries_stated l.function l.identifiers l.created l.lines [] l.numbers
