-- What is told a person of a status.
use Rattle.std.specs.Prelude.{ℕ, List, [], codes}
use Rattle.alias_run.specs.declared.status.Status.{Status}
use Rattle.alias_run.specs.declared.status.Status.TheVariants.{Done, Words, NotJson, NotUnit, Unfit, BadLine, Rejected}
use Rattle.alias_run.specs.declared.status.Status.TheVariants.{Differs, PlainRefused, Refused, NotHere, ReadFault}
use Rattle.alias_run.specs.declared.status.Status.TheVariants.{WriteFault, TooLong, Memory}

-- what is wrong, and what to look at
abbrev pub explanation : Status → List ℕ
explanation Done = []
explanation Words = codes "the words are no command: see jirrambeo --help"
explanation NotJson = codes "the input is no JSON, or nests deeper than 127 levels: see docs/FORMAT.md, The input"
explanation (NotUnit pointer rule) = codes
    "the input is JSON, and the value at this JSON Pointer doesn't fit a unit: see docs/FORMAT.md, The input"
explanation (Unfit fault) = codes
    "the unit breaks the rule of this number: see docs/FORMAT.md, The rules of a well-formed unit"
explanation (BadLine number) = codes
    "the line of this number of the certificate isn't in the grammar: see docs/FORMAT.md, Certificates"
explanation (Rejected fault) = codes "the certificate isn't one of the unit: see docs/FORMAT.md, Certificates"
explanation (Differs number line) = codes
    "the line of this number of the certificate isn't the one that follows: see docs/FORMAT.md, Brief certificates"
explanation (PlainRefused fault) = codes "it isn't known whether the unit is plain: see docs/FORMAT.md, Statuses"
explanation NotHere = codes
    "the identifier doesn't stand in that function, or is of its context: see docs/FORMAT.md, Statuses"
explanation (Refused error) = codes "the unit can't be inferred: see docs/FORMAT.md, Statuses"
explanation ReadFault = codes "the input couldn't be read to its end: see where it comes from"
explanation WriteFault = codes "the output couldn't be written to its end: see where it goes to"
explanation TooLong = codes "the input has more than 16,777,216 bytes"
explanation Memory = codes "memory ran out"
