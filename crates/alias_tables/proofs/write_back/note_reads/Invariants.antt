use Rattle.std.proofs.Common.{◌≡◌, drop}
use Rattle.alias_tables.specs.write_back.WriteBack.{with_reads}
use Rattle.alias_tables.proofs.write_back.note_reads.Given as goal

-- what is left to note makes of the functions what all of it would
abbrev pub invariant-loop-read : goal.invariant-loop-read
invariant-loop-read l = with_reads (drop l.read-index l.reads) l.functions ≡ with_reads l.reads l.initial.functions
