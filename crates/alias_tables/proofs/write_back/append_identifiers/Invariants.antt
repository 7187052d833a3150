use Rattle.std.proofs.Common.{◌≡◌, take}
use Rattle.alias_tables.specs.write_back.WriteBack.{with_identifiers}
use Rattle.alias_tables.proofs.write_back.append_identifiers.Given as goal

-- the identifiers of the temporaries so far were added
abbrev pub invariant-loop-temporary : goal.invariant-loop-temporary
invariant-loop-temporary l = l.env ≡ with_identifiers (take l.temporary-index l.temporaries) l.initial.env
