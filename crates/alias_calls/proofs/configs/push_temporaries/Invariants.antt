use Rattle.std.proofs.Common.{◌≡◌, drop}
use Rattle.alias_tables.specs.Steps.{each}
use Rattle.alias_calls.specs.Configs.{with_temporary}
use Rattle.alias_calls.proofs.configs.push_temporaries.Given as goal

-- the names that are left lead where all of them do
abbrev pub invariant-loop-name : goal.invariant-loop-name
invariant-loop-name l = each (with_temporary l.env l.site) (drop l.name-index l.names) l.places l.tables
    ≡ each (with_temporary l.env l.site) l.names l.initial.places l.initial.tables
