use Rattle.std.proofs.Common.{◌≡◌, drop}
use Rattle.alias_tables.specs.Steps.{each}
use Rattle.alias_call_effects.specs.Configs.{with_temporary}
use Rattle.alias_call_effects.specs.Kept.{kept, HasGrown}
use Rattle.alias_call_effects.proofs.named.push_temporaries.Given as goal

-- the names that are left lead where all of them do, and nothing has done but grown
abbrev pub invariant-loop-name : goal.invariant-loop-name
invariant-loop-name l =
    (each (with_temporary l.site) (drop l.name-index l.names) l.named (kept l.env l.temporaries)
    ≡ each (with_temporary l.site) l.names l.initial.named (kept l.initial.env l.initial.temporaries))
    × HasGrown (kept l.initial.env l.initial.temporaries) (kept l.env l.temporaries)
