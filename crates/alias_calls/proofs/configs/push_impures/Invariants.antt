use Rattle.std.proofs.Common.{◌≡◌, drop}
use Rattle.alias_tables.specs.GrowingLaws.{Grows}
use Rattle.alias_tables.specs.Steps.{each}
use Rattle.alias_calls.specs.Configs.{impure_step}
use Rattle.alias_calls.proofs.configs.push_impures.Given as goal

-- the places that are left lead where all of them do, and reports have only come
abbrev pub invariant-loop-place : goal.invariant-loop-place
invariant-loop-place l =
    (each impure_step (drop l.place-index l.places) l.out l.tables
    ≡ each impure_step l.places l.initial.out l.initial.tables)
    × Grows l.initial.tables.reports l.tables.reports
