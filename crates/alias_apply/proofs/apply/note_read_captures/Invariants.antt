use Rattle.std.proofs.Common.{◌≡◌, drop}
use Rattle.alias_tables.specs.Steps.{each}
use Rattle.alias_apply.specs.Apply.{note_read_capture}
use Rattle.alias_apply.proofs.apply.note_read_captures.Given as goal

-- the places that are left go where all of them do
abbrev pub invariant-loop-place : goal.invariant-loop-place
invariant-loop-place l = each (note_read_capture l.function) (drop l.place-index l.places) l.step l.tables
    ≡ each (note_read_capture l.function) l.places l.step l.initial.tables
