use Rattle.std.proofs.Common.{◌≡◌, ◌++◌, drop}
use Rattle.alias_tables.specs.Keys.{ids_of}
use Rattle.alias_tables.proofs.key.captures_of.Given as goal

-- the identifiers so far, and those of the places that are left
abbrev pub invariant-loop-place : goal.invariant-loop-place
invariant-loop-place l = l.ids ++ ids_of (drop l.place-index l.places) ≡ ids_of l.places
