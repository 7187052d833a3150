use Rattle.std.proofs.Common.{◌≡◌, ◌++◌, drop, take, map}
use Rattle.alias_hir.specs.declared.place.Effect.TheVariants.{Read}
use Rattle.alias_range_pass.specs.places.Tables.{with_table}
use Rattle.alias_range_pass.proofs.places.instructions.place_each.Given as goal

abbrev pub invariant-loop-place : goal.invariant-loop-place
invariant-loop-place l = l.places ≡ map (with_table l.table Read) (take l.place-index l.initial.places)
    ++ drop l.place-index l.initial.places
