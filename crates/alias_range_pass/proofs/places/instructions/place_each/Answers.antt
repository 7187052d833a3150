use Rattle.std.proofs.Common.{arith, ap, ◌∙◌, slice_set}
use Rattle.alias_hir.specs.declared.place.Effect.TheVariants.{Read}
use Rattle.alias_range_pass.specs.places.Tables.{with_table}
use Rattle.alias_range_pass.proofs.places.Mapping.{item_step}
use Rattle.alias_range_pass.proofs.places.instructions.place_each.Goals as goal

pub loop-place-preserved : goal.loop-place-preserved
loop-place-preserved c =
    ap (λ z. slice_set c.loop-place.places c.loop-place.place-index z) (c.set_place.ensures)
    ∙ item_step (with_table c.args.table.now Read) c.args.places.now c.loop-place.places c.loop-place.place-index _
    (omega arith) (omega arith) c.loop-place.invariant
