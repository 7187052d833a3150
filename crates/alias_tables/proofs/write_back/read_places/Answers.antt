use Rattle.std.proofs.Common.{arith, ap, ◌∙◌, slice_set}
use Rattle.alias_tables.specs.write_back.WriteBack.{read_place}
use Rattle.alias_tables.specs.write_back.WriteBackLaws.{item_step}
use Rattle.alias_tables.proofs.write_back.read_places.Goals as goal

pub loop-place-preserved : goal.loop-place-preserved
loop-place-preserved c =
    ap (λ z. slice_set c.loop-place.places c.loop-place.place-index z) c.read_place.ensures
    ∙ item_step (read_place c.args.identifier) c.args.places.now c.loop-place.places c.loop-place.place-index _
    (omega arith) (omega arith) c.loop-place.invariant
