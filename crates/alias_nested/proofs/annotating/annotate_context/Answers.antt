use Rattle.std.proofs.Common.{◌<◌, length, get_or, arith}
use Rattle.std.proofs.lemmas.List.Edits.{map_over_more}
use Rattle.std.proofs.lemmas.List.{get_or_default}
use Rattle.std.specs.Prelude.{false, None}
use Rattle.alias_hir.specs.declared.place.Place.{Place}
use Rattle.alias_nested.specs.Annotating.{context_annotated}
use Rattle.alias_nested.proofs.annotating.annotate_context.Goals as goal

pub loop-place-preserved : goal.loop-place-preserved
loop-place-preserved c =
    let xs = c.args.context.now in
    let i = c.loop-place.place-index in
    let first : Place = record {
      identifier = record { 0 = 0 };
      effect = Rattle.alias_hir.specs.declared.place.Effect.TheVariants.Unknown;
      reactive = false;
      span = None;
    } in
    let x : Place = get_or c.loop-place.context i first in
    let within : i < length c.loop-place.context = omega arith in
    let set = map_over_more (context_annotated c.args.summary.now) xs c.loop-place.context i x c.loop-place-test.true
    c.loop-place.invariant (get_or_default c.loop-place.context i first x within) in
    rw c.context_annotated.ensures set
