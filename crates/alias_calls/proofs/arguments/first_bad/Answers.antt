use Rattle.std.proofs.Common.{sym, ◌∙◌}
use Rattle.alias_calls.specs.ArgumentLaws.{first_bad_more}
use Rattle.alias_calls.proofs.arguments.first_bad.Goals as goal

pub loop-place-preserved : goal.loop-place-preserved
loop-place-preserved c =
    first_bad_more c.args.env.now c.args.args.now c.args.places.now c.loop-place.place-index _ c.loop-place-test.true
    (sym c.is_bad_spread.ensures ∙ c.if-is_bad_spread.false)
    ∙ c.loop-place.invariant
