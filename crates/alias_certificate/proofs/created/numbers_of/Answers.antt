use Rattle.std.proofs.Common.{◌∙◌}
use Rattle.alias_certificate.proofs.created.Noting.{from_index, has_next}
use Rattle.alias_certificate.proofs.created.numbers_of.Goals as goal

pub loop-id-preserved : goal.loop-id-preserved
loop-id-preserved c = λ f. c.loop-id.invariant f
    ∙ has_next _ _ _ _ _ f (from_index _ _ c.loop-id-test.true) c.in_ok-insert.ensures.updates
