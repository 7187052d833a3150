use Rattle.std.proofs.Common.{arith, ap, ◌∙◌, slice_set}
use Rattle.alias_range_pass.specs.places.Blocks.{phi_placed}
use Rattle.alias_range_pass.proofs.places.Mapping.{item_step}
use Rattle.alias_range_pass.proofs.places.blocks.place_phis.Goals as goal

pub loop-phi-preserved : goal.loop-phi-preserved
loop-phi-preserved c =
    ap (λ z. slice_set c.loop-phi.phis c.loop-phi.phi-index z) (c.place_phi.ensures)
    ∙ item_step (phi_placed c.args.identifiers.now c.args.first) c.args.phis.now c.loop-phi.phis c.loop-phi.phi-index _
    (omega arith) (omega arith) c.loop-phi.invariant
