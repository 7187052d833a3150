use Rattle.alias_flow.proofs.check.Marks.{reached_in, in_reached}
use Rattle.alias_flow.proofs.check.reached.reached_blocks.Goals as goal

pub returns-clause-reached : goal.returns-clause-reached
returns-clause-reached g c = λ b r. reached_in (g.met.F.Flow.laws c.args.flow.now) _ c.in_ok-marks.ensures.marks b r

pub returns-clause-only_reached : goal.returns-clause-only_reached
returns-clause-only_reached g c = λ b h.
    in_reached (g.met.F.Flow.laws c.args.flow.now) _ c.in_ok-marks.ensures.marks b h
