use Rattle.std.proofs.Common.{◌≡◌, drop, length}
use Rattle.alias_flow.specs.Machine.{send_all}
use Rattle.alias_flow.proofs.check.arriving.arrive_all.Given as goal

abbrev pub invariant-loop-block : goal.invariant-loop-block
invariant-loop-block g l =
    (length l.arriving ≡ length l.initial.arriving)
    × (send_all g.S.Lattice.join l.state l.arriving (drop l.block-index l.blocks)
    ≡ send_all g.S.Lattice.join l.state l.initial.arriving l.blocks)
