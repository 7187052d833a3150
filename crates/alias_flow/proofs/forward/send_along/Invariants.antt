use Rattle.std.proofs.Common.{◌≡◌, length, drop}
use Rattle.alias_flow.specs.Machine.{send_all}
use Rattle.alias_flow.proofs.forward.send_along.Given as goal

abbrev pub invariant-loop-to : goal.invariant-loop-to
invariant-loop-to g l =
    (length l.waiting ≡ length l.initial.waiting)
    × (send_all g.S.Lattice.join l.state l.waiting (drop l.to-index l.before)
    ≡ send_all g.S.Lattice.join l.state l.initial.waiting l.before)
