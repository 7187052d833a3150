use Rattle.std.proofs.Common.{◌≡◌, ◌-◌, false, length}
use Rattle.alias_flow.specs.Machine.{up}
use Rattle.alias_flow.specs.check.Reached.{marked_round}
use Rattle.alias_flow.proofs.check.reached.mark_round.Given as goal

abbrev pub invariant-loop-block : goal.invariant-loop-block
invariant-loop-block g l =
    let rules = g.F.Flow.rules l.flow in
    (l.count ≡ rules.blocks)
    × (length l.marks ≡ rules.blocks)
    × (marked_round rules.flow.edges l.marks (up l.block (l.count - l.block))
    ≡ marked_round rules.flow.edges l.initial.marks (up 0 l.count))
    × (l.grew ≡ false → l.marks ≡ l.initial.marks)
