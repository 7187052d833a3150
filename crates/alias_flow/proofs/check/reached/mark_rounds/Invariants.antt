use Rattle.std.proofs.Common.{◌≡◌, ◌-◌, length}
use Rattle.alias_flow.specs.check.Reached.{marked_rounds}
use Rattle.alias_flow.proofs.check.reached.mark_rounds.Given as goal

abbrev pub invariant-rounds : goal.invariant-rounds
invariant-rounds g l =
    let rules = g.F.Flow.rules l.flow in
    (l.count ≡ rules.blocks)
    × (length l.marks ≡ rules.blocks)
    × (marked_rounds rules.flow.edges l.count (l.count - l.counter) l.marks
    ≡ marked_rounds rules.flow.edges l.count l.count l.initial.marks)
