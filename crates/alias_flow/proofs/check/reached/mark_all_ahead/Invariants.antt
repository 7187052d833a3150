use Rattle.std.proofs.Common.{◌≡◌, ◌-◌, nat_lt, length}
use Rattle.std.specs.List.{list_all}
use Rattle.alias_flow.specs.Machine.{up}
use Rattle.alias_flow.specs.Solutions.{goes_forward}
use Rattle.alias_flow.specs.check.Reached.{marked_round}
use Rattle.alias_flow.proofs.check.reached.mark_all_ahead.Given as goal

abbrev pub invariant-loop-block : goal.invariant-loop-block
invariant-loop-block g l =
    let rules = g.F.Flow.rules l.flow in
    (l.count ≡ rules.blocks)
    × (length l.marks ≡ rules.blocks)
    × (goes_forward rules ≡ list_all (λ b. list_all (λ e. nat_lt b e) (rules.flow.edges b))
    (up l.block (l.count - l.block)))
    × (marked_round rules.flow.edges l.marks (up l.block (l.count - l.block))
    ≡ marked_round rules.flow.edges l.initial.marks (up 0 l.count))
