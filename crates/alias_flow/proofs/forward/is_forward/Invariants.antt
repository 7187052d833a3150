use Rattle.std.proofs.Common.{◌≡◌, ◌-◌, nat_lt}
use Rattle.std.specs.List.{list_all}
use Rattle.alias_flow.specs.Machine.{up}
use Rattle.alias_flow.specs.Solutions.{goes_forward}
use Rattle.alias_flow.proofs.forward.is_forward.Given as goal

abbrev pub invariant-loop-block : goal.invariant-loop-block
invariant-loop-block g l = goes_forward (g.F.Flow.rules l.flow)
    ≡ list_all (λ b. list_all (λ e. nat_lt b e) ((g.F.Flow.rules l.flow).flow.edges b)) (up l.block (l.count - l.block))
