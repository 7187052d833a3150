use Rattle.std.proofs.Common.{◌≡◌, false, drop}
use Rattle.alias_flow.specs.check.Reached.{marked_all}
use Rattle.alias_flow.proofs.check.reached.mark_all.Given as goal

abbrev pub invariant-loop-block : goal.invariant-loop-block
invariant-loop-block l =
    (marked_all l.marks (drop l.block-index l.blocks) ≡ marked_all l.initial.marks l.blocks)
    × (l.grew ≡ false → l.marks ≡ l.initial.marks)
