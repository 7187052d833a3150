use Rattle.std.proofs.Common.{ap, sym, ◌∙◌, ◌+◌, ◌-◌}
use Rattle.std.specs.List.{range_with_len}
use Rattle.alias_plain.specs.laws.UnsureFlow.{with_members}
use Rattle.alias_plain.proofs.Moving.{range_next}
use Rattle.alias_plain.proofs.sure.all_below.Goals as goal

pub loop-number-preserved : goal.loop-number-preserved
loop-number-preserved c =
    let l = c.loop-number in
    ap (with_members (range_with_len (l.number + 1) (c.args.count - (l.number + 1)))) c.in_ok-insert.ensures.ok
    ∙ sym (ap (λ xs. with_members xs l.set) (range_next l.number c.args.count c.loop-number-test.true))
    ∙ l.invariant
