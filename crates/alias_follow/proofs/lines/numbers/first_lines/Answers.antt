use Rattle.std.specs.Prelude.{replicate}
use Rattle.std.proofs.Common.{None, ap, sym, ◌∙◌}
use Rattle.alias_follow.proofs.lines.First.{nothing_noted, noted_next}
use Rattle.alias_follow.proofs.lines.numbers.first_lines.Goals as goal

pub loop-number-init : goal.loop-number-init
loop-number-init c = c.in_ok-numbers.ensures.items ∙ ap (λ n. replicate n None) c.requires
    ∙ sym (nothing_noted c.args.names.now)

pub loop-number-preserved : goal.loop-number-preserved
loop-number-preserved c = noted_next c.args.lines.now c.loop-number.number c.index-lines-number.result c.args.names.now
    c.loop-number.numbers.items c.note_line.new.numbers.items c.loop-number-test.true c.index-lines-number.is
    c.len-count.ensures.distinct c.loop-number.invariant c.note_line.ensures
