use Rattle.std.proofs.Common.{◌==◌, ap, sym, ◌∙◌}
use Rattle.std.specs.List.{list_any}
use Rattle.alias_base.specs.declared.ids.InstructionId.{InstructionId}
use Rattle.alias_lint.proofs.lines.Finding.{found_here, found_later}
use Rattle.alias_lint.proofs.lines.block_table.search_blocks.Goals as goal

pub returns-then-lists : goal.returns-then-lists
returns-then-lists c =
    sym (found_here c.args.id c.args.func.now.body.entry _ _ (c.in-Some.block.now, c.in-Some.body.now)
    c.in-Some.ensures.steps (ap (λ ids. list_any (λ (j : InstructionId). j.0 == c.args.id.0) ids)
    (sym c.as_slice.ensures) ∙ sym c.if-lists.ensures)) ∙ c.loop-block.invariant

pub loop-block-preserved : goal.loop-block-preserved
loop-block-preserved c =
    sym (found_later c.args.id c.args.func.now.body.entry _ _ (c.in-Some.block.now, c.in-Some.body.now)
    c.in-Some.ensures.steps (ap (λ ids. list_any (λ (j : InstructionId). j.0 == c.args.id.0) ids)
    (sym c.as_slice.ensures) ∙ sym c.if-lists.ensures)) ∙ c.loop-block.invariant
