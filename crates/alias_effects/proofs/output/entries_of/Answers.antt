use Rattle.std.proofs.Common.{◌∙◌, ◌++◌, ap, length, length-set, None}
use Rattle.alias_effects.specs.Output.{entry_as}
use Rattle.alias_effects.proofs.Moving.{entries_left}
use Rattle.alias_effects.proofs.output.entries_of.Goals as goal

pub loop-index-preserved : goal.loop-index-preserved
loop-index-preserved c =
    let l = c.loop-index in
    let put = c.replace-state.ensures.list in (
      ap length put ∙ length-set l.states l.index None ∙ l.invariant.0,
      entries_left c.args.blocks.now l.states _ l.index _ l.entries _ l.invariant.0 c.replace-state.ensures.before put
          (c.in_ok-push_entry.ensures ∙ ap (λ b. l.entries ++ entry_as b c.replace-state.result) c.block_at.ensures)
          ∙ l.invariant.1,
    )
