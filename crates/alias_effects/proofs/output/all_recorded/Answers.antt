use Rattle.std.proofs.Common.{◌∙◌, ap, length, length-set, None}
use Rattle.alias_effects.specs.Inference.{instructions_recorded, terminal_recorded}
use Rattle.alias_effects.proofs.Moving.{recorded_left}
use Rattle.alias_effects.proofs.output.all_recorded.Goals as goal

pub loop-index-preserved : goal.loop-index-preserved
loop-index-preserved c =
    let l = c.loop-index in
    let put = c.replace-effects.ensures.list in (
      ap length put ∙ length-set l.recorded l.index None ∙ l.invariant.0,
      recorded_left instructions_recorded l.recorded _ l.index _ l.instructions.items _ c.replace-effects.ensures.before
          put c.in_ok-append_recorded.ensures.instructions ∙ l.invariant.1,
      recorded_left terminal_recorded l.recorded _ l.index _ l.terminal.items _ c.replace-effects.ensures.before put
          c.in_ok-append_recorded.ensures.terminal ∙ l.invariant.2,
    )
