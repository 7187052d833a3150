use Rattle.std.proofs.Common.{◌∙◌, ap, sym, Some, None, append-nil}
use Rattle.alias_hir.proofs.PositionLemmas.{positions_left}
use Rattle.alias_hir.proofs.positions.positions_of.Goals as goal
use Rattle.alias_hir.proofs.positions.positions_of.Goals.{in-Some+in_ok-push, in_default}

pub loop-name-preserved : goal.loop-name-preserved
loop-name-preserved c =
    let l = c.loop-name in
    let now = c.match-position.positions.items in
    elim c.match-position.branch [
      | in-Some+in_ok-push w ↦
          positions_left c.args.blocks.now c.args.names.now l.name-index _ (Some w.in-Some.position) l.positions.items
          now c.loop-name-test.true (sym w.in-Some.is ∙ c.position.ensures)
          (ap (λ p. p.items) w.positions-is ∙ w.in_ok-push.ensures.ok) ∙ l.invariant
      | in_default w ↦
          positions_left c.args.blocks.now c.args.names.now l.name-index _ None l.positions.items now
          c.loop-name-test.true (sym w.in_default.is ∙ c.position.ensures)
          (ap (λ p. p.items) w.positions-is ∙ sym (append-nil l.positions.items)) ∙ l.invariant
    ]
