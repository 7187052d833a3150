use Rattle.std.proofs.Common.{[], ◌∷◌, length, length-append, ap, sym, ◌∙◌, subst, arith}
use Rattle.alias_graph.specs.declared.seen_table.SeenRow.{SeenRow}
use Rattle.alias_graph.specs.SeenRows.{AllRowsBefore}
use Rattle.alias_graph.proofs.Rows.{before_push}
use Rattle.alias_graph.proofs.seen_table.add_rows.Goals as goal

pub returns-in_err-push-clause-before : goal.returns-in_err-push-clause-before
returns-in_err-push-clause-before c = λ walk some h.
    subst (AllRowsBefore walk) (sym c.in_err-push.ensures.items) (c.loop.invariant.1 walk some h)

pub loop-preserved : goal.loop-preserved
loop-preserved c =
    let row : SeenRow = record { walk = 0; seen = c.nothing.result } in
    let items = c.in_ok-push.ensures.items in
    let more = ap length items ∙ length-append c.loop.rows.items (row ∷ []) in
    let counted = c.loop.invariant.0 in (
      omega arith,
      λ walk some h. subst (AllRowsBefore walk) (sym items)
          (before_push walk c.loop.rows.items row some (c.loop.invariant.1 walk some h)),
    )
