use Rattle.std.proofs.Common.{◌+◌, subst, sym, arith}
use Rattle.alias_graph.proofs.Cutting.{Leading, leading_passes, leading_flags, leading_ends}
use Rattle.alias_graph.proofs.part.flag_leading.Goals as goal
use Rattle.alias_graph.proofs.part.flag_leading.Goals.{then-found, else-found}

pub loop-slot-preserved : goal.loop-slot-preserved
loop-slot-preserved c = elim c.if-found.branch [
  | then-found w ↦ subst (λ b. Leading c.args.links.now c.args.nodes.now c.args.flags.now.items
      c.flag_where_leads.new.flags.items b (c.loop-slot.slot + 1)) (sym w.more-is)
      (leading_flags c.args.links.now c.args.nodes.now c.args.flags.now.items c.loop-slot.flags.items
      c.flag_where_leads.new.flags.items c.loop-slot.more c.loop-slot.slot c.loop-slot.invariant
      (c.in_ok-found.ensures.grow w.if-found.true) (c.in_ok-found.ensures.one w.if-found.true))
  | else-found w ↦ subst (λ b. Leading c.args.links.now c.args.nodes.now c.args.flags.now.items
      c.flag_where_leads.new.flags.items b (c.loop-slot.slot + 1)) (sym w.more-is)
      (subst (λ z. Leading c.args.links.now c.args.nodes.now c.args.flags.now.items z c.loop-slot.more
      (c.loop-slot.slot + 1)) (sym (c.in_ok-found.ensures.same w.if-found.false))
      (leading_passes c.args.links.now c.args.nodes.now c.args.flags.now.items c.loop-slot.flags.items c.loop-slot.more
      c.loop-slot.slot c.loop-slot.invariant (c.in_ok-found.ensures.out w.if-found.false)))
]

pub returns-clause-closed : goal.returns-clause-closed
returns-clause-closed c = leading_ends c.args.links.now c.args.nodes.now c.args.flags.now.items c.loop-slot.flags.items
    c.loop-slot.more c.loop-slot.slot c.loop-slot.invariant c.requires.size (omega arith)
