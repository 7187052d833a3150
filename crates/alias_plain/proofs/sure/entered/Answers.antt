use Rattle.std.proofs.Common.{◌≡◌, ap, sym, ◌∙◌}
use Rattle.std.specs.Prelude.{Option, Some, None}
use Rattle.std.specs.Ordering.{nat_cmp}
use Rattle.std.proofs.lemmas.Cmp.{nat_cmp_total}
use Rattle.alias_base.specs.declared.ids.BlockId.{BlockId}
use Rattle.alias_flow.specs.Machine.{joined}
use Rattle.alias_plain.specs.unsure.Sets.{Rows, union}
use Rattle.alias_plain.specs.laws.UnsureFlow.{source_of, with_phis, entered_from, rows_or_none}
use Rattle.alias_lattice.specs.WalkLaws.{left_after, left-none, left-some, left_fewer, left-end}
use Rattle.alias_plain.proofs.sure.entered.Goals as goal

pub ways-init : goal.ways-init
ways-init c = ap (entered_from c.args.blocks.now c.args.phis.now None) (left-none nat_cmp c.args.state.now)

pub ways-smaller : goal.ways-smaller
ways-smaller c = left_fewer nat_cmp nat_cmp_total c.ways.after c.args.state.now c.in-Some.entry.now c.in-Some.ensures
    c.recall_proper.ensures.0

pub ways-preserved : goal.ways-preserved
ways-preserved c =
    let blocks = c.args.blocks.now in
    let phis = c.args.phis.now in
    let t = c.args.state.now in
    let e = c.in-Some.entry.now in
    let rest = left_after nat_cmp (Some e.0) t in
    let phied : c.apply_phis.new.set ≡ with_phis (source_of blocks e.0) phis e.1 = c.in_ok-apply_phis.ensures
    ∙ ap (λ (s : Option BlockId). with_phis s phis c.in_ok-set.set) c.source_of.ensures
    ∙ ap (with_phis (source_of blocks e.0) phis) c.in_ok-set.ensures in
    ap (λ (s : Rows). entered_from blocks phis (Some s) rest)
    (c.in_ok-taken_in.ensures ∙ ap (joined union c.ways.so_far) phied)
    ∙ sym (ap (entered_from blocks phis c.ways.so_far)
    (left-some nat_cmp nat_cmp_total c.ways.after t e c.in-Some.ensures c.recall_proper.ensures.0))
    ∙ c.ways.invariant

pub returns-in-Some-so_far : goal.returns-in-Some-so_far
returns-in-Some-so_far c =
    let blocks = c.args.blocks.now in
    let phis = c.args.phis.now in
    ap rows_or_none (sym c.in-Some-so_far.is
    ∙ ap (entered_from blocks phis c.ways.so_far)
    (sym (left-end nat_cmp c.ways.after c.args.state.now c.in_default.ensures))
    ∙ c.ways.invariant)

pub returns-in-None : goal.returns-in-None
returns-in-None c =
    let blocks = c.args.blocks.now in
    let phis = c.args.phis.now in
    c.empty.ensures
    ∙ ap rows_or_none (sym c.in-None.is
    ∙ ap (entered_from blocks phis c.ways.so_far)
    (sym (left-end nat_cmp c.ways.after c.args.state.now c.in_default.ensures))
    ∙ c.ways.invariant)
