use Rattle.std.proofs.Common.{◌≡◌, ◌+◌, ◌-◌, ◌++◌, ◌∷◌, [], length, take, refl, ap, sym, ◌∙◌, subst, arith, suc}
use Rattle.std.proofs.Common.{append-nil}
use Rattle.alias_graph.specs.declared.types.Entry.{Entry}
use Rattle.alias_graph.specs.Waiting.{led_entries, AllOld}
use Rattle.alias_graph.proofs.Waiting.{one_off, none_off, take_min}
use Rattle.alias_graph.proofs.search.search_slots.Goals as goal

pub scan-init : goal.scan-init
scan-init g c =
    let p = c.args.pending in (
      [],
      append-nil _ ∙ ap (led_entries p.list c.args.index p.transitive p.kind c.args.links.now)
          (take_min _ p.left c.args.slots.now (omega arith)),
      tt,
      omega arith,
      omega arith,
    )

pub returns-in-Some : goal.returns-in-Some
returns-in-Some g c =
    let p = c.args.pending in
    let j = c.scan.left - 1 in
    let one : c.scan.left ≡ suc j = omega (arith, c.scan-test.true) in (
      c.scan.invariant.0,
      sym c.scan.invariant.1
          ∙ one_off p.list c.args.index p.transitive p.kind c.args.links.now c.args.slots.now c.scan.left j one
          c.scan.invariant.4 c.if-link-index.true c.scan.invariant.0
          ∙ ap (λ (e : Entry). led_entries p.list c.args.index p.transitive p.kind c.args.links.now
          (take j c.args.slots.now) ++ e ∷ c.scan.invariant.0) (sym c.entry_of-entry.ensures),
      c.scan.invariant.2,
      c.scan.invariant.3,
      sym c.in-Some.ensures,
    )

pub scan-preserved-then-link-index : goal.scan-preserved-then-link-index
scan-preserved-then-link-index g c =
    let p = c.args.pending in
    let j = c.scan.left - 1 in
    let one : c.scan.left ≡ suc j = omega (arith, c.scan-test.true) in (
      c.entry_of-entry.result ∷ c.scan.invariant.0,
      ap (λ (e : Entry). led_entries p.list c.args.index p.transitive p.kind c.args.links.now (take j c.args.slots.now)
          ++ e ∷ c.scan.invariant.0) c.entry_of-entry.ensures
          ∙ sym (one_off p.list c.args.index p.transitive p.kind c.args.links.now c.args.slots.now c.scan.left j one
          c.scan.invariant.4 c.if-link-index.true c.scan.invariant.0)
          ∙ c.scan.invariant.1,
      (sym c.in_default.ensures, c.scan.invariant.2),
      omega (arith, c.tick.ensures, c.scan.invariant.3),
      omega (arith, c.scan.invariant.4),
    )

pub scan-preserved : goal.scan-preserved
scan-preserved g c =
    let p = c.args.pending in
    let j = c.scan.left - 1 in
    let one : c.scan.left ≡ suc j = omega (arith, c.scan-test.true) in (
      c.scan.invariant.0,
      sym (none_off p.list c.args.index p.transitive p.kind c.args.links.now c.args.slots.now c.scan.left j one
          c.scan.invariant.4 c.if-link-index.false c.scan.invariant.0)
          ∙ c.scan.invariant.1,
      c.scan.invariant.2,
      c.scan.invariant.3,
      omega (arith, c.scan.invariant.4),
    )

pub returns : goal.returns
returns g c =
    let p = c.args.pending in
    let none : c.scan.left ≡ 0 = omega (arith, c.scan-test.false) in
    let all = sym (ap (λ n. led_entries p.list c.args.index p.transitive p.kind c.args.links.now
    (take n c.args.slots.now) ++ c.scan.invariant.0) none) ∙ c.scan.invariant.1 in (
      refl,
      subst (AllOld c.args.nodes.now c.args.seen.now) all c.scan.invariant.2,
      c.scan.invariant.3 ∙ ap (λ z. c.args.steps.now + length z) all,
    )
