use Rattle.std.proofs.Common.{rules, ◌+◌, ◌-◌, ap, sym, ◌∙◌}
use Rattle.alias_flow.specs.check.Reached.{marked_rounds}
use Rattle.alias_flow.proofs.check.Marks.{rounds_next, rounds_stay}
use Rattle.alias_flow.proofs.check.reached.mark_rounds.Goals as goal

pub returns-then-not-branch : goal.returns-then-not-branch
returns-then-not-branch g c =
    let edges = (g.F.Flow.rules c.args.flow.now).flow.edges in
    let same = c.in_ok-mark_round.ensures.same c.if-not-branch.true in
    same ∙ sym (rounds_stay edges c.args.count (c.args.count - c.rounds.counter) c.rounds.marks
    (sym c.in_ok-mark_round.ensures.marks ∙ same)) ∙ c.rounds.invariant.2

pub rounds-preserved : goal.rounds-preserved
rounds-preserved g c =
    let edges = (g.F.Flow.rules c.args.flow.now).flow.edges in (
      c.rounds.invariant.0,
      search rules,
      ap (marked_rounds edges c.args.count (c.args.count - (c.rounds.counter + 1))) c.in_ok-mark_round.ensures.marks
          ∙ sym (rounds_next edges c.args.count c.rounds.counter c.rounds.marks c.rounds-test.true)
          ∙ c.rounds.invariant.2,
    )
