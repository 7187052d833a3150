use Rattle.std.proofs.Common.{ap}
use Rattle.alias_straight.specs.Members.{from_key}
use Rattle.alias_straight.proofs.Ending.{branch_taken}
use Rattle.alias_straight.proofs.terminals.take_branch.Goals as goal

pub returns : goal.returns
returns c =
    rw c.branch_with.ensures (branch_taken c.args.kind c.args.id c.args.depth _ _ _ _ _ c.in_ok-test.test
    c.in_ok-consequent.consequent c.in_ok-alternate.alternate c.in_ok-test.ensures c.in_ok-consequent.ensures
    c.in_ok-alternate.ensures
    (ap (λ k. from_key k c.take_member-3.new.reader) c.in_ok-close_object.ensures))
