use Rattle.std.proofs.Common.{ap}
use Rattle.alias_straight.specs.Members.{from_key}
use Rattle.alias_straight.proofs.Ending.{switch_taken}
use Rattle.alias_straight.proofs.terminals.take_switch.Goals as goal

pub returns : goal.returns
returns c =
    (switch_taken c.args.id c.args.depth _ _ _ _ c.in_ok-test.test c.in_ok-cases.cases c.in_ok-test.ensures
    c.in_ok-cases.ensures
    (ap (λ k. from_key k c.take_list.new.reader) c.in_ok-close_object.ensures))
