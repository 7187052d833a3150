use Rattle.std.proofs.Common.{ap, arith}
use Rattle.alias_straight.specs.Members.{from_key}
use Rattle.alias_straight.proofs.Ending.{case_taken}
use Rattle.alias_straight.proofs.terminals.SwitchCaseFromTokens.from_tokens.Goals as goal

pub returns : goal.returns
returns c =
    rw c.unwrap_or.ensures (case_taken c.args.depth c.args.reader.now _ _ _ _ c.in_ok-test.test c.in_ok-block.block
    (omega arith) c.in_ok-next.ensures c.in_ok-test.ensures c.in_ok-block.ensures
    (ap (λ k. from_key k c.take_member.new.reader) c.in_ok-close_object.ensures))
