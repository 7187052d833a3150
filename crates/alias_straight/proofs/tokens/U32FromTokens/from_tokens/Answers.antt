use Rattle.std.proofs.Common.{arith}
use Rattle.alias_straight.proofs.Placing.{number_taken}
use Rattle.alias_straight.proofs.tokens.U32FromTokens.from_tokens.Goals as goal

pub returns : goal.returns
returns c = number_taken c.args._depth c.args.reader.now c.take_number.new.reader c.in_ok-whole.whole
    c.in_ok-whole.ensures (omega arith)
