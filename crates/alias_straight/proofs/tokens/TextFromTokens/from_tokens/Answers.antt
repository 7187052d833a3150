use Rattle.alias_straight.proofs.Placing.{text_taken}
use Rattle.alias_straight.proofs.tokens.TextFromTokens.from_tokens.Goals as goal

pub returns : goal.returns
returns c = rw c.in_ok-from_str.ensures (text_taken c.args._depth c.args.reader.now c.take_text.new.reader
    c.in_ok-text.text.now c.in_ok-text.ensures)
