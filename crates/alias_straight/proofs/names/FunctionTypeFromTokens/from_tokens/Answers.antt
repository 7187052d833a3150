use Rattle.std.proofs.Common.{sym}
use Rattle.alias_read.specs.Names.{function_type_names}
use Rattle.alias_straight.proofs.Placing.{named_taken}
use Rattle.alias_straight.proofs.names.FunctionTypeFromTokens.from_tokens.Goals as goal

pub returns-in-Some : goal.returns-in-Some
returns-in-Some c = named_taken function_type_names c.args._depth c.args.reader.now c.take_text.new.reader
    c.in_ok-name.name.now c.in-Some.kind c.in_ok-name.ensures (sym c.in-Some.ensures)
