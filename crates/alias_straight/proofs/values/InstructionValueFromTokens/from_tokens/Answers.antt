use Rattle.std.specs.Prelude.{codes}
use Rattle.std.proofs.Common.{[], arith}
use Rattle.alias_json.specs.Names.{named_at}
use Rattle.alias_read.specs.ValueKinds.{instruction_value_names}
use Rattle.alias_straight.proofs.Fielding.{opened, goes}
use Rattle.alias_straight.proofs.values.InstructionValueFromTokens.from_tokens.Goals as goal

pub returns : goal.returns
returns c =
    let f = goes (named_at instruction_value_names) c.args.depth c.args.reader.now _ _ [] (codes "kind")
    c.in_ok-kind.kind (opened c.args.depth c.args.reader.now _ (omega arith) c.in_ok-next.ensures)
    c.in_ok-kind.ensures in
    c.in_ok-value.ensures.takes c.args.reader.now f.tree f.is f.opens
