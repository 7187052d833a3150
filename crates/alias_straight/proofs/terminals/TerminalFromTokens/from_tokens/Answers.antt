use Rattle.std.specs.Prelude.{codes}
use Rattle.std.proofs.Common.{[], arith}
use Rattle.alias_json.specs.Names.{named_at}
use Rattle.alias_read.specs.TerminalKinds.{terminal_names}
use Rattle.alias_read.specs.Terminals.{order_at}
use Rattle.alias_straight.proofs.Fielding.{opened, goes}
use Rattle.alias_straight.proofs.terminals.TerminalFromTokens.from_tokens.Goals as goal

pub returns : goal.returns
returns c =
    let f = goes (named_at terminal_names) c.args.depth c.args.reader.now _ _ [] (codes "kind") c.in_ok-kind.kind
    (opened c.args.depth c.args.reader.now _ (omega arith) c.in_ok-next.ensures) c.in_ok-kind.ensures in
    let g = goes order_at c.args.depth c.args.reader.now _ _ _ (codes "id") c.in_ok-id.id f.opens c.in_ok-id.ensures in
    c.in_ok-terminal.ensures.takes c.args.reader.now f.tree g.tree f.is g.is g.opens
