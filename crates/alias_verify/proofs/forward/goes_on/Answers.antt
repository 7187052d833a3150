use Rattle.alias_verify.proofs.Edges.{block_goes_on}
use Rattle.alias_verify.proofs.forward.goes_on.Goals as goal

pub returns-in-Some : goal.returns-in-Some
returns-in-Some c =
    block_goes_on c.args.blocks.now c.args.at c.in-Some.field-0-0.now c.in-Some.block.now c.terminal_goes_on.result
    c.in-Some.ensures c.terminal_goes_on.ensures
