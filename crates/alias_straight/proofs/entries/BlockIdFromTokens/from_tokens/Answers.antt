use Rattle.alias_json.specs.Reading.{number_at}
use Rattle.alias_read.specs.Entries.{block_id_at}
use Rattle.alias_straight.proofs.Elementing.{taken_as}
use Rattle.alias_straight.proofs.Entering.{block_is}
use Rattle.alias_straight.proofs.entries.BlockIdFromTokens.from_tokens.Goals as goal

pub returns : goal.returns
returns c = taken_as number_at block_id_at c.args.depth _ _ c.in_ok-number.number _ (block_is c.in_ok-number.number)
    c.in_ok-number.ensures
