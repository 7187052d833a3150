use Rattle.alias_json.specs.Reading.{number_at}
use Rattle.alias_read.specs.Terminals.{order_at}
use Rattle.alias_straight.proofs.Elementing.{taken_as}
use Rattle.alias_straight.proofs.Ending.{order_is}
use Rattle.alias_straight.proofs.terminals.EvaluationOrderFromTokens.from_tokens.Goals as goal

pub returns : goal.returns
returns c = taken_as number_at order_at c.args.depth _ _ c.in_ok-number.number _ (order_is c.in_ok-number.number)
    c.in_ok-number.ensures
