use Rattle.alias_certified_laws.proofs.checked.InOrder.{answer_in_order}
use Rattle.alias_certified_laws.proofs.checked.order_law.Goals as goal

pub returns : goal.returns
returns c = answer_in_order
