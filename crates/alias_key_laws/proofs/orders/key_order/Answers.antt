use Rattle.alias_key_laws.proofs.Linear.{keys_are_linear}
use Rattle.alias_key_laws.proofs.orders.key_order.Goals as goal

pub returns : goal.returns
returns c = keys_are_linear
