use Rattle.alias_key_laws.proofs.Linear.{mutation_kinds_are_linear}
use Rattle.alias_key_laws.proofs.orders.mutation_kind_order.Goals as goal

pub returns : goal.returns
returns c = mutation_kinds_are_linear
