use Rattle.alias_key_laws.proofs.Linear.{sites_are_linear}
use Rattle.alias_key_laws.proofs.orders.site_order.Goals as goal

pub returns : goal.returns
returns c = sites_are_linear
