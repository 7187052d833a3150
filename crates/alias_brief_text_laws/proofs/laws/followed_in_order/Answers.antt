use Rattle.alias_brief_text_laws.proofs.Following.{unit_orderly}
use Rattle.alias_brief_text_laws.proofs.laws.followed_in_order.Goals as goal

pub returns : goal.returns
returns c = unit_orderly
