use Rattle.alias_forward_laws.proofs.Accepting.{forward_texts}
use Rattle.alias_forward_laws.proofs.laws.forward_texts_law.Goals as goal

pub returns : goal.returns
returns c = forward_texts
