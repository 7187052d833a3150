use Rattle.alias_forward_laws.proofs.Accepting.{inferred_texts}
use Rattle.alias_forward_laws.proofs.laws.inferred_texts_law.Goals as goal

pub returns : goal.returns
returns c = inferred_texts
