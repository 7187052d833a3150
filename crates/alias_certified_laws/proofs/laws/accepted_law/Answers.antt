-- The certificate of a pass is accepted.
use Rattle.alias_certified_laws.proofs.Names.{pass_is_accepted}
use Rattle.alias_certified_laws.proofs.laws.accepted_law.Goals as goal

pub returns : goal.returns
returns c = λ env func e w fits ends. pass_is_accepted env func e w fits ends
