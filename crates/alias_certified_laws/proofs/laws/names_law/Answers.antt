-- The names of a pass are there.
use Rattle.alias_certified_laws.proofs.Names.{names_there}
use Rattle.alias_certified_laws.proofs.laws.names_law.Goals as goal

pub returns : goal.returns
returns c = λ env func e w fits ends. names_there env func e w fits ends
