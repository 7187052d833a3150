-- The printed lines are those that are said.
use Rattle.alias_certified_laws.proofs.Printing.{prints}
use Rattle.alias_certified_laws.proofs.laws.printed_law.Goals as goal

pub returns : goal.returns
returns c = λ env func e w fits instructions terminals ends. prints env func e w fits ends instructions terminals
