use Rattle.alias_brief_laws.proofs.RaisedAgain.{raises_again}
use Rattle.alias_brief_laws.proofs.laws.raises_again_law.Goals as goal

pub returns : goal.returns
returns c = raises_again
