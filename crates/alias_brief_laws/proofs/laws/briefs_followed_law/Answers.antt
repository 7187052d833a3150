use Rattle.alias_brief_laws.proofs.Accepted.{briefs_are_followed}
use Rattle.alias_brief_laws.proofs.laws.briefs_followed_law.Goals as goal

pub returns : goal.returns
returns c = briefs_are_followed
