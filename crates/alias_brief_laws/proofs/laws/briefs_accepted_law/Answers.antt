use Rattle.alias_brief_laws.proofs.Accepted.{briefs_are_accepted}
use Rattle.alias_brief_laws.proofs.laws.briefs_accepted_law.Goals as goal

pub returns : goal.returns
returns c = briefs_are_accepted
