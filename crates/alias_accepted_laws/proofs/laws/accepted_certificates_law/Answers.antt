use Rattle.alias_accepted_laws.proofs.Accepted.{certificates_are_accepted}
use Rattle.alias_accepted_laws.proofs.laws.accepted_certificates_law.Goals as goal

pub returns : goal.returns
returns c = certificates_are_accepted
