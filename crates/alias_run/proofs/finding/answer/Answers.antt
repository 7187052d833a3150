use Rattle.std.proofs.Common.{subst}
use Rattle.alias_run.specs.Findings.{IsReadAgain}
use Rattle.alias_run.proofs.finding.answer.Goals as goal

pub brief_checked-requires : goal.brief_checked-requires
brief_checked-requires c = subst (λ q. IsReadAgain q c.args.certificate.now c.args.unit) c.in-BriefText.is c.requires
