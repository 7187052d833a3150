use Rattle.std.proofs.Common.{ap, ◌∙◌, subst}
use Rattle.std.specs.Prelude.{IsUtf8}
use Rattle.alias_cert_text.specs.Certificates.{certificate_of_text}
use Rattle.alias_certificate_laws.proofs.text.Whole.{read_back}
use Rattle.alias_certificate_laws.proofs.text.reads_back.Goals as goal

pub returns : goal.returns
returns c =
    ap certificate_of_text c.requires.printed
    ∙ read_back c.args.unit.now c.args.solved.now c.args.summary.now c.args.reports.now c.requires.fitting
    (subst IsUtf8 c.requires.printed c.utf8.text)
