use Rattle.std.proofs.Common.{ap, ◌∙◌, subst}
use Rattle.std.specs.Prelude.{IsUtf8}
use Rattle.alias_cert_text.specs.Certificates.{certificate_of_text}
use Rattle.alias_brief_text_laws.proofs.Whole.{read_back}
use Rattle.alias_brief_text_laws.proofs.laws.brief_reads_back.Goals as goal

pub returns : goal.returns
returns c =
    ap certificate_of_text c.requires.printed
    ∙ read_back c.args.followed.now c.requires.fitting c.requires.orderly
    (subst IsUtf8 c.requires.printed c.utf8.text)
