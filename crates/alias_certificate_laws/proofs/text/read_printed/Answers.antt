use Rattle.std.proofs.Common.{ap, ◌∙◌, subst}
use Rattle.alias_base.specs.Answer.{Gives}
use Rattle.alias_cert_text.specs.Certificates.{certificate_of_text}
use Rattle.alias_cert_text.specs.Faults.{is_memory}
use Rattle.alias_certificate_laws.proofs.text.read_printed.Goals as goal

pub returns : goal.returns
returns c =
    subst (λ stated. Gives is_memory stated c.read_certificate.result)
    (ap certificate_of_text c.as_bytes.ensures.value ∙ c.reads_back.ensures) c.read_certificate.ensures
