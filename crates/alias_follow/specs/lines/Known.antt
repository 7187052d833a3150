-- Values of lines that are proper.
use Rattle.std.specs.Prelude.{List}
use Rattle.std.specs.List.{AllByRecursion}
use Rattle.alias_lattice.specs.AbstractValues.{AbstractProper}
use Rattle.alias_certificate.specs.declared.certificate.CertBlock.{CertBlock}
use Rattle.alias_certificate.specs.declared.certificate.CertValue.{CertValue}

abbrev pub AreKnown : List CertValue → Type 0
AreKnown vs = AllByRecursion (λ (v : CertValue). AbstractProper v.value) vs

-- of each line
abbrev pub AreLinesKnown : List CertBlock → Type 0
AreLinesKnown lines = AllByRecursion (λ (c : CertBlock). AreKnown c.values) lines
