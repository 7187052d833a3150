-- The certificate of what is inferred of a unit is accepted, or no number is left for a report.
use Rattle.std.specs.Prelude.{◌≡◌, List, Result, Ok, Err}
use Rattle.alias_hir.specs.declared.env.Environment.{Environment}
use Rattle.alias_hir.specs.declared.env.Unit.{Unit as HirUnit}
use Rattle.alias_hir.specs.declared.error.Counter.TheVariants.{Diagnostics}
use Rattle.alias_hir.specs.declared.hir.HirFunction.{HirFunction}
use Rattle.alias_rules.specs.Functions.{rules_hold}
use Rattle.alias_nested.specs.Units.{UnitAnalysis, unit_analysed}
use Rattle.alias_certificate.specs.declared.fault.CheckFault.{CheckFault}
use Rattle.alias_certificate.specs.declared.fault.CheckFault.TheVariants as fault
use Rattle.alias_cert.specs.Functions.{CheckedFunction, Checking, checking}
use Rattle.alias_cert.specs.Units.{unit_checked}
use Rattle.alias_certificate_laws.specs.text.Certifying.{certificate_of}

pub data IsAcceptedOrFull (r : Result (HirFunction × Checking) CheckFault) : Type 0 where
  accepted : (f : HirFunction) (env : Environment) (fs : List CheckedFunction) → r ≡ Ok (f, checking env fs)
      → IsAcceptedOrFull r
  full : r ≡ Err (fault.TooMany Diagnostics) → IsAcceptedOrFull r

-- What `certify` prints of a unit reads back as this certificate (`reads_back` of alias_certificate_laws/text). So it
-- is accepted for that unit, or the check comes to the last number of a report.
abbrev pub CertificatesAreAccepted : Type 0
CertificatesAreAccepted =
    (u : HirUnit) (a : UnitAnalysis) → rules_hold u ≡ Ok tt → unit_analysed u ≡ Ok a
    → IsAcceptedOrFull (unit_checked (certificate_of a.inferred.unit a.inferred.solved a.inferred.summary).functions u)
