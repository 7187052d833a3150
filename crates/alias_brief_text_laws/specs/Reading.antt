-- What the text of what follows for a unit reads as.
use Rattle.std.specs.Prelude.{◌≡◌, List, Ok, IsUtf8}
use Rattle.alias_hir.specs.declared.env.Unit.{Unit as HirUnit}
use Rattle.alias_certificate.specs.declared.certificate.CertFunction.{CertFunction}
use Rattle.alias_cert_text.specs.Certificates.{certificate_of_text}
use Rattle.alias_follow.specs.Units.{UnitFollowing, unit_followed}
use Rattle.alias_brief.specs.Briefs.{brief_text}
use Rattle.alias_brief.specs.Fitting.{IsFitting}
use Rattle.alias_brief_text_laws.specs.Orderly.{IsOrderly}
use Rattle.alias_brief_text_laws.specs.Telling.{told}

-- what follows for a unit stands in order, where it fits
abbrev pub FollowedInOrder : Type 0
FollowedInOrder = (given : List CertFunction) (u : HirUnit) (x : UnitFollowing) → unit_followed given u ≡ Ok x
    → IsFitting x.followed → IsOrderly x.followed

-- the text of what follows for a unit reads as the certificate of just that, where it fits
abbrev pub BriefsReadBack : Type 0
BriefsReadBack = (given : List CertFunction) (u : HirUnit) (x : UnitFollowing) → unit_followed given u ≡ Ok x
    → IsFitting x.followed → IsUtf8 (brief_text x.followed)
    → certificate_of_text (brief_text x.followed) ≡ Ok (told x.followed)
