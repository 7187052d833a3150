-- Each line of what an entry state has beyond what arrived reads back.
use Rattle.std.proofs.Common.{◌≡◌, true, false, List, [], ◌∷◌, ◌++◌, ap, subst, refl}
use Rattle.std.specs.Prelude.{codes, map}
use Rattle.std.specs.List.{AllByRecursion, flat_map}
use Rattle.alias_lattice.specs.States.{Sites}
use Rattle.alias_lattice.specs.declared.site.Site.{Site}
use Rattle.alias_text.specs.Certificates.{spaced_site, sites_text}
use Rattle.alias_text.specs.Fitting.{SmallSite, SmallEntry}
use Rattle.alias_text.specs.Lines.{spaced}
use Rattle.alias_cert_text.specs.declared.line.Line.TheVariants as line
use Rattle.alias_certificate.specs.declared.certificate.CertValue.{CertValue}
use Rattle.alias_certificate.specs.declared.certificate.CertVariable.{CertVariable}
use Rattle.alias_certificate_laws.specs.text.Certifying.{sites_in}
use Rattle.alias_certificate_laws.proofs.text.Spelling.{Spells, value_spelled as printed_value}
use Rattle.alias_certificate_laws.proofs.text.Spelling.{variable_spelled as printed_variable}
use Rattle.alias_brief.specs.Briefs.{beyond_value, beyond_variable}
use Rattle.alias_brief.specs.Fitting.{FittingMoreValue, SmallMoreVariable}
use Rattle.alias_brief_text_laws.specs.Orderly.{NamesSite}

pub value_spelled : (v : CertValue) → FittingMoreValue v → Spells (beyond_value v) (line.Value v)
value_spelled v h = printed_value (v.site, v.value) h

-- ---- the sites of a line as those of a set

abbrev entries_of : List Site → Sites
entries_of ks = map (λ (k : Site). (k, tt)) ks

same_text : (ks : List Site) → sites_text (entries_of ks) ≡ flat_map spaced_site ks
same_text [] = refl
same_text (k ∷ ks) = ap (λ rest. spaced_site k ++ rest) (same_text ks)

same_sites : (ks : List Site) → sites_in (entries_of ks) ≡ ks
same_sites [] = refl
same_sites (k ∷ ks) = ap (λ rest. k ∷ rest) (same_sites ks)

small_entries : (ks : List Site) → AllByRecursion SmallSite ks → AllByRecursion SmallEntry (entries_of ks)
small_entries [] h = tt
small_entries (k ∷ ks) h = (h.0, small_entries ks h.1)

abbrev variable_with : CertVariable → List Site → CertVariable
variable_with v ks = record { identifier = v.identifier; sites = ks }

sites_spelled : (v : CertVariable) (ks : List Site) → SmallMoreVariable (variable_with v ks)
    → NamesSite (variable_with v ks)
    → Spells (beyond_variable (variable_with v ks)) (line.Variable (variable_with v ks))
sites_spelled v [] h named = let no : true ≡ false = named in cc
sites_spelled v (k ∷ ks) h named =
    let entries = entries_of (k ∷ ks) in
    subst (λ text. Spells (codes "variable" ++ spaced v.identifier.0 ++ text ++ codes "\n")
    (line.Variable (variable_with v (k ∷ ks)))) (same_text (k ∷ ks))
    (subst (λ sites. Spells (codes "variable" ++ spaced v.identifier.0 ++ sites_text entries ++ codes "\n")
    (line.Variable (variable_with v sites))) (same_sites (k ∷ ks))
    (printed_variable (v.identifier, entries) ((h.0, small_entries (k ∷ ks) h.1), refl)))

pub variable_spelled : (v : CertVariable) → SmallMoreVariable v → NamesSite v
    → Spells (beyond_variable v) (line.Variable v)
variable_spelled v h named = sites_spelled v v.sites h named
