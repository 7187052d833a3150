-- What a state has beyond one that is below it.
use Rattle.std.specs.Prelude.{Bool, false, if◌then◌else◌, List, [], ◌∷◌, Option, Some, None}
use Rattle.std.specs.List.{flat_map}
use Rattle.alias_base.specs.declared.ids.IdentifierId.{IdentifierId}
use Rattle.alias_lattice.specs.AbstractValues.{abstract_below}
use Rattle.alias_lattice.specs.declared.site.Site.{Site}
use Rattle.alias_lattice.specs.declared.value.AbstractValue.{AbstractValue}
use Rattle.alias_lattice.specs.States.{State, Sites, value_at, sites_of, one_site, sites_below}
use Rattle.alias_certificate.specs.declared.certificate.CertValue.{CertValue}
use Rattle.alias_certificate.specs.declared.certificate.CertVariable.{CertVariable}
use Rattle.alias_certificate.specs.declared.beyond.Beyond.{Beyond}

-- the value is there already. A value that is below another and isn't above it is another
abbrev pub is_there : Option AbstractValue → AbstractValue → Bool
is_there None v = false
is_there (Some old) v = abstract_below v old

-- the value of a site, whole, where the state hasn't it
abbrev pub more_value : State → Site × AbstractValue → List CertValue
more_value old e = if is_there (value_at old e.0) e.1 then [] else record { site = e.0; value = e.1 } ∷ []

abbrev pub more_values : State → List (Site × AbstractValue) → List CertValue
more_values old es = flat_map (more_value old) es

-- the site is one of the set, if there is a set
abbrev pub has_site : Option Sites → Site → Bool
has_site None k = false
has_site (Some t) k = sites_below (one_site k) t

-- a site, where the set hasn't it
abbrev pub more_site : Option Sites → Site × Unit {0} → List Site
more_site old e = if has_site old e.0 then [] else e.0 ∷ []

abbrev pub more_sites : Option Sites → Sites → List Site
more_sites old t = flat_map (more_site old) t

-- the sites of an identifier, where there are any
abbrev pub more_of : IdentifierId → List Site → List CertVariable
more_of x [] = []
more_of x (k ∷ ks) = record { identifier = x; sites = k ∷ ks } ∷ []

-- the sites of an identifier that it hasn't in the state
abbrev pub more_variable : State → IdentifierId × Sites → List CertVariable
more_variable old e = more_of e.0 (more_sites (sites_of old e.0) e.1)

abbrev pub more_variables : State → List (IdentifierId × Sites) → List CertVariable
more_variables old es = flat_map (more_variable old) es

-- nothing
abbrev pub nothing_beyond : Beyond
nothing_beyond = record { values = []; variables = [] }

-- what the state has beyond the old one, which is below it: values by ascending sites, and sites by ascending
-- identifiers, both ascending
abbrev pub beyond_of : State → State → Beyond
beyond_of s old = record { values = more_values old s.values; variables = more_variables old s.variables }
