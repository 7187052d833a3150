-- What is made has its site.
use Rattle.std.specs.Prelude.{◌≡◌, Option, None, Some}
use Rattle.alias_base.specs.declared.ids.IdentifierId.{IdentifierId}
use Rattle.alias_lattice.specs.declared.site.Site.{Site}
use Rattle.alias_lattice.specs.States.{State, sites_of, one_site}

-- what is made has that site, and no other
abbrev pub IsGiven : Option (IdentifierId × Site) → State → Type 0
IsGiven None s = Unit {0}
IsGiven (Some made) s = sites_of s made.0 ≡ Some (one_site made.1)
