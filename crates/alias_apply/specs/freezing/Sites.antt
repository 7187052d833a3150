-- The sites of a place, in order.
use Rattle.std.specs.Prelude.{cond, List, [], ◌∷◌, Option, Some, None}
use Rattle.alias_base.specs.declared.ids.IdentifierId.{IdentifierId}
use Rattle.alias_lattice.specs.declared.site.Site.{Site}
use Rattle.alias_lattice.specs.Nexts.{is_after}
use Rattle.alias_lattice.specs.SiteOrder.{site_cmp}
use Rattle.alias_lattice.specs.States.{State, Sites, sites_of}

-- the sites of a set, in ascending order
abbrev pub in_order : Sites → List Site
in_order [] = []
in_order (e ∷ es) = e.0 ∷ in_order es

abbrev pub listed : Option Sites → List Site
listed None = []
listed (Some t) = in_order t

-- the sites of a place, in ascending order; none where it isn't defined
abbrev pub sites_at : State → IdentifierId → List Site
sites_at s p = listed (sites_of s p)

-- what is left of a set from the first site on that is above the one that is given, if one is
abbrev pub above : Option Site → Sites → Sites
above after [] = []
above after (e ∷ es) = cond (is_after site_cmp after e.0) (e ∷ es) (above after es)
