-- Freezing on: what the function of a frozen site captures is frozen, and what that leads to.
use Rattle.std.specs.Prelude.{ℕ, ◌+◌, Bool, true, false, List, [], ◌∷◌}
use Rattle.std.proofs.Common.{zero, suc}
use Rattle.alias_base.specs.declared.ids.FunctionId.{FunctionId}
use Rattle.alias_base.specs.declared.ids.IdentifierId.{IdentifierId}
use Rattle.alias_hir.specs.declared.effect.ValueReason.{ValueReason}
use Rattle.alias_hir.specs.declared.effect.ValueKind.{ValueKind}
use Rattle.alias_hir.specs.declared.effect.ValueKind.TheVariants.{Frozen}
use Rattle.alias_hir.specs.declared.place.Place.{Place}
use Rattle.alias_lattice.specs.declared.value.AbstractValue.{AbstractValue}
use Rattle.alias_lattice.specs.declared.site.Site.{Site}
use Rattle.alias_lattice.specs.declared.site.Site.TheVariants.{Function}
use Rattle.alias_lattice.specs.States.{State, frozen, does_freeze}
use Rattle.alias_apply.specs.freezing.Sites.{sites_at}

-- going: what is done at a site
module _ (going : Site → State → State) where
  -- at each of the sites, in order
  abbrev pub at_sites : List Site → State → State
  at_sites [] s = s
  at_sites (k ∷ ks) s = at_sites ks (going k s)

  module _ (r : ValueReason) where
    -- where the place freezes, its sites become Frozen, and each of them is gone into
    abbrev pub where_frozen : Bool → IdentifierId → State → State
    where_frozen true p s = at_sites (sites_at s p) (frozen p r s)
    where_frozen false p s = s

    -- a place freezes where it is defined, and its kind is Context, Mutable or MaybeFrozen
    abbrev pub at_place : IdentifierId → State → State
    at_place p s = where_frozen (does_freeze s p) p s

    -- each of the places, in order
    abbrev pub at_places : List Place → State → State
    at_places [] s = s
    at_places (p ∷ ps) s = at_places ps (at_place p.identifier s)

    -- the site of a function: each of its context places. Any other site leads nowhere
    abbrev pub at_site : (FunctionId → List Place) → Site → State → State
    at_site context (Function f) s = at_places (context f) s
    at_site context k s = s

abbrev pub lives : ValueKind → ℕ
lives Frozen = 0
lives k = 1

-- how many sites are of another kind than Frozen
abbrev pub live : List (Site × AbstractValue) → ℕ
live [] = 0
live (e ∷ es) = lives e.1.kind + live es

module _ (r : ValueReason) (context : FunctionId → List Place) where
  -- freezing transitively from a site, so many levels deep at most
  abbrev pub levels_frozen : ℕ → Site → State → State
  levels_frozen zero k s = s
  levels_frozen (suc n) k s = at_site (levels_frozen n) r context k s

  -- Freezing transitively from a site. Each level but the first is below a place that froze, and that leaves fewer
  -- sites that aren't Frozen: so
  -- these are all levels that there can be, and a law says that it is the recursion.
  abbrev pub frozen_transitively : Site → State → State
  frozen_transitively k s = levels_frozen (suc (live s.values)) k s

  -- and into each site of the place, in ascending order
  abbrev pub place_frozen_transitively : IdentifierId → State → State
  place_frozen_transitively p s = at_sites frozen_transitively (sites_at s p) s
