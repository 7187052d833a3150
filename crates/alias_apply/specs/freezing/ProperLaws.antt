-- Freezing transitively from sites keeps a state proper.
use Rattle.std.specs.Prelude.{ℕ, Bool, true, false, List, [], ◌∷◌}
use Rattle.std.proofs.Common.{zero, suc}
use Rattle.alias_base.specs.declared.ids.FunctionId.{FunctionId}
use Rattle.alias_base.specs.declared.ids.IdentifierId.{IdentifierId}
use Rattle.alias_hir.specs.declared.effect.ValueReason.{ValueReason}
use Rattle.alias_hir.specs.declared.place.Place.{Place}
use Rattle.alias_lattice.specs.declared.site.Site.{Site}
use Rattle.alias_lattice.specs.declared.site.Site.TheVariants.{Parameter, Context as OfContext, Created, CreatedFrom}
use Rattle.alias_lattice.specs.declared.site.Site.TheVariants.{Function, AssignFrozen, AssignCopy, Default}
use Rattle.alias_lattice.specs.States.{State, Sites, sites_of, frozen, does_freeze}
use Rattle.alias_lattice.specs.ProperStates.{StateProper}
use Rattle.alias_lattice.specs.ProperLaws.{proper-frozen}
use Rattle.alias_apply.specs.freezing.Sites.{sites_at}
use Rattle.alias_apply.specs.freezing.Transitive.{at_sites, where_frozen, at_place, at_places, at_site, levels_frozen}
use Rattle.alias_apply.specs.freezing.Transitive.{frozen_transitively, place_frozen_transitively, live}

module _ (r : ValueReason) where
  module _ (going : Site → State → State)
      (keeps : (k : Site) (s : State) → StateProper s → StateProper (going k s)) where
    sites_proper : (t : List Site) (s : State) → StateProper s → StateProper (at_sites going t s)
    sites_proper [] s h = h
    sites_proper (k ∷ t) s h = sites_proper t (going k s) (keeps k s h)

    acted_proper : (b : Bool) (p : IdentifierId) (s : State) → StateProper s → StateProper (where_frozen going r b p s)
    acted_proper true p s h = sites_proper (sites_at s p) (frozen p r s) (proper-frozen p r s h)
    acted_proper false p s h = h

    pub places_proper : (ps : List Place) (s : State) → StateProper s → StateProper (at_places going r ps s)
    places_proper [] s h = h
    places_proper (p ∷ ps) s h = places_proper ps (at_place going r p.identifier s)
        (acted_proper (does_freeze s p.identifier) p.identifier s h)

    site_proper : (context : FunctionId → List Place) (k : Site) (s : State) → StateProper s
        → StateProper (at_site going r context k s)
    site_proper context (Function f) s h = places_proper (context f) s h
    site_proper context (Parameter a) s h = h
    site_proper context (OfContext a) s h = h
    site_proper context (Created a b c) s h = h
    site_proper context (CreatedFrom a b) s h = h
    site_proper context (AssignFrozen a b) s h = h
    site_proper context (AssignCopy a b) s h = h
    site_proper context (Default a) s h = h

  levels_proper : (context : FunctionId → List Place) (n : ℕ) (k : Site) (s : State) → StateProper s
      → StateProper (levels_frozen r context n k s)
  levels_proper context zero k s h = h
  levels_proper context (suc n) k s h = site_proper (levels_frozen r context n) (levels_proper context n) context k s h

  pub proper-place_frozen_transitively : (context : FunctionId → List Place) (p : IdentifierId) (s : State)
      → StateProper s → StateProper (place_frozen_transitively r context p s)
  proper-place_frozen_transitively context p s h =
      sites_proper (frozen_transitively r context) (λ k u i. levels_proper context (suc (live u.values)) k u i)
      (sites_at s p) s h
