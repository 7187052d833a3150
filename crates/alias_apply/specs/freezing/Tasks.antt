-- What is left to do while a site is gone into: tasks on a stack, whose top is the end of its list.
use Rattle.std.specs.Prelude.{◌≡◌, ℕ, ◌+◌, true, List, [], ◌∷◌, ◌++◌, Option, Some, None, length}
use Rattle.alias_base.specs.declared.ids.FunctionId.{FunctionId}
use Rattle.alias_base.specs.declared.ids.IdentifierId.{IdentifierId}
use Rattle.alias_hir.specs.declared.effect.ValueReason.{ValueReason}
use Rattle.alias_hir.specs.declared.place.Place.{Place}
use Rattle.alias_lattice.specs.declared.site.Site.{Site}
use Rattle.alias_lattice.specs.declared.site.Site.TheVariants.{Function}
use Rattle.alias_lattice.specs.States.{State, does_freeze}
use Rattle.alias_apply.specs.freezing.Transitive.{at_place, frozen_transitively}
use Rattle.alias_apply.specs.declared.freezing.tasks.Task.{Task}
use Rattle.alias_apply.specs.declared.freezing.tasks.Task.TheVariants.{AtPlace, AtSite}

-- the sites, the first on top
abbrev pub stacked_sites : List Site → List Task
stacked_sites [] = []
stacked_sites (k ∷ ks) = stacked_sites ks ++ AtSite k ∷ []

-- the places, the first on top
abbrev pub stacked_places : List Place → List Task
stacked_places [] = []
stacked_places (p ∷ ps) = stacked_places ps ++ AtPlace p.identifier ∷ []

module _ (context : FunctionId → List Place) where
  -- what a site leads to: the context places of its function
  abbrev pub led_to : Site → List Task
  led_to (Function f) = stacked_places (context f)
  led_to k = []

  -- how much there is to do before the next place freezes
  abbrev pub heavy : Task → ℕ
  heavy (AtPlace p) = 1
  heavy (AtSite (Function f)) = length (context f) + 1
  heavy (AtSite k) = 1

  abbrev pub weight : List Task → ℕ
  weight [] = 0
  weight (t ∷ ts) = heavy t + weight ts

  module _ (r : ValueReason) where
    abbrev pub done : Task → State → State
    done (AtPlace p) s = at_place (frozen_transitively r context) r p s
    done (AtSite k) s = frozen_transitively r context k s

    -- the tasks are done from the end on
    abbrev pub finish : List Task → State → State
    finish [] s = s
    finish (t ∷ ts) s = done t (finish ts s)

    -- the next place that freezes, and the stack below it; or nothing is left to do
    abbrev pub NextIs : List Task → State → Option IdentifierId → List Task → Type 0
    NextIs old s None new = finish old s ≡ s
    NextIs old s (Some p) new = (does_freeze s p ≡ true)
        × (finish old s ≡ finish new (at_place (frozen_transitively r context) r p s))
