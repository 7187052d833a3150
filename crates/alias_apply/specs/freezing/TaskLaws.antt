-- The tasks on the stack do what freezing transitively from a site is.
use Rattle.std.specs.Option.{option_to_list}
use Rattle.std.specs.Prelude.{◌≡◌, ◌+◌, ◌<◌, true, false, List, [], ◌∷◌, ◌++◌, Option, Some, None, refl}
use Rattle.std.proofs.Common.{ap, sym, ◌∙◌, length, arith}
use Rattle.alias_base.specs.declared.ids.FunctionId.{FunctionId}
use Rattle.alias_base.specs.declared.ids.IdentifierId.{IdentifierId}
use Rattle.alias_hir.specs.declared.effect.ValueReason.{ValueReason}
use Rattle.alias_hir.specs.declared.place.Place.{Place}
use Rattle.alias_lattice.specs.declared.site.Site.{Site}
use Rattle.alias_lattice.specs.declared.site.Site.TheVariants.{Parameter, Context as OfContext, Created, CreatedFrom}
use Rattle.alias_lattice.specs.declared.site.Site.TheVariants.{Function, AssignFrozen, AssignCopy, Default}
use Rattle.alias_lattice.specs.States.{State, frozen, does_freeze}
use Rattle.alias_apply.specs.freezing.Sites.{sites_at}
use Rattle.alias_apply.specs.freezing.Transitive.{at_sites, where_frozen, at_place, at_places, frozen_transitively}
use Rattle.alias_apply.specs.freezing.TransitiveLaws.{Sorted, frozen_transitively-is}
use Rattle.alias_apply.specs.freezing.Tasks.{stacked_sites, stacked_places, led_to, heavy, weight, done, finish}
use Rattle.alias_apply.specs.declared.freezing.tasks.Task.{Task}
use Rattle.alias_apply.specs.declared.freezing.tasks.Task.TheVariants.{AtPlace, AtSite}

module _ (context : FunctionId → List Place) where
  pub weight-append : (a b : List Task) → weight context (a ++ b) ≡ weight context a + weight context b
  weight-append [] b = omega arith
  weight-append (t ∷ a) b = let ih = weight-append a b in omega arith

  pub weight-places : (ps : List Place) → weight context (stacked_places ps) ≡ length ps
  weight-places [] = refl
  weight-places (p ∷ ps) = let ih = weight-places ps in let w =
      weight-append (stacked_places ps) (AtPlace p.identifier ∷ []) in omega arith

  module _ (r : ValueReason) where
    pub finish-append : (a b : List Task) (s : State) → finish context r (a ++ b) s
        ≡ finish context r a (finish context r b s)
    finish-append [] b s = refl
    finish-append (t ∷ a) b s = ap (done context r t) (finish-append a b s)

    finish-sites : (ks : List Site) (s : State) → finish context r (stacked_sites ks) s
        ≡ at_sites (frozen_transitively r context) ks s
    finish-sites [] s = refl
    finish-sites (k ∷ ks) s = finish-append (stacked_sites ks) (AtSite k ∷ []) s
        ∙ finish-sites ks (frozen_transitively r context k s)

    pub finish-places : (ps : List Place) (s : State) → finish context r (stacked_places ps) s
        ≡ at_places (frozen_transitively r context) r ps s
    finish-places [] s = refl
    finish-places (p ∷ ps) s = finish-append (stacked_places ps) (AtPlace p.identifier ∷ []) s
        ∙ finish-places ps (at_place (frozen_transitively r context) r p.identifier s)

    led_done : (k : Site) (s : State) → Sorted s → frozen_transitively r context k s
        ≡ finish context r (led_to context k) s
    led_done (Function f) s h = frozen_transitively-is r context (Function f) s h ∙ sym (finish-places (context f) s)
    led_done (Parameter a) s h = refl
    led_done (OfContext a) s h = refl
    led_done (Created a b c) s h = refl
    led_done (CreatedFrom a b) s h = refl
    led_done (AssignFrozen a b) s h = refl
    led_done (AssignCopy a b) s h = refl
    led_done (Default a) s h = refl

    -- a site on top becomes what it leads to
    pub finish-site : (old a new : List Task) (k : Site) (s : State) → Sorted s → old ≡ a ++ AtSite k ∷ [] → new ≡ a
        ++ led_to context k → finish context r old s ≡ finish context r new s
    finish-site old a new k s h e f =
        ap (λ z. finish context r z s) e ∙ finish-append a (AtSite k ∷ []) s ∙ ap (finish context r a) (led_done k s h)
        ∙ sym (finish-append a (led_to context k) s) ∙ ap (λ z. finish context r z s) (sym f)

    -- a place on top that freezes becomes its sites
    pub finish-place : (a : List Task) (p : IdentifierId) (s : State) → does_freeze s p ≡ true
        → finish context r a (at_place (frozen_transitively r context) r p s)
        ≡ finish context r (a ++ stacked_sites (sites_at s p)) (frozen p r s)
    finish-place a p s e =
        ap (λ b. finish context r a (where_frozen (frozen_transitively r context) r b p s)) e
        ∙ ap (finish context r a) (sym (finish-sites (sites_at s p) (frozen p r s)))
        ∙ sym (finish-append a (stacked_sites (sites_at s p)) (frozen p r s))

    -- a place on top that doesn't freeze
    pub finish-idle : (old a : List Task) (p : IdentifierId) (s : State) → does_freeze s p ≡ false → old ≡ a
        ++ AtPlace p ∷ [] → finish context r old s ≡ finish context r a s
    finish-idle old a p s e f = ap (λ z. finish context r z s) f ∙ finish-append a (AtPlace p ∷ []) s
        ∙ ap (λ b. finish context r a (where_frozen (frozen_transitively r context) r b p s)) e

    pub finish-top : (old a : List Task) (p : IdentifierId) (s : State) → old ≡ a ++ AtPlace p ∷ []
        → finish context r old s ≡ finish context r a (at_place (frozen_transitively r context) r p s)
    finish-top old a p s f = ap (λ z. finish context r z s) f ∙ finish-append a (AtPlace p ∷ []) s

  led_lighter : (k : Site) → weight context (led_to context k) < heavy context (AtSite k)
  led_lighter (Function f) = let w = weight-places (context f) in omega arith
  led_lighter (Parameter a) = omega arith
  led_lighter (OfContext a) = omega arith
  led_lighter (Created a b c) = omega arith
  led_lighter (CreatedFrom a b) = omega arith
  led_lighter (AssignFrozen a b) = omega arith
  led_lighter (AssignCopy a b) = omega arith
  led_lighter (Default a) = omega arith

  pub lighter-site : (old a new : List Task) (k : Site) → old ≡ a ++ AtSite k ∷ [] → new ≡ a ++ led_to context k
      → weight context new < weight context old
  lighter-site old a new k e f =
      let x : weight context old ≡ weight context a + weight context (AtSite k ∷ []) = ap (weight context) e
      ∙ weight-append a (AtSite k ∷ []) in
      let y : weight context new ≡ weight context a + weight context (led_to context k) = ap (weight context) f
      ∙ weight-append a (led_to context k) in
      let z = led_lighter k in omega arith

  pub lighter-place : (old a : List Task) (p : IdentifierId) → old ≡ a ++ AtPlace p ∷ [] → weight context a
      < weight context old
  lighter-place old a p e =
      let x : weight context old ≡ weight context a + weight context (AtPlace p ∷ []) = ap (weight context) e
      ∙ weight-append a (AtPlace p ∷ []) in omega arith

-- what a pop says, where it gave the task
pub popped : (old a : List Task) (o : Option Task) (t u : Task) → old ≡ a ++ option_to_list o → o ≡ Some t → t ≡ u → old
    ≡ a ++ u ∷ []
popped old a o t u e f g = e ∙ ap (λ z. a ++ option_to_list z) (f ∙ ap Some g)
