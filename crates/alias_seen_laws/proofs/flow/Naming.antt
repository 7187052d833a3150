-- The law of what states name knows the functions that they name: so what these lead to is the same beside.
use Rattle.std.specs.Prelude.{◌≡◌, ℕ, zero, suc, ◌||◌, Bool, true, false, List, [], ◌∷◌, Option, Some, None}
use Rattle.std.specs.Prelude.{slice_get, refl}
use Rattle.std.specs.List.{AllByRecursion, list_any}
use Rattle.std.proofs.Common.{ap, ◌∙◌}
use Rattle.alias_base.specs.declared.ids.FunctionId.{FunctionId}
use Rattle.alias_base.specs.declared.ids.IdentifierId.{IdentifierId}
use Rattle.alias_hir.specs.declared.effect.ValueReason.{ValueReason}
use Rattle.alias_hir.specs.declared.env.Environment.{Environment}
use Rattle.alias_hir.specs.declared.hir.HirFunction.{HirFunction}
use Rattle.alias_hir.specs.declared.place.Place.{Place}
use Rattle.alias_lattice.specs.States.{State, Sites, sites_of, frozen, does_freeze}
use Rattle.alias_lattice.specs.declared.site.Site.{Site}
use Rattle.alias_lattice.specs.declared.site.Site.TheVariants.{Function}
use Rattle.alias_tables.specs.Tables.{TableLists}
use Rattle.alias_apply.specs.freezing.Contexts.{context_in, context_of}
use Rattle.alias_apply.specs.freezing.Sites.{in_order, listed, sites_at}
use Rattle.alias_apply.specs.freezing.Transitive.{at_sites, where_frozen, at_place, at_places, at_site, live}
use Rattle.alias_apply.specs.freezing.Transitive.{levels_frozen, frozen_transitively, place_frozen_transitively}
use Rattle.alias_calls.specs.Immutable.{is_long_in, is_long_param, param_place, writes_param, is_writing_site}
use Rattle.alias_calls.specs.Immutable.{has_writing_site}
use Rattle.alias_hir.specs.declared.hir.ParamPattern.{ParamPattern}
use Rattle.alias_effects_laws.specs.entries.Named.{SiteNamed, SitesNamed}
use Rattle.alias_effects_laws.proofs.entries.NamedLaw.{Naming, naming}
use Rattle.alias_effects_laws.proofs.entries.States.{IfNamed, Stating, set_found, named_frozen}
use Rattle.alias_seen_laws.specs.Beside.{Others, with_others, HasSame}
use Rattle.alias_seen_laws.proofs.steps.Applying.{Sees}

module _ (N : ℕ → Type 0) (F : FunctionId → Type 0) where
  abbrev AreNamed : List Site → Type 0
  AreNamed ks = AllByRecursion (SiteNamed N F) ks

  order_named : (t : Sites) → SitesNamed N F t → AreNamed (in_order t)
  order_named [] h = tt
  order_named (e ∷ es) h = (h.0, order_named es h.1)

  listed_named : (o : Option Sites) → IfNamed N F o → AreNamed (listed o)
  listed_named None h = tt
  listed_named (Some t) h = order_named t h.0

  -- the sites of a place are named
  sites_named : (s : State) (p : IdentifierId) → Stating N F s → AreNamed (sites_at s p)
  sites_named s p h = listed_named (sites_of s p) (set_found N F s p (sites_of s p) refl h)

  -- ---- freezing

  module _ (g : Site → State → State) (kept : (k : Site) (s : State) → Stating N F s → Stating N F (g k s)) where
    kept_at_sites : (ks : List Site) (s : State) → Stating N F s → Stating N F (at_sites g ks s)
    kept_at_sites [] s h = h
    kept_at_sites (k ∷ ks) s h = kept_at_sites ks (g k s) (kept k s h)

    module _ (r : ValueReason) where
      kept_where : (b : Bool) (p : IdentifierId) (s : State) → Stating N F s → Stating N F (where_frozen g r b p s)
      kept_where true p s h = kept_at_sites (sites_at s p) (frozen p r s) (named_frozen N F p r s h)
      kept_where false p s h = h

      kept_at_places : (ps : List Place) (s : State) → Stating N F s → Stating N F (at_places g r ps s)
      kept_at_places [] s h = h
      kept_at_places (p ∷ ps) s h = kept_at_places ps (at_place g r p.identifier s)
          (kept_where (does_freeze s p.identifier) p.identifier s h)

      kept_at_site : (context : FunctionId → List Place) (k : Site) (s : State) → Stating N F s
          → Stating N F (at_site g r context k s)
      kept_at_site context (Function f) s h = kept_at_places (context f) s h
      kept_at_site context k s h = h

    -- another way to go into sites, which is the same at named ones
    module _ (other : Site → State → State)
        (same : (k : Site) (s : State) → SiteNamed N F k → Stating N F s → other k s ≡ g k s) where
      same_at_sites : (ks : List Site) (s : State) → AreNamed ks → Stating N F s → at_sites other ks s ≡ at_sites g ks s
      same_at_sites [] s a h = refl
      same_at_sites (k ∷ ks) s a h = ap (at_sites other ks) (same k s a.0 h)
          ∙ same_at_sites ks (g k s) a.1 (kept k s h)

      module _ (r : ValueReason) where
        same_where : (b : Bool) (p : IdentifierId) (s : State) → Stating N F s
            → where_frozen other r b p s ≡ where_frozen g r b p s
        same_where true p s h = same_at_sites (sites_at s p) (frozen p r s) (sites_named s p h)
            (named_frozen N F p r s h)
        same_where false p s h = refl

        same_at_places : (ps : List Place) (s : State) → Stating N F s → at_places other r ps s ≡ at_places g r ps s
        same_at_places [] s h = refl
        same_at_places (p ∷ ps) s h =
            ap (at_places other r ps) (same_where (does_freeze s p.identifier) p.identifier s h)
            ∙ same_at_places ps (at_place g r p.identifier s)
            (kept_where r (does_freeze s p.identifier) p.identifier s h)

  module _ (r : ValueReason) (context other : FunctionId → List Place)
      (same : (f : FunctionId) → F f → other f ≡ context f) where
    kept_levels : (n : ℕ) (k : Site) (s : State) → Stating N F s → Stating N F (levels_frozen r context n k s)
    kept_levels zero k s h = h
    kept_levels (suc n) k s h = kept_at_site (levels_frozen r context n) (kept_levels n) r context k s h

    same_levels : (n : ℕ) (k : Site) (s : State) → SiteNamed N F k → Stating N F s
        → levels_frozen r other n k s ≡ levels_frozen r context n k s
    same_levels zero k s a h = refl
    same_levels (suc n) (Function f) s a h =
        ap (λ (ps : List Place). at_places (levels_frozen r other n) r ps s) (same f a)
        ∙ same_at_places (levels_frozen r context n) (kept_levels n) (levels_frozen r other n) (same_levels n) r
        (context f) s h
    same_levels (suc n) k s a h = refl

    pub same_freezing : (p : IdentifierId) (s : State) → Stating N F s
        → place_frozen_transitively r other p s ≡ place_frozen_transitively r context p s
    same_freezing p s h =
        same_at_sites (frozen_transitively r context) (λ k u i. kept_levels (suc (live u.values)) k u i)
        (frozen_transitively r other) (λ k u a i. same_levels (suc (live u.values)) k u a i) (sites_at s p) s
        (sites_named s p h) h

  -- ---- sites that write

  module _ (env : Environment) (z : Others) (same : HasSame F env z) where
    any_long : (ps : List ParamPattern) → AllByRecursion (λ (p : ParamPattern).
        is_long_in (slice_get z.identifiers (param_place p).identifier.0)
        ≡ is_long_in (slice_get env.identifiers (param_place p).identifier.0)) ps
        → list_any (is_long_param (with_others env z)) ps ≡ list_any (is_long_param env) ps
    any_long [] h = refl
    any_long (p ∷ ps) h =
        ap (λ b. b || list_any (is_long_param (with_others env z)) ps) h.0
        ∙ ap (λ b. is_long_param env p || b) (any_long ps h.1)

    param_writes : (o : Option HirFunction) → ((g : HirFunction) → o ≡ Some g → AllByRecursion (λ (p : ParamPattern).
        is_long_in (slice_get z.identifiers (param_place p).identifier.0)
        ≡ is_long_in (slice_get env.identifiers (param_place p).identifier.0)) g.params)
        → writes_param (with_others env z) o ≡ writes_param env o
    param_writes None h = refl
    param_writes (Some g) h = any_long g.params (h g refl)

    one_writes : (k : Site) → SiteNamed N F k → is_writing_site (with_others env z) k ≡ is_writing_site env k
    one_writes (Function f) h =
        ap (λ (o : Option HirFunction). writes_param (with_others env z) o) (same.functions f h)
        ∙ param_writes (slice_get env.functions f.0) (same.params f h)
    one_writes k h = refl

    pub same_writing : (ks : List Site) → AreNamed ks
        → has_writing_site (with_others env z) ks ≡ has_writing_site env ks
    same_writing [] h = refl
    same_writing (k ∷ ks) h =
        ap (λ b. b || has_writing_site (with_others env z) ks) (one_writes k h.0)
        ∙ ap (λ b. is_writing_site env k || b) (same_writing ks h.1)

module _ (env : Environment) (N : TableLists → ℕ → Type 0) (F : FunctionId → Type 0) (names : Naming env N F)
    (z : Others) (same : HasSame F env z) where
  pub sees : Sees (naming env N F names) z
  sees = record {
    declares = same.declares;
    functions = λ f m. same.functions f m;
    freezes = λ r p s t h.
        same_freezing (N t) F r (context_of env) (context_of (with_others env z))
        (λ f i. ap context_in (same.functions f i)) p s.state h;
    writes = λ p s t h. same_writing (N t) F env z same (sites_at s.state p) (sites_named (N t) F s.state p h);
  }
