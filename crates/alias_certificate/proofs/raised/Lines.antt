-- How lines raise a state.
use Rattle.std.specs.Prelude.{◌&&◌, cond, if◌then◌else◌, ℕ, option_map}
use Rattle.std.specs.List.{list_all}
use Rattle.std.proofs.Common.{◌≡◌, Bool, true, false, List, [], ◌∷◌, Option, Some, None, refl, ap, sym, ◌∙◌}
use Rattle.std.proofs.Math.Dec.{T}
use Rattle.std.specs.Ordering.{eq_by_cmp}
use Rattle.std.specs.FinMap.{find, put, is_sorted}
use Rattle.std.specs.FinMap.Entries.{find-put, is_sorted-put}
use Rattle.alias_base.specs.declared.ids.FunctionId.{FunctionId}
use Rattle.alias_base.specs.declared.ids.IdentifierId.{IdentifierId}
use Rattle.alias_lattice.specs.KeyLaws.{ids_apart, ids_total}
use Rattle.alias_lattice.specs.Keys.{id_cmp}
use Rattle.alias_lattice.specs.ListMaps.{list_join, ListProper}
use Rattle.alias_lattice.specs.ProperStates.{StateProper, SitesProper}
use Rattle.alias_lattice.specs.PutLaws.{proper_put, proper_nil}
use Rattle.alias_lattice.specs.SiteOrder.{site_cmp}
use Rattle.alias_lattice.specs.SiteOrderLaws.{sites_total}
use Rattle.alias_lattice.specs.States.{State, Sites, empty_state, initialized, defined_as, with_site, state_join}
use Rattle.alias_lattice.specs.States.{sites_join}
use Rattle.alias_lattice.specs.declared.site.Site.{Site}
use Rattle.alias_certificate.specs.declared.certificate.CertBlock.{CertBlock}
use Rattle.alias_certificate.specs.declared.certificate.CertValue.{CertValue}
use Rattle.alias_certificate.specs.declared.certificate.CertVariable.{CertVariable}
use Rattle.alias_certificate.specs.states.Lines.{with_sets}
use Rattle.alias_certificate.specs.states.Raised.{values_raised, variables_raised, are_sites_named, raised_state}
use Rattle.alias_certificate.specs.states.States.{is_site_there, with_values, with_sites, is_variable_there}
use Rattle.alias_certificate.specs.states.States.{with_variables}
use Rattle.alias_certificate.proofs.raised.Picking.{join_nil}

-- ---- what lines say

pub sorted_values : (vs : List CertValue) (s : State) → T (is_sorted site_cmp s.values)
    → T (is_sorted site_cmp (with_values vs s).values)
sorted_values [] s h = h
sorted_values (v ∷ vs) s h = sorted_values vs (initialized v.site v.value s)
    (is_sorted-put site_cmp sites_total v.site v.value s.values h)

-- no line of a value defines anything
none_defined : (vs : List CertValue) (s : State) → (with_values vs s).variables ≡ s.variables
none_defined [] s = refl
none_defined (v ∷ vs) s = none_defined vs (initialized v.site v.value s)

pub values_alone : (vs : List CertValue) (a : State) → StateProper a → (values_raised vs a).variables ≡ a.variables
values_alone vs a h =
    ap (λ m. list_join id_cmp sites_join a.variables m) (none_defined vs empty_state)
    ∙ join_nil id_cmp ids_total ids_apart sites_join a.variables h.variables.0

pub sites_proper : (ks : List Site) (t : Sites) → SitesProper t → SitesProper (with_sites ks t)
sites_proper [] t h = h
sites_proper (k ∷ ks) t h = sites_proper ks (with_site k t)
    (proper_put site_cmp (λ (u : Unit {0}). Unit {0}) sites_total k tt t h tt)

pub no_sites : SitesProper []
no_sites = proper_nil site_cmp (λ (u : Unit {0}). Unit {0})

-- ---- the sets that lines give

abbrev SetsProper : List (IdentifierId × Sites) → Type 0
SetsProper m = ListProper id_cmp SitesProper m

sets_proper_with : (xs : List CertVariable) (m : List (IdentifierId × Sites)) → SetsProper m
    → SetsProper (with_sets xs m)
sets_proper_with [] m h = h
sets_proper_with (x ∷ xs) m h = sets_proper_with xs (put id_cmp x.identifier (with_sites x.sites []) m)
    (proper_put id_cmp SitesProper ids_total x.identifier (with_sites x.sites []) m h
    (sites_proper x.sites [] no_sites))

pub sets_proper : (xs : List CertVariable) → ListProper id_cmp SitesProper (with_sets xs [])
sets_proper xs = sets_proper_with xs [] (proper_nil id_cmp SitesProper)

pub sorted_sets : (xs : List CertVariable) (m : List (IdentifierId × Sites)) → T (is_sorted id_cmp m)
    → T (is_sorted id_cmp (with_sets xs m))
sorted_sets [] m h = h
sorted_sets (x ∷ xs) m h = sorted_sets xs (put id_cmp x.identifier (with_sites x.sites []) m)
    (is_sorted-put id_cmp ids_total x.identifier (with_sites x.sites []) m h)

-- the first of two, or the other where it is missing
abbrev pub or_other : Option Sites → Option Sites → Option Sites
or_other None o = o
or_other (Some t) o = Some t

either : (f : Option Sites) (b : Bool) (t : Sites) (o : Option Sites)
    → or_other f (cond b (Some t) o) ≡ or_other (or_other f (cond b (Some t) None)) o
either None true t o = refl
either None false t o = refl
either (Some u) b t o = refl

-- an identifier has the set of its last line, or its own where it has none
pub found_sets : (xs : List CertVariable) (m : List (IdentifierId × Sites)) (q : IdentifierId)
    → find id_cmp q (with_sets xs m) ≡ or_other (find id_cmp q (with_sets xs [])) (find id_cmp q m)
found_sets [] m q = refl
found_sets (x ∷ xs) m q =
    let t = with_sites x.sites [] in
    let f = find id_cmp q (with_sets xs []) in
    let b = eq_by_cmp id_cmp q x.identifier in
    found_sets xs (put id_cmp x.identifier t m) q
    ∙ ap (or_other f) (find-put id_cmp ids_total q x.identifier t m)
    ∙ either f b t (find id_cmp q m)
    ∙ ap (λ o. or_other o (find id_cmp q m))
    (sym (found_sets xs (put id_cmp x.identifier t []) q
    ∙ ap (or_other f) (find-put id_cmp ids_total q x.identifier t [])))

module _ (n : ℕ) where
  -- lines of identifiers give no value, and give their sets
  pub record OnlySets (xs : List CertVariable) (z u : State) : Type 0 where
    pub values : u.values ≡ z.values
    pub variables : u.variables ≡ with_sets xs z.variables

  sets_if : (y : CertVariable) (ys : List CertVariable) (z u : State) (b : Bool)
      → (with_variables n ys (defined_as y.identifier (with_sites y.sites []) z) ≡ Some u
      → OnlySets ys (defined_as y.identifier (with_sites y.sites []) z) u)
      → (if b then with_variables n ys (defined_as y.identifier (with_sites y.sites []) z) else None) ≡ Some u
      → OnlySets (y ∷ ys) z u
  sets_if y ys z u true next e = let o = next e in record { values = o.values; variables = o.variables }
  sets_if y ys z u false next e = cc

  pub only_sets : (xs : List CertVariable) (z u : State) → with_variables n xs z ≡ Some u → OnlySets xs z u
  only_sets [] z u e = let same : z ≡ u = cc in record {
    values = ap (λ (s : State). s.values) (sym same);
    variables = ap (λ (s : State). s.variables) (sym same);
  }
  only_sets (y ∷ ys) z u e = sets_if y ys z u (is_variable_there n z y)
      (λ f. only_sets ys (defined_as y.identifier (with_sites y.sites []) z) u f) e

-- ---- how a state was raised

-- the lines name what is there, and give the state
pub record WasRaised (n : ℕ) (ids : List FunctionId) (c : CertBlock) (a s : State) : Type 0 where
  pub values : list_all (λ (v : CertValue). is_site_there n ids v.site) c.values ≡ true
  pub sites : are_sites_named n ids c.variables ≡ true
  pub given : State
  pub defines : with_variables n c.variables (values_raised c.values a) ≡ Some given
  pub joined : state_join (values_raised c.values a) given ≡ s

module _ (n : ℕ) (ids : List FunctionId) (c : CertBlock) (a s : State) where
  raised_by : (o : Option State) → list_all (λ (v : CertValue). is_site_there n ids v.site) c.values ≡ true
      → are_sites_named n ids c.variables ≡ true → with_variables n c.variables (values_raised c.values a) ≡ o
      → option_map (state_join (values_raised c.values a)) o ≡ Some s → WasRaised n ids c a s
  raised_by None p q is e = cc
  raised_by (Some u) p q is e = record { values = p; sites = q; given = u; defines = is; joined = cc }

  raised_if : (p q : Bool) → list_all (λ (v : CertValue). is_site_there n ids v.site) c.values ≡ p
      → are_sites_named n ids c.variables ≡ q
      → (if p && q then variables_raised n c.variables (values_raised c.values a) else None) ≡ Some s
      → WasRaised n ids c a s
  raised_if true true p q e =
      raised_by (with_variables n c.variables (values_raised c.values a)) p q refl e
  raised_if true false p q e = cc
  raised_if false q p r e = cc

  pub was_raised : raised_state n ids c a ≡ Some s → WasRaised n ids c a s
  was_raised e = raised_if (list_all (λ (v : CertValue). is_site_there n ids v.site) c.values)
      (are_sites_named n ids c.variables) refl refl e
