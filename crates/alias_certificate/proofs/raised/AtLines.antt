-- What a state that lines raised has beyond the old one is what it has beyond it at their sites and identifiers.
use Rattle.std.specs.Prelude.{if◌then◌else◌, ℕ}
use Rattle.std.proofs.Common.{◌≡◌, true, List, [], ◌∷◌, Option, Some, None, refl, ap, sym, ◌∙◌, subst}
use Rattle.std.proofs.Math.Dec.{T}
use Rattle.std.specs.Option.{is_some}
use Rattle.std.specs.FinMap.{find, is_sorted, entries_sorted}
use Rattle.alias_base.specs.declared.ids.FunctionId.{FunctionId}
use Rattle.alias_base.specs.declared.ids.IdentifierId.{IdentifierId}
use Rattle.alias_lattice.specs.AbstractValueLaws.{abstract_laws}
use Rattle.alias_lattice.specs.AbstractValues.{abstract_join, abstract_below, AbstractProper}
use Rattle.alias_lattice.specs.JoinLaws.{sites_laws}
use Rattle.alias_lattice.specs.KeyLaws.{ids_apart, ids_total}
use Rattle.alias_lattice.specs.Keys.{id_cmp}
use Rattle.alias_lattice.specs.Laws.{below_self}
use Rattle.alias_lattice.specs.ListMaps.{list_join}
use Rattle.alias_lattice.specs.MapLaws.{join_none, option_laws}
use Rattle.alias_lattice.specs.Maps.{join_option, ProperOption}
use Rattle.alias_lattice.specs.ProperStates.{StateProper, SitesProper}
use Rattle.alias_lattice.specs.PutLaws.{proper_found, find-join}
use Rattle.alias_lattice.specs.SiteOrder.{site_cmp}
use Rattle.alias_lattice.specs.SiteOrderLaws.{sites_apart, sites_total}
use Rattle.alias_lattice.specs.States.{State, Sites, empty_state, value_at, sites_of, sites_join, sites_below}
use Rattle.alias_lattice.specs.Units.{unit_join}
use Rattle.alias_lattice.specs.declared.site.Site.{Site}
use Rattle.alias_lattice.specs.declared.value.AbstractValue.{AbstractValue}
use Rattle.alias_lattice.proofs.SitesBelow.{one_below}
use Rattle.alias_certificate.specs.declared.certificate.CertBlock.{CertBlock}
use Rattle.alias_certificate.specs.states.Beyond.{is_there, more_value, more_values, more_site, more_sites}
use Rattle.alias_certificate.specs.states.Beyond.{more_of, more_variable, more_variables, beyond_of}
use Rattle.alias_certificate.specs.states.Lines.{at_key, at_keys, with_sets, beyond_at}
use Rattle.alias_certificate.specs.states.Raised.{values_raised, raised_state}
use Rattle.alias_certificate.specs.states.States.{with_values}
use Rattle.alias_certificate.proofs.raised.AtKeys.{all_at, all_of}
use Rattle.alias_certificate.proofs.raised.Lines.{WasRaised, was_raised, OnlySets, only_sets, sorted_values}
use Rattle.alias_certificate.proofs.raised.Lines.{values_alone}
use Rattle.alias_certificate.proofs.raised.Lines.{sets_proper, sorted_sets, or_other, found_sets}

-- ---- sites of sets

-- a site that the old set has
old_site : (o : Sites) (q : Site) (u : Unit {0}) → T (is_sorted site_cmp o) → find site_cmp q o ≡ Some u
    → more_site (Some o) (q, tt) ≡ []
old_site o q u h f = ap (λ b. if b then [] else q ∷ []) (one_below q o h ∙ ap is_some f)

abbrev no_more : Sites
no_more = []

-- a set has nothing beyond itself
none_beyond : (t : Sites) → T (is_sorted site_cmp t) → more_sites (Some t) t ≡ []
none_beyond t h = sym (all_at site_cmp sites_total sites_apart (more_site (Some t)) t no_more h tt
    (λ q u f n. old_site t q u h f))

site_joined : (o : Option Sites) (q : Site) (a : Option (Unit {0})) (u : Unit {0})
    → at_key (more_site o) q (join_option unit_join a (Some u)) ≡ more_site o (q, u)
site_joined o q None u = refl
site_joined o q (Some v) u = refl

-- what a union has beyond its one part the other has
other_beyond : (o t : Sites) → T (is_sorted site_cmp o) → T (is_sorted site_cmp t)
    → more_sites (Some o) (sites_join o t) ≡ more_sites (Some o) t
other_beyond o t h i =
    let found : (q : Site) → find site_cmp q (list_join site_cmp unit_join o t)
    ≡ join_option unit_join (find site_cmp q o) (find site_cmp q t) =
    λ q. find-join site_cmp sites_total unit_join o t q h i in
    sym (all_of site_cmp sites_total sites_apart (more_site (Some o)) (more_site (Some o))
    (list_join site_cmp unit_join o t) t (entries_sorted _) i
    (λ q u f n. old_site o q u h
    (sym (join_none unit_join (find site_cmp q o)) ∙ ap (join_option unit_join (find site_cmp q o)) (sym n)
    ∙ sym (found q) ∙ f))
    (λ q u f. ap (at_key (more_site (Some o)) q)
    (found q ∙ ap (join_option unit_join (find site_cmp q o)) f) ∙ site_joined (Some o) q (find site_cmp q o) u))

module _ (n : ℕ) (ids : List FunctionId) (c : CertBlock) (a s : State) (ha : StateProper a) (hs : StateProper s)
    (r : WasRaised n ids c a s) where
  abbrev valued : State
  valued = values_raised c.values a

  abbrev said : State
  said = with_values c.values empty_state

  alone : OnlySets n c.variables valued r.given
  alone = only_sets n c.variables valued r.given r.defines

  -- ---- values

  said_sorted : T (is_sorted site_cmp said.values)
  said_sorted = sorted_values c.values empty_state tt

  value_is : (q : Site) → value_at valued q ≡ join_option abstract_join (value_at a q) (value_at said q)
  value_is q = find-join site_cmp sites_total abstract_join a.values said.values q ha.values.0 said_sorted

  value_stays : (q : Site) → value_at said q ≡ None → value_at s q ≡ value_at a q
  value_stays q none =
      let before : value_at valued q ≡ value_at a q =
      value_is q ∙ ap (join_option abstract_join (value_at a q)) none ∙ join_none abstract_join (value_at a q) in
      ap (λ z. value_at z q) (sym r.joined)
      ∙ ap (λ m. find site_cmp q (list_join site_cmp abstract_join valued.values m)) alone.values
      ∙ find-join site_cmp sites_total abstract_join valued.values valued.values q (entries_sorted _) (entries_sorted _)
      ∙ ap (λ z. join_option abstract_join z z) before
      ∙ (option_laws AbstractProper abstract_join abstract_below abstract_laws).idempotent (value_at a q)
      (proper_found site_cmp AbstractProper a.values ha.values q)

  value_bare : (q : Site) (v : AbstractValue) → value_at s q ≡ Some v → value_at said q ≡ None
      → more_value a (q, v) ≡ []
  value_bare q v f none =
      let proper : AbstractProper v =
      subst (ProperOption AbstractProper) f (proper_found site_cmp AbstractProper s.values hs.values q) in
      let there : is_there (value_at a q) v ≡ true =
      ap (λ o. is_there o v) (sym (value_stays q none) ∙ f) ∙ below_self abstract_laws v proper in
      ap (λ b. if b then [] else record { site = q; value = v } ∷ []) there

  values_same : at_keys site_cmp (more_value a) s.values said.values ≡ more_values a s.values
  values_same = all_at site_cmp sites_total sites_apart (more_value a) s.values said.values hs.values.0 said_sorted
      value_bare

  -- ---- sets

  abbrev sets : List (IdentifierId × Sites)
  sets = with_sets c.variables []

  given_sorted : T (is_sorted id_cmp r.given.variables)
  given_sorted = subst (λ m. T (is_sorted id_cmp m)) (sym alone.variables)
      (sorted_sets c.variables valued.variables (entries_sorted _))

  set_is : (x : IdentifierId) → sites_of s x
      ≡ join_option sites_join (sites_of a x) (or_other (find id_cmp x sets) (sites_of a x))
  set_is x =
      let old : valued.variables ≡ a.variables = values_alone c.values a ha in
      ap (λ z. sites_of z x) (sym r.joined)
      ∙ find-join id_cmp ids_total sites_join valued.variables r.given.variables x (entries_sorted _) given_sorted
      ∙ ap (λ m. join_option sites_join (find id_cmp x m) (sites_of r.given x)) old
      ∙ ap (join_option sites_join (sites_of a x))
      (ap (find id_cmp x) alone.variables ∙ found_sets c.variables valued.variables x
      ∙ ap (λ m. or_other (find id_cmp x sets) (find id_cmp x m)) old)

  old_proper : (x : IdentifierId) → ProperOption SitesProper (sites_of a x)
  old_proper x = proper_found id_cmp SitesProper a.variables ha.variables x

  set_stays : (x : IdentifierId) → find id_cmp x sets ≡ None → sites_of s x ≡ sites_of a x
  set_stays x none =
      set_is x ∙ ap (λ z. join_option sites_join (sites_of a x) (or_other z (sites_of a x))) none
      ∙ (option_laws SitesProper sites_join sites_below sites_laws).idempotent (sites_of a x) (old_proper x)

  set_bare : (x : IdentifierId) (t : Sites) → sites_of s x ≡ Some t → find id_cmp x sets ≡ None
      → more_variable a (x, t) ≡ []
  set_bare x t f none =
      let proper : SitesProper t =
      subst (ProperOption SitesProper) f (proper_found id_cmp SitesProper s.variables hs.variables x) in
      ap (λ o. more_of x (more_sites o t)) (sym (set_stays x none) ∙ f) ∙ ap (more_of x) (none_beyond t proper.0)

  set_joined : (x : IdentifierId) (o : Option Sites) (t : Sites) → ProperOption SitesProper o → SitesProper t
      → sites_of a x ≡ o
      → at_key (more_variable a) x (join_option sites_join o (Some t)) ≡ more_variable a (x, t)
  set_joined x None t h i is = refl
  set_joined x (Some u) t h i is =
      ap (λ o. more_of x (more_sites o (sites_join u t))) is ∙ ap (more_of x) (other_beyond u t h.0 i.0)
      ∙ ap (λ o. more_of x (more_sites o t)) (sym is)

  set_met : (x : IdentifierId) (t : Sites) → find id_cmp x sets ≡ Some t
      → at_key (more_variable a) x (sites_of s x) ≡ more_variable a (x, t)
  set_met x t f =
      let proper : SitesProper t =
      subst (ProperOption SitesProper) f (proper_found id_cmp SitesProper sets (sets_proper c.variables) x) in
      ap (at_key (more_variable a) x)
      (set_is x ∙ ap (λ z. join_option sites_join (sites_of a x) (or_other z (sites_of a x))) f)
      ∙ set_joined x (sites_of a x) t (old_proper x) proper refl

  sets_same : more_variables a sets ≡ more_variables a s.variables
  sets_same = all_of id_cmp ids_total ids_apart (more_variable a) (more_variable a) s.variables sets hs.variables.0
      (sets_proper c.variables).0 set_bare set_met

  raised_same : beyond_at c s a ≡ beyond_of s a
  raised_same = λ i. record { values = values_same i; variables = sets_same i }

-- what is found at the lines of a block is all
pub all_beyond : (n : ℕ) (ids : List FunctionId) (c : CertBlock) (a s : State) → StateProper a → StateProper s
    → raised_state n ids c a ≡ Some s → beyond_at c s a ≡ beyond_of s a
all_beyond n ids c a s ha hs e = raised_same n ids c a s ha hs (was_raised n ids c a s e)
