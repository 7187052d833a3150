-- What a state that lines raised has beyond what arrived raises that to it again.
use Rattle.std.specs.Prelude.{◌&&◌, ◌⊎◌, if◌then◌else◌, IsTrue, ℕ, option_map}
use Rattle.std.specs.List.{list_all}
use Rattle.std.proofs.Common.{◌≡◌, Bool, true, false, List, [], ◌∷◌, Option, Some, None, refl, ap, sym, ◌∙◌, subst}
use Rattle.std.specs.Option.{is_some}
use Rattle.std.specs.FinMap.{find}
use Rattle.alias_base.specs.declared.ids.FunctionId.{FunctionId}
use Rattle.alias_base.specs.declared.ids.IdentifierId.{IdentifierId}
use Rattle.alias_lattice.specs.AbstractValueLaws.{abstract_laws}
use Rattle.alias_lattice.specs.AbstractValues.{abstract_join, AbstractProper}
use Rattle.alias_lattice.specs.JoinLaws.{state_laws}
use Rattle.alias_lattice.specs.KeyLaws.{ids_total}
use Rattle.alias_lattice.specs.Keys.{id_cmp}
use Rattle.alias_lattice.specs.Laws.{below_self, below_join}
use Rattle.alias_lattice.specs.ListMaps.{list_join}
use Rattle.alias_lattice.specs.MapLaws.{join_none}
use Rattle.alias_lattice.specs.Maps.{join_option, ProperOption}
use Rattle.alias_lattice.specs.ProperLaws.{proper-empty_state}
use Rattle.alias_lattice.specs.ProperStates.{StateProper, SitesProper}
use Rattle.alias_lattice.specs.PutLaws.{proper_found, find-join}
use Rattle.alias_lattice.specs.SiteOrder.{site_cmp}
use Rattle.alias_lattice.specs.SiteOrderLaws.{sites_apart, sites_total}
use Rattle.alias_lattice.specs.StateLaws.{proper-initialized, proper-defined_as}
use Rattle.alias_lattice.specs.States.{State, Sites, empty_state, initialized, defined_as, value_at}
use Rattle.alias_lattice.specs.States.{sites_of}
use Rattle.alias_lattice.specs.States.{state_join, state_below, sites_join}
use Rattle.alias_lattice.specs.declared.site.Site.{Site}
use Rattle.alias_lattice.specs.declared.value.AbstractValue.{AbstractValue}
use Rattle.alias_flow.proofs.Order.{below_trans}
use Rattle.alias_certificate.specs.declared.certificate.CertBlock.{CertBlock}
use Rattle.alias_certificate.specs.declared.certificate.CertValue.{CertValue}
use Rattle.alias_certificate.specs.declared.certificate.CertVariable.{CertVariable}
use Rattle.alias_certificate.specs.states.Beyond.{is_there, has_site, more_sites, more_values, more_variables}
use Rattle.alias_certificate.specs.states.Beyond.{beyond_of}
use Rattle.alias_certificate.specs.states.Raised.{values_raised, variables_raised, are_sites_named, raised_state}
use Rattle.alias_certificate.specs.states.States.{is_site_there, with_values, with_sites, is_variable_there}
use Rattle.alias_certificate.specs.states.States.{with_variables}
use Rattle.alias_brief_laws.specs.Raising.{AreValuesProper, SaysBeyond, RaisesAgain}
use Rattle.alias_certificate.proofs.states.Valued.{variable_is_valued}
use Rattle.alias_certificate.proofs.raised.Lines.{WasRaised, was_raised, only_sets, values_alone, sites_proper}
use Rattle.alias_certificate.proofs.raised.Lines.{no_sites}
use Rattle.alias_brief_laws.proofs.Naming.{values_named, sites_pass, lines_named, value_there, SameOrGiven}
use Rattle.alias_brief_laws.proofs.Naming.{same_or_given, IsGiven}
use Rattle.alias_brief_laws.proofs.Naming.{beyond_there, beyond_below}
use Rattle.alias_certificate.proofs.raised.Picking.{of_entries, join_nil}
use Rattle.alias_brief_laws.proofs.Values.{values_again}
use Rattle.alias_brief_laws.proofs.Variables.{CanBe, Defines, found_in, defines, variables_again}

-- ---- proper states

values_proper : (vs : List CertValue) (s : State) → AreValuesProper vs → StateProper s → StateProper (with_values vs s)
values_proper [] s a h = h
values_proper (v ∷ vs) s a h = values_proper vs (initialized v.site v.value s) a.1
    (proper-initialized v.site v.value s h a.0)

module _ (n : ℕ) where
  variable_proper : (x : CertVariable) (xs : List CertVariable) (s u : State) (b : Bool) → is_variable_there n s x ≡ b
      → StateProper s
      → (StateProper (defined_as x.identifier (with_sites x.sites []) s)
      → with_variables n xs (defined_as x.identifier (with_sites x.sites []) s) ≡ Some u → StateProper u)
      → (if b then with_variables n xs (defined_as x.identifier (with_sites x.sites []) s) else None) ≡ Some u
      → StateProper u
  variable_proper x xs s u true is h next e =
      next (proper-defined_as x.identifier (with_sites x.sites []) s h (sites_proper x.sites [] no_sites)
      (variable_is_valued n s x (with_sites x.sites []) refl is)) e
  variable_proper x xs s u false is h next e = cc

  variables_proper : (xs : List CertVariable) (s u : State) → StateProper s → with_variables n xs s ≡ Some u
      → StateProper u
  variables_proper [] s u h e = let same : s ≡ u = cc in subst StateProper same h
  variables_proper (x ∷ xs) s u h e = variable_proper x xs s u (is_variable_there n s x) refl h
      (variables_proper xs (defined_as x.identifier (with_sites x.sites []) s) u) e

pub by_parts : (s : State) (m : List (Site × AbstractValue)) (v : List (IdentifierId × Sites)) → s.values ≡ m
    → s.variables ≡ v → s ≡ record { values = m; variables = v }
by_parts s m v e f i = record { values = e i; variables = f i }

module _ (n : ℕ) (ids : List FunctionId) (c : CertBlock) (a s : State) (known : AreValuesProper c.values)
    (ha : StateProper a) (r : WasRaised n ids c a s) where
  abbrev valued : State
  valued = values_raised c.values a

  given_proper : StateProper (with_values c.values empty_state)
  given_proper = values_proper c.values empty_state known proper-empty_state

  valued_proper : StateProper valued
  valued_proper = state_laws.closed a (with_values c.values empty_state) ha given_proper

  defined_proper : StateProper r.given
  defined_proper = variables_proper n c.variables valued r.given valued_proper r.defines

  pub is_proper : StateProper s
  is_proper = subst StateProper r.joined (state_laws.closed valued r.given valued_proper defined_proper)

  pub is_above : IsTrue (state_below a s)
  is_above = subst (λ z. IsTrue (state_below a z)) r.joined
      (below_trans state_laws a valued (state_join valued r.given) ha valued_proper
      (state_laws.closed valued r.given valued_proper defined_proper)
      (below_join state_laws a (with_values c.values empty_state) ha given_proper)
      (below_join state_laws valued r.given valued_proper defined_proper))

  -- its values are those of before, joined with the lines'
  value_is : (q : Site) → value_at s q
      ≡ join_option abstract_join (value_at a q) (value_at (with_values c.values empty_state) q)
  value_is q =
      let same : s.values ≡ valued.values =
      ap (λ (z : State). z.values) (sym r.joined)
      ∙ ap (list_join site_cmp abstract_join valued.values) (only_sets n c.variables valued r.given r.defines).values
      ∙ ap (λ (z : State). z.values) (state_laws.idempotent valued valued_proper) in
      ap (find site_cmp q) same
      ∙ find-join site_cmp sites_total abstract_join a.values (with_values c.values empty_state).values q ha.values.0
      given_proper.values.0

  value_by : (q : Site) (v : AbstractValue) → AbstractProper v → (o : Option AbstractValue)
      → value_at (with_values c.values empty_state) q ≡ o → join_option abstract_join (value_at a q) o ≡ Some v
      → is_there (value_at a q) v ≡ false → is_site_there n ids q ≡ true
  value_by q v p (Some w) is e free = value_there n ids c.values empty_state r.values q (λ y f. cc) w is
  value_by q v p None is e free =
      let old : value_at a q ≡ Some v = sym (join_none abstract_join (value_at a q)) ∙ e in
      let there : is_there (value_at a q) v ≡ true =
      ap (λ o. is_there o v) old ∙ below_self abstract_laws v p in
      let two : true ≡ false = sym there ∙ free in cc

  values_there : list_all (λ (v : CertValue). is_site_there n ids v.site) (more_values a s.values) ≡ true
  values_there = values_named n ids a s.values (of_entries site_cmp sites_total
      (λ q v. is_there (value_at a q) v ≡ false → is_site_there n ids q ≡ true) s.values is_proper.values.0
      (λ q v f. value_by q v
      (subst (ProperOption AbstractProper) f (proper_found site_cmp AbstractProper s.values is_proper.values q))
      (value_at (with_values c.values empty_state) q) refl (sym (value_is q) ∙ f)))

  -- its sets are those of before, joined with the lines'
  set_is : (x : IdentifierId) → sites_of s x ≡ join_option sites_join (sites_of a x) (sites_of r.given x)
  set_is x =
      ap (λ z. sites_of z x) (sym r.joined)
      ∙ find-join id_cmp ids_total sites_join valued.variables r.given.variables x valued_proper.variables.0
      defined_proper.variables.0
      ∙ ap (λ m. join_option sites_join (find id_cmp x m) (sites_of r.given x)) (values_alone c.values a ha)

  as_given : (x : IdentifierId) → SameOrGiven n ids x a r.given
  as_given x = subst (λ o. (sites_of r.given x ≡ o) ⊎ IsGiven n ids x (sites_of r.given x))
      (ap (find id_cmp x) (values_alone c.values a ha))
      (same_or_given n ids c.variables valued r.given r.sites r.defines x)

  module _ (x : IdentifierId) (t : Sites) (f : sites_of s x ≡ Some t) where
    old_proper : ProperOption SitesProper (sites_of a x)
    old_proper = proper_found id_cmp SitesProper a.variables ha.variables x

    set_proper : SitesProper t
    set_proper = subst (ProperOption SitesProper) f
        (proper_found id_cmp SitesProper s.variables is_proper.variables x)

    all_there : list_all (λ k. is_site_there n ids k) (more_sites (sites_of a x) t) ≡ true
    all_there = sites_pass (λ k. is_site_there n ids k) (sites_of a x) t (of_entries site_cmp sites_total
        (λ q u. has_site (sites_of a x) q ≡ false → is_site_there n ids q ≡ true) t set_proper.0
        (beyond_there n ids x (sites_of a x) (sites_of r.given x) t old_proper set_proper (sym (set_is x) ∙ f)
        (as_given x)))

    can_be : CanBe n s.values x (more_sites (sites_of a x) t)
    can_be = record {
      below = beyond_below n ids x (sites_of a x) (sites_of r.given x) t old_proper set_proper (sym (set_is x) ∙ f)
          (as_given x);
      valued = sites_pass (λ k. is_some (find site_cmp k s.values)) (sites_of a x) t (of_entries site_cmp sites_total
          (λ q u. has_site (sites_of a x) q ≡ false → is_some (find site_cmp q s.values) ≡ true) t set_proper.0
          (λ q u g free. (is_proper.all_valued x t f).valued q (ap is_some g)));
    }

  sets_there : are_sites_named n ids (more_variables a s.variables) ≡ true
  sets_there = lines_named n ids a s.variables (of_entries id_cmp ids_total
      (λ x t. list_all (λ k. is_site_there n ids k) (more_sites (sites_of a x) t) ≡ true) s.variables
      is_proper.variables.0 all_there)

  -- what is beyond raises the values, and then the sets
  abbrev again : State
  again = record { values = s.values; variables = a.variables }

  valued_again : values_raised (more_values a s.values) a ≡ again
  valued_again = by_parts (values_raised (more_values a s.values) a) s.values a.variables
      (values_again a s ha is_proper is_above) (values_alone (more_values a s.values) a ha)

  defined_again : Defines n (more_variables a s.variables) (found_in a s.variables again) again
  defined_again = defines n a s.variables again s.values is_proper.variables.0 ha.variables.0 refl
      (of_entries id_cmp ids_total (λ x t. CanBe n s.values x (more_sites (sites_of a x) t)) s.variables
      is_proper.variables.0 can_be)

  joined_again : state_join again defined_again.state ≡ s
  joined_again = by_parts (state_join again defined_again.state) s.values s.variables
      (ap (list_join site_cmp abstract_join s.values) defined_again.values
      ∙ ap (λ (z : State). z.values) (state_laws.idempotent s is_proper))
      (variables_again a s ha is_proper is_above defined_again.state.variables defined_again.sorted
      defined_again.finds)

  beyond_raises : (d : CertBlock) → SaysBeyond d (beyond_of s a) → raised_state n ids d a ≡ Some s
  beyond_raises d says =
      (λ i. if list_all (λ (v : CertValue). is_site_there n ids v.site) (says.values i)
      && are_sites_named n ids (says.variables i)
      then variables_raised n (says.variables i) (values_raised (says.values i) a) else None)
      ∙ ap (λ b. if b && are_sites_named n ids (more_variables a s.variables)
      then variables_raised n (more_variables a s.variables) (values_raised (more_values a s.values) a) else None)
      values_there
      ∙ ap (λ b. if b then variables_raised n (more_variables a s.variables) (values_raised (more_values a s.values) a)
      else None) sets_there
      ∙ ap (λ z. option_map (state_join z) (with_variables n (more_variables a s.variables) z)) valued_again
      ∙ ap (option_map (state_join again)) defined_again.is ∙ ap Some joined_again

pub raises_again : RaisesAgain
raises_again n ids c d a s known ha e says = beyond_raises n ids c a s known ha (was_raised n ids c a s e) d says

-- lines of nothing raise a state to itself
pub raised_by_none : (n : ℕ) (ids : List FunctionId) (d : CertBlock) (a s : State) → StateProper a → d.values ≡ []
    → d.variables ≡ [] → raised_state n ids d a ≡ Some s → s ≡ a
raised_by_none n ids d a s h values variables e =
    let whole : variables_raised n [] (values_raised [] a) ≡ Some s =
    sym (λ i. if list_all (λ (v : CertValue). is_site_there n ids v.site) (values i)
    && are_sites_named n ids (variables i)
    then variables_raised n (variables i) (values_raised (values i) a) else None) ∙ e in
    let itself : values_raised [] a ≡ a = by_parts (values_raised [] a) a.values a.variables
    (join_nil site_cmp sites_total sites_apart abstract_join a.values h.values.0) (values_alone [] a h) in
    let same : state_join (values_raised [] a) (values_raised [] a) ≡ s = cc in
    sym same ∙ ap (λ z. state_join z z) itself ∙ state_laws.idempotent a h
