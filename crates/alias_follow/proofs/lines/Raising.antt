-- What lines raise a state to.
use Rattle.std.specs.Prelude.{IsTrue, slice_get, slice_index_or}
use Rattle.std.specs.List.{list_all}
use Rattle.std.proofs.Common.{◌≡◌, ℕ, ◌+◌, zero, suc, ◌&&◌, Bool, true, false, if◌then◌else◌, List, [], ◌∷◌, Option, Some, None}
use Rattle.std.proofs.Common.{length, option_map, refl, ap, sym, ◌∙◌, subst}
use Rattle.alias_base.specs.AnswerLaws.{both_true}
use Rattle.alias_base.specs.declared.ids.FunctionId.{FunctionId}
use Rattle.alias_hir.specs.Positions.{Blocks}
use Rattle.alias_hir.specs.declared.env.Environment.{Environment}
use Rattle.alias_hir.specs.declared.hir.HirFunction.{HirFunction}
use Rattle.alias_lattice.specs.JoinLaws.{state_laws}
use Rattle.alias_lattice.specs.Laws.{below_join}
use Rattle.alias_lattice.specs.ProperLaws.{proper-empty_state}
use Rattle.alias_lattice.specs.ProperStates.{StateProper}
use Rattle.alias_lattice.specs.StateLaws.{proper-initialized, proper-defined_as}
use Rattle.alias_lattice.specs.States.{State, Sites, empty_state, initialized, defined_as, with_site, state_join}
use Rattle.alias_lattice.specs.States.{state_below}
use Rattle.alias_lattice.specs.declared.site.Site.{Site}
use Rattle.alias_flow.proofs.Order.{below_trans}
use Rattle.alias_step_laws.specs.steps.FunctionSites.{SetHas, StateHas}
use Rattle.alias_step_laws.specs.steps.FunctionSiteLaws.{has_defined_as, has_empty, has_join}
use Rattle.alias_certificate.specs.declared.certificate.CertBlock.{CertBlock}
use Rattle.alias_certificate.specs.declared.certificate.CertValue.{CertValue}
use Rattle.alias_certificate.specs.declared.certificate.CertVariable.{CertVariable}
use Rattle.alias_certificate.specs.states.Raised.{values_raised, variables_raised, are_sites_named, raised_state}
use Rattle.alias_certificate.specs.states.States.{is_created, is_site_there, with_values, with_sites, is_variable_there}
use Rattle.alias_certificate.specs.states.States.{with_variables}
use Rattle.alias_certificate.specs.declared.beyond.Beyond.{Beyond}
use Rattle.alias_certificate.specs.states.Beyond.{beyond_of, nothing_beyond}
use Rattle.alias_certificate.proofs.raised.Lines.{sites_proper, no_sites}
use Rattle.alias_certificate.proofs.states.Valued.{variable_is_valued}
use Rattle.alias_cert.proofs.Stated.{site_given, no_site, site_has}
use Rattle.alias_nested.specs.Created.{created_functions}
use Rattle.alias_follow.specs.function.Givens.{entering}
use Rattle.alias_follow.specs.lines.Entering.{is_bare, entered_by, entering_by, entering_of}
use Rattle.alias_follow.specs.lines.First.{line_at, first_lines}
use Rattle.alias_follow.specs.lines.Known.{AreKnown, AreLinesKnown}

-- ---- proper states

values_proper : (vs : List CertValue) (s : State) → AreKnown vs → StateProper s → StateProper (with_values vs s)
values_proper [] s a h = h
values_proper (v ∷ vs) s a h = values_proper vs (initialized v.site v.value s) a.1
    (proper-initialized v.site v.value s h a.0)

module _ (n : ℕ) where
  variable_proper : (x : CertVariable) (xs : List CertVariable) (s u : State) (b : Bool) → is_variable_there n s x ≡ b
      → StateProper s
      → (StateProper (defined_as x.identifier (with_sites x.sites []) s)
      → with_variables n xs (defined_as x.identifier (with_sites x.sites []) s) ≡ Some u → StateProper u)
      → (if b then with_variables n xs (defined_as x.identifier (with_sites x.sites []) s) else None) ≡ Some u
      → StateProper u
  variable_proper x xs s u true is h next e =
      next (proper-defined_as x.identifier (with_sites x.sites []) s h (sites_proper x.sites [] no_sites)
      (variable_is_valued n s x (with_sites x.sites []) refl is)) e
  variable_proper x xs s u false is h next e = cc

  variables_proper : (xs : List CertVariable) (s u : State) → StateProper s → with_variables n xs s ≡ Some u
      → StateProper u
  variables_proper [] s u h e = let same : s ≡ u = cc in subst StateProper same h
  variables_proper (x ∷ xs) s u h e = variable_proper x xs s u (is_variable_there n s x) refl h
      (variables_proper xs (defined_as x.identifier (with_sites x.sites []) s) u) e

-- ---- functions

module _ (F : FunctionId → Type 0) where
  values_stay : (vs : List CertValue) (s : State) → StateHas F s → StateHas F (with_values vs s)
  values_stay [] s h = h
  values_stay (v ∷ vs) s h = values_stay vs (initialized v.site v.value s) h

  module _ (n : ℕ) (ids : List FunctionId) (known : (f : FunctionId) → is_created ids f ≡ true → F f) where
    sites_have : (ks : List Site) (t : Sites) → list_all (λ k. is_site_there n ids k) ks ≡ true → SetHas F t
        → SetHas F (with_sites ks t)
    sites_have [] t a h = h
    sites_have (k ∷ ks) t a h =
        let both = both_true (is_site_there n ids k) (list_all (λ j. is_site_there n ids j) ks) a in
        sites_have ks (with_site k t) both.1 (site_given F k t (site_has F n ids known k both.0) h)

    variable_has : (x : CertVariable) (xs : List CertVariable) (s u : State) (b : Bool)
        → list_all (λ k. is_site_there n ids k) x.sites ≡ true → StateHas F s
        → (StateHas F (defined_as x.identifier (with_sites x.sites []) s)
        → with_variables n xs (defined_as x.identifier (with_sites x.sites []) s) ≡ Some u → StateHas F u)
        → (if b then with_variables n xs (defined_as x.identifier (with_sites x.sites []) s) else None) ≡ Some u
        → StateHas F u
    variable_has x xs s u true a h next e =
        next (has_defined_as F x.identifier (with_sites x.sites []) s h (sites_have x.sites [] a (no_site F))) e
    variable_has x xs s u false a h next e = cc

    variables_have : (xs : List CertVariable) (s u : State) → are_sites_named n ids xs ≡ true → StateHas F s
        → with_variables n xs s ≡ Some u → StateHas F u
    variables_have [] s u a h e = let same : s ≡ u = cc in subst (StateHas F) same h
    variables_have (x ∷ xs) s u a h e =
        let both = both_true (list_all (λ k. is_site_there n ids k) x.sites) (are_sites_named n ids xs) a in
        variable_has x xs s u (is_variable_there n s x) both.0 h
        (variables_have xs (defined_as x.identifier (with_sites x.sites []) s) u both.1) e

-- ---- raised states

-- a state with what it has beyond another
abbrev with_beyond : State → State → State × Beyond
with_beyond x u = (u, beyond_of u x)

-- a state that has nothing beyond what arrives
abbrev as_it_is : State → State × Beyond
as_it_is x = (x, nothing_beyond)

same_state : (p q : State × Beyond) → ◌≡◌ {A = Option (State × Beyond)} (Some p) (Some q) → p.0 ≡ q.0
same_state p q e = let same : p ≡ q = cc in ap (λ z. z.0) same

-- a state that is raised is proper and above the other, and knows no other functions
pub record IsRaised (F : FunctionId → Type 0) (x s : State) : Type 0 where
  pub is_proper : StateProper s
  pub above : IsTrue (state_below x s)
  pub has : StateHas F x → StateHas F s

module _ (F : FunctionId → Type 0) (n : ℕ) (ids : List FunctionId)
    (known : (f : FunctionId) → is_created ids f ≡ true → F f) where
  pub stays_raised : (x s : State) → StateProper x → s ≡ x → IsRaised F x s
  stays_raised x s p same = subst (IsRaised F x) (sym same) (record {
    is_proper = p;
    above = (state_laws.order x x p p).1 (state_laws.idempotent x p);
    has = λ h. h;
  })

  joined_raised : (vs : List CertValue) (xs : List CertVariable) (x s : State) (o : Option State) → AreKnown vs
      → are_sites_named n ids xs ≡ true → StateProper x → with_variables n xs (values_raised vs x) ≡ o
      → option_map (state_join (values_raised vs x)) o ≡ Some s → IsRaised F x s
  joined_raised vs xs x s None a b p is e = cc
  joined_raised vs xs x s (Some u) a b p is e =
      let given = values_proper vs empty_state a proper-empty_state in
      let v : StateProper (values_raised vs x) = state_laws.closed x (with_values vs empty_state) p given in
      let q = variables_proper n xs (values_raised vs x) u v is in
      let joined : state_join (values_raised vs x) u ≡ s = cc in
      let closed = state_laws.closed (values_raised vs x) u v q in
      subst (IsRaised F x) joined (record {
        is_proper = closed;
        above = below_trans state_laws x (values_raised vs x) (state_join (values_raised vs x) u) p v closed
            (below_join state_laws x (with_values vs empty_state) p given)
            (below_join state_laws (values_raised vs x) u v q);
        has = λ h.
            let k = has_join F x (with_values vs empty_state) p given h (values_stay F vs empty_state (has_empty F)) in
            has_join F (values_raised vs x) u v q k (variables_have F n ids known xs (values_raised vs x) u b k is);
      })

  raised_if : (c : CertBlock) (x s : State) (a b : Bool) → are_sites_named n ids c.variables ≡ b → AreKnown c.values
      → StateProper x
      → (if a && b then variables_raised n c.variables (values_raised c.values x) else None) ≡ Some s → IsRaised F x s
  raised_if c x s true true is k p e =
      joined_raised c.values c.variables x s (with_variables n c.variables (values_raised c.values x)) k is p refl e
  raised_if c x s true false is k p e = cc
  raised_if c x s false b is k p e = cc

  pub is_raised : (c : CertBlock) (x s : State) → AreKnown c.values → StateProper x → raised_state n ids c x ≡ Some s
      → IsRaised F x s
  is_raised c x s k p e =
      raised_if c x s (list_all (λ (v : CertValue). is_site_there n ids v.site) c.values)
      (are_sites_named n ids c.variables) refl k p e

  -- ---- blocks

  line_known : (cs : List CertBlock) (n : ℕ) (d : CertBlock) → AreLinesKnown cs → slice_get cs n ≡ Some d
      → AreKnown d.values
  line_known [] n d a e = cc
  line_known (c ∷ cs) zero d a e = let same : c ≡ d = cc in subst (λ (z : CertBlock). AreKnown z.values) same a.0
  line_known (c ∷ cs) (suc n) d a e = line_known cs n d a.1 e

  numbered_known : (cs : List CertBlock) (o : Option ℕ) (d : CertBlock) → AreLinesKnown cs → line_at cs o ≡ Some d
      → AreKnown d.values
  numbered_known cs None d a e = cc
  numbered_known cs (Some n) d a e = line_known cs n d a e

  raised_or : (x s : State) (m : Beyond) (o : Option State) → (o ≡ Some s → IsRaised F x s)
      → option_map (with_beyond x) o ≡ Some (s, m) → IsRaised F x s
  raised_or x s m None next e = cc
  raised_or x s m (Some u) next e = next (ap Some (same_state (with_beyond x u) (s, m) e))

  bare_or : (c : CertBlock) (x s : State) (m : Beyond) (t : Bool) → AreKnown c.values → StateProper x
      → (if t then Some (as_it_is x) else option_map (with_beyond x) (raised_state n ids c x)) ≡ Some (s, m)
      → IsRaised F x s
  bare_or c x s m true k p e = stays_raised x s p (sym (same_state (as_it_is x) (s, m) e))
  bare_or c x s m false k p e = raised_or x s m (raised_state n ids c x) (is_raised c x s k p) e

  line_raises : (o : Option CertBlock) (x s : State) (m : Beyond) → ((d : CertBlock) → o ≡ Some d → AreKnown d.values)
      → StateProper x → entered_by n ids o x ≡ Some (s, m) → IsRaised F x s
  line_raises None x s m k p e = stays_raised x s p (sym (same_state (as_it_is x) (s, m) e))
  line_raises (Some c) x s m k p e = bare_or c x s m (is_bare c) (k c refl) p e

  -- the state that a block is entered with
  pub entering_raises : (lines : List CertBlock) (numbers : List (Option ℕ)) (b : ℕ) (x s : State) (m : Beyond)
      → AreLinesKnown lines → StateProper x → entering_by n ids lines numbers b x ≡ Some (s, m) → IsRaised F x s
  entering_raises lines numbers b x s m a p e =
      line_raises (line_at lines (slice_index_or numbers b None)) x s m
      (λ d is. numbered_known lines (slice_index_or numbers b None) d a is) p e

none_numbered : (blocks : Blocks) (b : ℕ) → slice_index_or (first_lines [] blocks) b None ≡ None
none_numbered [] b = refl
none_numbered (e ∷ es) zero = refl
none_numbered (e ∷ es) (suc b) = none_numbered es b

-- where nothing is said, it is what arrives
pub entering_nothing : (n : ℕ) (ids : List FunctionId) (blocks : Blocks) (b : ℕ) (x s : State) (m : Beyond)
    → entering_by n ids [] (first_lines [] blocks) b x ≡ Some (s, m) → s ≡ x
entering_nothing n ids blocks b x s m e =
    sym (same_state (as_it_is x) (s, m)
    (sym (ap (λ o. entered_by n ids (line_at [] o) x) (none_numbered blocks b)) ∙ e))

-- it is so where nothing is said of any block
pub nothing_entered : (id : Option FunctionId) (env : Environment) (f : HirFunction)
    → entering_of None ≡ entering None id env f
nothing_entered id env f = λ i b x. entered_by (length env.identifiers + 0) (created_functions f)
    (line_at [] (sym (none_numbered f.body.blocks b) i)) x
