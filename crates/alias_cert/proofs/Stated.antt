-- Which functions an entry state knows that a certificate says.
use Rattle.std.specs.Prelude.{slice_get, IsTrue, cond}
use Rattle.std.specs.FinMap.{find}
use Rattle.std.specs.FinMap.Entries.{find-put}
use Rattle.std.specs.List.{AllByRecursion, list_all, flat_map}
use Rattle.std.specs.Option.{is_some}
use Rattle.std.specs.Ordering.{eq_by_cmp}
use Rattle.std.proofs.Common.{◌≡◌, ℕ, ◌==◌, ◌&&◌, ◌||◌, suc, Bool, true, false, if◌then◌else◌, List, [], ◌∷◌, Option}
use Rattle.std.proofs.Common.{Some, None, refl, sym, subst}
use Rattle.std.proofs.lemmas.Bool.{eqb-true}
use Rattle.std.proofs.Math.Dec.{T}
use Rattle.alias_base.specs.AnswerLaws.{both_true}
use Rattle.alias_base.specs.declared.ids.FunctionId.{FunctionId}
use Rattle.alias_hir.specs.Values.{created}
use Rattle.alias_hir.specs.declared.env.Environment.{Environment}
use Rattle.alias_hir.specs.declared.hir.HirFunction.{HirFunction}
use Rattle.alias_hir.specs.declared.hir.Instruction.{Instruction}
use Rattle.alias_rules.specs.function_rules.Rules.{is_among}
use Rattle.alias_rules.specs.Fitting.{function_fits}
use Rattle.alias_rules.specs.Nesting.{number_of, created_in}
use Rattle.alias_nesting_laws.specs.PartLaws.{among_cases, append_cases}
use Rattle.alias_lattice.specs.MapLaws.{equal}
use Rattle.alias_lattice.specs.SiteOrder.{site_cmp}
use Rattle.alias_lattice.specs.SiteOrderLaws.{sites_apart, sites_total}
use Rattle.alias_lattice.specs.States.{State, Sites, empty_state, initialized, defined_as, value_at, with_site}
use Rattle.alias_lattice.specs.declared.site.Site.{Site}
use Rattle.alias_lattice.specs.declared.site.Site.TheVariants.{Function}
use Rattle.alias_step_laws.specs.steps.FunctionSites.{SiteHas, SetHas, StateHas}
use Rattle.alias_step_laws.specs.steps.FunctionSiteLaws.{has_defined_as, has_empty}
use Rattle.alias_step_laws.specs.steps.StepLaws.{InstructionWithin}
use Rattle.alias_step_laws.specs.steps.Within.{CreatedWithin, FunctionWithin}
use Rattle.alias_step_laws.specs.blocks.EntryLaws.{context_within}
use Rattle.alias_nested.specs.Created.{created_functions}
use Rattle.alias_nested.proofs.Creating.{created_is_among}
use Rattle.alias_certificate.specs.declared.certificate.CertBlock.{CertBlock}
use Rattle.alias_certificate.specs.declared.certificate.CertValue.{CertValue}
use Rattle.alias_certificate.specs.declared.certificate.CertVariable.{CertVariable}
use Rattle.alias_certificate.specs.states.States.{is_created, is_site_there, with_values, with_sites, is_full}
use Rattle.alias_certificate.specs.states.States.{are_valued, is_variable_there, with_variables, stated_state}

-- ---- the functions of a state that is said

module _ (F : FunctionId → Type 0) where
  -- each function that has a value has F
  abbrev ValuesHave : State → Type 0
  ValuesHave s = (f : FunctionId) → IsTrue (is_some (value_at s (Function f))) → F f

  put_at : {X : Type 0} (k : Site) (f : FunctionId) (x : X) (o : Option X) (b : Bool)
      → eq_by_cmp site_cmp (Function f) k ≡ b → SiteHas F k → (IsTrue (is_some o) → F f)
      → IsTrue (is_some (cond b (Some x) o)) → F f
  put_at k f x o true e h g i = subst (SiteHas F)
      (sym (sites_apart (Function f) k (equal (site_cmp (Function f) k) (subst T (sym e) tt)))) h
  put_at k f x o false e h g i = g i

  value_given : (s : State) (v : CertValue) → ValuesHave s → SiteHas F v.site
      → ValuesHave (initialized v.site v.value s)
  value_given s v h g f i =
      put_at v.site f v.value (value_at s (Function f)) (eq_by_cmp site_cmp (Function f) v.site) refl g (h f)
      (subst (λ o. IsTrue (is_some o)) (find-put site_cmp sites_total (Function f) v.site v.value s.values) i)

  values_have : (vs : List CertValue) (s : State) → AllByRecursion (λ (v : CertValue). SiteHas F v.site) vs
      → ValuesHave s → ValuesHave (with_values vs s)
  values_have [] s a h = h
  values_have (v ∷ vs) s a h = values_have vs (initialized v.site v.value s) a.1 (value_given s v h a.0)

  -- a site that has a value
  valued_has : (s : State) → ValuesHave s → (k : Site) → is_some (value_at s k) ≡ true → SiteHas F k
  valued_has s h (Function f) e = h f e
  valued_has s h k e = tt

  pub site_given : (k : Site) (t : Sites) → SiteHas F k → SetHas F t → SetHas F (with_site k t)
  site_given k t h g f i = put_at k f tt (find site_cmp (Function f) t) (eq_by_cmp site_cmp (Function f) k) refl h (g f)
      (subst (λ o. IsTrue (is_some o)) (find-put site_cmp sites_total (Function f) k tt t) i)

  sites_have : (s : State) → ValuesHave s → (ks : List Site) (t : Sites) → are_valued s ks ≡ true → SetHas F t
      → SetHas F (with_sites ks t)
  sites_have s h [] t a g = g
  sites_have s h (k ∷ ks) t a g =
      let both = both_true (is_some (value_at s k)) (are_valued s ks) a in
      sites_have s h ks (with_site k t) both.1 (site_given k t (valued_has s h k both.0) g)

  pub no_site : SetHas F []
  no_site f i = cc

  variable_has : (n : ℕ) (x : CertVariable) (xs : List CertVariable) (s u : State) (b : Bool) → is_variable_there n s x
      ≡ b → ValuesHave s → StateHas F s
      → (StateHas F (defined_as x.identifier (with_sites x.sites []) s)
      → with_variables n xs (defined_as x.identifier (with_sites x.sites []) s) ≡ Some u → StateHas F u)
      → (if b then with_variables n xs (defined_as x.identifier (with_sites x.sites []) s) else None) ≡ Some u
      → StateHas F u
  variable_has n x xs s u true is v h next e =
      let both = both_true _ (is_full x.sites && are_valued s x.sites) is in
      let more = both_true (is_full x.sites) (are_valued s x.sites) both.1 in
      next (has_defined_as F x.identifier (with_sites x.sites []) s h (sites_have s v x.sites [] more.1 no_site)) e
  variable_has n x xs s u false is v h next e = cc

  variables_have : (n : ℕ) (xs : List CertVariable) (s u : State) → ValuesHave s → StateHas F s → with_variables n xs s
      ≡ Some u → StateHas F u
  variables_have n [] s u v h e = let same : s ≡ u = cc in subst (StateHas F) same h
  variables_have n (x ∷ xs) s u v h e = variable_has n x xs s u (is_variable_there n s x) refl v h
      (variables_have n xs (defined_as x.identifier (with_sites x.sites []) s) u v) e

  module _ (identifiers : ℕ) (ids : List FunctionId) (known : (f : FunctionId) → is_created ids f ≡ true → F f) where
    pub site_has : (k : Site) → is_site_there identifiers ids k ≡ true → SiteHas F k
    site_has (Function f) e = known f e
    site_has k e = tt

    sites_there : (vs : List CertValue) → list_all (λ (v : CertValue). is_site_there identifiers ids v.site) vs ≡ true
        → AllByRecursion (λ (v : CertValue). SiteHas F v.site) vs
    sites_there [] e = tt
    sites_there (v ∷ vs) e =
        let both = both_true (is_site_there identifiers ids v.site)
        (list_all (λ (w : CertValue). is_site_there identifiers ids w.site) vs) e in
        (site_has v.site both.0, sites_there vs both.1)

    no_value : ValuesHave empty_state
    no_value f i = cc

    stated_at : (c : CertBlock) (s : State) (b : Bool)
        → list_all (λ (v : CertValue). is_site_there identifiers ids v.site) c.values ≡ b
        → (if b then with_variables identifiers c.variables (with_values c.values empty_state) else None) ≡ Some s
        → StateHas F s
    stated_at c s true is e = variables_have identifiers c.variables (with_values c.values empty_state) s
        (values_have c.values empty_state (sites_there c.values is) no_value)
        (nothing_defined c.values empty_state (has_empty F)) e
      where
        nothing_defined : (vs : List CertValue) (s : State) → StateHas F s → StateHas F (with_values vs s)
        nothing_defined [] s h = h
        nothing_defined (v ∷ vs) s h = nothing_defined vs (initialized v.site v.value s) h
    stated_at c s false is e = cc

    -- the state that is said of a block knows no functions but those that are created
    pub stated_has : (c : CertBlock) (s : State) → stated_state identifiers ids c ≡ Some s → StateHas F s
    stated_has c s e = stated_at c s (list_all (λ (v : CertValue). is_site_there identifiers ids v.site) c.values) refl
        e

-- ---- the functions that a function creates

-- where one of the list is created, it is an item of it
abbrev Found : List FunctionId → FunctionId → Type 0
Found xs f = (k : ℕ) × (x : FunctionId) × (slice_get xs k ≡ Some x) × (x.0 ≡ f.0)

found_first : (x : FunctionId) (xs : List FunctionId) (f : FunctionId) (b : Bool) → (x.0 == f.0) ≡ b
    → (is_created xs f ≡ true → Found xs f) → (b || is_created xs f) ≡ true → Found (x ∷ xs) f
found_first x xs f true is next e = (0, x, refl, eqb-true x.0 f.0 is)
found_first x xs f false is next e = let r = next e in (suc r.0, r.1, r.2, r.3)

found : (xs : List FunctionId) (f : FunctionId) → is_created xs f ≡ true → Found xs f
found [] f e = cc
found (x ∷ xs) f e = found_first x xs f (x.0 == f.0) refl (found xs f) e

number_within : (env : Environment) (n : ℕ) (o : Option FunctionId) → CreatedWithin env o → is_among (number_of o) n
    ≡ true → FunctionWithin env (record { 0 = n })
number_within env n None h e = cc
number_within env n (Some f) h e = among_cases f.0 [] n (FunctionWithin env (record { 0 = n })) e
    (λ same. subst (λ z. FunctionWithin env (record { 0 = z })) (sym same) h) (λ no. cc)

among_within : (env : Environment) (n : ℕ) (is : List Instruction) → AllByRecursion (InstructionWithin env) is
    → is_among (flat_map (λ (i : Instruction). number_of (created i.value)) is) n ≡ true
    → FunctionWithin env (record { 0 = n })
among_within env n [] a e = cc
among_within env n (i ∷ is) a e =
    append_cases (number_of (created i.value)) (flat_map (λ (j : Instruction). number_of (created j.value)) is) n
    (FunctionWithin env (record { 0 = n })) e
    (number_within env n (created i.value) a.0.created) (among_within env n is a.1)

-- the functions that a fitting function creates are within the tables
pub created_within : (func : HirFunction) (env : Environment) (b : Bool) → function_fits func env ≡ true
    → (f : FunctionId) → is_created (created_functions func) f ≡ true → FunctionWithin env f
created_within func env b h f e =
    let r = found (created_functions func) f e in
    let among : is_among (created_in func) r.1.0 ≡ true = created_is_among func env h r.0 r.1 r.2 in
    subst (λ z. FunctionWithin env (record { 0 = z })) r.3
    (among_within env r.1.0 func.instructions (context_within func env b h).instructions among)
