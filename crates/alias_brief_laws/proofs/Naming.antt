-- What a state that lines raised has beyond what arrived is named by these lines.
use Rattle.std.specs.Prelude.{◌&&◌, cond, if◌then◌else◌, ◌++◌, ℕ, nat_lt, ◌⊎◌}
use Rattle.std.specs.List.{AllByRecursion, list_all}
use Rattle.std.proofs.Common.{◌≡◌, Bool, true, false, List, [], ◌∷◌, Option, Some, None, refl, ap, sym, ◌∙◌, inl}
use Rattle.std.proofs.Common.{inr}
use Rattle.std.proofs.Math.Dec.{T}
use Rattle.std.specs.Option.{is_some}
use Rattle.std.specs.Ordering.{eq_by_cmp}
use Rattle.std.specs.FinMap.{find, is_sorted}
use Rattle.std.specs.FinMap.Entries.{find-put}
use Rattle.alias_base.specs.AnswerLaws.{both_true}
use Rattle.alias_base.specs.declared.ids.FunctionId.{FunctionId}
use Rattle.alias_base.specs.declared.ids.IdentifierId.{IdentifierId}
use Rattle.alias_lattice.specs.JoinLaws.{sites_laws}
use Rattle.alias_lattice.specs.KeyLaws.{ids_total}
use Rattle.alias_lattice.specs.Keys.{id_cmp}
use Rattle.alias_lattice.specs.Maps.{join_option, ProperOption}
use Rattle.alias_lattice.specs.ProperStates.{SitesProper}
use Rattle.alias_lattice.specs.PutLaws.{find-join}
use Rattle.alias_lattice.specs.SiteOrder.{site_cmp}
use Rattle.alias_lattice.specs.SiteOrderLaws.{sites_total}
use Rattle.alias_lattice.specs.States.{State, Sites, initialized, defined_as, value_at, sites_of, with_site, sites_join}
use Rattle.alias_lattice.specs.Units.{unit_join}
use Rattle.alias_lattice.specs.declared.site.Site.{Site}
use Rattle.alias_lattice.specs.declared.value.AbstractValue.{AbstractValue}
use Rattle.alias_lattice.proofs.SitesBelow.{one_below}
use Rattle.alias_certificate.specs.declared.certificate.CertValue.{CertValue}
use Rattle.alias_certificate.specs.declared.certificate.CertVariable.{CertVariable}
use Rattle.alias_certificate.specs.states.Beyond.{is_there, has_site, more_values, more_sites, more_of, more_variables}
use Rattle.alias_certificate.specs.states.Raised.{are_sites_named}
use Rattle.alias_certificate.specs.states.States.{is_site_there, with_values, with_sites, is_full, are_valued}
use Rattle.alias_certificate.specs.states.States.{is_variable_there, with_variables}
use Rattle.alias_certificate.proofs.raised.Picking.{of_entries}
use Rattle.alias_brief_laws.proofs.SitesAgain.{sorted_sites}
use Rattle.alias_brief_laws.proofs.Values.{tied_site}
use Rattle.alias_brief_laws.proofs.Variables.{tied_id}

-- ---- what passes of those that are picked

value_named : (n : ℕ) (ids : List FunctionId) (old : State) (e : Site × AbstractValue) (rest : List CertValue)
    (t : Bool)
    → is_there (value_at old e.0) e.1 ≡ t → (t ≡ false → is_site_there n ids e.0 ≡ true)
    → list_all (λ (v : CertValue). is_site_there n ids v.site) rest ≡ true
    → list_all (λ (v : CertValue). is_site_there n ids v.site)
    ((if t then [] else record { site = e.0; value = e.1 } ∷ []) ++ rest) ≡ true
value_named n ids old e rest true t h r = r
value_named n ids old e rest false t h r =
    ap (λ b. b && list_all (λ (v : CertValue). is_site_there n ids v.site) rest) (h refl) ∙ r

pub values_named : (n : ℕ) (ids : List FunctionId) (old : State) (es : List (Site × AbstractValue))
    → AllByRecursion (λ (e : Site × AbstractValue). is_there (value_at old e.0) e.1 ≡ false
    → is_site_there n ids e.0 ≡ true) es
    → list_all (λ (v : CertValue). is_site_there n ids v.site) (more_values old es) ≡ true
values_named n ids old [] a = refl
values_named n ids old (e ∷ es) a =
    value_named n ids old e (more_values old es) (is_there (value_at old e.0) e.1) refl a.0
    (values_named n ids old es a.1)

site_passes : (p : Site → Bool) (old : Option Sites) (k : Site) (rest : List Site) (t : Bool) → has_site old k ≡ t
    → (t ≡ false → p k ≡ true) → list_all p rest ≡ true → list_all p ((if t then [] else k ∷ []) ++ rest) ≡ true
site_passes p old k rest true t h r = r
site_passes p old k rest false t h r = ap (λ b. b && list_all p rest) (h refl) ∙ r

pub sites_pass : (p : Site → Bool) (old : Option Sites) (es : Sites)
    → AllByRecursion (λ (e : Site × Unit {0}). has_site old e.0 ≡ false → p e.0 ≡ true) es
    → list_all p (more_sites old es) ≡ true
sites_pass p old [] a = refl
sites_pass p old (e ∷ es) a = site_passes p old e.0 (more_sites old es) (has_site old e.0) refl a.0
    (sites_pass p old es a.1)

none_pass : (ks : List Site) → list_all (λ k. false) ks ≡ true → is_full ks ≡ true → ⊥
none_pass [] a f = cc
none_pass (k ∷ ks) a f = cc

both : (a b : Bool) → a ≡ true → b ≡ true → (a && b) ≡ true
both a b p q = ap (λ z. z && b) p ∙ q

line_named : (n : ℕ) (ids : List FunctionId) (x : IdentifierId) (ks : List Site) (rest : List CertVariable)
    → list_all (λ k. is_site_there n ids k) ks ≡ true → are_sites_named n ids rest ≡ true
    → are_sites_named n ids (more_of x ks ++ rest) ≡ true
line_named n ids x [] rest h r = r
line_named n ids x (k ∷ ks) rest h r =
    both (list_all (λ j. is_site_there n ids j) (k ∷ ks)) (are_sites_named n ids rest) h r

pub lines_named : (n : ℕ) (ids : List FunctionId) (old : State) (es : List (IdentifierId × Sites))
    → AllByRecursion (λ (e : IdentifierId × Sites).
    list_all (λ k. is_site_there n ids k) (more_sites (sites_of old e.0) e.1) ≡ true) es
    → are_sites_named n ids (more_variables old es) ≡ true
lines_named n ids old [] a = refl
lines_named n ids old (e ∷ es) a = line_named n ids e.0 (more_sites (sites_of old e.0) e.1) (more_variables old es) a.0
    (lines_named n ids old es a.1)

-- ---- what lines name

put_case : {X : Type 0} (P : Type 0) (b : Bool) (v w : X) (o : Option X) → cond b (Some v) o ≡ Some w → (b ≡ true → P)
    → (o ≡ Some w → P) → P
put_case P true v w o h f g = f refl
put_case P false v w o h f g = g h

module _ (n : ℕ) (ids : List FunctionId) where
  same_there : (q k : Site) → eq_by_cmp site_cmp q k ≡ true → is_site_there n ids k ≡ true → is_site_there n ids q
      ≡ true
  same_there q k t h = ap (is_site_there n ids) (tied_site q k t) ∙ h

  -- a site that lines give a value is there
  pub value_there : (vs : List CertValue) (z : State)
      → list_all (λ (v : CertValue). is_site_there n ids v.site) vs ≡ true
      → (q : Site) → ((w : AbstractValue) → value_at z q ≡ Some w → is_site_there n ids q ≡ true)
      → (w : AbstractValue) → value_at (with_values vs z) q ≡ Some w → is_site_there n ids q ≡ true
  value_there [] z a q h w e = h w e
  value_there (v ∷ vs) z a q h w e =
      let b = both_true (is_site_there n ids v.site)
      (list_all (λ (y : CertValue). is_site_there n ids y.site) vs) a in
      value_there vs (initialized v.site v.value z) b.1 q
      (λ y f. put_case (is_site_there n ids q ≡ true) (eq_by_cmp site_cmp q v.site) v.value y (value_at z q)
      (sym (find-put site_cmp sites_total q v.site v.value z.values) ∙ f) (λ t. same_there q v.site t b.0) (h y)) w e

  -- and so is one of a set
  pub site_there : (ks : List Site) (r : Sites) → list_all (λ k. is_site_there n ids k) ks ≡ true → (q : Site)
      → ((u : Unit {0}) → find site_cmp q r ≡ Some u → is_site_there n ids q ≡ true) → (u : Unit {0})
      → find site_cmp q (with_sites ks r) ≡ Some u → is_site_there n ids q ≡ true
  site_there [] r a q h u e = h u e
  site_there (k ∷ ks) r a q h u e =
      let b = both_true (is_site_there n ids k) (list_all (λ j. is_site_there n ids j) ks) a in
      site_there ks (with_site k r) b.1 q
      (λ y f. put_case (is_site_there n ids q ≡ true) (eq_by_cmp site_cmp q k) tt y (find site_cmp q r)
      (sym (find-put site_cmp sites_total q k tt r) ∙ f) (λ t. same_there q k t b.0) (h y)) u e

  -- a set that lines give an identifier
  pub record IsGiven (x : IdentifierId) (o : Option Sites) : Type 0 where
    pub below : nat_lt x.0 n ≡ true
    pub set : Sites
    pub is : o ≡ Some set
    pub sorted : T (is_sorted site_cmp set)
    pub there : (q : Site) (u : Unit {0}) → find site_cmp q set ≡ Some u → is_site_there n ids q ≡ true

  abbrev pub SameOrGiven : IdentifierId → State → State → Type 0
  SameOrGiven x z u = (sites_of u x ≡ sites_of z x) ⊎ IsGiven x (sites_of u x)

  given_first : (x y : IdentifierId) (ks : List Site) (z u : State)
      → list_all (λ k. is_site_there n ids k) ks ≡ true → nat_lt y.0 n ≡ true → (t : Bool) → eq_by_cmp id_cmp x y ≡ t
      → SameOrGiven x (defined_as y (with_sites ks []) z) u → SameOrGiven x z u
  given_first x y ks z u a lt t is (inr g) = inr g
  given_first x y ks z u a lt true is (inl same) = inr (record {
    below = ap (λ (i : IdentifierId). nat_lt i.0 n) (tied_id x y is) ∙ lt;
    set = with_sites ks [];
    is = same ∙ find-put id_cmp ids_total x y (with_sites ks []) z.variables
        ∙ ap (λ b. cond b (Some (with_sites ks [])) (sites_of z x)) is;
    sorted = sorted_sites ks [] tt;
    there = λ q v f. site_there ks [] a q (λ w g. cc) v f;
  })
  given_first x y ks z u a lt false is (inl same) = inl (same
      ∙ find-put id_cmp ids_total x y (with_sites ks []) z.variables
      ∙ ap (λ b. cond b (Some (with_sites ks [])) (sites_of z x)) is)

  given_if : (y : CertVariable) (ys : List CertVariable) (z u : State) (x : IdentifierId) (b : Bool)
      → is_variable_there n z y ≡ b → list_all (λ k. is_site_there n ids k) y.sites ≡ true
      → (with_variables n ys (defined_as y.identifier (with_sites y.sites []) z) ≡ Some u
      → SameOrGiven x (defined_as y.identifier (with_sites y.sites []) z) u)
      → (if b then with_variables n ys (defined_as y.identifier (with_sites y.sites []) z) else None) ≡ Some u
      → SameOrGiven x z u
  given_if y ys z u x true is a next e =
      let lt = both_true (nat_lt y.identifier.0 n) (is_full y.sites && are_valued z y.sites) is in
      given_first x y.identifier y.sites z u a lt.0 (eq_by_cmp id_cmp x y.identifier) refl (next e)
  given_if y ys z u x false is a next e = cc

  -- each set stays, or is of sites that are there
  pub same_or_given : (xs : List CertVariable) (z u : State) → are_sites_named n ids xs ≡ true
      → with_variables n xs z ≡ Some u → (x : IdentifierId) → SameOrGiven x z u
  same_or_given [] z u a e x = let same : z ≡ u = cc in inl (ap (λ s. sites_of s x) (sym same))
  same_or_given (y ∷ ys) z u a e x =
      let b = both_true (list_all (λ k. is_site_there n ids k) y.sites) (are_sites_named n ids ys) a in
      given_if y ys z u x (is_variable_there n z y) refl b.0
      (λ f. same_or_given ys (defined_as y.identifier (with_sites y.sites []) z) u b.1 f x) e

  -- ---- so is what is beyond

  lacked : (o : Option (Unit {0})) (t : Bool) → t ≡ is_some o → t ≡ false → o ≡ None
  lacked None t is free = refl
  lacked (Some u) t is free = cc

  set_lacks : (o : Sites) → T (is_sorted site_cmp o) → (q : Site) → has_site (Some o) q ≡ false
      → find site_cmp q o ≡ None
  set_lacks o h q free = lacked (find site_cmp q o) (has_site (Some o) q) (one_below q o h) free

  -- a set that stays lacks nothing
  nothing_lacks : (o : Option Sites) (t : Sites) → ProperOption SitesProper o → join_option sites_join o o ≡ Some t
      → (q : Site) (u : Unit {0}) → find site_cmp q t ≡ Some u → has_site o q ≡ false → ⊥
  nothing_lacks None t p e q u f free = cc
  nothing_lacks (Some w) t p e q u f free =
      let same : sites_join w w ≡ t = cc in
      let at : find site_cmp q w ≡ Some u = ap (find site_cmp q) (sym (sites_laws.idempotent w p) ∙ same) ∙ f in
      let none : find site_cmp q w ≡ None = set_lacks w p.0 q free in
      let two : None ≡ Some u = sym none ∙ at in cc

  -- what a set that is given has beyond the old one is there
  given_there : (x : IdentifierId) (o p : Option Sites) (g : IsGiven x p) (t : Sites) → ProperOption SitesProper o
      → join_option sites_join o p ≡ Some t → (q : Site) (u : Unit {0}) → find site_cmp q t ≡ Some u
      → has_site o q ≡ false → is_site_there n ids q ≡ true
  given_there x None p g t h e q u f free =
      let two : Some g.set ≡ Some t = sym g.is ∙ e in
      let same : g.set ≡ t = cc in
      g.there q u (ap (find site_cmp q) same ∙ f)
  given_there x (Some w) p g t h e q u f free =
      let joined : join_option sites_join (Some w) (Some g.set) ≡ Some t =
      ap (join_option sites_join (Some w)) (sym g.is) ∙ e in
      let same : sites_join w g.set ≡ t = cc in
      g.there q u
      (sym (ap (λ z. join_option unit_join z (find site_cmp q g.set)) (set_lacks w h.0 q free))
      ∙ sym (find-join site_cmp sites_total unit_join w g.set q h.0 g.sorted) ∙ ap (find site_cmp q) same ∙ f)

  same_join : (o p : Option Sites) (t : Sites) → join_option sites_join o p ≡ Some t → p ≡ o
      → join_option sites_join o o ≡ Some t
  same_join o p t e is = sym (ap (join_option sites_join o) is) ∙ e

  module _ (x : IdentifierId) (o p : Option Sites) (t : Sites) (ho : ProperOption SitesProper o) (ht : SitesProper t)
      (e : join_option sites_join o p ≡ Some t) where
    pub beyond_there : (p ≡ o) ⊎ IsGiven x p → (q : Site) (u : Unit {0}) → find site_cmp q t ≡ Some u
        → has_site o q ≡ false → is_site_there n ids q ≡ true
    beyond_there (inl same) q u f free = absurd (nothing_lacks o t ho (same_join o p t e same) q u f free)
    beyond_there (inr g) q u f free = given_there x o p g t ho e q u f free

    pub beyond_below : (p ≡ o) ⊎ IsGiven x p → is_full (more_sites o t) ≡ true → nat_lt x.0 n ≡ true
    beyond_below (inr g) full = g.below
    beyond_below (inl same) full =
        absurd (none_pass (more_sites o t) (sites_pass (λ k. false) o t (of_entries site_cmp sites_total
        (λ q u. has_site o q ≡ false → false ≡ true) t ht.0
        (λ q u f free. absurd (nothing_lacks o t ho (same_join o p t e same) q u f free)))) full)
