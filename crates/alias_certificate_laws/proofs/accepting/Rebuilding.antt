-- The entry state that is made of what is said of a state is that state.
use Rattle.std.specs.Prelude.{IsTrue, cond, map, if◌then◌else◌}
use Rattle.std.specs.Cmp.{IsTotalOrder, tied_itself}
use Rattle.std.specs.FinMap.{find, put, is_sorted}
use Rattle.std.specs.FinMap.Entries.{below_all, by_order}
use Rattle.std.specs.List.{AllByRecursion, list_all}
use Rattle.std.specs.Option.{is_some}
use Rattle.std.specs.Ordering.{is_lt, is_eq, ordering_reverse}
use Rattle.std.specs.declared.cmp.Ordering.{Ordering}
use Rattle.std.specs.declared.cmp.Ordering.TheVariants.{Less, Equal, Greater}
use Rattle.std.proofs.Common.{◌≡◌, ℕ, Bool, true, false, nat_lt, ◌&&◌, List, [], ◌∷◌, ◌++◌, Some, None, refl, ap, sym}
use Rattle.std.proofs.Common.{◌∙◌, subst, append-nil, append_assoc}
use Rattle.std.proofs.Math.Dec.{T}
use Rattle.std.proofs.lemmas.Bool.{lt-ltb}
use Rattle.std.specs.Prelude.{◌<◌}
use Rattle.alias_base.specs.declared.ids.FunctionId.{FunctionId}
use Rattle.alias_base.specs.declared.ids.IdentifierId.{IdentifierId}
use Rattle.alias_lattice.specs.Keys.{id_cmp}
use Rattle.alias_lattice.specs.KeyLaws.{ids_total}
use Rattle.alias_lattice.specs.PutLaws.{proper_found}
use Rattle.alias_lattice.specs.Maps.{ProperOption}
use Rattle.alias_lattice.specs.ProperStates.{StateProper, SitesProper, is_full as has_site}
use Rattle.alias_lattice.specs.SiteOrder.{site_cmp}
use Rattle.alias_lattice.specs.SiteOrderLaws.{sites_total}
use Rattle.alias_lattice.specs.States.{State, Sites, empty_state, defined_as}
use Rattle.alias_lattice.specs.declared.site.Site.{Site}
use Rattle.alias_lattice.specs.declared.value.AbstractValue.{AbstractValue}
use Rattle.alias_step.specs.declared.block.recorded.BlockEffects.{BlockEffects}
use Rattle.alias_base.specs.declared.ids.BlockId.{BlockId}
use Rattle.alias_certificate.specs.declared.certificate.CertValue.{CertValue}
use Rattle.alias_certificate.specs.states.States.{is_site_there, with_values, with_sites, is_full, are_valued}
use Rattle.alias_certificate.specs.states.States.{is_variable_there, with_variables, stated_state}
use Rattle.alias_certificate_laws.specs.accepting.Saying.{said_value, said_sites, said_variable, said_block, NamesThere}

is_less : (o : Ordering) → T (is_lt o) → o ≡ Less
is_less Less t = refl
is_less Equal t = absurd t
is_less Greater t = absurd t

front : (a b : Bool) → T (a && b) → T a
front true b t = tt
front false b t = absurd t

back : (a b : Bool) → T (a && b) → T b
back true b t = t
back false b t = absurd t

turned : {K : Type 0} (R : K → K → Ordering) → IsTotalOrder R → (j k : K) → R j k ≡ Less → R k j ≡ Greater
turned R total j k h = total.antisymm k j ∙ ap ordering_reverse h

module _ {K X : Type 0} (R : K → K → Ordering) (total : IsTotalOrder R) where
  -- all the keys are below
  abbrev AreBefore : K → List (K × X) → Type 0
  AreBefore k [] = Unit {0}
  AreBefore k (e ∷ es) = (R k e.0 ≡ Greater) × AreBefore k es

  before_more : (k : K) (es : List (K × X)) (e : K × X) → AreBefore k es → R k e.0 ≡ Greater
      → AreBefore k (es ++ e ∷ [])
  before_more k [] e a h = (h, tt)
  before_more k (x ∷ es) e a h = (a.0, before_more k es e a.1 h)

  put_last : (k : K) (v : X) (es : List (K × X)) → AreBefore k es → put R k v es ≡ es ++ (k, v) ∷ []
  put_last k v [] a = refl
  put_last k v (e ∷ es) a = ap (λ o. by_order o ((k, v) ∷ e ∷ es) ((e.0, v) ∷ es) (e ∷ put R k v es)) a.0
      ∙ ap (λ z. e ∷ z) (put_last k v es a.1)

  -- each of the rest is behind those that are done
  abbrev Behind : List (K × X) → List (K × X) → Type 0
  Behind done rest = AllByRecursion (λ (e : K × X). AreBefore e.0 done) rest

  behind_more : (done rest : List (K × X)) (e : K × X) → Behind done rest → T (below_all R e.0 rest)
      → Behind (done ++ e ∷ []) rest
  behind_more done [] e b t = tt
  behind_more done (x ∷ rest) e b t = (
    before_more x.0 done e b.0 (turned R total e.0 x.0
        (is_less (R e.0 x.0) (front (is_lt (R e.0 x.0)) (below_all R e.0 rest) t))),
    behind_more done rest e b.1 (back (is_lt (R e.0 x.0)) (below_all R e.0 rest) t),
  )

  behind_none : (rest : List (K × X)) → Behind [] rest
  behind_none [] = tt
  behind_none (x ∷ rest) = (tt, behind_none rest)

  -- an entry behind others is found
  found_behind : (done rest : List (K × X)) (e : K × X) → AreBefore e.0 done → find R e.0 (done ++ e ∷ rest) ≡ Some e.1
  found_behind [] rest e b = ap (λ o. cond (is_eq o) (Some e.1) (find R e.0 rest)) (tied_itself total e.0)
  found_behind (x ∷ done) rest e b = ap (λ o. cond (is_eq o) (Some x.1) (find R e.0 (done ++ e ∷ rest))) b.0
      ∙ found_behind done rest e b.1

-- ---- values

abbrev state : List (Site × AbstractValue) → List (IdentifierId × Sites) → State
state values variables = record { values = values; variables = variables }

values_rebuilt : (done rest : List (Site × AbstractValue)) → T (is_sorted site_cmp rest)
    → Behind site_cmp sites_total done rest → with_values (map said_value rest) (state done [])
    ≡ state (done ++ rest) []
values_rebuilt done [] t b = ap (λ z. state z []) (sym (append-nil done))
values_rebuilt done (e ∷ rest) t b =
    let below = front (below_all site_cmp e.0 rest) (is_sorted site_cmp rest) t in
    ap (λ z. with_values (map said_value rest) (state z [])) (put_last site_cmp sites_total e.0 e.1 done b.0)
    ∙ values_rebuilt (done ++ e ∷ []) rest (back (below_all site_cmp e.0 rest) (is_sorted site_cmp rest) t)
    (behind_more site_cmp sites_total done rest e b.1 below)
    ∙ ap (λ z. state z []) (append_assoc done (e ∷ []) rest)

-- ---- sets of sites

sites_rebuilt : (done rest : Sites) → T (is_sorted site_cmp rest) → Behind site_cmp sites_total done rest
    → with_sites (said_sites rest) done ≡ done ++ rest
sites_rebuilt done [] t b = sym (append-nil done)
sites_rebuilt done (e ∷ rest) t b =
    let below = front (below_all site_cmp e.0 rest) (is_sorted site_cmp rest) t in
    ap (with_sites (said_sites rest)) (put_last site_cmp sites_total e.0 e.1 done b.0)
    ∙ sites_rebuilt (done ++ e ∷ []) rest (back (below_all site_cmp e.0 rest) (is_sorted site_cmp rest) t)
    (behind_more site_cmp sites_total done rest e b.1 below)
    ∙ append_assoc done (e ∷ []) rest

sites_same : (t : Sites) → SitesProper t → with_sites (said_sites t) [] ≡ t
sites_same t p = sites_rebuilt [] t p.0 (behind_none site_cmp sites_total t)

full_said : (t : Sites) → IsTrue (has_site t) → is_full (said_sites t) ≡ true
full_said [] h = h
full_said (e ∷ es) h = refl

-- each site of a set has a value
valued_said : (s : State) (t done rest : Sites)
    → ((k : Site) → IsTrue (is_some (find site_cmp k t)) → IsTrue (is_some (find site_cmp k s.values))) → done ++ rest
    ≡ t → T (is_sorted site_cmp rest) → Behind site_cmp sites_total done rest
    → are_valued s (said_sites rest) ≡ true
valued_said s t done [] h whole r b = refl
valued_said s t done (e ∷ rest) h whole r b =
    let below = front (below_all site_cmp e.0 rest) (is_sorted site_cmp rest) r in
    let found : find site_cmp e.0 t ≡ Some e.1 = ap (find site_cmp e.0) (sym whole)
    ∙ found_behind site_cmp sites_total done rest e b.0 in
    let there : is_some (find site_cmp e.0 s.values) ≡ true = h e.0 (ap is_some found) in
    ap (λ c. c && are_valued s (said_sites rest)) there
    ∙ valued_said s t (done ++ e ∷ []) rest h (append_assoc done (e ∷ []) rest ∙ whole)
    (back (below_all site_cmp e.0 rest) (is_sorted site_cmp rest) r)
    (behind_more site_cmp sites_total done rest e b.1 below)

-- ---- what is named is there

said_there : (identifiers : ℕ) (created : List FunctionId) (es : List (Site × AbstractValue))
    → list_all (λ (e : Site × AbstractValue). is_site_there identifiers created e.0) es
    ≡ list_all (λ (v : CertValue). is_site_there identifiers created v.site) (map said_value es)
said_there identifiers created [] = refl
said_there identifiers created (e ∷ es) =
    ap (λ c. is_site_there identifiers created e.0 && c) (said_there identifiers created es)

both : (a b : Bool) → a ≡ true → b ≡ true → (a && b) ≡ true
both true b h k = k
both false b h k = cc

-- ---- variables

module _ (s : State) (proper : StateProper s) (identifiers : ℕ) where
  at_set : (x : IdentifierId) (t : Sites) → find id_cmp x s.variables ≡ Some t → SitesProper t
  at_set x t h = subst (ProperOption SitesProper) h (proper_found id_cmp SitesProper s.variables proper.variables x)

  variable_there : (e : IdentifierId × Sites) (done : List (IdentifierId × Sites)) → e.0.0 < identifiers
      → find id_cmp e.0 s.variables ≡ Some e.1 → is_variable_there identifiers (state s.values done) (said_variable e)
      ≡ true
  variable_there e done lt h =
      let valued = proper.all_valued e.0 e.1 h in
      both (nat_lt e.0.0 identifiers) _ (lt-ltb e.0.0 identifiers lt)
      (both (is_full (said_sites e.1)) _ (full_said e.1 valued.full)
      (valued_said (state s.values done) e.1 [] e.1 valued.valued refl (at_set e.0 e.1 h).0
      (behind_none site_cmp sites_total e.1)))

  variables_rebuilt : (done rest : List (IdentifierId × Sites)) → done ++ rest ≡ s.variables → T (is_sorted id_cmp rest)
      → Behind id_cmp ids_total done rest → AllByRecursion (λ (e : IdentifierId × Sites). e.0.0 < identifiers) rest
      → with_variables identifiers (map said_variable rest) (state s.values done) ≡ Some s
  variables_rebuilt done [] whole r b all = ap (λ z. Some (state s.values z)) (sym (append-nil done) ∙ whole)
  variables_rebuilt done (e ∷ rest) whole r b all =
      let below = front (below_all id_cmp e.0 rest) (is_sorted id_cmp rest) r in
      let found : find id_cmp e.0 s.variables ≡ Some e.1 = ap (find id_cmp e.0) (sym whole)
      ∙ found_behind id_cmp ids_total done rest e b.0 in
      ap (λ c. if c then with_variables identifiers (map said_variable rest)
      (defined_as e.0 (with_sites (said_sites e.1) []) (state s.values done)) else None)
      (variable_there e done all.0 found)
      ∙ ap (λ z. with_variables identifiers (map said_variable rest) (defined_as e.0 z (state s.values done)))
      (sites_same e.1 (at_set e.0 e.1 found))
      ∙ ap (λ z. with_variables identifiers (map said_variable rest) (state s.values z))
      (put_last id_cmp ids_total e.0 e.1 done b.0)
      ∙ variables_rebuilt (done ++ e ∷ []) rest (append_assoc done (e ∷ []) rest ∙ whole)
      (back (below_all id_cmp e.0 rest) (is_sorted id_cmp rest) r)
      (behind_more id_cmp ids_total done rest e b.1 below) all.1

  -- what is said of the state says the state
  pub state_rebuilt : (created : List FunctionId) (b : BlockId) (r : BlockEffects) → NamesThere identifiers created s
      → stated_state identifiers created (said_block b s r) ≡ Some s
  state_rebuilt created b r n =
      ap (λ c. if c then with_variables identifiers (map said_variable s.variables)
      (with_values (map said_value s.values) empty_state) else None)
      (sym (said_there identifiers created s.values) ∙ n.values)
      ∙ ap (with_variables identifiers (map said_variable s.variables))
      (values_rebuilt [] s.values proper.values.0 (behind_none site_cmp sites_total s.values))
      ∙ variables_rebuilt [] s.variables refl proper.variables.0 (behind_none id_cmp ids_total s.variables) n.variables
