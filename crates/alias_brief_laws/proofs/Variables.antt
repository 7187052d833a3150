-- The sets that a state has beyond one below it give its sets again.
use Rattle.std.specs.Prelude.{◌&&◌, cond, if◌then◌else◌, IsTrue, ◌++◌, ℕ, nat_lt}
use Rattle.std.specs.List.{AllByRecursion, list_all}
use Rattle.std.proofs.Common.{◌≡◌, Bool, true, false, List, [], ◌∷◌, Option, Some, None, refl, ap, sym, ◌∙◌, subst}
use Rattle.std.proofs.Math.Dec.{T}
use Rattle.std.specs.Option.{is_some}
use Rattle.std.specs.Ordering.{eq_by_cmp}
use Rattle.std.specs.FinMap.{find, is_sorted, entries_sorted}
use Rattle.std.specs.FinMap.Entries.{find-put, is_sorted-put, same_entries}
use Rattle.alias_base.specs.declared.ids.IdentifierId.{IdentifierId}
use Rattle.alias_lattice.specs.AbstractValues.{abstract_below}
use Rattle.alias_lattice.specs.JoinLaws.{sites_laws}
use Rattle.alias_lattice.specs.KeyLaws.{ids_apart, ids_total}
use Rattle.alias_lattice.specs.Keys.{id_cmp}
use Rattle.alias_lattice.specs.ListMaps.{list_join, list_below}
use Rattle.alias_lattice.specs.MapLaws.{equal}
use Rattle.alias_lattice.specs.Maps.{join_option, below_option, ProperOption}
use Rattle.alias_lattice.specs.PairLaws.{and-second}
use Rattle.alias_lattice.specs.ProperStates.{StateProper, SitesProper}
use Rattle.alias_lattice.specs.ProperStates as proper
use Rattle.alias_lattice.specs.PutLaws.{proper_found, find-join}
use Rattle.alias_lattice.specs.SiteOrder.{site_cmp}
use Rattle.alias_lattice.specs.SiteOrderLaws.{sites_apart, sites_total}
use Rattle.alias_lattice.specs.States.{State, Sites, defined_as, sites_of, state_below, sites_join, sites_below}
use Rattle.alias_lattice.specs.Units.{unit_join}
use Rattle.alias_lattice.specs.declared.site.Site.{Site}
use Rattle.alias_lattice.specs.declared.value.AbstractValue.{AbstractValue}
use Rattle.alias_certificate.specs.declared.certificate.CertVariable.{CertVariable}
use Rattle.alias_certificate.specs.states.Beyond.{more_sites, more_of, more_variables}
use Rattle.alias_certificate.specs.states.States.{with_sites, is_full, is_variable_there, with_variables}
use Rattle.alias_certificate.proofs.raised.Picking.{none_behind, sorted_rest, found_below, join_nil}
use Rattle.alias_brief_laws.proofs.SitesAgain.{sites_from_none, sites_from_part}

-- ---- what is defined

-- the set of these sites, if there are any
abbrev pub sites_or : List Site → Option Sites → Option Sites
sites_or [] z = z
sites_or (k ∷ ks) z = Some (with_sites (k ∷ ks) [])

-- the set of what the old one lacks
abbrev pub set_picked : Option Sites → Option Sites → Option Sites → Option Sites
set_picked old None z = z
set_picked old (Some t) z = sites_or (more_sites old t) z

-- the identifier can be defined as these sites
pub record CanBe (n : ℕ) (m : List (Site × AbstractValue)) (x : IdentifierId) (ks : List Site) : Type 0 where
  pub below : is_full ks ≡ true → nat_lt x.0 n ≡ true
  pub valued : list_all (λ k. is_some (find site_cmp k m)) ks ≡ true

abbrev pub AllCanBe : ℕ → State → List (Site × AbstractValue) → List (IdentifierId × Sites) → Type 0
AllCanBe n old m es =
    AllByRecursion (λ (e : IdentifierId × Sites). CanBe n m e.0 (more_sites (sites_of old e.0) e.1)) es

-- what lines define
pub record Defines (n : ℕ) (lines : List CertVariable) (found : IdentifierId → Option Sites) (s : State) : Type 0 where
  pub state : State
  pub is : with_variables n lines s ≡ Some state
  pub values : state.values ≡ s.values
  pub sorted : T (is_sorted id_cmp state.variables)
  pub finds : (x : IdentifierId) → sites_of state x ≡ found x

abbrev pub found_in : State → List (IdentifierId × Sites) → State → IdentifierId → Option Sites
found_in old es s x = set_picked (sites_of old x) (find id_cmp x es) (sites_of s x)

pub tied_id : (x y : IdentifierId) → eq_by_cmp id_cmp x y ≡ true → x ≡ y
tied_id x y t = ids_apart x y (equal (id_cmp x y) (subst T (sym t) tt))

abbrev Rest : ℕ → State → List (IdentifierId × Sites) → List (Site × AbstractValue) → Type 0
Rest n old es m = (z : State) → T (is_sorted id_cmp z.variables) → z.values ≡ m
    → Defines n (more_variables old es) (found_in old es z) z

there_is : (n : ℕ) (s : State) (x : IdentifierId) (k : Site) (ks : List Site) → CanBe n s.values x (k ∷ ks)
    → is_variable_there n s (record { identifier = x; sites = k ∷ ks }) ≡ true
there_is n s x k ks c = ap (λ b. b && list_all (λ q. is_some (find site_cmp q s.values)) (k ∷ ks)) (c.below refl)
    ∙ c.valued

module _ (n : ℕ) (old : State) (e : IdentifierId × Sites) (es : List (IdentifierId × Sites)) (s : State)
    (sorted : T (is_sorted id_cmp (e ∷ es))) (ascends : T (is_sorted id_cmp s.variables))
    (rest : Rest n old es s.values) where
  -- where nothing is lacking
  found_none : more_sites (sites_of old e.0) e.1 ≡ [] → (x : IdentifierId) (u : Bool) → eq_by_cmp id_cmp x e.0 ≡ u
      → found_in old es s x ≡ set_picked (sites_of old x) (cond u (Some e.1) (find id_cmp x es)) (sites_of s x)
  found_none is x true u =
      ap (λ o. set_picked (sites_of old x) o (sites_of s x)) (none_behind id_cmp ids_total x e es sorted u)
      ∙ sym (ap (λ ks. sites_or ks (sites_of s x)) (ap (λ y. more_sites (sites_of old y) e.1) (tied_id x e.0 u) ∙ is))
  found_none is x false u = refl

  found_more : (k : Site) (ks : List Site) → more_sites (sites_of old e.0) e.1 ≡ k ∷ ks → (x : IdentifierId) (u : Bool)
      → eq_by_cmp id_cmp x e.0 ≡ u
      → found_in old es (defined_as e.0 (with_sites (k ∷ ks) []) s) x
      ≡ set_picked (sites_of old x) (cond u (Some e.1) (find id_cmp x es)) (sites_of s x)
  found_more k ks is x true u =
      let t = with_sites (k ∷ ks) [] in
      ap (λ o. set_picked (sites_of old x) o (sites_of (defined_as e.0 t s) x))
      (none_behind id_cmp ids_total x e es sorted u)
      ∙ find-put id_cmp ids_total x e.0 t s.variables ∙ ap (λ b. cond b (Some t) (sites_of s x)) u
      ∙ sym (ap (λ js. sites_or js (sites_of s x)) (ap (λ y. more_sites (sites_of old y) e.1) (tied_id x e.0 u) ∙ is))
  found_more k ks is x false u =
      let t = with_sites (k ∷ ks) [] in
      ap (set_picked (sites_of old x) (find id_cmp x es))
      (find-put id_cmp ids_total x e.0 t s.variables ∙ ap (λ b. cond b (Some t) (sites_of s x)) u)

  first_defines : (ks : List Site) → more_sites (sites_of old e.0) e.1 ≡ ks → CanBe n s.values e.0 ks
      → Defines n (more_of e.0 ks ++ more_variables old es) (found_in old (e ∷ es) s) s
  first_defines [] is c =
      let r = rest s ascends refl in
      record {
        state = r.state;
        is = r.is;
        values = r.values;
        sorted = r.sorted;
        finds = λ x. r.finds x ∙ found_none is x (eq_by_cmp id_cmp x e.0) refl;
      }
  first_defines (k ∷ ks) is c =
      let t = with_sites (k ∷ ks) [] in
      let r = rest (defined_as e.0 t s) (is_sorted-put id_cmp ids_total e.0 t s.variables ascends) refl in
      record {
        state = r.state;
        is = ap (λ b. if b then with_variables n (more_variables old es) (defined_as e.0 t s) else None)
            (there_is n s e.0 k ks c) ∙ r.is;
        values = r.values;
        sorted = r.sorted;
        finds = λ x. r.finds x ∙ found_more k ks is x (eq_by_cmp id_cmp x e.0) refl;
      }

pub defines : (n : ℕ) (old : State) (es : List (IdentifierId × Sites)) (s : State) (m : List (Site × AbstractValue))
    → T (is_sorted id_cmp es) → T (is_sorted id_cmp s.variables) → s.values ≡ m → AllCanBe n old m es
    → Defines n (more_variables old es) (found_in old es s) s
defines n old [] s m sorted ascends same c =
    record { state = s; is = refl; values = refl; sorted = ascends; finds = λ x. refl }
defines n old (e ∷ es) s m sorted ascends same c =
    first_defines n old e es s sorted ascends
    (λ z a is. defines n old es z m (sorted_rest id_cmp ids_total e es sorted) a (is ∙ same) c.1)
    (more_sites (sites_of old e.0) e.1) refl
    (subst (λ vs. CanBe n vs e.0 (more_sites (sites_of old e.0) e.1)) (sym same) c.0)

-- ---- what that gives

-- a set that may be missing is proper, and has a site
abbrev IfFull : Option Sites → Type 0
IfFull o = ProperOption (λ (t : Sites). SitesProper t × IsTrue (proper.is_full t)) o

from_none : (t : Sites) → SitesProper t → IsTrue (proper.is_full t) → (ks : List Site) → more_sites None t ≡ ks
    → join_option sites_join None (sites_or ks None) ≡ Some t
from_none t h full [] is =
    let empty : [] ≡ t = ap (λ ks. with_sites ks []) (sym is) ∙ sites_from_none t h.0 in
    let two : false ≡ true = ap proper.is_full empty ∙ full in cc
from_none t h full (k ∷ ks) is = ap Some (ap (λ js. with_sites js []) (sym is) ∙ sites_from_none t h.0)

from_part : (o t : Sites) → SitesProper o → SitesProper t → IsTrue (sites_below o t) → (ks : List Site)
    → more_sites (Some o) t ≡ ks → join_option sites_join (Some o) (sites_or ks (Some o)) ≡ Some t
from_part o t ho ht part [] is =
    ap Some (sites_laws.idempotent o ho ∙ sym (join_nil site_cmp sites_total sites_apart unit_join o ho.0)
    ∙ ap (λ ks. sites_join o (with_sites ks [])) (sym is) ∙ sites_from_part o t ho.0 ht.0 part)
from_part o t ho ht part (k ∷ ks) is =
    ap Some (ap (λ js. sites_join o (with_sites js [])) (sym is) ∙ sites_from_part o t ho.0 ht.0 part)

sets_again : (a b : Option Sites) → ProperOption SitesProper a → IfFull b → IsTrue (below_option sites_below a b)
    → join_option sites_join a (set_picked a b a) ≡ b
sets_again None None p q h = refl
sets_again (Some o) None p q h = cc
sets_again None (Some t) p q h = from_none t q.0 q.1 (more_sites None t) refl
sets_again (Some o) (Some t) p q h = from_part o t p q.0 h (more_sites (Some o) t) refl

module _ (a s : State) (ha : StateProper a) (hs : StateProper s) (below : IsTrue (state_below a s)) where
  set_below : (x : IdentifierId) → IsTrue (below_option sites_below (sites_of a x) (sites_of s x))
  set_below x =
      let second = and-second (list_below site_cmp abstract_below a.values s.values)
      (list_below id_cmp sites_below a.variables s.variables) below in
      found_below id_cmp ids_total sites_below a.variables s.variables ha.variables.0 hs.variables.0 second x

  full_at : (x : IdentifierId) (o : Option Sites) → sites_of s x ≡ o → IfFull o
  full_at x None is = tt
  full_at x (Some t) is = (
    subst (ProperOption SitesProper) is (proper_found id_cmp SitesProper s.variables hs.variables x),
    (hs.all_valued x t is).full,
  )

  -- the sets of the other state, once more
  pub variables_again : (u : List (IdentifierId × Sites)) → T (is_sorted id_cmp u)
      → ((x : IdentifierId) → find id_cmp x u ≡ set_picked (sites_of a x) (sites_of s x) (sites_of a x))
      → list_join id_cmp sites_join a.variables u ≡ s.variables
  variables_again u sorted finds =
      same_entries id_cmp ids_total ids_apart (list_join id_cmp sites_join a.variables u) s.variables
      (entries_sorted _) hs.variables.0 (λ x.
      find-join id_cmp ids_total sites_join a.variables u x ha.variables.0 sorted
      ∙ ap (join_option sites_join (sites_of a x)) (finds x)
      ∙ sets_again (sites_of a x) (sites_of s x) (proper_found id_cmp SitesProper a.variables ha.variables x)
      (full_at x (sites_of s x) refl) (set_below x))
