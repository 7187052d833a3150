-- What is done to a state leaves it named so: it names no more than what is put into it.
use Rattle.std.proofs.Common.{◌≡◌, ℕ, zero, suc, Bool, true, false, cond, List, [], ◌∷◌, Option, Some, None, refl}
use Rattle.std.proofs.Common.{subst}
use Rattle.std.proofs.Math.Dec.{T}
use Rattle.std.specs.Cmp.{IsTotalOrder}
use Rattle.std.specs.FinMap.{find, put, is_sorted, entries_sorted}
use Rattle.std.specs.FinMap.Entries.{by_order}
use Rattle.std.specs.List.{AllByRecursion}
use Rattle.std.specs.Ordering.{eq_by_cmp}
use Rattle.std.specs.declared.cmp.Ordering.{Ordering}
use Rattle.std.specs.declared.cmp.Ordering.TheVariants.{Less, Equal, Greater}
use Rattle.alias_base.specs.declared.ids.BlockId.{BlockId}
use Rattle.alias_base.specs.declared.ids.FunctionId.{FunctionId}
use Rattle.alias_base.specs.declared.ids.IdentifierId.{IdentifierId}
use Rattle.alias_hir.specs.declared.effect.ValueReason.{ValueReason}
use Rattle.alias_hir.specs.declared.place.Place.{Place}
use Rattle.alias_lattice.specs.AbstractValues.{abstract_join}
use Rattle.alias_lattice.specs.Keys.{id_cmp}
use Rattle.alias_lattice.specs.KeyLaws.{ids_total}
use Rattle.alias_lattice.specs.ListMaps.{list_map, list_join, joined_list}
use Rattle.alias_lattice.specs.Maps.{join_option, join_value, map_join}
use Rattle.alias_lattice.specs.ProperStates.{StateProper}
use Rattle.alias_lattice.specs.SiteOrder.{site_cmp}
use Rattle.alias_lattice.specs.SiteOrderLaws.{sites_total}
use Rattle.alias_lattice.specs.States.{State, Sites, sites_of, empty_state, one_site, initialized, defined_as}
use Rattle.alias_lattice.specs.States.{defined_at, defaulted, defaulted_at, value_at, given, assigned, assigned_at}
use Rattle.alias_lattice.specs.States.{appended, both_sites, sites_join, phied, operand_ids, union_over, state_join}
use Rattle.alias_lattice.specs.States.{frozen, frozen_at, frozen_for, all_set, does_freeze, mutable_other}
use Rattle.alias_lattice.specs.Units.{unit_join}
use Rattle.alias_lattice.specs.declared.site.Site.{Site}
use Rattle.alias_lattice.specs.declared.site.Site.TheVariants as site
use Rattle.alias_lattice.specs.declared.site.Site.TheVariants.{Function, Default}
use Rattle.alias_lattice.specs.declared.value.AbstractValue.{AbstractValue}
use Rattle.alias_lattice.proofs.Belows.{joined_is}
use Rattle.alias_apply.specs.freezing.Transitive.{at_sites, where_frozen, at_place, at_places, at_site, live}
use Rattle.alias_apply.specs.freezing.Transitive.{levels_frozen, frozen_transitively, place_frozen_transitively}
use Rattle.alias_apply.specs.freezing.Sites.{sites_at}
use Rattle.alias_effects_laws.specs.entries.Named.{SiteNamed, SitesNamed, StateNamed}
use Rattle.alias_walks.specs.Words.{all_mapped as all_on}

-- ---- lists of entries

-- E of a key and a value, where it is of the key and of the value by itself
module _ {K X : Type 0} (R : K → K → Ordering) (E : K × X → Type 0)
    (mix : (x y : K) (v w : X) → E (x, v) → E (y, w) → E (x, w)) where
  -- an entry that is put in: at a key that ties the key stays
  all_put : (k : K) (v : X) (es : List (K × X)) → E (k, v) → AllByRecursion E es → AllByRecursion E (put R k v es)
  all_put k v [] here h = (here, tt)
  all_put k v (e ∷ es) here h =
      elim (R k e.0) as (λ r. AllByRecursion E (by_order r ((k, v) ∷ e ∷ es) ((e.0, v) ∷ es) (e ∷ put R k v es))) [
        | Less ↦ (here, h)
        | Equal ↦ (mix e.0 k e.1 v h.0 here, h.1)
        | Greater ↦ (h.0, all_put k v es here h.1)
      ]

  -- a value that is found is one of an entry
  found_in : (k : K) (es : List (K × X)) (v : X) → find R k es ≡ Some v → AllByRecursion E es → (x : K) × E (x, v)
  found_in k [] v e h = cc
  found_in k (x ∷ es) v e h =
      elim (eq_by_cmp R k x.0) as (λ b. cond b (Some x.1) (find R k es) ≡ Some v → (y : K) × E (y, v)) [
        | true ↦ λ g. let same : x.1 ≡ v = cc in (x.0, subst (λ w. E (x.0, w)) same h.0)
        | false ↦ λ g. found_in k es v g h.1
      ] e

  module _ (o : IsTotalOrder R) (j : X → X → X) (joins : (x : K) (v w : X) → E (x, v) → E (x, w) → E (x, j v w)) where
    joined_value : (k : K) (v : X) (old : Option X) → ((w : X) → old ≡ Some w → (x : K) × E (x, w)) → E (k, v)
        → E (k, join_value j old v)
    joined_value k v None f h = h
    joined_value k v (Some w) f h = let g = f w refl in joins k w v (mix k g.0 v w h g.1) h

    each_joined : (xs es : List (K × X)) → AllByRecursion E xs → AllByRecursion E es
        → AllByRecursion E (joined_list R j xs es)
    each_joined xs [] h g = h
    each_joined xs (e ∷ es) h g =
        let now : E (e.0, join_value j (find R e.0 xs) e.1) =
        joined_value e.0 e.1 (find R e.0 xs) (λ w f. found_in e.0 xs w f h) g.0 in
        each_joined (put R e.0 (join_value j (find R e.0 xs) e.1) xs) es
        (all_put e.0 (join_value j (find R e.0 xs) e.1) xs now h) g.1

    -- lists that ascend, joined
    all_joined : (xs es : List (K × X)) → T (is_sorted R xs) → T (is_sorted R es) → AllByRecursion E xs
        → AllByRecursion E es → AllByRecursion E (list_join R j xs es)
    all_joined xs es s t h g = subst (AllByRecursion E) (joined_is R o j xs es s t) (each_joined xs es h g)

module _ (N : ℕ → Type 0) (F : FunctionId → Type 0) where
  -- ---- sets

  -- the sites of the set are named so, and ascend
  abbrev pub SetNamed : Sites → Type 0
  SetNamed t = SitesNamed N F t × T (is_sorted site_cmp t)

  abbrev pub IfNamed : Option Sites → Type 0
  IfNamed None = Unit {0}
  IfNamed (Some t) = SetNamed t

  abbrev OfSite : {X : Type 0} → Site × X → Type 0
  OfSite e = SiteNamed N F e.0

  set_one : (k : Site) → SiteNamed N F k → SetNamed (one_site k)
  set_one k h = ((h, tt), tt)

  set_join : (t u : Sites) → SetNamed t → SetNamed u → SetNamed (sites_join t u)
  set_join t u h g = (
    all_joined site_cmp (OfSite {X = Unit {0}}) (λ x y v w p q. p) sites_total unit_join (λ x v w p q. p) t u h.1 g.1
        h.0 g.0,
    entries_sorted (map_join site_cmp unit_join (list_map site_cmp t) (list_map site_cmp u)),
  )

  both_named : (o p : Option Sites) → IfNamed o → IfNamed p → IfNamed (both_sites o p)
  both_named None p h g = tt
  both_named (Some t) None h g = tt
  both_named (Some t) (Some u) h g = set_join t u h g

  join_named : (o p : Option Sites) → IfNamed o → IfNamed p → IfNamed (join_option sites_join o p)
  join_named None p h g = g
  join_named (Some t) None h g = h
  join_named (Some t) (Some u) h g = set_join t u h g

  -- ---- states

  abbrev OfVariable : IdentifierId × Sites → Type 0
  OfVariable e = N e.0.0 × SetNamed e.1

  -- what is kept: a named state whose sets ascend
  pub record Stating (s : State) : Type 0 where
    pub values : AllByRecursion (λ (e : Site × AbstractValue). SiteNamed N F e.0) s.values
    pub variables : AllByRecursion OfVariable s.variables

  pub state_named : (s : State) → Stating s → StateNamed N F s
  state_named s h = record {
    values = h.values;
    variables = all_on OfVariable (λ (e : IdentifierId × Sites). N e.0.0 × SitesNamed N F e.1) (λ e i. (i.0, i.1.0))
        s.variables h.variables;
  }

  mixed : (x y : IdentifierId) (v w : Sites) → OfVariable (x, v) → OfVariable (y, w) → OfVariable (x, w)
  mixed x y v w p q = (p.0, q.1)

  pub named_empty : Stating empty_state
  named_empty = record { values = tt; variables = tt }

  named_defined_as : (x : IdentifierId) (t : Sites) (s : State) → N x.0 → SetNamed t → Stating s
      → Stating (defined_as x t s)
  named_defined_as x t s n g h = record {
    values = h.values;
    variables = all_put id_cmp OfVariable mixed x t s.variables (n, g) h.variables;
  }

  named_initialized : (k : Site) (v : AbstractValue) (s : State) → SiteNamed N F k → Stating s
      → Stating (initialized k v s)
  named_initialized k v s n h = record {
    values =
        all_put site_cmp (OfSite {X = AbstractValue}) (λ x y v w p q. p) k v s.values n h.values;
    variables = h.variables;
  }

  pub named_given : (x : IdentifierId) (k : Site) (v : AbstractValue) (s : State) → N x.0 → SiteNamed N F k → Stating s
      → Stating (given x k v s)
  named_given x k v s n g h = named_defined_as x (one_site k) (initialized k v s) n (set_one k g)
      (named_initialized k v s g h)

  named_defaulted_at : (o : Option AbstractValue) (k : Site) (s : State) → SiteNamed N F k → Stating s
      → Stating (defaulted_at o k s)
  named_defaulted_at None k s n h = named_initialized k mutable_other s n h
  named_defaulted_at (Some v) k s n h = h

  -- the set of an identifier, where there is one
  pub set_found : (s : State) (x : IdentifierId) (o : Option Sites) → sites_of s x ≡ o → Stating s → IfNamed o
  set_found s x None e h = tt
  set_found s x (Some t) e h = (found_in id_cmp OfVariable mixed x s.variables t e h.variables).1.1

  named_assigned_at : (o : Option Sites) (into from : IdentifierId) (s : State) → IfNamed o → N into.0 → N from.0
      → Stating s → Stating (assigned_at o into from s)
  named_assigned_at None into from s g n m h =
      named_defined_as into (one_site (Default from)) (defaulted (Default from) s) n (set_one (Default from) m)
      (named_defaulted_at (value_at s (Default from)) (Default from) s m h)
  named_assigned_at (Some t) into from s g n m h = named_defined_as into t s n g h

  pub named_assigned : (into from : IdentifierId) (s : State) → N into.0 → N from.0 → Stating s
      → Stating (assigned into from s)
  named_assigned into from s n m h = named_assigned_at (sites_of s from) into from s
      (set_found s from (sites_of s from) refl h) n m h

  named_defined_at : (o : Option Sites) (x : IdentifierId) (s : State) → IfNamed o → N x.0 → Stating s
      → Stating (defined_at o x s)
  named_defined_at None x s g n h = h
  named_defined_at (Some t) x s g n h = named_defined_as x t s n g h

  pub named_appended : (x v : IdentifierId) (s : State) → N x.0 → Stating s → Stating (appended x v s)
  named_appended x v s n h =
      named_defined_at (both_sites (sites_of s x) (sites_of s v)) x s
      (both_named (sites_of s x) (sites_of s v) (set_found s x (sites_of s x) refl h)
      (set_found s v (sites_of s v) refl h)) n h

  union_named : (s : State) (xs : List IdentifierId) (o : Option Sites) → Stating s → IfNamed o
      → IfNamed (union_over s.variables xs o)
  union_named s [] o h g = g
  union_named s (x ∷ xs) o h g =
      union_named s xs (join_option sites_join o (find id_cmp x s.variables)) h
      (join_named o (find id_cmp x s.variables) g (set_found s x (find id_cmp x s.variables) refl h))

  pub named_phied : (phi : IdentifierId) (operands : List (BlockId × Place)) (s : State) → N phi.0 → Stating s
      → Stating (phied phi operands s)
  named_phied phi operands s n h = named_defined_at (union_over s.variables (operand_ids operands) None) phi s
      (union_named s (operand_ids operands) None h tt) n h

  -- the join of two states whose lists ascend
  pub named_join : (a b : State) → StateProper a → StateProper b → Stating a → Stating b → Stating (state_join a b)
  named_join a b p q h g = record {
    values = all_joined site_cmp (OfSite {X = AbstractValue}) (λ x y v w i k. i) sites_total abstract_join
        (λ x v w i k. i) a.values b.values p.values.0 q.values.0 h.values g.values;
    variables =
        all_joined id_cmp OfVariable mixed ids_total sites_join (λ x v w i k. (i.0, set_join v w i.1 k.1)) a.variables
        b.variables p.variables.0 q.variables.0 h.variables g.variables;
  }

  -- ---- freezing

  abbrev Values : List (Site × AbstractValue) → Type 0
  Values m = AllByRecursion (λ (e : Site × AbstractValue). SiteNamed N F e.0) m

  all_set_named : (v : AbstractValue) (t : Sites) (m : List (Site × AbstractValue)) → SitesNamed N F t → Values m
      → Values (all_set v t m)
  all_set_named v [] m g h = h
  all_set_named v (e ∷ es) m g h = all_set_named v es (put site_cmp e.0 v m) g.1
      (all_put site_cmp (OfSite {X = AbstractValue}) (λ x y v w i k. i) e.0 v m g.0 h)

  frozen_values : (v : AbstractValue) (b : Bool) (o : Option Sites) (m : List (Site × AbstractValue)) → IfNamed o
      → Values m → Values (frozen_at v b o m)
  frozen_values v true (Some t) m g h = all_set_named v t m g.0 h
  frozen_values v true None m g h = h
  frozen_values v false o m g h = h

  pub named_frozen : (x : IdentifierId) (r : ValueReason) (s : State) → Stating s → Stating (frozen x r s)
  named_frozen x r s h = record {
    values =
        frozen_values (frozen_for r) (does_freeze s x) (sites_of s x) s.values (set_found s x (sites_of s x) refl h)
        h.values;
    variables = h.variables;
  }

  module _ (going : Site → State → State) (kept : (k : Site) (s : State) → Stating s → Stating (going k s)) where
    named_at_sites : (ks : List Site) (s : State) → Stating s → Stating (at_sites going ks s)
    named_at_sites [] s h = h
    named_at_sites (k ∷ ks) s h = named_at_sites ks (going k s) (kept k s h)

    module _ (r : ValueReason) where
      named_where_frozen : (b : Bool) (p : IdentifierId) (s : State) → Stating s → Stating (where_frozen going r b p s)
      named_where_frozen true p s h = named_at_sites (sites_at s p) (frozen p r s) (named_frozen p r s h)
      named_where_frozen false p s h = h

      named_at_places : (ps : List Place) (s : State) → Stating s → Stating (at_places going r ps s)
      named_at_places [] s h = h
      named_at_places (p ∷ ps) s h = named_at_places ps (at_place going r p.identifier s)
          (named_where_frozen (does_freeze s p.identifier) p.identifier s h)

      named_at_site : (context : FunctionId → List Place) (k : Site) (s : State) → Stating s
          → Stating (at_site going r context k s)
      named_at_site context (Function f) s h = named_at_places (context f) s h
      named_at_site context k s h = h

  module _ (r : ValueReason) (context : FunctionId → List Place) where
    named_levels : (n : ℕ) (k : Site) (s : State) → Stating s → Stating (levels_frozen r context n k s)
    named_levels zero k s h = h
    named_levels (suc n) k s h = named_at_site (levels_frozen r context n) (named_levels n) r context k s h

    pub named_place_frozen_transitively : (p : IdentifierId) (s : State) → Stating s
        → Stating (place_frozen_transitively r context p s)
    named_place_frozen_transitively p s h =
        named_at_sites (frozen_transitively r context) (λ k u i. named_levels (suc (live u.values)) k u i)
        (sites_at s p) s h

-- ---- other names

module _ (N M : ℕ → Type 0) (F G : FunctionId → Type 0) (on : (n : ℕ) → N n → M n)
    (functions_on : (f : FunctionId) → F f → G f) where
  site_on : (k : Site) → SiteNamed N F k → SiteNamed M G k
  site_on (site.Parameter x) h = on x.0 h
  site_on (site.Context x) h = on x.0 h
  site_on (site.Created into kind reason) h = on into.0 h
  site_on (site.CreatedFrom from into) h = (on from.0 h.0, on into.0 h.1)
  site_on (site.Function f) h = functions_on f h
  site_on (site.AssignFrozen from into) h = (on from.0 h.0, on into.0 h.1)
  site_on (site.AssignCopy from into) h = (on from.0 h.0, on into.0 h.1)
  site_on (site.Default x) h = on x.0 h

  pub stating_on : (s : State) → Stating N F s → Stating M G s
  stating_on s h = record {
    values = all_on (λ (e : Site × AbstractValue). SiteNamed N F e.0) (λ (e : Site × AbstractValue). SiteNamed M G e.0)
        (λ e. site_on e.0) s.values h.values;
    variables =
        all_on (λ (e : IdentifierId × Sites). N e.0.0 × SetNamed N F e.1)
        (λ (e : IdentifierId × Sites). M e.0.0 × SetNamed M G e.1)
        (λ e i. (
          on e.0.0 i.0,
          (
            all_on (λ (k : Site × Unit {0}). SiteNamed N F k.0)
                (λ (k : Site × Unit {0}). SiteNamed M G k.0) (λ k. site_on k.0) e.1 i.1.0,
            i.1.1,
          ),
        )) s.variables h.variables;
  }
