-- Freezing transitively from a site is the recursion: it goes into all that the site reaches.
use Rattle.std.specs.Prelude.{◌≡◌, ℕ, ◌+◌, ◌-◌, ◌<◌, ◌≤◌, Bool, true, false, cond, ◌&&◌, ◌||◌, List, [], ◌∷◌, Option}
use Rattle.std.specs.Prelude.{Some, None, refl}
use Rattle.std.proofs.Common.{length, zero, suc, ap, sym, ◌∙◌, subst, arith}
use Rattle.std.proofs.Math.Dec.{T}
use Rattle.std.specs.Ordering.{eq_by_cmp, is_eq, is_lt}
use Rattle.std.specs.declared.cmp.Ordering.TheVariants.{Less, Equal, Greater}
use Rattle.std.specs.FinMap.{find, put, is_sorted}
use Rattle.std.specs.FinMap.Entries.{below_all, is_sorted-put, find-put, by_order}
use Rattle.alias_base.specs.declared.ids.FunctionId.{FunctionId}
use Rattle.alias_base.specs.declared.ids.IdentifierId.{IdentifierId}
use Rattle.alias_hir.specs.declared.effect.ValueReason.{ValueReason}
use Rattle.alias_hir.specs.declared.place.Place.{Place}
use Rattle.alias_lattice.specs.Maps.{join_option}
use Rattle.alias_lattice.specs.MapLaws.{lesser, equal}
use Rattle.alias_lattice.specs.PairLaws.{T-first, T-second}
use Rattle.alias_lattice.specs.Kinds.{kind_join}
use Rattle.alias_lattice.specs.AbstractValues.{abstract_join}
use Rattle.alias_lattice.specs.declared.value.AbstractValue.{AbstractValue}
use Rattle.alias_hir.specs.declared.effect.ValueKind.{ValueKind}
use Rattle.alias_hir.specs.declared.effect.ValueKind.TheVariants.{Primitive, Global, Frozen, Mutable, Context}
use Rattle.alias_hir.specs.declared.effect.ValueKind.TheVariants.{MaybeFrozen}
use Rattle.alias_lattice.specs.declared.site.Site.{Site}
use Rattle.alias_lattice.specs.declared.site.Site.TheVariants.{Parameter, Context as OfContext, Created, CreatedFrom}
use Rattle.alias_lattice.specs.declared.site.Site.TheVariants.{Function, AssignFrozen, AssignCopy, Default}
use Rattle.alias_lattice.specs.SiteOrder.{site_cmp}
use Rattle.alias_lattice.specs.SiteOrderLaws.{sites_total, sites_apart}
use Rattle.alias_lattice.specs.States.{State, Sites, sites_of, frozen, frozen_at, frozen_for, all_set, does_freeze}
use Rattle.alias_lattice.specs.States.{does_freeze_at, freezes, freezes_value, value_over}
use Rattle.alias_apply.specs.freezing.Sites.{sites_at}
use Rattle.alias_apply.specs.freezing.Transitive.{at_sites, where_frozen, at_place, at_places, at_site, lives, live}
use Rattle.alias_apply.specs.freezing.Transitive.{levels_frozen, frozen_transitively}

abbrev pub Sorted : State → Type 0
Sorted s = T (is_sorted site_cmp s.values)

abbrev is_live_kind : ValueKind → Bool
is_live_kind Frozen = false
is_live_kind k = true

kinds_cold : (k l : ValueKind) → is_live_kind k ≡ false → is_live_kind l ≡ false → is_live_kind (kind_join k l) ≡ false
kinds_cold Frozen Frozen h g = refl
kinds_cold Frozen Primitive h g = cc
kinds_cold Frozen Global h g = cc
kinds_cold Frozen Mutable h g = cc
kinds_cold Frozen Context h g = cc
kinds_cold Frozen MaybeFrozen h g = cc
kinds_cold Primitive l h g = cc
kinds_cold Global l h g = cc
kinds_cold Mutable l h g = cc
kinds_cold Context l h g = cc
kinds_cold MaybeFrozen l h g = cc

freezing_kind : (k : ValueKind) → freezes k ≡ true → is_live_kind k ≡ true
freezing_kind Frozen h = cc
freezing_kind Primitive h = refl
freezing_kind Global h = refl
freezing_kind Mutable h = refl
freezing_kind Context h = refl
freezing_kind MaybeFrozen h = refl

-- putting a frozen value at a site
module _ (v : AbstractValue) (cold : v.kind ≡ Frozen) where
  none_lives : lives v.kind ≡ 0
  none_lives = ap lives cold

  live_put : (k : Site) (m : List (Site × AbstractValue)) → live (put site_cmp k v m) ≤ live m
  live_put k [] = let e = none_lives in omega arith
  live_put k (x ∷ m) =
      let e = none_lives in
      let ih = live_put k m in
      elim (site_cmp k x.0) as (λ o. live (by_order o ((k, v) ∷ x ∷ m) ((x.0, v) ∷ m) (x ∷ put site_cmp k v m))
      ≤ lives x.1.kind + live m) [
        | Less ↦ omega arith
        | Equal ↦ omega arith
        | Greater ↦ omega arith
      ]

  live_all_set : (t : Sites) (m : List (Site × AbstractValue)) → live (all_set v t m) ≤ live m
  live_all_set [] m = omega arith
  live_all_set (e ∷ t) m = let a = live_put e.0 m in let b = live_all_set t (put site_cmp e.0 v m) in omega arith

  sorted_all_set : (t : Sites) (m : List (Site × AbstractValue)) → T (is_sorted site_cmp m)
      → T (is_sorted site_cmp (all_set v t m))
  sorted_all_set [] m h = h
  sorted_all_set (e ∷ t) m h = sorted_all_set t (put site_cmp e.0 v m) (is_sorted-put site_cmp sites_total e.0 v m h)

abbrev is_live : Option AbstractValue → Bool
is_live None = false
is_live (Some w) = is_live_kind w.kind

less_than : (x y : Site) → site_cmp x y ≡ Less → T (is_lt (site_cmp x y))
less_than x y e = subst (λ r. T (is_lt r)) (sym e) tt

T-both : (a b : Bool) → T a → T b → T (a && b)
T-both true b p q = q
T-both false b p q = p

-- a key that is below all isn't found
unfound : (k : Site) (m : List (Site × AbstractValue)) → T (below_all site_cmp k m) → find site_cmp k m ≡ None
unfound k [] h = refl
unfound k (x ∷ m) h =
    ap (λ o. cond (is_eq o) (Some x.1) (find site_cmp k m))
    (lesser _ (T-first (is_lt (site_cmp k x.0)) (below_all site_cmp k m) h))
    ∙ unfound k m (T-second (is_lt (site_cmp k x.0)) (below_all site_cmp k m) h)

below_less : (x y : Site) (m : List (Site × AbstractValue)) → site_cmp x y ≡ Less → T (below_all site_cmp y m)
    → T (below_all site_cmp x m)
below_less x y [] p h = tt
below_less x y (e ∷ m) p h =
    T-both _ _ (less_than x e.0 (sites_total.trans x y e.0 p
    (lesser _ (T-first (is_lt (site_cmp y e.0)) (below_all site_cmp y m) h))))
    (below_less x y m p (T-second (is_lt (site_cmp y e.0)) (below_all site_cmp y m) h))

live_is : (k : ValueKind) → is_live_kind k ≡ true → lives k ≡ 1
live_is Primitive h = refl
live_is Global h = refl
live_is Frozen h = cc
live_is Mutable h = refl
live_is Context h = refl
live_is MaybeFrozen h = refl

module _ (v : AbstractValue) (cold : v.kind ≡ Frozen) where
  strict_put : (k : Site) (m : List (Site × AbstractValue)) (w : AbstractValue) → T (is_sorted site_cmp m)
      → find site_cmp k m ≡ Some w → is_live_kind w.kind ≡ true → live (put site_cmp k v m) < live m
  strict_put k [] w s f h = cc
  strict_put k (x ∷ m) w s f h =
      let e = none_lives v cold in
      let one : lives w.kind ≡ 1 = live_is w.kind h in
      elim (site_cmp k x.0) as (λ o. site_cmp k x.0 ≡ o → cond (is_eq o) (Some x.1) (find site_cmp k m) ≡ Some w
      → live (by_order o ((k, v) ∷ x ∷ m) ((x.0, v) ∷ m) (x ∷ put site_cmp k v m)) < lives x.1.kind + live m) [
        | Less ↦ λ o g. let no : find site_cmp k m ≡ None =
            unfound k m (below_less k x.0 m o (T-first (below_all site_cmp x.0 m) (is_sorted site_cmp m) s)) in cc
        | Equal ↦ λ o g. let same : x.1 ≡ w = cc in let same_lives : lives x.1.kind ≡ lives w.kind =
            ap (λ z. lives z.kind) same in omega arith
        | Greater ↦ λ o g. let ih = strict_put k m w (T-second (below_all site_cmp x.0 m) (is_sorted site_cmp m) s) g
            h in omega arith
      ] refl f

  abbrev any_live : List (Site × AbstractValue) → Sites → Bool
  any_live m [] = false
  any_live m (e ∷ t) = is_live (find site_cmp e.0 m) || any_live m t

  tie_case : (b : Bool) (o p : Option AbstractValue) → (b ≡ true → o ≡ p) → is_live p ≡ false → is_live o ≡ true
      → is_live (cond b (Some v) o) ≡ true
  tie_case true o p e h g = let same : o ≡ p = e refl in cc
  tie_case false o p e h g = g

  still_live : (k q : Site) (m : List (Site × AbstractValue)) → is_live (find site_cmp k m) ≡ false
      → is_live (find site_cmp q m) ≡ true → is_live (find site_cmp q (put site_cmp k v m)) ≡ true
  still_live k q m h g =
      ap is_live (find-put site_cmp sites_total q k v m)
      ∙ tie_case (eq_by_cmp site_cmp q k) (find site_cmp q m) (find site_cmp k m)
      (λ e. ap (λ z. find site_cmp z m) (sites_apart q k (equal (site_cmp q k) (subst T (sym e) tt)))) h g

  or_case : (a b c d : Bool) → (a || b) ≡ true → (a ≡ true → c ≡ true) → (b ≡ true → d ≡ true) → (c || d) ≡ true
  or_case true b c d h f g = ap (λ z. z || d) (f refl)
  or_case false b true d h f g = refl
  or_case false b false d h f g = g h

  still_any : (k : Site) (m : List (Site × AbstractValue)) (t : Sites) → is_live (find site_cmp k m) ≡ false
      → any_live m t ≡ true → any_live (put site_cmp k v m) t ≡ true
  still_any k m [] h g = g
  still_any k m (e ∷ t) h g = or_case (is_live (find site_cmp e.0 m)) (any_live m t)
      (is_live (find site_cmp e.0 (put site_cmp k v m))) (any_live (put site_cmp k v m) t) g (still_live k e.0 m h)
      (still_any k m t h)

  at_live : (k : Site) (m : List (Site × AbstractValue)) (o : Option AbstractValue) → find site_cmp k m ≡ o
      → T (is_sorted site_cmp m) → is_live o ≡ true → live (put site_cmp k v m) < live m
  at_live k m None f s h = cc
  at_live k m (Some w) f s h = strict_put k m w s f h

  strict_all_set : (t : Sites) (m : List (Site × AbstractValue)) → T (is_sorted site_cmp m) → any_live m t ≡ true
      → live (all_set v t m) < live m
  strict_all_set [] m s h = cc
  strict_all_set (e ∷ t) m s h =
      elim (is_live (find site_cmp e.0 m)) as
      (λ b. is_live (find site_cmp e.0 m) ≡ b → (b || any_live m t) ≡ true
      → live (all_set v t (put site_cmp e.0 v m)) < live m) [
        | true ↦ λ b g. let a = at_live e.0 m (find site_cmp e.0 m) refl s b in let c =
            live_all_set v cold t (put site_cmp e.0 v m) in omega arith
        | false ↦ λ b g.
            let a = strict_all_set t (put site_cmp e.0 v m) (is_sorted-put site_cmp sites_total e.0 v m s)
            (still_any e.0 m t b g) in
            let c = live_put v cold e.0 m in omega arith
      ] refl h

  -- where none of the sites is live, their join isn't
  joined_cold : (o p : Option AbstractValue) → is_live o ≡ false → is_live p ≡ false
      → is_live (join_option abstract_join o p) ≡ false
  joined_cold None p h g = g
  joined_cold (Some x) None h g = h
  joined_cold (Some x) (Some y) h g = kinds_cold x.kind y.kind h g

  or_first : (a b : Bool) → (a || b) ≡ false → a ≡ false
  or_first true b h = cc
  or_first false b h = refl

  or_second : (a b : Bool) → (a || b) ≡ false → b ≡ false
  or_second true b h = cc
  or_second false b h = h

  over_cold : (m : List (Site × AbstractValue)) (t : Sites) (o : Option AbstractValue) → is_live o ≡ false
      → any_live m t ≡ false → is_live (value_over m t o) ≡ false
  over_cold m [] o h g = h
  over_cold m (e ∷ t) o h g =
      over_cold m t (join_option abstract_join o (find site_cmp e.0 m))
      (joined_cold o (find site_cmp e.0 m) h (or_first (is_live (find site_cmp e.0 m)) (any_live m t) g))
      (or_second (is_live (find site_cmp e.0 m)) (any_live m t) g)

  freezing_live : (o : Option AbstractValue) → freezes_value o ≡ true → is_live o ≡ true
  freezing_live None h = cc
  freezing_live (Some w) h = freezing_kind w.kind h

  acting_live : (m : List (Site × AbstractValue)) (t : Sites) → freezes_value (value_over m t None) ≡ true
      → any_live m t ≡ true
  acting_live m t h =
      elim (any_live m t) as (λ b. any_live m t ≡ b → b ≡ true) [
        | true ↦ λ e. refl
        | false ↦ λ e. let no : is_live (value_over m t None) ≡ false = over_cold m t None refl e in let yes =
            freezing_live (value_over m t None) h in cc
      ] refl

  frozen_less_at : (m : List (Site × AbstractValue)) (o : Option Sites) → T (is_sorted site_cmp m) → does_freeze_at m o
      ≡ true → live (frozen_at v true o m) < live m
  frozen_less_at m None s h = cc
  frozen_less_at m (Some t) s h = strict_all_set t m s (acting_live m t h)

  frozen_sorted_at : (b : Bool) (m : List (Site × AbstractValue)) (o : Option Sites) → T (is_sorted site_cmp m)
      → T (is_sorted site_cmp (frozen_at v b o m))
  frozen_sorted_at true m None s = s
  frozen_sorted_at true m (Some t) s = sorted_all_set v cold t m s
  frozen_sorted_at false m o s = s

-- the order of states on the way: sorted, and no more of its sites live
pub record Down (s u : State) : Type 0 where
  pub sorted : Sorted u
  pub fewer : live u.values ≤ live s.values

then_down : (s u w : State) → Down s u → Down u w → Down s w
then_down s u w a b = let x = a.fewer in let y = b.fewer in record { sorted = b.sorted; fewer = omega arith }

same_down : (s : State) → Sorted s → Down s s
same_down s h = record { sorted = h; fewer = omega arith }

-- what a freezing that acts does
module _ (r : ValueReason) (p : IdentifierId) (s : State) (h : Sorted s) where
  pub frozen_less : does_freeze s p ≡ true → live (frozen p r s).values < live s.values
  frozen_less e = subst (λ b. live (frozen_at (frozen_for r) b (sites_of s p) s.values) < live s.values) (sym e)
      (frozen_less_at (frozen_for r) refl s.values (sites_of s p) h e)

  pub frozen_sorted : Sorted (frozen p r s)
  frozen_sorted = frozen_sorted_at (frozen_for r) refl (does_freeze s p) s.values (sites_of s p) h

abbrev Goes : (Site → State → State) → Type 0
Goes going = (k : Site) (s : State) → Sorted s → Down s (going k s)

module _ (going : Site → State → State) (down : Goes going) where
  sites_down : (t : List Site) (s : State) → Sorted s → Down s (at_sites going t s)
  sites_down [] s h = same_down s h
  sites_down (k ∷ t) s h = let a = down k s h in
      then_down s (going k s) (at_sites going t (going k s)) a (sites_down t (going k s) a.sorted)

  module _ (r : ValueReason) where
    acted_down : (b : Bool) (p : IdentifierId) (s : State) → Sorted s → does_freeze s p ≡ b
        → Down s (where_frozen going r b p s)
    acted_down true p s h e =
        let f : Down s (frozen p r s) = (let l = frozen_less r p s h e in
        record { sorted = frozen_sorted r p s h; fewer = omega arith }) in
        then_down s (frozen p r s) (at_sites going (sites_at s p) (frozen p r s)) f
        (sites_down (sites_at s p) (frozen p r s) f.sorted)
    acted_down false p s h e = same_down s h

    place_down : (p : IdentifierId) (s : State) → Sorted s → Down s (at_place going r p s)
    place_down p s h = acted_down (does_freeze s p) p s h refl

    places_down : (ps : List Place) (s : State) → Sorted s → Down s (at_places going r ps s)
    places_down [] s h = same_down s h
    places_down (p ∷ ps) s h = let a = place_down p.identifier s h in
        then_down s (at_place going r p.identifier s) (at_places going r ps (at_place going r p.identifier s)) a
        (places_down ps (at_place going r p.identifier s) a.sorted)

    site_down : (context : FunctionId → List Place) (k : Site) (s : State) → Sorted s
        → Down s (at_site going r context k s)
    site_down context (Function f) s h = places_down (context f) s h
    site_down context (Parameter a) s h = same_down s h
    site_down context (OfContext a) s h = same_down s h
    site_down context (Created a b c) s h = same_down s h
    site_down context (CreatedFrom a b) s h = same_down s h
    site_down context (AssignFrozen a b) s h = same_down s h
    site_down context (AssignCopy a b) s h = same_down s h
    site_down context (Default a) s h = same_down s h

-- two ways of going that agree where fewer than m sites are live
module _ (going other : Site → State → State) (m : ℕ)
    (agree : (k : Site) (s : State) → Sorted s → live s.values < m → going k s ≡ other k s) (down : Goes going) where
  sites_agree : (t : List Site) (s : State) → Sorted s → live s.values < m → at_sites going t s ≡ at_sites other t s
  sites_agree [] s h l = refl
  sites_agree (k ∷ t) s h l =
      let a = down k s h in
      let f = a.fewer in
      let ih : at_sites going t (going k s) ≡ at_sites other t (going k s) =
      sites_agree t (going k s) a.sorted (omega arith) in
      ih ∙ ap (at_sites other t) (agree k s h l)

  module _ (r : ValueReason) where
    acted_agree : (b : Bool) (p : IdentifierId) (s : State) → Sorted s → live s.values ≤ m → does_freeze s p ≡ b
        → where_frozen going r b p s ≡ where_frozen other r b p s
    acted_agree true p s h l e = let f = frozen_less r p s h e in
        sites_agree (sites_at s p) (frozen p r s) (frozen_sorted r p s h) (omega arith)
    acted_agree false p s h l e = refl

    places_agree : (ps : List Place) (s : State) → Sorted s → live s.values ≤ m → at_places going r ps s
        ≡ at_places other r ps s
    places_agree [] s h l = refl
    places_agree (p ∷ ps) s h l =
        let a = place_down going down r p.identifier s h in
        let f = a.fewer in
        let ih : at_places going r ps (at_place going r p.identifier s)
        ≡ at_places other r ps (at_place going r p.identifier s) =
        places_agree ps (at_place going r p.identifier s) a.sorted (omega arith) in
        ih ∙ ap (at_places other r ps) (acted_agree (does_freeze s p.identifier) p.identifier s h l refl)

    site_agree : (context : FunctionId → List Place) (k : Site) (s : State) → Sorted s → live s.values ≤ m
        → at_site going r context k s ≡ at_site other r context k s
    site_agree context (Function f) s h l = places_agree (context f) s h l
    site_agree context (Parameter a) s h l = refl
    site_agree context (OfContext a) s h l = refl
    site_agree context (Created a b c) s h l = refl
    site_agree context (CreatedFrom a b) s h l = refl
    site_agree context (AssignFrozen a b) s h l = refl
    site_agree context (AssignCopy a b) s h l = refl
    site_agree context (Default a) s h l = refl

module _ (r : ValueReason) (context : FunctionId → List Place) where
  pub enter_down : (n : ℕ) → (k : Site) (s : State) → Sorted s → Down s (levels_frozen r context n k s)
  enter_down zero k s h = same_down s h
  enter_down (suc n) k s h = site_down (levels_frozen r context n) (enter_down n) r context k s h

  -- one level more changes nothing
  enter_more : (n : ℕ) (k : Site) (s : State) → Sorted s → live s.values < n → levels_frozen r context n k s
      ≡ levels_frozen r context (suc n) k s
  enter_more zero k s h l = absurd (omega arith)
  enter_more (suc n) k s h l =
      site_agree (levels_frozen r context n) (levels_frozen r context (suc n)) n (λ j t i q. enter_more n j t i q)
      (enter_down n) r context k s h (omega arith)

  enter_enough : (d n : ℕ) (k : Site) (s : State) → Sorted s → n ≡ d + suc (live s.values)
      → levels_frozen r context n k s ≡ frozen_transitively r context k s
  enter_enough zero n k s h e = ap (λ z. levels_frozen r context z k s)
      (let q : n ≡ suc (live s.values) = omega arith in q)
  enter_enough (suc d) n k s h e =
      let lower : live s.values < d + suc (live s.values) = omega arith in
      ap (λ z. levels_frozen r context z k s) (let q : n ≡ suc (d + suc (live s.values)) = omega arith in q)
      ∙ sym (enter_more (d + suc (live s.values)) k s h lower)
      ∙ enter_enough d (d + suc (live s.values)) k s h refl

  -- as many levels as there are sites that aren't Frozen, and any more, go all the way
  pub enter_all : (n : ℕ) (k : Site) (s : State) → Sorted s → live s.values < n → levels_frozen r context n k s
      ≡ frozen_transitively r context k s
  enter_all n k s h l = enter_enough (n - suc (live s.values)) n k s h (omega arith)

  -- the recursion: going into a function's site goes into each site that it freezes
  pub frozen_transitively-is : (k : Site) (s : State) → Sorted s → frozen_transitively r context k s
      ≡ at_site (frozen_transitively r context) r context k s
  frozen_transitively-is k s h =
      site_agree (levels_frozen r context (live s.values)) (frozen_transitively r context) (live s.values)
      (λ j t i q. enter_all (live s.values) j t i q) (enter_down (live s.values)) r context k s h (omega arith)
