-- A set is gone through from each site to the next, and a place freezes where it is defined and its kind is one that
-- freezes.
use Rattle.std.specs.Prelude.{◌≡◌, ◌<◌, Bool, true, false, cond, ◌&&◌, IsTrue, List, [], ◌∷◌, Option, Some, None}
use Rattle.std.specs.Prelude.{length, refl}
use Rattle.std.proofs.Common.{ap, sym, ◌∙◌, subst, arith}
use Rattle.std.proofs.Math.Dec.{T}
use Rattle.std.specs.Option.{is_some, option_map}
use Rattle.std.specs.Ordering.{is_lt, is_eq, eq_by_cmp, ordering_reverse}
use Rattle.std.specs.declared.cmp.Ordering.{Ordering}
use Rattle.std.specs.declared.cmp.Ordering.TheVariants.{Less, Equal, Greater}
use Rattle.std.specs.Cmp.{tied_itself}
use Rattle.std.specs.FinMap.{find, is_sorted}
use Rattle.std.specs.FinMap.Entries.{below_all}
use Rattle.alias_base.specs.declared.ids.IdentifierId.{IdentifierId}
use Rattle.alias_lattice.specs.declared.site.Site.{Site}
use Rattle.alias_lattice.specs.declared.value.AbstractValue.{AbstractValue}
use Rattle.alias_lattice.specs.AbstractValues.{abstract_join}
use Rattle.alias_lattice.specs.Maps.{join_option}
use Rattle.alias_lattice.specs.MapLaws.{lesser}
use Rattle.alias_lattice.specs.PairLaws.{T-first, T-second}
use Rattle.alias_lattice.specs.Nexts.{is_after, next_entry}
use Rattle.alias_lattice.specs.SiteOrder.{site_cmp}
use Rattle.alias_lattice.specs.SiteOrderLaws.{sites_total}
use Rattle.alias_lattice.specs.ProperStates.{AreValued, StateProper}
use Rattle.alias_lattice.specs.States.{State, Sites, sites_of, value_over, lookup, lookup_at, or_default, freezes}
use Rattle.alias_lattice.specs.States.{freezes_value, does_freeze, does_freeze_at, next_site}
use Rattle.alias_apply.specs.freezing.Sites.{in_order, above}

-- ---- from each site to the next

abbrev first_of : Sites → Option Site
first_of [] = None
first_of (e ∷ es) = Some e.0

-- the next site is the first of what is left
pub next-above : (after : Option Site) (t : Sites) → next_site after t ≡ first_of (above after t)
next-above after [] = refl
next-above after (e ∷ es) =
    elim (is_after site_cmp after e.0) as (λ b.
    option_map (λ (x : Site × Unit {0}). x.0) (cond b (Some e) (next_entry site_cmp after es))
    ≡ first_of (cond b (e ∷ es) (above after es))) [
      | true ↦ refl
      | false ↦ next-above after es
    ]

not_below_itself : (k : Site) → is_lt (site_cmp k k) ≡ false
not_below_itself k = ap is_lt (tied_itself sites_total k)

not_below_lesser : (x k : Site) → site_cmp k x ≡ Less → is_lt (site_cmp x k) ≡ false
not_below_lesser x k h = ap is_lt (sites_total.antisymm x k ∙ ap ordering_reverse h)

true_of : (b : Bool) → T b → b ≡ true
true_of true h = refl
true_of false h = absurd h

above_all : (k : Site) (t : Sites) → T (below_all site_cmp k t) → above (Some k) t ≡ t
above_all k [] h = refl
above_all k (e ∷ es) h = ap (λ b. cond b (e ∷ es) (above (Some k) es))
    (true_of (is_lt (site_cmp k e.0)) (T-first (is_lt (site_cmp k e.0)) (below_all site_cmp k es) h))

-- what is left begins with a site above all that come before it
left_above : (k : Site) (after : Option Site) (t : Sites) (e : Site × Unit {0}) (es : Sites)
    → T (below_all site_cmp k t) → above after t ≡ e ∷ es → site_cmp k e.0 ≡ Less
left_above k after [] e es h g = cc
left_above k after (x ∷ xs) e es h g =
    elim (is_after site_cmp after x.0) as (λ b. cond b (x ∷ xs) (above after xs) ≡ e ∷ es → site_cmp k e.0 ≡ Less) [
      | true ↦ λ i. let same : x ≡ e = cc in
          subst (λ (z : Site × Unit {0}). site_cmp k z.0 ≡ Less) same
          (lesser (site_cmp k x.0) (T-first (is_lt (site_cmp k x.0)) (below_all site_cmp k xs) h))
      | false ↦ λ i. left_above k after xs e es (T-second (is_lt (site_cmp k x.0)) (below_all site_cmp k xs) h) i
    ] g

above_first : (x : Site × Unit {0}) (xs : Sites) → T (below_all site_cmp x.0 xs) → above (Some x.0) (x ∷ xs) ≡ xs
above_first x xs h = ap (λ b. cond b (x ∷ xs) (above (Some x.0) xs)) (not_below_itself x.0) ∙ above_all x.0 xs h

-- what is left above the first site of what is left
pub above-next : (after : Option Site) (t : Sites) (e : Site × Unit {0}) (es : Sites) → T (is_sorted site_cmp t)
    → above after t ≡ e ∷ es → above (Some e.0) t ≡ es
above-next after [] e es s g = cc
above-next after (x ∷ xs) e es s g =
    let low = T-first (below_all site_cmp x.0 xs) (is_sorted site_cmp xs) s in
    let rest = T-second (below_all site_cmp x.0 xs) (is_sorted site_cmp xs) s in
    elim (is_after site_cmp after x.0) as (λ b. cond b (x ∷ xs) (above after xs) ≡ e ∷ es → above (Some e.0) (x ∷ xs)
    ≡ es) [
      | true ↦ λ i.
          let same : x ≡ e = cc in
          let tail : xs ≡ es = cc in
          ap (λ (z : Site × Unit {0}). above (Some z.0) (x ∷ xs)) (sym same) ∙ above_first x xs low ∙ tail
      | false ↦ λ i.
          ap (λ b. cond b (x ∷ xs) (above (Some e.0) xs))
          (not_below_lesser e.0 x.0 (left_above x.0 after xs e es low i))
          ∙ above-next after xs e es rest i
    ] g

pub above-none : (t : Sites) → above None t ≡ t
above-none [] = refl
above-none (e ∷ es) = refl

-- what is left begins with the next site
more_at : (after : Option Site) (t : Sites) (k : Site) (o : Sites) → above after t ≡ o → first_of o ≡ Some k
    → T (is_sorted site_cmp t) → in_order (above after t) ≡ k ∷ in_order (above (Some k) t)
more_at after t k [] e h s = cc
more_at after t k (x ∷ xs) e h s =
    let same : x.0 ≡ k = cc in
    let rest : above (Some k) t ≡ xs = ap (λ q. above (Some q) t) (sym same) ∙ above-next after t x xs s e in
    ap in_order e ∙ ap (λ q. q ∷ in_order xs) same ∙ ap (λ z. k ∷ in_order z) (sym rest)

fewer_at : (after : Option Site) (t : Sites) (k : Site) (o : Sites) → above after t ≡ o → first_of o ≡ Some k
    → T (is_sorted site_cmp t) → length (above (Some k) t) < length (above after t)
fewer_at after t k [] e h s = let no : Some k ≡ None = cc in cc
fewer_at after t k (x ∷ xs) e h s =
    let same : x.0 ≡ k = cc in
    let rest : above (Some k) t ≡ xs = ap (λ q. above (Some q) t) (sym same) ∙ above-next after t x xs s e in
    let long = ap length e in
    let short = ap length rest in
    omega arith

none_at : (after : Option Site) (t o : Sites) → above after t ≡ o → first_of o ≡ None → in_order (above after t) ≡ []
none_at after t [] e h = ap in_order e
none_at after t (x ∷ xs) e h = cc

module _ (after : Option Site) (t : Sites) where
  pub left_more : (k : Site) → next_site after t ≡ Some k → T (is_sorted site_cmp t) → in_order (above after t) ≡ k
      ∷ in_order (above (Some k) t)
  left_more k e s = more_at after t k (above after t) refl (sym (next-above after t) ∙ e) s

  pub left_fewer : (k : Site) → next_site after t ≡ Some k → T (is_sorted site_cmp t) → length (above (Some k) t)
      < length (above after t)
  left_fewer k e s = fewer_at after t k (above after t) refl (sym (next-above after t) ∙ e) s

  pub left_none : next_site after t ≡ None → in_order (above after t) ≡ []
  left_none e = none_at after t (above after t) refl (sym (next-above after t) ∙ e)

-- ---- a place that freezes

kept_some : (o : Option AbstractValue) (v : AbstractValue) (p : Option AbstractValue → Bool)
    → ((w : AbstractValue) → p (Some w) ≡ true) → p (join_option abstract_join (Some v) o) ≡ true
kept_some None v p h = h v
kept_some (Some w) v p h = h (abstract_join v w)

value_stays : (m : List (Site × AbstractValue)) (t : Sites) (v : AbstractValue) → is_some (value_over m t (Some v))
    ≡ true
value_stays m [] v = refl
value_stays m (e ∷ es) v = kept_some (find site_cmp e.0 m) v (λ o. is_some (value_over m es o))
    (λ w. value_stays m es w)

value_from : (m : List (Site × AbstractValue)) (t : Sites) (o : Option AbstractValue) → IsTrue (is_some o)
    → is_some (value_over m t o) ≡ true
value_from m t None h = cc
value_from m t (Some v) h = value_stays m t v

there_first : (e : Site × Unit {0}) (es : Sites) → IsTrue (is_some (find site_cmp e.0 (e ∷ es)))
there_first e es = ap (λ r. is_some (cond (is_eq r) (Some e.1) (find site_cmp e.0 es))) (tied_itself sites_total e.0)

-- sites with values have a join
joined_value : (m : List (Site × AbstractValue)) (t : Sites) → AreValued m t → is_some (value_over m t None) ≡ true
joined_value m [] a = let no = a.full in cc
joined_value m (e ∷ es) a = value_from m es (find site_cmp e.0 m) (a.valued e.0 (there_first e es))

freezes_read : (o : Option AbstractValue) → is_some o ≡ true → freezes_value o ≡ freezes (or_default o).kind
freezes_read None h = cc
freezes_read (Some v) h = refl

at_set : (m : List (Site × AbstractValue)) (o : Option Sites) → ((t : Sites) → o ≡ Some t → AreValued m t)
    → does_freeze_at m o ≡ (is_some o && freezes (lookup_at m o).kind)
at_set m None h = refl
at_set m (Some t) h = freezes_read (value_over m t None) (joined_value m t (h t refl))

-- a place freezes where it is defined, and what is read of it freezes
pub freezes_where_defined : (s : State) (x : IdentifierId) → StateProper s → does_freeze s x
    ≡ (is_some (sites_of s x) && freezes (lookup s x).kind)
freezes_where_defined s x h = at_set s.values (sites_of s x) (λ t e. h.all_valued x t e)
