-- The values that a state has beyond one below it give its values again.
use Rattle.std.specs.Prelude.{cond, if◌then◌else◌, IsTrue, ◌++◌}
use Rattle.std.proofs.Common.{◌≡◌, Bool, true, false, List, [], ◌∷◌, Option, Some, None, refl, ap, sym, ◌∙◌, subst}
use Rattle.std.proofs.Math.Dec.{T}
use Rattle.std.specs.Ordering.{eq_by_cmp}
use Rattle.std.specs.FinMap.{find, is_sorted, entries_sorted}
use Rattle.std.specs.FinMap.Entries.{find-put, same_entries}
use Rattle.alias_lattice.specs.AbstractValueLaws.{abstract_laws}
use Rattle.alias_lattice.specs.AbstractValues.{abstract_join, abstract_below, AbstractProper}
use Rattle.alias_lattice.specs.Keys.{id_cmp}
use Rattle.alias_lattice.specs.ListMaps.{list_join, list_below}
use Rattle.alias_lattice.specs.MapLaws.{equal}
use Rattle.alias_lattice.specs.Maps.{join_option, below_option, ProperOption}
use Rattle.alias_lattice.specs.PairLaws.{and-first}
use Rattle.alias_lattice.specs.ProperStates.{StateProper}
use Rattle.alias_lattice.specs.PutLaws.{proper_found, find-join}
use Rattle.alias_lattice.specs.SiteOrder.{site_cmp}
use Rattle.alias_lattice.specs.SiteOrderLaws.{sites_apart, sites_total}
use Rattle.alias_lattice.specs.States.{State, empty_state, initialized, value_at, state_below, sites_below}
use Rattle.alias_lattice.specs.declared.site.Site.{Site}
use Rattle.alias_lattice.specs.declared.value.AbstractValue.{AbstractValue}
use Rattle.alias_certificate.specs.states.Beyond.{is_there, more_values}
use Rattle.alias_certificate.specs.states.Raised.{values_raised}
use Rattle.alias_certificate.specs.states.States.{with_values}
use Rattle.alias_certificate.proofs.raised.Lines.{sorted_values}
use Rattle.alias_certificate.proofs.raised.Picking.{none_behind, sorted_rest, found_below}

-- ---- what is found

-- the value, where the old one isn't it already
abbrev pub picked : Option AbstractValue → Option AbstractValue → Option AbstractValue → Option AbstractValue
picked old None z = z
picked old (Some v) z = cond (is_there old v) z (Some v)

pub tied_site : (q k : Site) → eq_by_cmp site_cmp q k ≡ true → q ≡ k
tied_site q k t = sites_apart q k (equal (site_cmp q k) (subst T (sym t) tt))

abbrev Rest : State → List (Site × AbstractValue) → Site → Type 0
Rest old es q = (z : State) → value_at (with_values (more_values old es) z) q
    ≡ picked (value_at old q) (find site_cmp q es) (value_at z q)

at_first : (old : State) (e : Site × AbstractValue) (es : List (Site × AbstractValue)) (s : State)
    → T (is_sorted site_cmp (e ∷ es)) → (q : Site) → (t : Bool) → is_there (value_at old e.0) e.1 ≡ t → (u : Bool)
    → eq_by_cmp site_cmp q e.0 ≡ u → Rest old es q
    → value_at (with_values ((if t then [] else record { site = e.0; value = e.1 } ∷ []) ++ more_values old es) s) q
    ≡ picked (value_at old q) (cond u (Some e.1) (find site_cmp q es)) (value_at s q)
at_first old e es s sorted q true t true u rest =
    let there : is_there (value_at old q) e.1 ≡ true =
    ap (λ k. is_there (value_at old k) e.1) (tied_site q e.0 u) ∙ t in
    rest s ∙ ap (λ o. picked (value_at old q) o (value_at s q)) (none_behind site_cmp sites_total q e es sorted u)
    ∙ sym (ap (λ b. cond b (value_at s q) (Some e.1)) there)
at_first old e es s sorted q true t false u rest = rest s
at_first old e es s sorted q false t true u rest =
    let there : is_there (value_at old q) e.1 ≡ false =
    ap (λ k. is_there (value_at old k) e.1) (tied_site q e.0 u) ∙ t in
    rest (initialized e.0 e.1 s)
    ∙ ap (λ o. picked (value_at old q) o (value_at (initialized e.0 e.1 s) q))
    (none_behind site_cmp sites_total q e es sorted u)
    ∙ find-put site_cmp sites_total q e.0 e.1 s.values ∙ ap (λ b. cond b (Some e.1) (value_at s q)) u
    ∙ sym (ap (λ b. cond b (value_at s q) (Some e.1)) there)
at_first old e es s sorted q false t false u rest =
    rest (initialized e.0 e.1 s)
    ∙ ap (picked (value_at old q) (find site_cmp q es))
    (find-put site_cmp sites_total q e.0 e.1 s.values ∙ ap (λ b. cond b (Some e.1) (value_at s q)) u)

pub found_values : (old : State) (es : List (Site × AbstractValue)) (s : State) → T (is_sorted site_cmp es) → (q : Site)
    → value_at (with_values (more_values old es) s) q ≡ picked (value_at old q) (find site_cmp q es) (value_at s q)
found_values old [] s sorted q = refl
found_values old (e ∷ es) s sorted q =
    at_first old e es s sorted q (is_there (value_at old e.0) e.1) refl (eq_by_cmp site_cmp q e.0) refl
    (λ z. found_values old es z (sorted_rest site_cmp sites_total e es sorted) q)

-- ---- what they give

between : (w v : AbstractValue) → AbstractProper w → AbstractProper v → IsTrue (abstract_below w v) → (t : Bool)
    → abstract_below v w ≡ t → join_option abstract_join (Some w) (cond t None (Some v)) ≡ Some v
between w v p q h true t = ap Some
    (sym ((abstract_laws.order v w q p).0 t) ∙ abstract_laws.commutative v w q p ∙ (abstract_laws.order w v p q).0 h)
between w v p q h false t = ap Some ((abstract_laws.order w v p q).0 h)

joins_again : (a b : Option AbstractValue) → ProperOption AbstractProper a → ProperOption AbstractProper b
    → IsTrue (below_option abstract_below a b) → join_option abstract_join a (picked a b None) ≡ b
joins_again None None p q h = refl
joins_again (Some w) None p q h = cc
joins_again None (Some v) p q h = refl
joins_again (Some w) (Some v) p q h = between w v p q h (abstract_below v w) refl

module _ (a s : State) (ha : StateProper a) (hs : StateProper s) (below : IsTrue (state_below a s)) where
  -- each value is below that of the other state
  pub value_below : (q : Site) → IsTrue (below_option abstract_below (value_at a q) (value_at s q))
  value_below q =
      let first = and-first (list_below site_cmp abstract_below a.values s.values)
      (list_below id_cmp sites_below a.variables s.variables) below in
      found_below site_cmp sites_total abstract_below a.values s.values ha.values.0 hs.values.0 first q

  pub values_again : (values_raised (more_values a s.values) a).values ≡ s.values
  values_again =
      let more = (with_values (more_values a s.values) empty_state).values in
      let sorted : T (is_sorted site_cmp more) = sorted_values (more_values a s.values) empty_state tt in
      same_entries site_cmp sites_total sites_apart (list_join site_cmp abstract_join a.values more) s.values
      (entries_sorted _) hs.values.0 (λ q.
      find-join site_cmp sites_total abstract_join a.values more q ha.values.0 sorted
      ∙ ap (join_option abstract_join (value_at a q)) (found_values a s.values empty_state hs.values.0 q)
      ∙ joins_again (value_at a q) (value_at s q) (proper_found site_cmp AbstractProper a.values ha.values q)
      (proper_found site_cmp AbstractProper s.values hs.values q) (value_below q))
