-- The sites that a set has beyond one that is a part of it give it again.
use Rattle.std.specs.Prelude.{cond, if◌then◌else◌, IsTrue, ◌++◌}
use Rattle.std.proofs.Common.{◌≡◌, Bool, true, false, List, [], ◌∷◌, Option, Some, None, refl, ap, sym, ◌∙◌}
use Rattle.std.proofs.Math.Dec.{T}
use Rattle.std.specs.Option.{is_some}
use Rattle.std.specs.Ordering.{eq_by_cmp}
use Rattle.std.specs.FinMap.{find, is_sorted, entries_sorted}
use Rattle.std.specs.FinMap.Entries.{find-put, is_sorted-put, same_entries}
use Rattle.alias_lattice.specs.ListMaps.{list_join}
use Rattle.alias_lattice.specs.Maps.{join_option, below_option}
use Rattle.alias_lattice.specs.PutLaws.{find-join}
use Rattle.alias_lattice.specs.SiteOrder.{site_cmp}
use Rattle.alias_lattice.specs.SiteOrderLaws.{sites_apart, sites_total}
use Rattle.alias_lattice.specs.States.{Sites, with_site, sites_join, sites_below}
use Rattle.alias_lattice.specs.Units.{unit_join, unit_below}
use Rattle.alias_lattice.specs.declared.site.Site.{Site}
use Rattle.alias_lattice.proofs.SitesBelow.{one_below}
use Rattle.alias_certificate.specs.states.Beyond.{has_site, more_sites}
use Rattle.alias_certificate.specs.states.States.{with_sites}
use Rattle.alias_certificate.proofs.raised.Picking.{none_behind, sorted_rest, found_below}
use Rattle.alias_brief_laws.proofs.Values.{tied_site}

-- ---- what is found

-- the site, where the old set hasn't it
abbrev pub site_picked : Option Sites → Site → Option (Unit {0}) → Option (Unit {0}) → Option (Unit {0})
site_picked old q None z = z
site_picked old q (Some u) z = cond (has_site old q) z (Some tt)

abbrev Rest : Option Sites → Sites → Site → Type 0
Rest old es q = (z : Sites) → find site_cmp q (with_sites (more_sites old es) z)
    ≡ site_picked old q (find site_cmp q es) (find site_cmp q z)

at_first : (old : Option Sites) (e : Site × Unit {0}) (es r : Sites) → T (is_sorted site_cmp (e ∷ es)) → (q : Site)
    → (t : Bool) → has_site old e.0 ≡ t → (u : Bool) → eq_by_cmp site_cmp q e.0 ≡ u → Rest old es q
    → find site_cmp q (with_sites ((if t then [] else e.0 ∷ []) ++ more_sites old es) r)
    ≡ site_picked old q (cond u (Some e.1) (find site_cmp q es)) (find site_cmp q r)
at_first old e es r sorted q true t true u rest =
    let there : has_site old q ≡ true = ap (has_site old) (tied_site q e.0 u) ∙ t in
    rest r ∙ ap (λ o. site_picked old q o (find site_cmp q r)) (none_behind site_cmp sites_total q e es sorted u)
    ∙ sym (ap (λ b. cond b (find site_cmp q r) (Some tt)) there)
at_first old e es r sorted q true t false u rest = rest r
at_first old e es r sorted q false t true u rest =
    let there : has_site old q ≡ false = ap (has_site old) (tied_site q e.0 u) ∙ t in
    rest (with_site e.0 r)
    ∙ ap (λ o. site_picked old q o (find site_cmp q (with_site e.0 r)))
    (none_behind site_cmp sites_total q e es sorted u)
    ∙ find-put site_cmp sites_total q e.0 tt r ∙ ap (λ b. cond b (Some tt) (find site_cmp q r)) u
    ∙ sym (ap (λ b. cond b (find site_cmp q r) (Some tt)) there)
at_first old e es r sorted q false t false u rest =
    rest (with_site e.0 r)
    ∙ ap (site_picked old q (find site_cmp q es))
    (find-put site_cmp sites_total q e.0 tt r ∙ ap (λ b. cond b (Some tt) (find site_cmp q r)) u)

pub found_sites : (old : Option Sites) (t r : Sites) → T (is_sorted site_cmp t) → (q : Site)
    → find site_cmp q (with_sites (more_sites old t) r) ≡ site_picked old q (find site_cmp q t) (find site_cmp q r)
found_sites old [] r sorted q = refl
found_sites old (e ∷ es) r sorted q =
    at_first old e es r sorted q (has_site old e.0) refl (eq_by_cmp site_cmp q e.0) refl
    (λ z. found_sites old es z (sorted_rest site_cmp sites_total e es sorted) q)

pub sorted_sites : (ks : List Site) (t : Sites) → T (is_sorted site_cmp t) → T (is_sorted site_cmp (with_sites ks t))
sorted_sites [] t h = h
sorted_sites (k ∷ ks) t h = sorted_sites ks (with_site k t) (is_sorted-put site_cmp sites_total k tt t h)

-- ---- what they give

all_picked : (q : Site) (o : Option (Unit {0})) → site_picked None q o None ≡ o
all_picked q None = refl
all_picked q (Some u) = refl

-- beyond no set
pub sites_from_none : (t : Sites) → T (is_sorted site_cmp t) → with_sites (more_sites None t) [] ≡ t
sites_from_none t h = same_entries site_cmp sites_total sites_apart (with_sites (more_sites None t) []) t
    (sorted_sites (more_sites None t) [] tt) h (λ q. found_sites None t [] h q ∙ all_picked q (find site_cmp q t))

joined_picked : (q : Site) (a b : Option (Unit {0})) (t : Bool) → IsTrue (below_option unit_below a b) → t ≡ is_some a
    → (old : Option Sites) → has_site old q ≡ t → join_option unit_join a (site_picked old q b None) ≡ b
joined_picked q None None t h is old has = refl
joined_picked q (Some x) None t h is old has = cc
joined_picked q None (Some y) t h is old has = ap (λ b. cond b None (Some tt)) (has ∙ is)
joined_picked q (Some x) (Some y) t h is old has =
    ap (λ b. join_option unit_join (Some x) (cond b None (Some tt))) (has ∙ is)

module _ (o t : Sites) (ho : T (is_sorted site_cmp o)) (ht : T (is_sorted site_cmp t))
    (part : IsTrue (sites_below o t)) where
  pub site_below : (q : Site) → IsTrue (below_option unit_below (find site_cmp q o) (find site_cmp q t))
  site_below q =
      found_below site_cmp sites_total unit_below o t ho ht part q

  -- beyond a part
  pub sites_from_part : sites_join o (with_sites (more_sites (Some o) t) []) ≡ t
  sites_from_part =
      let more = with_sites (more_sites (Some o) t) [] in
      let sorted : T (is_sorted site_cmp more) = sorted_sites (more_sites (Some o) t) [] tt in
      same_entries site_cmp sites_total sites_apart (list_join site_cmp unit_join o more) t (entries_sorted _) ht (λ q.
      find-join site_cmp sites_total unit_join o more q ho sorted
      ∙ ap (join_option unit_join (find site_cmp q o)) (found_sites (Some o) t [] ht q)
      ∙ joined_picked q (find site_cmp q o) (find site_cmp q t) (is_some (find site_cmp q o)) (site_below q) refl
      (Some o) (one_below q o ho))
