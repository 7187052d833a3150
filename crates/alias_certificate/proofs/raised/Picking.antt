-- Entries of an ascending list that are picked, and what is found of them.
use Rattle.std.specs.Prelude.{cond, IsTrue}
use Rattle.std.specs.List.{AllByRecursion}
use Rattle.std.proofs.Common.{◌≡◌, Bool, true, false, List, [], ◌∷◌, Option, Some, None, refl, ap, sym, ◌∙◌, subst}
use Rattle.std.proofs.Math.Dec.{T}
use Rattle.std.specs.Ordering.{eq_by_cmp, is_eq, is_lt}
use Rattle.std.specs.declared.cmp.Ordering.{Ordering}
use Rattle.std.specs.declared.cmp.Ordering.TheVariants.{Equal}
use Rattle.std.specs.Cmp.{IsTotalOrder, tied_itself}
use Rattle.std.specs.FinMap.{find, is_sorted, IsAntisymmetric, entries_sorted, get, get-from_sorted}
use Rattle.std.specs.FinMap.Entries.{below_all, same_entries}
use Rattle.alias_lattice.specs.ListMaps.{list_map, list_join, list_below}
use Rattle.alias_lattice.specs.MapLaws.{equal, lesser, join_none, map_below-at}
use Rattle.alias_lattice.specs.Maps.{below_option}
use Rattle.alias_lattice.specs.PairLaws.{T-first, T-second}
use Rattle.alias_lattice.specs.PutLaws.{find-join}

pub none_is : {X : Type 0} (x : X) → ◌≡◌ {A = Option X} None (Some x) → ⊥
none_is x e = cc

module _ {K X : Type 0} (R : K → K → Ordering) (o : IsTotalOrder R) where
  pub sorted_rest : (e : K × X) (es : List (K × X)) → T (is_sorted R (e ∷ es)) → T (is_sorted R es)
  sorted_rest e es s = T-second (below_all R e.0 es) (is_sorted R es) s

  -- a key that ties with the first isn't found behind it
  behind : (q k : K) (es : List (K × X)) → R q k ≡ Equal → T (below_all R k es) → find R q es ≡ None
  behind q k [] t h = refl
  behind q k (e ∷ es) t h =
      ap (λ r. cond (is_eq r) (Some e.1) (find R q es))
      (o.congr q k e.0 t ∙ lesser _ (T-first (is_lt (R k e.0)) (below_all R k es) h))
      ∙ behind q k es t (T-second (is_lt (R k e.0)) (below_all R k es) h)

  pub none_behind : (q : K) (e : K × X) (es : List (K × X)) → T (is_sorted R (e ∷ es)) → eq_by_cmp R q e.0 ≡ true
      → find R q es ≡ None
  none_behind q e es s t = behind q e.0 es (equal (R q e.0) (subst T (sym t) tt))
      (T-first (below_all R e.0 es) (is_sorted R es) s)

  pub found_first : (e : K × X) (es : List (K × X)) → find R e.0 (e ∷ es) ≡ Some e.1
  found_first e es = ap (λ r. cond (is_eq r) (Some e.1) (find R e.0 es)) (tied_itself o e.0)

  pub found_later : (q : K) (x : X) (e : K × X) (es : List (K × X)) → T (is_sorted R (e ∷ es)) → find R q es ≡ Some x
      → (t : Bool) → eq_by_cmp R q e.0 ≡ t → cond t (Some e.1) (find R q es) ≡ Some x
  found_later q x e es s h true t = absurd (none_is x (sym (none_behind q e es s t) ∙ h))
  found_later q x e es s h false t = h

  -- what holds of all that is found holds of all entries
  pub of_entries : (P : K → X → Type 0) (es : List (K × X)) → T (is_sorted R es)
      → ((q : K) (x : X) → find R q es ≡ Some x → P q x) → AllByRecursion (λ (e : K × X). P e.0 e.1) es
  of_entries P [] s h = tt
  of_entries P (e ∷ es) s h = (
    h e.0 e.1 (found_first e es),
    of_entries P es (sorted_rest e es s)
        (λ q x f. h q x (found_later q x e es s f (eq_by_cmp R q e.0) refl)),
  )

module _ {K X : Type 0} (R : K → K → Ordering) (o : IsTotalOrder R) (below : X → X → Bool) where
  -- what is found in a list is below what is found in one that the list is below
  pub found_below : (a s : List (K × X)) → T (is_sorted R a) → T (is_sorted R s) → IsTrue (list_below R below a s)
      → (q : K) → IsTrue (below_option below (find R q a) (find R q s))
  found_below a s ha hs h q =
      subst (λ z. IsTrue (below_option below z (find R q s))) (get-from_sorted R a q ha)
      (subst (λ z. IsTrue (below_option below (get (list_map R a) q) z)) (get-from_sorted R s q hs)
      ((map_below-at R o below (list_map R a) (list_map R s)).0 h q))

module _ {K X : Type 0} (R : K → K → Ordering) (o : IsTotalOrder R) (apart : IsAntisymmetric R) (j : X → X → X) where
  -- nothing is joined in
  pub join_nil : (a : List (K × X)) → T (is_sorted R a) → list_join R j a [] ≡ a
  join_nil a h = same_entries R o apart (list_join R j a []) a (entries_sorted _) h
      (λ q. find-join R o j a [] q h tt ∙ join_none j (find R q a))
