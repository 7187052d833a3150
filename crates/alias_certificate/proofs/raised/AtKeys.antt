-- What is made of the entries of an ascending list is made of those at the keys of another, where nothing is made of
-- all others.
use Rattle.std.specs.Prelude.{cond, ◌&&◌, ◌++◌}
use Rattle.std.specs.List.{AllByRecursion, flat_map}
use Rattle.std.proofs.Common.{◌≡◌, Bool, true, false, List, [], ◌∷◌, Some, None, refl, ap, sym, ◌∙◌, subst}
use Rattle.std.proofs.Math.Dec.{T}
use Rattle.std.specs.Ordering.{eq_by_cmp, is_eq, is_lt, ordering_reverse}
use Rattle.std.specs.declared.cmp.Ordering.{Ordering}
use Rattle.std.specs.declared.cmp.Ordering.TheVariants.{Less, Equal, Greater}
use Rattle.std.specs.Cmp.{IsTotalOrder}
use Rattle.std.specs.FinMap.{find, is_sorted, IsAntisymmetric}
use Rattle.std.specs.FinMap.Entries.{below_all}
use Rattle.alias_lattice.specs.MapLaws.{equal, lesser}
use Rattle.alias_lattice.specs.PairLaws.{T-first, T-second}
use Rattle.alias_certificate.specs.states.Lines.{at_key, at_keys}
use Rattle.alias_certificate.proofs.raised.Picking.{none_is, sorted_rest, none_behind, found_first, found_later}
use Rattle.alias_certificate.proofs.raised.Picking.{of_entries}

T-both : (a b : Bool) → T a → T b → T (a && b)
T-both true b t u = u
T-both false b t u = t

less : (r : Ordering) → r ≡ Less → T (is_lt r)
less r h = subst (λ (z : Ordering). T (is_lt z)) (sym h) tt

-- what is made of each entry alike
each_alike : {X V : Type 0} (f g : X → List V) (xs : List X) → AllByRecursion (λ x. f x ≡ g x) xs
    → flat_map f xs ≡ flat_map g xs
each_alike f g [] h = refl
each_alike f g (x ∷ xs) h = ap (λ z. z ++ flat_map f xs) h.0 ∙ ap (λ z. g x ++ z) (each_alike f g xs h.1)

module _ {K : Type 0} (R : K → K → Ordering) (o : IsTotalOrder R) {Z : Type 0} where
  -- a key below one that is below all
  all_above : (q k : K) (es : List (K × Z)) → R q k ≡ Less → T (below_all R k es) → T (below_all R q es)
  all_above q k [] h t = tt
  all_above q k (e ∷ es) h t =
      T-both (is_lt (R q e.0)) (below_all R q es)
      (less (R q e.0) (o.trans q k e.0 h (lesser (R k e.0) (T-first (is_lt (R k e.0)) (below_all R k es) t))))
      (all_above q k es h (T-second (is_lt (R k e.0)) (below_all R k es) t))

  above_first : (q : K) (e : K × Z) (es : List (K × Z)) → R q e.0 ≡ Less → T (is_sorted R (e ∷ es))
      → T (below_all R q (e ∷ es))
  above_first q e es h s =
      T-both (is_lt (R q e.0)) (below_all R q es) (less (R q e.0) h)
      (all_above q e.0 es h (T-first (below_all R e.0 es) (is_sorted R es) s))

  -- a key below all isn't found
  missed : (q : K) (es : List (K × Z)) → T (below_all R q es) → find R q es ≡ None
  missed q [] h = refl
  missed q (e ∷ es) h =
      ap (λ r. cond (is_eq r) (Some e.1) (find R q es))
      (lesser (R q e.0) (T-first (is_lt (R q e.0)) (below_all R q es) h))
      ∙ missed q es (T-second (is_lt (R q e.0)) (below_all R q es) h)

module _ {K : Type 0} (R : K → K → Ordering) (apart : IsAntisymmetric R) where
  pub tied : (q k : K) → eq_by_cmp R q k ≡ true → q ≡ k
  tied q k t = apart q k (equal (R q k) (subst T (sym t) tt))

module _ {K X Y V : Type 0} (R : K → K → Ordering) (o : IsTotalOrder R) (apart : IsAntisymmetric R)
    (f : K × X → List V) where
  -- nothing is made of an entry at none of the keys
  abbrev pub IsBare : List (K × X) → List (K × Y) → Type 0
  IsBare es ls = (q : K) (x : X) → find R q es ≡ Some x → find R q ls ≡ None → f (q, x) ≡ []

  none_at : (ls : List (K × Y)) → at_keys R f [] ls ≡ []
  none_at [] = refl
  none_at (l ∷ ls) = none_at ls

  -- an entry below all keys is at none of them
  past : (e : K × X) (es : List (K × X)) (ls : List (K × Y)) → T (below_all R e.0 ls)
      → at_keys R f (e ∷ es) ls ≡ at_keys R f es ls
  past e es [] h = refl
  past e es (l ∷ ls) h =
      let above : R l.0 e.0 ≡ Greater =
      o.antisymm l.0 e.0
      ∙ ap ordering_reverse (lesser (R e.0 l.0) (T-first (is_lt (R e.0 l.0)) (below_all R e.0 ls) h)) in
      ap (λ r. at_key f l.0 (cond (is_eq r) (Some e.1) (find R l.0 es)) ++ at_keys R f (e ∷ es) ls) above
      ∙ ap (λ z. at_key f l.0 (find R l.0 es) ++ z)
      (past e es ls (T-second (is_lt (R e.0 l.0)) (below_all R e.0 ls) h))

  module _ (e : K × X) (es : List (K × X)) (s : T (is_sorted R (e ∷ es)))
      (rest : (ls : List (K × Y)) → T (is_sorted R ls) → IsBare es ls → at_keys R f es ls ≡ flat_map f es) where
    bare_behind : (ls : List (K × Y)) → IsBare (e ∷ es) ls → IsBare es ls
    bare_behind ls b q x h n = b q x (found_later R o q x e es s h (eq_by_cmp R q e.0) refl) n

    -- the first entry is below all keys
    skips : (ls : List (K × Y)) → T (is_sorted R ls) → IsBare (e ∷ es) ls → T (below_all R e.0 ls)
        → at_keys R f (e ∷ es) ls ≡ f e ++ flat_map f es
    skips ls t b h =
        past e es ls h ∙ rest ls t (bare_behind ls b)
        ∙ ap (λ z. z ++ flat_map f es) (sym (b e.0 e.1 (found_first R o e es) (missed R o e.0 ls h)))

    -- a key behind the first isn't the first key
    lacks : (l : K × Y) (ls : List (K × Y)) (q : K) (x : X) → l.0 ≡ e.0 → find R q es ≡ Some x → find R q ls ≡ None
        → (u : Bool) → eq_by_cmp R q l.0 ≡ u → cond u (Some l.1) (find R q ls) ≡ None
    lacks l ls q x same h n true t =
        let tied : eq_by_cmp R q e.0 ≡ true = ap (eq_by_cmp R q) (sym same) ∙ t in
        absurd (none_is x (sym (none_behind R o q e es s tied) ∙ h))
    lacks l ls q x same h n false t = n

    -- the first entry is at the first key
    meets : (l : K × Y) (ls : List (K × Y)) → T (is_sorted R (l ∷ ls)) → IsBare (e ∷ es) (l ∷ ls) → R l.0 e.0 ≡ Equal
        → at_keys R f (e ∷ es) (l ∷ ls) ≡ f e ++ flat_map f es
    meets l ls t b h =
        let same : l.0 ≡ e.0 = apart l.0 e.0 h in
        let low : T (below_all R e.0 ls) =
        subst (λ (k : K). T (below_all R k ls)) same (T-first (below_all R l.0 ls) (is_sorted R ls) t) in
        ap (λ r. at_key f l.0 (cond (is_eq r) (Some e.1) (find R l.0 es)) ++ at_keys R f (e ∷ es) ls) h
        ∙ ap (λ k. f (k, e.1) ++ at_keys R f (e ∷ es) ls) same
        ∙ ap (λ z. f e ++ z) (past e es ls low ∙ rest ls (sorted_rest R o l ls t) (λ q x g n.
        bare_behind (l ∷ ls) b q x g (lacks l ls q x same g n (eq_by_cmp R q l.0) refl)))

    -- a key below the first entry isn't the key of any
    lacks_low : (l : K × Y) (ls : List (K × Y)) (q : K) (x : X) → R l.0 e.0 ≡ Less → find R q (e ∷ es) ≡ Some x
        → find R q ls ≡ None → (u : Bool) → eq_by_cmp R q l.0 ≡ u → cond u (Some l.1) (find R q ls) ≡ None
    lacks_low l ls q x low h n true t =
        let none : find R q (e ∷ es) ≡ None =
        ap (λ k. find R k (e ∷ es)) (tied R apart q l.0 t)
        ∙ missed R o l.0 (e ∷ es) (above_first R o l.0 e es low s) in
        absurd (none_is x (sym none ∙ h))
    lacks_low l ls q x low h n false t = n

    bare_after : (l : K × Y) (ls : List (K × Y)) → R l.0 e.0 ≡ Less → IsBare (e ∷ es) (l ∷ ls) → IsBare (e ∷ es) ls
    bare_after l ls low b q x h n = b q x h (lacks_low l ls q x low h n (eq_by_cmp R q l.0) refl)

    each_key : (ls : List (K × Y)) → T (is_sorted R ls) → IsBare (e ∷ es) ls
        → at_keys R f (e ∷ es) ls ≡ f e ++ flat_map f es
    each_key [] t b = skips [] t b tt
    each_key (l ∷ ls) t b =
        elim (R l.0 e.0) as (λ r. R l.0 e.0 ≡ r → at_keys R f (e ∷ es) (l ∷ ls) ≡ f e ++ flat_map f es) [
          | Less ↦ λ h. ap (λ z. at_key f l.0 z ++ at_keys R f (e ∷ es) ls)
              (missed R o l.0 (e ∷ es) (above_first R o l.0 e es h s))
              ∙ each_key ls (sorted_rest R o l ls t) (bare_after l ls h b)
          | Equal ↦ λ h. meets l ls t b h
          | Greater ↦ λ h. skips (l ∷ ls) t b
              (above_first R o e.0 l ls (o.antisymm e.0 l.0 ∙ ap ordering_reverse h) t)
        ] refl

  -- all that is made
  pub all_at : (es : List (K × X)) (ls : List (K × Y)) → T (is_sorted R es) → T (is_sorted R ls) → IsBare es ls
      → at_keys R f es ls ≡ flat_map f es
  all_at [] ls s t b = none_at ls
  all_at (e ∷ es) ls s t b = each_key e es s (λ ms u c. all_at es ms (sorted_rest R o e es s) u c) ls t b

  -- and so it is all that is made of the other list, where the same is made at each key
  pub all_of : (g : K × Y → List V) (es : List (K × X)) (ls : List (K × Y)) → T (is_sorted R es) → T (is_sorted R ls)
      → IsBare es ls → ((q : K) (y : Y) → find R q ls ≡ Some y → at_key f q (find R q es) ≡ g (q, y))
      → flat_map g ls ≡ flat_map f es
  all_of g es ls s t b h =
      sym (each_alike (λ (l : K × Y). at_key f l.0 (find R l.0 es)) g ls
      (of_entries R o (λ q y. at_key f q (find R q es) ≡ g (q, y)) ls t h))
      ∙ all_at es ls s t b
