-- The first item of each key in a list, and an index of the slots in which these stand.
use Rattle.std.specs.Prelude.{◌≡◌, ℕ, Bool, true, false, cond, List, [], ◌∷◌, ◌++◌, Option, Some, None, slice_get, refl}
use Rattle.std.proofs.Common.{ap, sym, ◌∙◌, length, suc}
use Rattle.std.specs.Option.{option_map}
use Rattle.std.specs.Cmp.{IsEquivalence}

-- what stands in a slot, if there is one
abbrev pub at_slot : {V : Type 0} → Option ℕ → List V → Option V
at_slot None es = None
at_slot (Some n) es = slice_get es n

-- the slot, or else the last where that has the key
abbrev pub or_last : Option ℕ → Bool → ℕ → Option ℕ
or_last (Some p) b n = Some p
or_last None b n = cond b (Some n) None

later : {V : Type 0} (o : Option ℕ) (e : V) (es : List V) → at_slot (option_map (λ n. suc n) o) (e ∷ es) ≡ at_slot o es
later None e es = refl
later (Some n) e es = refl

nowhere_step : {V : Type 0} (b : Bool) (e : V) (o : Option V) (p : Option ℕ) → cond b (Some e) o ≡ None
    → (o ≡ None → p ≡ None) → cond b (Some 0) (option_map (λ n. suc n) p) ≡ None
nowhere_step true e o p h f = cc
nowhere_step false e o p h f = ap (option_map (λ n. suc n)) (f h)

last_later : (o : Option ℕ) (b : Bool) (n : ℕ) → option_map (λ m. suc m) (or_last o b n)
    ≡ or_last (option_map (λ m. suc m) o) b (suc n)
last_later (Some p) b n = refl
last_later None true n = refl
last_later None false n = refl

new_or_last : (b : Bool) (o : Option ℕ) (n : ℕ) → (b ≡ true → o ≡ None) → cond b (Some n) o ≡ or_last o b n
new_or_last true o n h = ap (λ p. or_last p true n) (sym (h refl))
new_or_last false (Some p) n h = refl
new_or_last false None n h = refl

old_or_last : (b : Bool) (o : Option ℕ) (p n : ℕ) → (b ≡ true → o ≡ Some p) → o ≡ or_last o b n
old_or_last true o p n h = h refl ∙ ap (λ q. or_last q true n) (sym (h refl))
old_or_last false (Some q) p n h = refl
old_or_last false None p n h = refl

first_step : {V : Type 0} (b : Bool) (z y : V) (o p : Option V) → cond b (Some z) o ≡ None → (o ≡ None → p ≡ Some y)
    → cond b (Some z) p ≡ Some y
first_step true z y o p g f = cc
first_step false z y o p g f = f g

still_step : {V : Type 0} (b : Bool) (z y : V) (o p : Option V) → cond b (Some z) o ≡ Some y → (o ≡ Some y → p ≡ Some y)
    → cond b (Some z) p ≡ Some y
still_step true z y o p g f = g
still_step false z y o p g f = f g

module _ {K V : Type 0} (eq : K → K → Bool) (key_of : V → Option K) where
  abbrev pub is_key : Option K → K → Bool
  is_key None k = false
  is_key (Some l) k = eq l k

  -- the item has the key
  abbrev pub has_key : K → V → Bool
  has_key k e = is_key (key_of e) k

  -- the first of the items that has the key
  abbrev pub first_of : K → List V → Option V
  first_of k [] = None
  first_of k (e ∷ es) = cond (has_key k e) (Some e) (first_of k es)

  -- and its slot
  abbrev pub slot_of : K → List V → Option ℕ
  slot_of k [] = None
  slot_of k (e ∷ es) = cond (has_key k e) (Some 0) (option_map (λ n. suc n) (slot_of k es))

  -- m has the slot of each key
  abbrev pub IsIndex : (K → Option ℕ) → List V → Type 0
  IsIndex m es = (k : K) → m k ≡ slot_of k es

  pub first_at : (k : K) (es : List V) → first_of k es ≡ at_slot (slot_of k es) es
  first_at k [] = refl
  first_at k (e ∷ es) =
      elim (has_key k e) as (λ b. cond b (Some e) (first_of k es)
      ≡ at_slot (cond b (Some 0) (option_map (λ n. suc n) (slot_of k es))) (e ∷ es)) [
        | true ↦ refl
        | false ↦ first_at k es ∙ sym (later (slot_of k es) e es)
      ]

  -- where no item has the key, it has no slot
  pub nowhere : (k : K) (es : List V) → first_of k es ≡ None → slot_of k es ≡ None
  nowhere k [] h = refl
  nowhere k (e ∷ es) h = nowhere_step (has_key k e) e (first_of k es) (slot_of k es) h (nowhere k es)

  slot_more : (q : K) (es : List V) (e : V) → slot_of q (es ++ e ∷ [])
      ≡ or_last (slot_of q es) (has_key q e) (length es)
  slot_more q [] e = refl
  slot_more q (x ∷ es) e =
      elim (has_key q x) as (λ b. cond b (Some 0) (option_map (λ n. suc n) (slot_of q (es ++ e ∷ [])))
      ≡ or_last (cond b (Some 0) (option_map (λ n. suc n) (slot_of q es))) (has_key q e) (length (x ∷ es))) [
        | true ↦ refl
        | false ↦ ap (option_map (λ n. suc n)) (slot_more q es e) ∙ last_later (slot_of q es) (has_key q e) (length es)
      ]

  -- the first stays the first
  pub first_still : (k : K) (es rest : List V) (e : V) → first_of k es ≡ Some e → first_of k (es ++ rest) ≡ Some e
  first_still k [] rest e h = cc
  first_still k (x ∷ es) rest e h = still_step (has_key k x) x e (first_of k es) (first_of k (es ++ rest)) h
      (first_still k es rest e)

  module _ (equiv : IsEquivalence eq) where
    equal_key : (o : Option K) (k q : K) → eq k q ≡ true → is_key o k ≡ is_key o q
    equal_key None k q h = refl
    equal_key (Some l) k q h = equiv.symm l k ∙ equiv.congr k q l h ∙ equiv.symm q l

    -- equal keys have one slot
    equal_slot : (k q : K) (es : List V) → eq k q ≡ true → slot_of k es ≡ slot_of q es
    equal_slot k q [] h = refl
    equal_slot k q (e ∷ es) h =
        ap (λ b. cond b (Some 0) (option_map (λ n. suc n) (slot_of k es))) (equal_key (key_of e) k q h)
        ∙ ap (λ p. cond (has_key q e) (Some 0) (option_map (λ n. suc n) p)) (equal_slot k q es h)

    -- an index of the items and of one more, whose key is new
    pub index_push : (m n : K → Option ℕ) (es : List V) (k : K) (e : V) → IsIndex m es → key_of e ≡ Some k
        → slot_of k es ≡ None → ((q : K) → n q ≡ cond (eq k q) (Some (length es)) (m q)) → IsIndex n (es ++ e ∷ [])
    index_push m n es k e h is new u q =
        u q
        ∙ ap (cond (eq k q) (Some (length es))) (h q)
        ∙ new_or_last (eq k q) (slot_of q es) (length es) (λ t. sym (equal_slot k q es t) ∙ new)
        ∙ ap (λ o. or_last (slot_of q es) (is_key o q) (length es)) (sym is)
        ∙ sym (slot_more q es e)

    -- an index serves the items and one more, whose key an item has already
    pub index_still : (m : K → Option ℕ) (es : List V) (k : K) (e : V) (p : ℕ) → IsIndex m es → key_of e ≡ Some k
        → slot_of k es ≡ Some p → IsIndex m (es ++ e ∷ [])
    index_still m es k e p h is old q =
        h q
        ∙ old_or_last (eq k q) (slot_of q es) p (length es) (λ t. sym (equal_slot k q es t) ∙ old)
        ∙ ap (λ o. or_last (slot_of q es) (is_key o q) (length es)) (sym is)
        ∙ sym (slot_more q es e)

    -- an item is the first of its key, where none was before it
    pub first_new : (k : K) (es : List V) (e : V) → key_of e ≡ Some k → first_of k es ≡ None → first_of k (es ++ e ∷ [])
        ≡ Some e
    first_new k [] e is h = ap (λ o. cond (is_key o k) (Some e) None) is ∙ ap (λ r. cond r (Some e) None) (equiv.refl k)
    first_new k (x ∷ es) e is h = first_step (has_key k x) x e (first_of k es) (first_of k (es ++ e ∷ [])) h
        (first_new k es e is)
