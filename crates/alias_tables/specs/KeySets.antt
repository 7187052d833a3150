-- The keys of items, in the order of the items, as an index of their slots.
use Rattle.std.specs.Prelude.{◌≡◌, ℕ, ◌+◌, ◌<◌, ◌≤◌, Bool, true, false, not, cond, ◌||◌, nat_lt, List, [], ◌∷◌, ◌++◌}
use Rattle.std.specs.Prelude.{map, length, Option, Some, None, option_map, position, refl, if◌then◌else◌}
use Rattle.std.specs.List.{list_any, position_or_len}
use Rattle.std.proofs.Common.{ap, sym, ◌∙◌, suc, arith, lt-ltb, le-ltb}
use Rattle.std.proofs.lemmas.Grind.{common_steps}
use Rattle.indexmap.specs.IndexSet.{insert_key}
use Rattle.alias_base.specs.Indexes.{is_key, slot_of}

module _ {K V : Type 0} (key_of : V → Option K) where
  -- each item has a key, and these are the keys, in order
  abbrev pub AreKeys : List K → List V → Type 0
  AreKeys keys items = map key_of items ≡ map (λ k. Some k) keys

  pub keys_push : (keys : List K) (items : List V) (k : K) (e : V) → AreKeys keys items → key_of e ≡ Some k
      → AreKeys (keys ++ k ∷ []) (items ++ e ∷ [])
  keys_push [] [] k e h is = ap (λ o. o ∷ []) is
  keys_push [] (x ∷ items) k e h is = cc
  keys_push (l ∷ keys) [] k e h is = cc
  keys_push (l ∷ keys) (x ∷ items) k e h is =
      let first : key_of x ≡ Some l = cc in
      let rest : AreKeys keys items = cc in
      let more = keys_push keys items k e rest is in
      cc

lt_zero : (n : ℕ) → nat_lt 0 (suc n) ≡ true
lt_zero n = grind (arith, common_steps)

lt_suc : (m n : ℕ) → nat_lt (suc m) (suc n) ≡ nat_lt m n
lt_suc m n = grind (arith, common_steps)

one_more : (m : ℕ) → 1 + m ≡ suc m
one_more m = omega arith

past : (m n : ℕ) → cond (nat_lt (1 + m) (suc n)) (Some (1 + m)) None
    ≡ option_map (λ k. suc k) (cond (nat_lt m n) (Some m) None)
past m n =
    ap (λ k. cond (nat_lt k (suc n)) (Some k) None) (one_more m)
    ∙ ap (λ b. cond b (Some (suc m)) None) (lt_suc m n)
    ∙ elim (nat_lt m n) as (λ b. cond b (Some (suc m)) None ≡ option_map (λ k. suc k) (cond b (Some m) None))
    [ true ↦ refl | false ↦ refl ]

-- the first place that passes is the first, or one after the first place in the rest
position_cons : {K : Type 0} (p : K → Bool) (x : K) (xs : List K) → position p (x ∷ xs)
    ≡ cond (p x) (Some 0) (option_map (λ n. suc n) (position p xs))
position_cons p x xs =
    let m = position_or_len p xs in
    elim (p x) as (λ b. cond (nat_lt (cond (not b) (1 + m) 0) (suc (length xs))) (Some (cond (not b) (1 + m) 0)) None
    ≡ cond b (Some 0) (option_map (λ n. suc n) (position p xs))) [
      | true ↦ ap (λ b. cond b (Some 0) None) (lt_zero (length xs))
      | false ↦ past m (length xs)
    ]

none_later : (b c : Bool) (o : Option ℕ) → cond b (Some 0) (option_map (λ n. suc n) o) ≡ None → (o ≡ None → c ≡ false)
    → (b || c) ≡ false
none_later true c o h f = cc
none_later false c None h f = f refl
none_later false c (Some n) h f = cc

some_later : (b c : Bool) (o : Option ℕ) (n : ℕ) → cond b (Some 0) (option_map (λ m. suc m) o) ≡ Some n
    → ((m : ℕ) → o ≡ Some m → c ≡ true) → (b || c) ≡ true
some_later true c o n h f = refl
some_later false c None n h f = cc
some_later false c (Some m) n h f = f m refl

module _ {K V : Type 0} (eq same : K → K → Bool) (key_of : V → Option K) (is_same : (k l : K) → eq k l ≡ same l k) where
  same_here : (k l : K) (o : Option K) → o ≡ Some l → eq k l ≡ is_key same key_of o k
  same_here k l o h = is_same k l ∙ ap (λ p. is_key same key_of p k) (sym h)

  -- the place of a key is the slot of the first item that has it
  pub slot_is : (k : K) (keys : List K) (items : List V) → AreKeys key_of keys items → position (eq k) keys
      ≡ slot_of same key_of k items
  slot_is k [] [] h = refl
  slot_is k [] (e ∷ items) h = cc
  slot_is k (l ∷ keys) [] h = cc
  slot_is k (l ∷ keys) (e ∷ items) h =
      let first : key_of e ≡ Some l = cc in
      let rest : AreKeys key_of keys items = cc in
      position_cons (eq k) l keys
      ∙ ap (λ b. cond b (Some 0) (option_map (λ n. suc n) (position (eq k) keys))) (same_here k l (key_of e) first)
      ∙ ap (λ o. cond (is_key same key_of (key_of e) k) (Some 0) (option_map (λ n. suc n) o))
      (slot_is k keys items rest)

  -- a key that no item has is none of the keys
  none_is : (k : K) (keys : List K) (items : List V) → AreKeys key_of keys items → slot_of same key_of k items ≡ None
      → list_any (eq k) keys ≡ false
  none_is k [] items h n = refl
  none_is k (l ∷ keys) [] h n = cc
  none_is k (l ∷ keys) (e ∷ items) h n =
      let first : key_of e ≡ Some l = cc in
      let rest : AreKeys key_of keys items = cc in
      ap (λ b. b || list_any (eq k) keys) (same_here k l (key_of e) first)
      ∙ none_later (is_key same key_of (key_of e) k) (list_any (eq k) keys) (slot_of same key_of k items) n
      (none_is k keys items rest)

  -- so it goes last
  pub new_is_last : (k : K) (keys : List K) (items : List V) → AreKeys key_of keys items → slot_of same key_of k items
      ≡ None → insert_key eq keys k ≡ keys ++ k ∷ []
  new_is_last k keys items h n = ap (λ b. if b then keys else keys ++ k ∷ []) (none_is k keys items h n)

  -- a key that an item has is one of the keys
  some_is : (k : K) (keys : List K) (items : List V) (n : ℕ) → AreKeys key_of keys items → slot_of same key_of k items
      ≡ Some n → list_any (eq k) keys ≡ true
  some_is k [] [] n h s = cc
  some_is k [] (e ∷ items) n h s = cc
  some_is k (l ∷ keys) [] n h s = cc
  some_is k (l ∷ keys) (e ∷ items) n h s =
      let first : key_of e ≡ Some l = cc in
      let rest : AreKeys key_of keys items = cc in
      ap (λ b. b || list_any (eq k) keys) (same_here k l (key_of e) first)
      ∙ some_later (is_key same key_of (key_of e) k) (list_any (eq k) keys) (slot_of same key_of k items) n s
      (λ m i. some_is k keys items m rest i)

  -- so nothing comes
  pub old_stays : (k : K) (keys : List K) (items : List V) (n : ℕ) → AreKeys key_of keys items
      → slot_of same key_of k items ≡ Some n → insert_key eq keys k ≡ keys
  old_stays k keys items n h s = ap (λ b. if b then keys else keys ++ k ∷ []) (some_is k keys items n h s)

-- a place before the end is the first that passes
pub position_below : {K : Type 0} (p : K → Bool) (xs : List K) → position_or_len p xs < length xs → position p xs
    ≡ Some (position_or_len p xs)
position_below p xs h = ap (λ b. cond b (Some (position_or_len p xs)) None)
    (lt-ltb (position_or_len p xs) (length xs) h)

-- and where none is, none passes
pub position_at_end : {K : Type 0} (p : K → Bool) (xs : List K) → length xs ≤ position_or_len p xs → position p xs
    ≡ None
position_at_end p xs h = ap (λ b. cond b (Some (position_or_len p xs)) None)
    (le-ltb (position_or_len p xs) (length xs) h)
