-- Lists of the numbers in a range with one more of them, and an entry under a number that is behind them.
use Rattle.std.proofs.Common.{◌≡◌, refl, ap, sym, ◌∙◌, ℕ, suc, zero, ◌+◌, ◌≤◌, ◌≢◌, inl, inr, Bool, true, false, cond}
use Rattle.std.proofs.Common.{eqb, List, [], ◌∷◌, ◌++◌, map, append-nil, arith}
use Rattle.std.specs.List.{flat_map, range_with_len}
use Rattle.std.proofs.lemmas.Bool.Decides.{eqb_tells}
use Rattle.std.proofs.lemmas.Grind.{flat_map-append}
use Rattle.std.proofs.lemmas.List.Folds.{flat_map-map}
use Rattle.std.proofs.lemmas.List.FromFn.{map-range_with_len_more}
use Rattle.alias_base.specs.Find.{with_value}
use Rattle.alias_base.specs.declared.ids.BlockId.{BlockId}

-- what is made of each number of a range, with that of the next one
pub map-range_more : {A : Type 0} (f : ℕ → A) (n : ℕ) (xs ys : List A) (x : A) → xs ≡ map f (range_with_len 0 n) → x
    ≡ f n → ys ≡ xs ++ x ∷ [] → ys ≡ map f (range_with_len 0 (n + 1))
map-range_more f n xs ys x before is pushed =
    let more : map f (range_with_len 0 (n + 1)) ≡ map f (range_with_len 0 n) ++ f n ∷ [] =
    map-range_with_len_more f 0 n n (omega arith) in
    cc

flat_map-range_next : {A : Type 0} (f : ℕ → List A) (n : ℕ) → flat_map f (range_with_len 0 (n + 1))
    ≡ flat_map f (range_with_len 0 n) ++ f n
flat_map-range_next f n =
    let id : ℕ → ℕ = λ k. k in
    let more : map id (range_with_len 0 (n + 1)) ≡ map id (range_with_len 0 n) ++ n ∷ [] =
    map-range_with_len_more id 0 n n (omega arith) in
    sym (flat_map-map f id (range_with_len 0 (n + 1)))
    ∙ ap (flat_map f) more
    ∙ flat_map-append f (map id (range_with_len 0 n)) (n ∷ [])
    ∙ ap (λ zs. zs ++ (f n ++ [])) (flat_map-map f id (range_with_len 0 n))
    ∙ ap (λ zs. flat_map f (range_with_len 0 n) ++ zs) (append-nil (f n))

-- a list made of each number of a range, with that of the next one
pub flat_map-range_more : {A : Type 0} (f : ℕ → List A) (n : ℕ) (xs ys new : List A) → xs
    ≡ flat_map f (range_with_len 0 n) → new ≡ f n → ys ≡ xs ++ new → ys ≡ flat_map f (range_with_len 0 (n + 1))
flat_map-range_more f n xs ys new before is pushed =
    let more : flat_map f (range_with_len 0 (n + 1)) ≡ flat_map f (range_with_len 0 n) ++ f n =
    flat_map-range_next f n in
    cc

different : (a b : ℕ) → a ≢ b → eqb a b ≡ false
different a b h = elim (eqb_tells a b) [ inl p ↦ absurd (h p.1) | inr p ↦ p.0 ]

entry_passed : {V : Type 0} (b : Bool) (e : BlockId × V) (kept replaced rest : List (BlockId × V)) → b ≡ false → kept
    ≡ e ∷ rest → cond b replaced kept ≡ e ∷ rest
entry_passed true e kept replaced rest passed is = cc
entry_passed false e kept replaced rest passed is = is

-- a value under a number that is not below those of a range goes last
behind : {V : Type 0} (f : ℕ → BlockId × V) (a n k : ℕ) (v : V) → ((j : ℕ) → (f j).0.0 ≡ j) → a + n ≤ k
    → with_value (map f (range_with_len a n)) (record { 0 = k }) v ≡ map f (range_with_len a n) ++ (record { 0 = k }, v)
    ∷ []
behind f a zero k v named h = refl
behind f a (suc n) k v named h =
    let here : (f a).0.0 ≡ a = named a in
    entry_passed (eqb k (f a).0.0) (f a) _ _ _ (different k (f a).0.0 (λ e. absurd (omega (arith, e, here))))
    (ap (λ es. f a ∷ es) (behind f (a + 1) n k v named (omega arith)))

-- the same with the number that comes next
pub with_value-range : {V : Type 0} (f : ℕ → BlockId × V) (n : ℕ) (v : V) (es : List (BlockId × V))
    → ((j : ℕ) → (f j).0.0 ≡ j) → es ≡ map f (range_with_len 0 n) → with_value es (record { 0 = n }) v ≡ es
    ++ (record { 0 = n }, v) ∷ []
with_value-range f n v es named is =
    let there : with_value (map f (range_with_len 0 n)) (record { 0 = n }) v ≡ map f (range_with_len 0 n)
    ++ (record { 0 = n }, v) ∷ [] = behind f 0 n n v named (omega arith) in
    cc
