-- Entries are found by the numbers of those with their digest.
use Rattle.std.proofs.Common.{◌≡◌, ℕ, suc, ◌+◌, Bool, true, false, cond, ◌==◌, ◌<◌, List, [], ◌∷◌, ◌++◌, drop, get_or}
use Rattle.std.proofs.Common.{drop-cons, add-one, length, refl, ap, sym, ◌∙◌, arith}
use Rattle.std.specs.Prelude.{Option, Some, slice_get}
use Rattle.alias_hir.specs.Numbered.{numbers_of, passes, first_among}
use Rattle.alias_hir.specs.SameReports.{number_of}
use Rattle.alias_hir.specs.declared.report.Interned.{Interned}

from_index : (xs : List ℕ) (i : ℕ) → i < length xs → drop i xs ≡ get_or xs i 0 ∷ drop (i + 1) xs
from_index xs i h = rw (add-one i) (drop-cons xs i 0 h)

-- a number whose entry passes is the first, where none before it does
pub found_here : (f : Interned → Bool) (es : List Interned) (ns : List ℕ) (i : ℕ) (o : Option Interned) (r : Bool) → i
    < length ns → first_among f es ns ≡ first_among f es (drop i ns)
    → o ≡ slice_get es (get_or ns i 0) → r ≡ passes f o → r ≡ true → get_or ns i 0 ≡ first_among f es ns
found_here f es ns i o r h e a b t =
    let head : first_among f es ns ≡ cond (passes f (slice_get es (get_or ns i 0))) (get_or ns i 0)
    (first_among f es (drop (i + 1) ns)) = e ∙ ap (first_among f es) (from_index ns i h) in
    let yes : passes f (slice_get es (get_or ns i 0)) ≡ true = ap (passes f) (sym a) ∙ sym b ∙ t in
    sym (head ∙ ap (λ (z : Bool). cond z (get_or ns i 0) (first_among f es (drop (i + 1) ns))) yes)

-- where its entry doesn't pass, the later numbers decide
pub found_later : (f : Interned → Bool) (es : List Interned) (ns : List ℕ) (i : ℕ) (o : Option Interned) (r : Bool) → i
    < length ns → first_among f es ns ≡ first_among f es (drop i ns)
    → o ≡ slice_get es (get_or ns i 0) → r ≡ passes f o → r ≡ false → first_among f es ns
    ≡ first_among f es (drop (i + 1) ns)
found_later f es ns i o r h e a b t =
    let head : first_among f es ns ≡ cond (passes f (slice_get es (get_or ns i 0))) (get_or ns i 0)
    (first_among f es (drop (i + 1) ns)) = e ∙ ap (first_among f es) (from_index ns i h) in
    let no : passes f (slice_get es (get_or ns i 0)) ≡ false = ap (passes f) (sym a) ∙ sym b ∙ t in
    head ∙ ap (λ (z : Bool). cond z (get_or ns i 0) (first_among f es (drop (i + 1) ns))) no

chosen : (f : Interned → Bool) (all : List Interned) (n : ℕ) (ns : List ℕ) (t : Bool)
    → first_among f all (cond t (n ∷ ns) ns)
    ≡ cond t (cond (passes f (slice_get all n)) n (first_among f all ns)) (first_among f all ns)
chosen f all n ns true = refl
chosen f all n ns false = refl

by_tests : (t p : Bool) (n later rest : ℕ) → (p ≡ true → t ≡ true) → later ≡ (n + 1) + rest
    → cond t (cond p n later) later ≡ n + cond p 0 (rest + 1)
by_tests true true n later rest i e = omega arith
by_tests true false n later rest i e = omega (arith, e)
by_tests false true n later rest i e = let no : false ≡ true = i refl in cc
by_tests false false n later rest i e = omega (arith, e)

-- where f passes entries with the digest q alone, the numbers of those entries serve in the place of all
first_from : (f : Interned → Bool) (digest : Interned → ℕ) (q : ℕ)
    → ((e : Interned) → f e ≡ true → (digest e == q) ≡ true) → (all es : List Interned) (n : ℕ)
    → ((k : ℕ) → slice_get all (n + k) ≡ slice_get es k) → length all ≡ n + length es
    → first_among f all (numbers_of digest q n es) ≡ n + number_of f es
first_from f digest q i all [] n h l = l
first_from f digest q i all (x ∷ xs) n h l =
    let same : n ≡ n + 0 = omega arith in
    let here : slice_get all n ≡ Some x = ap (slice_get all) same ∙ h 0 in
    let shift : (k : ℕ) → (n + 1) + k ≡ n + suc k = λ k. omega arith in
    let next : (k : ℕ) → slice_get all ((n + 1) + k) ≡ slice_get xs k = λ k. ap (slice_get all) (shift k) ∙ h (suc k) in
    let short : length all ≡ (n + 1) + length xs = omega (arith, l) in
    let later : first_among f all (numbers_of digest q (n + 1) xs) ≡ (n + 1) + number_of f xs =
    first_from f digest q i all xs (n + 1) next short in
    chosen f all n (numbers_of digest q (n + 1) xs) (digest x == q)
    ∙ ap (λ (z : Bool). cond (digest x == q) (cond z n (first_among f all (numbers_of digest q (n + 1) xs)))
    (first_among f all (numbers_of digest q (n + 1) xs))) (ap (passes f) here)
    ∙ by_tests (digest x == q) (f x) n (first_among f all (numbers_of digest q (n + 1) xs)) (number_of f xs) (i x) later

pub first_numbered : (f : Interned → Bool) (digest : Interned → ℕ) (q : ℕ)
    → ((e : Interned) → f e ≡ true → (digest e == q) ≡ true) → (es : List Interned) (ns : List ℕ)
    → ns ≡ numbers_of digest q 0 es → first_among f es ns ≡ number_of f es
first_numbered f digest q i es ns e =
    let plain : (k : ℕ) → 0 + k ≡ k = λ k. omega arith in
    let all : length es ≡ 0 + length es = omega arith in
    ap (first_among f es) e ∙ first_from f digest q i es es 0 (λ k. ap (slice_get es) (plain k)) all
    ∙ plain (number_of f es)

pushed : (t s : Bool) (n : ℕ) (ns later : List ℕ) (a b : ℕ) → a ≡ b → later ≡ cond s (ns ++ a ∷ []) ns
    → cond t (n ∷ later) later ≡ cond s (cond t (n ∷ ns) ns ++ b ∷ []) (cond t (n ∷ ns) ns)
pushed true true n ns later a b e h = cc
pushed true false n ns later a b e h = cc
pushed false true n ns later a b e h = cc
pushed false false n ns later a b e h = cc

numbers_of-append : (digest : Interned → ℕ) (q n : ℕ) (es : List Interned) (e : Interned)
    → numbers_of digest q n (es ++ e ∷ [])
    ≡ cond (digest e == q) (numbers_of digest q n es ++ (n + length es) ∷ []) (numbers_of digest q n es)
numbers_of-append digest q n [] e = let same : n ≡ n + 0 = omega arith in
    ap (λ (z : ℕ). cond (digest e == q) (z ∷ []) []) same
numbers_of-append digest q n (x ∷ xs) e =
    let same : (n + 1) + length xs ≡ n + length (x ∷ xs) = omega arith in
    pushed (digest x == q) (digest e == q) n (numbers_of digest q (n + 1) xs) _ _ _ same
    (numbers_of-append digest q (n + 1) xs e)

-- one more entry has the next number
pub numbers_push : (digest : Interned → ℕ) (q n d : ℕ) (es fs : List Interned) (e : Interned) (old new : List ℕ) → fs
    ≡ es ++ e ∷ [] → n ≡ length es → old ≡ numbers_of digest q 0 es
    → d ≡ digest e → new ≡ cond (d == q) (old ++ n ∷ []) old → new ≡ numbers_of digest q 0 fs
numbers_push digest q n d es fs e old new f l o g h =
    let whole : numbers_of digest q 0 fs ≡ cond (digest e == q) (numbers_of digest q 0 es ++ (0 + length es) ∷ [])
    (numbers_of digest q 0 es) = ap (numbers_of digest q 0) f ∙ numbers_of-append digest q 0 es e in
    let last : 0 + length es ≡ n = omega (arith, l) in
    cc
