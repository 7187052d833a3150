-- The texts of items that stand one after the other, each with what stands at its place in another list.
use Rattle.std.proofs.Common.{◌≡◌, ℕ, suc, ◌+◌, ◌<◌, ◌≤◌, List, [], ◌∷◌, ◌++◌, drop, get_or, length, ap, sym, take}
use Rattle.std.proofs.Common.{subst, ◌∙◌, add-one, drop-cons, append_assoc}
use Rattle.std.proofs.lemmas.List.{drop_all}
use Rattle.std.specs.Prelude.{Option, slice_get}
use Rattle.std.specs.List.{AllByRecursion, flat_map}
use Rattle.alias_lattice.proofs.CoverLemmas.{all_more}
use Rattle.alias_text.proofs.Fits.{get_or_there, text_more}

-- what is left begins with the item at the place
first_left : {X : Type 0} (xs : List X) (i : ℕ) (x : X) → i < length xs → x ≡ get_or xs i x
    → drop i xs ≡ x ∷ drop (i + 1) xs
first_left xs i x h is = rw add-one (drop-cons xs i x h ∙ ap (λ z. z ∷ drop (suc i) xs) (sym is))

-- where the text of an item is appended, those of the items behind it are left
pub next_item : {X Y : Type 0} (text : Option Y → X → List ℕ) (from : ℕ → List X → List ℕ) (ys : List Y)
    → ((i : ℕ) (x : X) (xs : List X) → from i (x ∷ xs) ≡ text (slice_get ys i) x ++ from (i + 1) xs)
    → (xs : List X) (i : ℕ) (x : X) (y : Option Y) (out new whole : List ℕ) → i < length xs → x ≡ get_or xs i x
    → y ≡ slice_get ys i → out ++ from i (drop i xs) ≡ whole → new ≡ out ++ text y x
    → new ++ from (i + 1) (drop (i + 1) xs) ≡ whole
next_item text from ys step xs i x y out new whole h is at so_far n =
    let left : drop i xs ≡ x ∷ drop (i + 1) xs = first_left xs i x h is in
    let rest = from (i + 1) (drop (i + 1) xs) in
    let all : from i (drop i xs) ≡ text (slice_get ys i) x ++ rest = ap (from i) left
    ∙ step i x (drop (i + 1) xs) in
    ap (λ z. z ++ rest) n ∙ append_assoc out (text y x) rest ∙ ap (λ o. out ++ (text o x ++ rest)) at
    ∙ ap (λ z. out ++ z) (sym all) ∙ so_far

-- where what is left fits with the next item, all does, also once that is known to fit
pub next_fits : {X Y : Type 0} (Fits : Option Y → X → Type 0) (From : ℕ → List X → Type 0) (ys : List Y) (All : Type 0)
    → ((i : ℕ) (x : X) (xs : List X) → Fits (slice_get ys i) x → From (i + 1) xs → From i (x ∷ xs))
    → (xs : List X) (i : ℕ) (x : X) (y : Option Y) → i < length xs → x ≡ get_or xs i x → y ≡ slice_get ys i → Fits y x
    → (From i (drop i xs) → All) → From (i + 1) (drop (i + 1) xs) → All
next_fits Fits From ys All step xs i x y h is at fits so_far rest =
    so_far (subst (From i) (sym (first_left xs i x h is))
    (step i x (drop (i + 1) xs) (subst (λ o. Fits o x) at fits) rest))

-- nothing is left in the end
pub all_fit : {X : Type 0} (From : ℕ → List X → Type 0) (All : Type 0) (xs : List X) (i : ℕ) → length xs ≤ i → From i []
    → (From i (drop i xs) → All) → All
all_fit From All xs i h none so_far = so_far (subst (From i) (sym (drop_all i xs h)) none)

-- what is appended of the items so far, with that of the next, of each of which something is so. Past the end an item is
-- any one
pub item_more : {X : Type 0} (P : X → Type 0) (text : X → List ℕ) (xs : List X) (i : ℕ) (none : X)
    → (out new before : List ℕ) → i < length xs → out ≡ before ++ flat_map text (take i xs)
    → AllByRecursion P (take i xs) → P (get_or xs i none) → new ≡ out ++ text (get_or xs i none)
    → (new ≡ before ++ flat_map text (take (i + 1) xs)) × AllByRecursion P (take (i + 1) xs)
item_more P text xs i none out new before h so_far all one appended =
    let is = get_or_there xs i none (get_or xs i none) h in (
      text_more text xs i (get_or xs i none) out new before h is so_far appended,
      all_more P xs i (get_or xs i none) h is all one,
    )
