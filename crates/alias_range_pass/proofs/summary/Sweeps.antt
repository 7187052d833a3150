-- What mutations raise, the last first.
use Rattle.std.proofs.Common.{◌≡◌, ℕ, ◌+◌, ◌<◌, List, [], ◌∷◌, ◌++◌, length, map, reverse, drop, slice_index_or, refl}
use Rattle.std.proofs.Common.{ap, sym, ◌∙◌, arith, suc, zero}
use Rattle.std.proofs.lemmas.List.{drop_more}
use mathlib.Core.List.{reverse-cons}
use Rattle.alias_graph.specs.declared.recorded.listing.RecordedMutation.{RecordedMutation}
use Rattle.alias_graph.specs.recorded.Fitting.{AllOf}
use Rattle.alias_range_pass.specs.summary.Sweeping.{range_walk}

pub all_at : {A : Type 0} (P : A → Type 0) (xs : List A) (i : ℕ) (d : A) → AllOf P xs → i < length xs
    → P (slice_index_or xs i d)
all_at P [] i d h lt = absurd (omega arith)
all_at P (x ∷ xs) zero d h lt = h.0
all_at P (x ∷ xs) (suc i) d h lt = all_at P xs i d h.1 (omega arith)

map_push : {A B : Type 0} (f : A → B) (xs : List A) (x : A) → map f (xs ++ x ∷ []) ≡ map f xs ++ f x ∷ []
map_push f [] x = refl
map_push f (y ∷ xs) x = ap (λ z. f y ∷ z) (map_push f xs x)

none_left : (ms : List RecordedMutation) → drop (length ms) ms ≡ []
none_left [] = refl
none_left (m ∷ ms) = none_left ms

pub walks_begin : (ms : List RecordedMutation) → [] ≡ map range_walk (reverse (drop (length ms) ms))
walks_begin ms = ap (λ z. map range_walk (reverse z)) (sym (none_left ms))

-- one mutation more
pub walks_more : (ms : List RecordedMutation) (i left : ℕ) (d : RecordedMutation) → left ≡ i + 1 → i < length ms
    → map range_walk (reverse (drop left ms)) ++ range_walk (slice_index_or ms i d) ∷ []
    ≡ map range_walk (reverse (drop i ms))
walks_more ms i left d is lt =
    let m = slice_index_or ms i d in
    ap (λ n. map range_walk (reverse (drop n ms)) ++ range_walk m ∷ []) is
    ∙ sym (map_push range_walk (reverse (drop (i + 1) ms)) m)
    ∙ ap (map range_walk) (sym (reverse-cons m (drop (i + 1) ms)))
    ∙ ap (λ z. map range_walk (reverse z)) (sym (drop_more ms i d lt))
