-- Lists that are made of what is left of others.
use Rattle.std.proofs.Common.{◌≡◌, ℕ, ◌+◌, zero, suc, List, [], ◌∷◌, ◌++◌, length, drop, Option, Some, None, refl, ap}
use Rattle.std.proofs.Common.{sym, ◌∙◌, arith, append_assoc, add-one, drop-set-lt}
use Rattle.std.specs.Prelude.{slice_get, slice_set}
use Rattle.std.specs.List.{flat_map}
use Rattle.alias_hir.specs.Positions.{Blocks}
use Rattle.alias_lattice.specs.States.{State}
use Rattle.alias_step.specs.declared.block.recorded.BlockEffects.{BlockEffects}
use Rattle.alias_effects.specs.declared.solved.BlockEntry.{BlockEntry}
use Rattle.alias_effects.specs.Inference.{block_at, entries_of}
use Rattle.alias_effects.specs.Output.{entry_as}

step_entries : (es : Blocks) (xs : List (Option State)) (i : ℕ) (x : Option State) → length xs ≡ length es
    → slice_get xs i ≡ Some x
    → entries_of (drop i es) (drop i xs) ≡ entry_as (block_at es i) x ++ entries_of (drop (suc i) es) (drop (suc i) xs)
step_entries [] [] i x l h = cc
step_entries [] (y ∷ ys) i x l h = cc
step_entries (e ∷ es) [] i x l h = cc
step_entries (e ∷ es) (None ∷ ys) zero None l h = refl
step_entries (e ∷ es) (None ∷ ys) zero (Some x) l h = cc
step_entries (e ∷ es) (Some y ∷ ys) zero None l h = cc
step_entries (e ∷ es) (Some y ∷ ys) zero (Some x) l h = let same : y ≡ x = cc in
    ap (λ z. let r : BlockEntry = record { block = e.0; state = z } in r ∷ entries_of es ys) same
step_entries (e ∷ es) (y ∷ ys) (suc i) x l h = let m : length ys ≡ length es = cc in step_entries es ys i x m h

-- one more entry is made of what is left
pub entries_left : (es : Blocks) (xs ys : List (Option State)) (i : ℕ) (x : Option State) (old new : List BlockEntry)
    → length xs ≡ length es → slice_get xs i ≡ Some x → ys ≡ slice_set xs i None
    → new ≡ old ++ entry_as (block_at es i) x → new ++ entries_of (drop (i + 1) es) (drop (i + 1) ys) ≡ old
    ++ entries_of (drop i es) (drop i xs)
entries_left es xs ys i x old new l h e n =
    let rest = entries_of (drop (i + 1) es) (drop (i + 1) xs) in
    ap (λ z. new ++ entries_of (drop (i + 1) es) (drop (i + 1) z)) e
    ∙ ap (λ z. new ++ entries_of (drop (i + 1) es) z) (drop-set-lt (i + 1) xs i None (omega arith))
    ∙ ap (λ z. z ++ rest) n
    ∙ append_assoc old (entry_as (block_at es i) x) rest
    ∙ ap (λ z. old ++ z) (sym (rw (add-one i) (step_entries es xs i x l h)))

step_recorded : {A : Type 0} (f : Option BlockEffects → List A) (xs : List (Option BlockEffects)) (i : ℕ)
    (x : Option BlockEffects) → slice_get xs i ≡ Some x → flat_map f (drop i xs) ≡ f x ++ flat_map f (drop (suc i) xs)
step_recorded f [] i x h = cc
step_recorded f (y ∷ ys) zero x h = let same : y ≡ x = cc in ap (λ z. f z ++ flat_map f ys) same
step_recorded f (y ∷ ys) (suc i) x h = step_recorded f ys i x h

-- what was recorded of one more block is taken from what is left
pub recorded_left : {A : Type 0} (f : Option BlockEffects → List A) (xs ys : List (Option BlockEffects)) (i : ℕ)
    (x : Option BlockEffects) (old new : List A) → slice_get xs i ≡ Some x → ys ≡ slice_set xs i None
    → new ≡ old ++ f x → new ++ flat_map f (drop (i + 1) ys) ≡ old ++ flat_map f (drop i xs)
recorded_left f xs ys i x old new h e n =
    ap (λ z. new ++ flat_map f (drop (i + 1) z)) e
    ∙ ap (λ z. new ++ flat_map f z) (drop-set-lt (i + 1) xs i None (omega arith))
    ∙ ap (λ z. z ++ flat_map f (drop (i + 1) xs)) n
    ∙ append_assoc old (f x) (flat_map f (drop (i + 1) xs))
    ∙ ap (λ z. old ++ z) (sym (rw (add-one i) (step_recorded f xs i x h)))
