-- Positions of names that are left.
use Rattle.std.proofs.Common.{◌≡◌, ℕ, ◌+◌, ◌<◌, zero, suc, List, [], ◌∷◌, ◌++◌, length, drop, get_or, refl, ap, sym}
use Rattle.std.proofs.Common.{◌∙◌, append_assoc, add-one, arith}
use Rattle.std.specs.Prelude.{Option, Some, None}
use Rattle.alias_base.specs.declared.ids.BlockId.{BlockId}
use Rattle.alias_hir.specs.Positions.{Blocks, position_in, with_position, positions_of}

first_position : (o : Option ℕ) (ns : List ℕ) → with_position o ns ≡ with_position o [] ++ ns
first_position None ns = refl
first_position (Some n) ns = refl

step_positions : (es : Blocks) (bs : List BlockId) (i : ℕ) (d : BlockId) → i < length bs → positions_of es (drop i bs)
    ≡ with_position (position_in es (get_or bs i d)) [] ++ positions_of es (drop (suc i) bs)
step_positions es [] i d h = let no : ⊥ = omega arith in absurd no
step_positions es (b ∷ bs) zero d h = first_position (position_in es b) (positions_of es bs)
step_positions es (b ∷ bs) (suc i) d h = step_positions es bs i d (omega arith)

-- one more position is found of what is left
pub positions_left : (es : Blocks) (bs : List BlockId) (i : ℕ) (d : BlockId) (o : Option ℕ) (old new : List ℕ) → i
    < length bs → o ≡ position_in es (get_or bs i d) → new ≡ old ++ with_position o []
    → new ++ positions_of es (drop (i + 1) bs) ≡ old ++ positions_of es (drop i bs)
positions_left es bs i d o old new h e n =
    let rest = positions_of es (drop (i + 1) bs) in
    ap (λ z. z ++ rest) n
    ∙ append_assoc old (with_position o []) rest
    ∙ ap (λ z. old ++ z) (ap (λ z. with_position z [] ++ rest) e ∙ sym (rw (add-one i) (step_positions es bs i d h)))
