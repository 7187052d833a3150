-- A table of identifiers in which some are as in another one.
use Rattle.std.specs.Prelude.{◌≡◌, ℕ, ◌+◌, ◌≤◌, true, false, if◌then◌else◌, List, [], ◌∷◌, Some, length, refl}
use Rattle.std.proofs.Common.{zero, suc, ap, subst, arith}
use Rattle.alias_rules.specs.function_rules.Rules.{is_among}
use Rattle.alias_hir.specs.declared.env.Identifier.{Identifier}
use Rattle.alias_graph.specs.Reach.{end_of, end_at}

-- from the number n on: those whose numbers are among these are as in `old`, and the others as in `new`
abbrev pub mixed : List ℕ → ℕ → List Identifier → List Identifier → List Identifier
mixed ks n old [] = []
mixed ks n [] (y ∷ new) = y ∷ new
mixed ks n (x ∷ old) (y ∷ new) = (if is_among ks n then x else y) ∷ mixed ks (suc n) old new

-- the others have their ends
pub mixed_apart : (ks : List ℕ) (n j k : ℕ) (old new : List Identifier) → j ≡ n + k → is_among ks j ≡ false
    → end_at (mixed ks n old new) k ≡ end_at new k
mixed_apart ks n j k old [] e off = refl
mixed_apart ks n j k [] (y ∷ new) e off = refl
mixed_apart ks n j zero (x ∷ old) (y ∷ new) e off =
    let same : j ≡ n = omega arith in
    let test : is_among ks n ≡ false = subst (λ z. is_among ks z ≡ false) same off in
    ap (λ b. end_of (Some (if b then x else y))) test
mixed_apart ks n j (suc k) (x ∷ old) (y ∷ new) e off = mixed_apart ks (suc n) j k old new (omega arith) off

-- and these end no earlier than there
pub mixed_there : (ks : List ℕ) (n j k : ℕ) (old new : List Identifier) → j ≡ n + k → is_among ks j ≡ true → length old
    ≤ length new → end_at old k ≤ end_at (mixed ks n old new) k
mixed_there ks n j k [] [] e there more = omega arith
mixed_there ks n j k (x ∷ old) [] e there more = absurd (omega arith)
mixed_there ks n j k [] (y ∷ new) e there more = omega arith
mixed_there ks n j zero (x ∷ old) (y ∷ new) e there more =
    let same : j ≡ n = omega arith in
    let test : is_among ks n ≡ true = subst (λ z. is_among ks z ≡ true) same there in
    let is : end_of (Some (if is_among ks n then x else y)) ≡ end_of (Some x) =
    ap (λ b. end_of (Some (if b then x else y))) test in
    omega arith
mixed_there ks n j (suc k) (x ∷ old) (y ∷ new) e there more =
    mixed_there ks (suc n) j k old new (omega arith) there (omega arith)
