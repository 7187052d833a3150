-- Entry states that are handed out are proper, one after the other.
use Rattle.std.proofs.Common.{◌≡◌, ℕ, zero, suc, ◌<◌, ◌≤◌, ◌+◌, ⊎_elim, arith, List, [], ◌∷◌, Some, length, get_or}
use Rattle.std.proofs.Common.{subst, sym, ap, ◌∙◌}
use Rattle.std.specs.Prelude.{slice_get}
use Rattle.alias_rules.specs.RuleLaws.{lt_or_le}
use Rattle.alias_lattice.specs.ProperStates.{StateProper}
use Rattle.alias_effects.specs.declared.solved.BlockEntry.{BlockEntry}
use Rattle.alias_cert.specs.Known.{AreKnown}

-- the entry states before a position
abbrev pub KnownBefore : List BlockEntry → ℕ → Type 0
KnownBefore es k = (i : ℕ) → i < k → (e : BlockEntry) → slice_get es i ≡ Some e → StateProper e.state

at_index : (es : List BlockEntry) (k : ℕ) (x : BlockEntry) → k < length es → x ≡ get_or es k x → slice_get es k ≡ Some x
at_index [] k x h e = absurd (omega arith)
at_index (y ∷ ys) zero x h e = ap Some (sym e)
at_index (y ∷ ys) (suc k) x h e = at_index ys k x (omega arith) e

pub known_longer : (es : List BlockEntry) (k : ℕ) (x : BlockEntry) → k < length es → x ≡ get_or es k x
    → StateProper x.state → KnownBefore es k → KnownBefore es (k + 1)
known_longer es k x within is p before i h e there =
    ⊎_elim
    (λ less. before i less e there)
    (λ past.
    let at : i ≡ k = omega arith in
    let both : Some x ≡ Some e = sym (at_index es k x within is) ∙ ap (slice_get es) (sym at) ∙ there in
    let same : x ≡ e = cc in
    subst (λ (z : BlockEntry). StateProper z.state) same p)
    (lt_or_le i k)

-- all of them
pub known_all : (es : List BlockEntry) (k : ℕ) → length es ≤ k → KnownBefore es k → AreKnown es
known_all es k past before i e there = ⊎_elim (λ less. before i less e there)
    (λ (beyond : k ≤ i). absurd (none_past es i e (omega arith) there)) (lt_or_le i k)
  where
    none_past : (xs : List BlockEntry) (n : ℕ) (x : BlockEntry) → length xs ≤ n → slice_get xs n ≡ Some x → ⊥
    none_past [] n x h g = cc
    none_past (y ∷ ys) zero x h g = absurd (omega arith)
    none_past (y ∷ ys) (suc n) x h g = none_past ys n x (omega arith) g
