-- Edges that go forward, and edges that go back.
use Rattle.std.proofs.Common.{◌≡◌, ℕ, ◌<◌, ◌≤◌, inl, inr, Bool, true, false, nat_lt, if◌then◌else◌, List, [], ◌∷◌, Option}
use Rattle.std.proofs.Common.{Some, None, refl, ap, sym, ◌∙◌, subst}
use Rattle.std.proofs.lemmas.Bool.{ltb-true, ltb-false}
use Rattle.std.specs.List.{AllByRecursion}
use Rattle.alias_lattice.specs.Flows.{IsOneOf}
use Rattle.alias_flow.specs.Solutions.{entry_at}
use Rattle.alias_flow.specs.check.Checks.{is_below_at, is_below_entry, first_not_above}
use Rattle.alias_passage.specs.Passes.{forward_edges, back_edges}

later_first : (b d e : ℕ) (es : List ℕ) (t : Bool) → nat_lt b d ≡ t
    → IsOneOf e (if t then d ∷ forward_edges b es else forward_edges b es)
    → (IsOneOf e (forward_edges b es) → (b < e) × IsOneOf e es) → (b < e) × IsOneOf e (d ∷ es)
later_first b d e es true is (inl same) rec = (subst (λ k. b < k) (sym same) (ltb-true b d is), inl same)
later_first b d e es true is (inr one) rec = let r = rec one in (r.0, inr r.1)
later_first b d e es false is one rec = let r = rec one in (r.0, inr r.1)

-- an edge that goes forward is one of the edges, and goes to a later block
pub forward_is : (b e : ℕ) (es : List ℕ) → IsOneOf e (forward_edges b es) → (b < e) × IsOneOf e es
forward_is b e [] one = absurd one
forward_is b e (d ∷ es) one = later_first b d e es (nat_lt b d) refl one (forward_is b e es)

forward_first : (b d e : ℕ) (es : List ℕ) (t : Bool) → nat_lt b d ≡ t → IsOneOf e (d ∷ es) → nat_lt b e ≡ true
    → (IsOneOf e es → IsOneOf e (forward_edges b es))
    → IsOneOf e (if t then d ∷ forward_edges b es else forward_edges b es)
forward_first b d e es true is (inl same) lt rec = inl same
forward_first b d e es true is (inr one) lt rec = inr (rec one)
forward_first b d e es false is (inl same) lt rec =
    let no : true ≡ false = sym lt ∙ ap (nat_lt b) same ∙ is in cc
forward_first b d e es false is (inr one) lt rec = rec one

-- an edge to a later block goes forward
pub is_forward : (b e : ℕ) (es : List ℕ) → IsOneOf e es → nat_lt b e ≡ true → IsOneOf e (forward_edges b es)
is_forward b e [] one lt = absurd one
is_forward b e (d ∷ es) one lt = forward_first b d e es (nat_lt b d) refl one lt (λ o. is_forward b e es o lt)

within_first : (n b d : ℕ) (es : List ℕ) (t : Bool) → d < n → AllByRecursion (λ e. e < n) (forward_edges b es)
    → AllByRecursion (λ e. e < n) (if t then d ∷ forward_edges b es else forward_edges b es)
within_first n b d es true h a = (h, a)
within_first n b d es false h a = a

pub forward_within : (n b : ℕ) (es : List ℕ) → AllByRecursion (λ e. e < n) es
    → AllByRecursion (λ e. e < n) (forward_edges b es)
forward_within n b [] a = tt
forward_within n b (d ∷ es) a = within_first n b d es (nat_lt b d) a.0 (forward_within n b es a.1)

module _ {P : Type 0} (below : P → P → Bool) where
  stand_here : (entries : List (Option P)) (y : P) (d : ℕ) (es : List ℕ) (u : Bool)
      → is_below_entry below entries y d ≡ u → first_not_above below entries y es ≡ None → u ≡ true
      → first_not_above below entries y (d ∷ es) ≡ None
  stand_here entries y d es u is h t =
      ap (λ z. if z then first_not_above below entries y es else Some d) (is ∙ t) ∙ h

  stand_back : (entries : List (Option P)) (y : P) (d : ℕ) (bs es : List ℕ) (u : Bool)
      → is_below_entry below entries y d ≡ u
      → (if u then first_not_above below entries y bs else Some d) ≡ None
      → (first_not_above below entries y bs ≡ None → first_not_above below entries y es ≡ None)
      → first_not_above below entries y (d ∷ es) ≡ None
  stand_back entries y d bs es true is h rec = stand_here entries y d es true is (rec h) refl
  stand_back entries y d bs es false is h rec = cc

  stand_first : (entries : List (Option P)) (y : P) (b d : ℕ) (es : List ℕ) (t : Bool) → nat_lt b d ≡ t
      → first_not_above below entries y (if t then back_edges b es else d ∷ back_edges b es) ≡ None
      → (t ≡ true → is_below_entry below entries y d ≡ true)
      → (first_not_above below entries y (back_edges b es) ≡ None → first_not_above below entries y es ≡ None)
      → first_not_above below entries y (d ∷ es) ≡ None
  stand_first entries y b d es true is h there rec =
      stand_here entries y d es (is_below_entry below entries y d) refl (rec h) (there refl)
  stand_first entries y b d es false is h there rec =
      stand_back entries y d (back_edges b es) es (is_below_entry below entries y d) refl h rec

  -- a state that is below where edges go back to, and where they go forward to, is so of all edges
  pub all_stand : (entries : List (Option P)) (y : P) (b : ℕ) (es : List ℕ)
      → first_not_above below entries y (back_edges b es) ≡ None
      → ((e : ℕ) → IsOneOf e es → nat_lt b e ≡ true → is_below_entry below entries y e ≡ true)
      → first_not_above below entries y es ≡ None
  all_stand entries y b [] h there = refl
  all_stand entries y b (d ∷ es) h there =
      stand_first entries y b d es (nat_lt b d) refl h (there d (inl refl))
      (λ k. all_stand entries y b es k (λ e one. there e (inr one)))

  -- entry states that are the same where edges go back to
  same_first : (these those : List (Option P)) (y : P) (d : ℕ) (bs : List ℕ) → entry_at these d ≡ entry_at those d
      → first_not_above below these y bs ≡ first_not_above below those y bs
      → first_not_above below these y (d ∷ bs) ≡ first_not_above below those y (d ∷ bs)
  same_first these those y d bs is rec =
      ap (λ o. if is_below_at below y o then first_not_above below these y bs else Some d) is
      ∙ ap (λ r. if is_below_at below y (entry_at those d) then r else Some d) rec

  same_if : (these those : List (Option P)) (y : P) (b d : ℕ) (es : List ℕ) (t : Bool) → nat_lt b d ≡ t
      → ((e : ℕ) → e ≤ b → entry_at these e ≡ entry_at those e)
      → first_not_above below these y (back_edges b es) ≡ first_not_above below those y (back_edges b es)
      → first_not_above below these y (if t then back_edges b es else d ∷ back_edges b es)
      ≡ first_not_above below those y (if t then back_edges b es else d ∷ back_edges b es)
  same_if these those y b d es true is same rec = rec
  same_if these those y b d es false is same rec =
      same_first these those y d (back_edges b es) (same d (ltb-false b d is)) rec

  pub back_same : (these those : List (Option P)) (y : P) (b : ℕ) (es : List ℕ)
      → ((e : ℕ) → e ≤ b → entry_at these e ≡ entry_at those e)
      → first_not_above below these y (back_edges b es) ≡ first_not_above below those y (back_edges b es)
  back_same these those y b [] same = refl
  back_same these those y b (d ∷ es) same = same_if these those y b d es (nat_lt b d) refl same
      (back_same these those y b es same)
