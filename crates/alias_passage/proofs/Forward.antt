-- What is sent along edges that go forward.
use Rattle.std.proofs.Common.{◌≡◌, ℕ, ◌+◌, ◌<◌, ◌≤◌, ◌≢◌, ⊎_elim, inl, inr, if◌then◌else◌, List, [], ◌∷◌, length}
use Rattle.std.proofs.Common.{Option, Some, None, refl, ap, sym, ◌∙◌, arith}
use Rattle.std.proofs.lemmas.Bool.{cases_eq, lt-ltb}
use Rattle.std.proofs.lemmas.List.{get_or-set_same, get_or-set_other, length-set}
use Rattle.std.specs.List.{AllByRecursion}
use Rattle.alias_lattice.specs.Flows.{IsOneOf}
use Rattle.alias_flow.specs.Machine.{joined, send, send_all}
use Rattle.alias_flow.specs.Solutions.{entry_at}
use Rattle.alias_passage.specs.Passes.{forward_edges}

pub forward_all : (b : ℕ) (es : List ℕ) → AllByRecursion (λ e. b < e) es → forward_edges b es ≡ es
forward_all b [] a = refl
forward_all b (e ∷ es) a = ap (λ t. if t then e ∷ forward_edges b es else forward_edges b es) (lt-ltb b e a.0)
    ∙ ap (λ more. e ∷ more) (forward_all b es a.1)

-- something has arrived at the block
abbrev pub IsThere : {P : Type 0} → List (Option P) → ℕ → Type 0
IsThere {P} xs q = (a : P) × (entry_at xs q ≡ Some a)

-- what has arrived behind a block is the same
abbrev pub SameFrom : {P : Type 0} → ℕ → List (Option P) → List (Option P) → Type 0
SameFrom i xs zs = (q : ℕ) → i ≤ q → entry_at xs q ≡ entry_at zs q

module _ {P : Type 0} (join : P → P → P) where
  pub sends_long : (x : P) (xs : List (Option P)) (es : List ℕ) → length (send_all join x xs es) ≡ length xs
  sends_long x xs [] = refl
  sends_long x xs (e ∷ es) = sends_long x (send join x xs e) es
      ∙ length-set xs e (Some (joined join (entry_at xs e) x))

  sent_is : (x : P) (xs : List (Option P)) (e n : ℕ) → length xs ≡ n → e < n → entry_at (send join x xs e) e
      ≡ Some (joined join (entry_at xs e) x)
  sent_is x xs e n long lt = let within : e < length xs = omega arith in get_or-set_same xs e _ None within

  send_stays : (x : P) (xs : List (Option P)) (e n : ℕ) → length xs ≡ n → e < n → (q : ℕ) → IsThere xs q
      → IsThere (send join x xs e) q
  send_stays x xs e n long lt q h = ⊎_elim
      (λ same. (joined join (entry_at xs e) x, ap (entry_at (send join x xs e)) same ∙ sent_is x xs e n long lt))
      (λ other. (h.0, get_or-set_other xs e q _ None other ∙ h.1))
      (cases_eq q e)

  -- what is there stays
  pub sends_stay : (x : P) (xs : List (Option P)) (es : List ℕ) (n : ℕ) → length xs ≡ n
      → AllByRecursion (λ e. e < n) es → (q : ℕ) → IsThere xs q → IsThere (send_all join x xs es) q
  sends_stay x xs [] n long lt q h = h
  sends_stay x xs (e ∷ es) n long lt q h = sends_stay x (send join x xs e) es n (sends_long x xs (e ∷ []) ∙ long) lt.1 q
      (send_stays x xs e n long lt.0 q h)

  -- and each block that an edge leads to has something
  pub sends_there : (x : P) (xs : List (Option P)) (es : List ℕ) (n : ℕ) → length xs ≡ n
      → AllByRecursion (λ e. e < n) es → (q : ℕ) → IsOneOf q es → IsThere (send_all join x xs es) q
  sends_there x xs [] n long lt q one = absurd one
  sends_there x xs (e ∷ es) n long lt q (inl same) =
      sends_stay x (send join x xs e) es n (sends_long x xs (e ∷ []) ∙ long) lt.1 q (
        joined join (entry_at xs e) x,
        ap (entry_at (send join x xs e)) same ∙ sent_is x xs e n long lt.0,
      )
  sends_there x xs (e ∷ es) n long lt q (inr one) =
      sends_there x (send join x xs e) es n (sends_long x xs (e ∷ []) ∙ long) lt.1 q one

  -- nothing changes at a block that all edges go beyond
  pub sends_other : (x : P) (xs : List (Option P)) (es : List ℕ) (b q : ℕ) → AllByRecursion (λ e. b < e) es → q ≤ b
      → entry_at (send_all join x xs es) q ≡ entry_at xs q
  sends_other x xs [] b q later le = refl
  sends_other x xs (e ∷ es) b q later le =
      let beyond = later.0 in
      let apart : q ≢ e = omega arith in
      sends_other x (send join x xs e) es b q later.1 le ∙ get_or-set_other xs e q _ None apart

  send_same : (x : P) (xs zs : List (Option P)) (e n i : ℕ) → length xs ≡ n → length zs ≡ n → e < n → i ≤ e
      → SameFrom i xs zs → SameFrom i (send join x xs e) (send join x zs e)
  send_same x xs zs e n i long also lt from h q le = ⊎_elim
      (λ same.
      ap (entry_at (send join x xs e)) same ∙ sent_is x xs e n long lt ∙ ap (λ o. Some (joined join o x)) (h e from)
      ∙ sym (sent_is x zs e n also lt) ∙ ap (entry_at (send join x zs e)) (sym same))
      (λ other. get_or-set_other xs e q _ None other ∙ h q le ∙ sym (get_or-set_other zs e q _ None other))
      (cases_eq q e)

  pub sends_same : (x : P) (xs zs : List (Option P)) (es : List ℕ) (n b : ℕ) → length xs ≡ n → length zs ≡ n
      → AllByRecursion (λ e. e < n) es → AllByRecursion (λ e. b < e) es → SameFrom (b + 1) xs zs
      → SameFrom (b + 1) (send_all join x xs es) (send_all join x zs es)
  sends_same x xs zs [] n b long also lt later h = h
  sends_same x xs zs (e ∷ es) n b long also lt later h =
      let beyond = later.0 in
      sends_same x (send join x xs e) (send join x zs e) es n b (sends_long x xs (e ∷ []) ∙ long)
      (sends_long x zs (e ∷ []) ∙ also) lt.1 later.1
      (send_same x xs zs e n (b + 1) long also lt.0 (omega arith) h)
