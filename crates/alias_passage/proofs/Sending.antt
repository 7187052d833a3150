-- What is sent along edges of which the last one is told apart.
use Rattle.std.proofs.Common.{◌≡◌, ℕ, ◌<◌, Bool, true, false, nat_lt, if◌then◌else◌, List, [], ◌∷◌, ◌++◌, Option, refl}
use Rattle.std.specs.List.{AllByRecursion}
use Rattle.alias_flow.specs.Machine.{send, send_all}
use Rattle.alias_passage.specs.Passes.{forward_edges}

module _ {P : Type 0} (join : P → P → P) (x : P) where
  last_sent : (xs : List (Option P)) (e : ℕ) (t : Bool) → send_all join x xs (if t then e ∷ [] else [])
      ≡ (if t then send join x xs e else xs)
  last_sent xs e true = refl
  last_sent xs e false = refl

  first_sent : (xs : List (Option P)) (b d e : ℕ) (es : List ℕ) (t : Bool)
      → ((ys : List (Option P)) → send_all join x ys (forward_edges b (es ++ e ∷ []))
      ≡ (if nat_lt b e then send join x (send_all join x ys (forward_edges b es)) e
      else send_all join x ys (forward_edges b es)))
      → send_all join x xs (if t then d ∷ forward_edges b (es ++ e ∷ []) else forward_edges b (es ++ e ∷ []))
      ≡ (if nat_lt b e
      then send join x (send_all join x xs (if t then d ∷ forward_edges b es else forward_edges b es)) e
      else send_all join x xs (if t then d ∷ forward_edges b es else forward_edges b es))
  first_sent xs b d e es true rec = rec (send join x xs d)
  first_sent xs b d e es false rec = rec xs

  -- what is sent along the last edge comes behind what is sent along the others
  pub sends_last : (b e : ℕ) (es : List ℕ) (xs : List (Option P)) → send_all join x xs (forward_edges b (es ++ e ∷ []))
      ≡ (if nat_lt b e then send join x (send_all join x xs (forward_edges b es)) e
      else send_all join x xs (forward_edges b es))
  sends_last b e [] xs = last_sent xs e (nat_lt b e)
  sends_last b e (d ∷ es) xs = first_sent xs b d e es (nat_lt b d) (sends_last b e es)

pub all_but_last : (n e : ℕ) (es : List ℕ) → AllByRecursion (λ d. d < n) (es ++ e ∷ [])
    → AllByRecursion (λ d. d < n) es × (e < n)
all_but_last n e [] h = (tt, h.0)
all_but_last n e (d ∷ es) h = let r = all_but_last n e es h.1 in ((h.0, r.0), r.1)
