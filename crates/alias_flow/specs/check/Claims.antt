-- What somebody claims of the steps of a flow.
use Rattle.std.specs.Prelude.{◌≡◌, ℕ, Bool, List, Option, Some, None, Result, slice_index_or}
use Rattle.alias_base.specs.Answer.{◌>>=◌}
use Rattle.alias_flow.specs.Machine.{Rules, up}
use Rattle.alias_flow.specs.check.Checks.{Arriving, blocks_checked, joins_checked}
use Rattle.alias_flow.specs.declared.check.fault.Unsolved.{Unsolved}

-- where a step is recorded, what is found of the flow's claims is how its tables and the recorded step differ from them
abbrev pub AreClaims : {S C T K D : Type 0} → (S → T) → (S → List (Option K)) → (S → C → ℕ → Option D) → C
    → (T → ℕ → K → Option D) → Type 0
AreClaims {S = S} {K = K} tables recorded found claims differs =
    (flow : S) (b : ℕ) (k : K) → slice_index_or (recorded flow) b None ≡ Some k → found flow claims b
    ≡ differs (tables flow) b k

module _ {P T K C D : Type 0} (join : P → P → P) (below : P → P → Bool) (rules : Rules P T K C)
    (differs : T → ℕ → K → Option D) (entries : List (Option P)) where
  -- the check of all blocks from what has arrived at first, and then of the joins
  abbrev pub begun_checked : Arriving P T K → Result (Arriving P T K) (Unsolved C D)
  begun_checked w = blocks_checked join below rules differs entries (up 0 rules.blocks) w
      >>= joins_checked join below rules differs entries
