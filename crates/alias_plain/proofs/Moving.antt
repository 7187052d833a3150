-- Lists of numbers that are gone through one by one.
use Rattle.std.proofs.Common.{◌≡◌, ℕ, ◌+◌, ◌-◌, ◌<◌, suc, ◌∷◌, ap, arith}
use Rattle.std.specs.List.{range_with_len}

-- the numbers from i to n begin with i
pub range_next : (i n : ℕ) → i < n → range_with_len i (n - i) ≡ i ∷ range_with_len (i + 1) (n - (i + 1))
range_next i n h = let k : n - i ≡ suc (n - (i + 1)) = omega arith in ap (range_with_len i) k
