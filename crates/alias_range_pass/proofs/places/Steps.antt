-- One block more of a function.
use Rattle.std.proofs.Common.{◌≡◌, ℕ, ◌+◌, ◌-◌, ◌<◌, Bool, ap, sym, ◌∙◌, arith, suc}
use Rattle.alias_range_pass.specs.places.Blocks.{Placed, block_placed, blocks_placed}

pub block_step : (is_function_expression : Bool) (n k : ℕ) (s t : Placed) → k < n → t
    ≡ block_placed is_function_expression k s
    → blocks_placed is_function_expression (n - (k + 1)) (k + 1) t ≡ blocks_placed is_function_expression (n - k) k s
block_step b n k s t h is =
    let e : n - k ≡ suc (n - (k + 1)) = omega arith in
    ap (λ z. blocks_placed b (n - (k + 1)) (k + 1) z) is ∙ ap (λ m. blocks_placed b m k s) (sym e)
