-- Numbers that are drawn one after the other.
use Rattle.std.specs.Prelude.{ℕ, suc, zero, ◌+◌, ◌*◌, ◌/◌, ◌%◌, ◌^◌}
use Rattle.alias_made.specs.declared.draws.BlockDraw.{BlockDraw}

-- the state that comes after a state
abbrev pub next_state : ℕ → ℕ
next_state state = (state * 6364136223846793005 + 1442695040888963407) % 2 ^ 64

-- the number below the bound that a state gives
abbrev pub drawn : ℕ → ℕ → ℕ
drawn state bound = (state / 2 ^ 33) % bound

-- the state before the two draws of a block: each block before it has drawn two numbers
abbrev pub state_before : ℕ → ℕ → ℕ
state_before seed zero = seed
state_before seed (suc block) = next_state (next_state (state_before seed block))

-- what a block takes: the kind of what it makes, of four, and the block whose object it makes that of, itself or one
-- before it
abbrev pub block_drawn : ℕ → ℕ → BlockDraw
block_drawn state block = record {
  kind = drawn (next_state state) 4;
  source = drawn (next_state (next_state state)) (block + 1);
}
