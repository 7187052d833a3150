-- Calls that may fail, and calls that are planned to.
use Rattle.std.specs.Prelude.{ℕ, ◌+◌, ◌<◌, ◌⊎◌, ◌&&◌, min, Bool, IsTrue, List, nat_eq, nat_lt, if◌then◌else◌}
use Rattle.std.specs.List.{list_any}

-- the count of faults rose, or stands at its last value
abbrev pub HasFailed : ℕ → ℕ → Bool → Type 0
HasFailed before after last = (before < after) ⊎ IsTrue last

-- which calls fail, how many calls there were, and how many of them failed
pub record Plan : Type 0 where
  pub fails : List ℕ
  pub calls : ℕ
  pub faults : ℕ

abbrev pub new_plan : List ℕ → Plan
new_plan fails = record { fails = fails; calls = 0; faults = 0 }

-- the number of the next call; all calls from 2 ^ 64 - 1 on have that number
abbrev pub next_call : Plan → ℕ
next_call p = min (p.calls + 1) 18446744073709551615

-- whether the next call fails: its number is one of those that fail. The last number is none of them.
abbrev pub fails_now : Plan → Bool
fails_now p = nat_lt (next_call p) 18446744073709551615 && list_any (λ k. nat_eq k (next_call p)) p.fails

-- after the next call
abbrev pub called : Plan → Plan
called p = record {
  fails = p.fails;
  calls = next_call p;
  faults = if fails_now p then p.faults + 1 else p.faults;
}
