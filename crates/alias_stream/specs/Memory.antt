-- The source and the sink in memory.
use Rattle.std.specs.Prelude.{ℕ, List}
use Rattle.alias_base.specs.failures.Failures.{Plan}

-- a source: what is left, and how much a read takes at most
pub record Feed : Type 0 where
  pub left : List ℕ
  pub piece : ℕ
  pub plan : Plan

-- a sink: what it holds, and how much a write adds at most
pub record Store : Type 0 where
  pub held : List ℕ
  pub piece : ℕ
  pub plan : Plan
