-- Passes some calls of which fail, as planned.
use Rattle.std.specs.Prelude.{ℕ, List, Option, None, Some, if◌then◌else◌}
use Rattle.alias_base.specs.failures.Failures.{Plan, new_plan, fails_now, called}
use Rattle.alias_hir.specs.declared.error.Pass.{Pass}

-- the calls so far, and the pass whose call failed last
pub record Planned : Type 0 where
  pub calls : Plan
  pub last : Option Pass

abbrev pub none_called : List ℕ → Planned
none_called fails = record { calls = new_plan fails; last = None }

-- after the next call, which is one of this pass
abbrev pub after_call : Pass → Planned → Planned
after_call pass p = record {
  calls = called p.calls;
  last = if fails_now p.calls then Some pass else p.last;
}
