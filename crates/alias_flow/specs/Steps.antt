-- What a step's result says of its outcome.
use Rattle.std.specs.Prelude.{◌≡◌, ℕ, List, Option, Some, Result, Ok, Err, slice_set}
use Rattle.alias_lattice.specs.Flows.{Outcome, Stepped, Refused}
use Rattle.alias_flow.specs.declared.flow.SolveFault.{SolveFault}
use Rattle.alias_flow.specs.declared.flow.SolveFault.TheVariants.{Step, Memory as NoMemory}
use Rattle.alias_flow.specs.declared.flow.StepFault.{StepFault}
use Rattle.alias_flow.specs.declared.flow.StepFault.TheVariants.{Refused as Refuses, Memory}

-- the state, the tables and what is recorded are those of the outcome, and a refusal is one of the outcome. Memory may
-- fail at any time
abbrev pub StepGives : {P T K C E : Type 0} → (E → C) → Outcome P T K C → Result (Unit {0}) (StepFault E) → P → T → ℕ
    → List (Option K) → List (Option K) → Type 0
StepGives {K = K} cause outcome (Ok u) state tables block old_recorded recorded = (k : K)
    × (outcome ≡ Stepped state tables k) × (recorded ≡ slice_set old_recorded block (Some k))
StepGives cause outcome (Err (Refuses e)) state tables block old_recorded recorded = outcome ≡ Refused (cause e)
StepGives cause outcome (Err (Memory e)) state tables block old_recorded recorded = Unit {0}

-- the fault of a step as that of a visit of the block
abbrev pub fault_at : {E : Type 0} → ℕ → StepFault E → SolveFault E
fault_at b (Refuses e) = Step b e
fault_at b (Memory e) = NoMemory e
