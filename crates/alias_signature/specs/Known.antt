-- What the signatures of a function's instructions are made from.
use Rattle.std.specs.Prelude.{Option}
use Rattle.alias_facts.specs.declared.facts.FunctionFacts.{FunctionFacts}
use Rattle.alias_hir.specs.declared.env.Environment.{Environment}
use Rattle.alias_hir.specs.declared.report.ReportId.{ReportId}
use Rattle.alias_signature.specs.declared.known.Known.{Known as HeldKnown}

-- the environment, what is known of the function, and the report that the instruction has, if it has one
pub record Known : Type 0 where
  pub env : Environment
  pub facts : FunctionFacts
  pub error : Option ReportId

abbrev pub known : Environment → FunctionFacts → Option ReportId → Known
known env facts error = record { env = env; facts = facts; error = error }

-- what a record that holds references speaks of
abbrev pub held : HeldKnown → Known
held k = known k.env.now k.facts.now k.error
