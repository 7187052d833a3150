use Rattle.std.proofs.Common.{◌≡◌, drop}
use Rattle.alias_cert.specs.function.Flows.{SameFlow}
use Rattle.alias_cert.specs.function.Temporaries.{temporaries_stated}
use Rattle.alias_cert.proofs.function.temporaries.state_temporaries.Given as goal

abbrev pub invariant-loop-temporary : goal.invariant-loop-temporary
invariant-loop-temporary l = record {
  tables : temporaries_stated l.function l.env (drop l.temporary-index l.said) l.flow.tables
      ≡ temporaries_stated l.function l.env l.said l.initial.flow.tables;
  same : SameFlow l.initial.flow l.flow;
}
