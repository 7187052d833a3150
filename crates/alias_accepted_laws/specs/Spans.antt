-- No effects pass reads the span of an identifier.
use Rattle.std.specs.Prelude.{◌≡◌, Bool, List}
use Rattle.alias_hir.specs.declared.env.Environment.{Environment}
use Rattle.alias_hir.specs.declared.env.Identifier.{Identifier}
use Rattle.alias_hir.specs.declared.hir.HirFunction.{HirFunction}
use Rattle.alias_step.specs.block.Contexts.{context_of}
use Rattle.alias_effects.specs.Numbered.{visits_end}
use Rattle.alias_certificate_laws.specs.accepting.Alike.{Paired}
use Rattle.alias_range_alike_laws.specs.Spans.{Respanned}

-- the environment with these identifiers
abbrev pub with_ids : Environment → List Identifier → Environment
with_ids env ids = record env { identifiers = ids }

-- the visits of a function end the same
abbrev pub SpansAreNotRead : Type 0
SpansAreNotRead = (env : Environment) (ids : List Identifier) (func : HirFunction) (b : Bool)
    → Paired Respanned env.identifiers ids → visits_end (context_of (with_ids env ids) func b)
    ≡ visits_end (context_of env func b)
