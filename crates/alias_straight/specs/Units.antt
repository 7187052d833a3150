-- The parts of a unit.
use Rattle.std.specs.Prelude.{List, [], Option, Some, None, Result, Ok, codes, length}
use Rattle.serde_json.specs.Data.{Data}
use Rattle.alias_hir.specs.declared.hir.ContextValue.{ContextValue}
use Rattle.alias_hir.specs.declared.hir.HirFunction.{HirFunction}
use Rattle.alias_json.specs.Fault.{refusal}
use Rattle.alias_json.specs.Pointer.{at_key}
use Rattle.alias_json.specs.declared.fault.ValueFault.{ValueFault}
use Rattle.alias_json.specs.declared.fault.TextRule.TheVariants.{Unknown}
use Rattle.alias_read.specs.Units.{context_values_at}
use Rattle.alias_read.specs.declared.unit.Format.{Format}
use Rattle.alias_read.specs.declared.unit.Format.TheVariants.{First, Second}

-- what the context places of the root are, by the data of their key, which the first format doesn't have
abbrev pub given_values : Option Data → Format → HirFunction → Result (List ContextValue) ValueFault
given_values None format root = Ok []
given_values (Some d) First root = refusal (at_key [] (codes "context_values")) Unknown
given_values (Some d) Second root = context_values_at (length root.context) (at_key [] (codes "context_values")) d
