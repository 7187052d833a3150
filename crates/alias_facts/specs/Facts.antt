-- What is known of a function before its instructions are stepped.
use Rattle.alias_hir.specs.declared.env.Environment.{Environment}
use Rattle.alias_hir.specs.declared.hir.HirFunction.{HirFunction}
use Rattle.alias_facts.specs.declared.facts.FunctionFacts.{FunctionFacts}
use Rattle.alias_facts.specs.Hoisted.{find_hoisted_context_declarations}
use Rattle.alias_facts.specs.Spreads.{find_non_mutated_destructure_spreads}
use Rattle.alias_facts.specs.Handlers.{handler_bindings}

abbrev pub function_facts : HirFunction → Environment → FunctionFacts
function_facts func env = record {
  hoisted = find_hoisted_context_declarations func env;
  spreads = find_non_mutated_destructure_spreads func env;
  handlers = handler_bindings func;
}
