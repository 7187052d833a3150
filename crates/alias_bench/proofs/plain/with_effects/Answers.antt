use Rattle.alias_rules.specs.RuleLaws.{rules_make_function_fit}
use Rattle.alias_bench.proofs.plain.with_effects.Goals as goal

pub infer_mutation_aliasing_effects-requires : goal.infer_mutation_aliasing_effects-requires
infer_mutation_aliasing_effects-requires c =
    rules_make_function_fit c.into_unit-function.result c.into_unit-function.ensures.checked
