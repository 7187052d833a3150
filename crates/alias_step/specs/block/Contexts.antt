-- What the steps of a function's blocks know.
use Rattle.std.specs.Prelude.{Bool}
use Rattle.alias_facts.specs.declared.facts.FunctionFacts.{FunctionFacts}
use Rattle.alias_facts.specs.Facts.{function_facts}
use Rattle.alias_hir.specs.declared.env.Environment.{Environment}
use Rattle.alias_hir.specs.declared.hir.HirFunction.{HirFunction}
use Rattle.alias_step.specs.declared.block.context.BlockContext.{BlockContext as HeldContext}

-- a function, its environment, what is known of it, and whether it is a function expression
pub record BlockContext : Type 0 where
  pub env : Environment
  pub func : HirFunction
  pub facts : FunctionFacts
  pub is_function_expression : Bool

-- what is known of a function before its instructions are stepped is its facts
abbrev pub context_of : Environment → HirFunction → Bool → BlockContext
context_of env func is_function_expression =
    record { env = env; func = func; facts = function_facts func env; is_function_expression = is_function_expression }

-- what a context that holds references speaks of
abbrev pub held : HeldContext → BlockContext
held c = record {
  env = c.env.now;
  func = c.func.now;
  facts = c.facts.now;
  is_function_expression = c.is_function_expression;
}
