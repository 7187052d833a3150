-- The unit that is made from a seed.
use Rattle.std.specs.Prelude.{ℕ, ◌+◌, ◌*◌, List, [], ◌∷◌, None, false, true, map}
use Rattle.std.specs.List.{flat_map, range_with_len}
use Rattle.alias_hir.specs.Tables.{empty_environment, fresh_identifier}
use Rattle.alias_hir.specs.declared.env.Environment.{Environment}
use Rattle.alias_hir.specs.declared.env.Identifier.{Identifier}
use Rattle.alias_hir.specs.declared.env.Unit.{Unit as HirUnit}
use Rattle.alias_hir.specs.declared.hir.FunctionType.TheVariants.{Other}
use Rattle.alias_hir.specs.declared.hir.HirFunction.{HirFunction}
use Rattle.alias_hir.specs.declared.hir.Instruction.{Instruction}
use Rattle.alias_hir.specs.declared.types.Ty.TheVariants.{Var}
use Rattle.alias_made.specs.Blocks.{made_blocks}
use Rattle.alias_made.specs.Draws.{block_drawn, state_before}
use Rattle.alias_made.specs.Instructions.{instructions_of, use_of}

-- the instructions of a block, as they are drawn
abbrev pub drawn_instructions : ℕ → ℕ → List Instruction
drawn_instructions seed block = instructions_of block (block_drawn (state_before seed block) block)

-- those of so many blocks
abbrev pub made_instructions : ℕ → ℕ → List Instruction
made_instructions seed size = flat_map (drawn_instructions seed) (range_with_len 0 size)

-- three for each block, and 0, which stands for what the function returns; each is of the one type
abbrev pub made_identifiers : ℕ → List Identifier
made_identifiers size = map (λ n. fresh_identifier None n 0) (range_with_len 0 (3 * size + 1))

-- one type, of which nothing is known; validations are on
abbrev pub made_environment : ℕ → Environment
made_environment size = record empty_environment {
  identifiers = made_identifiers size;
  types = Var ∷ [];
  config = record empty_environment.config { enable_validations = true };
}

-- a function without parameters
abbrev pub made_function : ℕ → ℕ → HirFunction
made_function seed size = record {
  fn_type = Other;
  params = [];
  context = [];
  context_values = [];
  returns = use_of 0;
  body = record { entry = record { 0 = 0 }; blocks = made_blocks size };
  instructions = made_instructions seed size;
  is_async = false;
  span = None;
  aliasing_effects = None;
}

-- the unit of a seed, with so many blocks before the last one
abbrev pub made_unit : ℕ → ℕ → HirUnit
made_unit seed size = record { function = made_function seed size; env = made_environment size }
