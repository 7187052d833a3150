-- What a pass of the caller keeps.
use Rattle.std.specs.Prelude.{◌≡◌, ℕ, true, false, List, [], Option, None, Some, Contains, map, slice_get}
use Rattle.alias_base.specs.Find.{value_at}
use Rattle.alias_base.specs.declared.ids.BlockId.{BlockId}
use Rattle.alias_base.specs.declared.ids.DeclarationId.{DeclarationId}
use Rattle.alias_base.specs.declared.ids.FunctionId.{FunctionId}
use Rattle.alias_base.specs.declared.ids.TypeId.{TypeId}
use Rattle.alias_hir.specs.Terminals.{terminal_effects, terminal_places}
use Rattle.alias_hir.specs.Values.{created}
use Rattle.alias_hir.specs.declared.effect.AliasingEffect.{AliasingEffect}
use Rattle.alias_hir.specs.declared.env.Environment.{Environment}
use Rattle.alias_hir.specs.declared.env.Identifier.{Identifier}
use Rattle.alias_hir.specs.declared.env.IdentifierName.{IdentifierName}
use Rattle.alias_hir.specs.declared.hir.BasicBlock.{BasicBlock}
use Rattle.alias_hir.specs.declared.hir.HirFunction.{HirFunction}
use Rattle.alias_hir.specs.declared.hir.Instruction.{Instruction}
use Rattle.alias_hir.specs.declared.place.Place.{Place}
use Rattle.alias_rules.specs.Fitting.{function_fits}
use Rattle.alias_visit.specs.Places.{identifiers_in}
use Rattle.alias_rules.specs.function_rules.Rules.{is_unknown, listed_instructions, is_among}
use Rattle.alias_visit.specs.Operands.{owned_operands}

-- ---- effects and creations

abbrev pub effects_in : Option (List AliasingEffect) → List AliasingEffect
effects_in None = []
effects_in (Some es) = es

-- each effect of the second list stands in the first
abbrev pub NoneAdded : Option (List AliasingEffect) → Option (List AliasingEffect) → Type 0
NoneAdded old new = (e : AliasingEffect) → Contains (effects_in new) e → Contains (effects_in old) e

abbrev pub instruction_effects : Option Instruction → Option (List AliasingEffect)
instruction_effects None = None
instruction_effects (Some i) = i.effects

abbrev pub block_effects : Option BasicBlock → Option (List AliasingEffect)
block_effects None = None
block_effects (Some b) = terminal_effects b.terminal

abbrev pub creation : Option Instruction → Option FunctionId
creation None = None
creation (Some i) = created i.value

-- ---- effects of operands

-- each place of the second list that has no effect stands in the first, without one there too
abbrev pub NoneLost : List Place → List Place → Type 0
NoneLost old new = (p : Place) → Contains new p → is_unknown p.effect ≡ true → (q : Place) × Contains old q
    × (q.identifier ≡ p.identifier) × (is_unknown q.effect ≡ true)

abbrev pub instruction_operands : Option Instruction → List Place
instruction_operands None = []
instruction_operands (Some i) = owned_operands i.value

abbrev pub block_operands : Option BasicBlock → List Place
block_operands None = []
block_operands (Some b) = terminal_places b.terminal

-- ---- identifiers

abbrev pub declaration_name_and_type : Identifier → DeclarationId × (Option IdentifierName × TypeId)
declaration_name_and_type i = (i.declaration_id, (i.name, i.type_))

-- ---- all that a pass keeps

-- the tables of which a pass changes nothing: types, shapes, nested functions, reports and configuration
pub record SameTables (old new : Environment) : Type 0 where
  pub types : new.types ≡ old.types
  pub shapes : new.shapes ≡ old.shapes
  pub functions : new.functions ≡ old.functions
  pub errors : new.errors ≡ old.errors
  pub interned : new.interned ≡ old.interned
  pub config : new.config ≡ old.config

-- what comes into a function and leaves it
pub record SameOutside (old new : HirFunction) : Type 0 where
  pub params : new.params ≡ old.params
  pub context : new.context ≡ old.context
  pub context_values : new.context_values ≡ old.context_values
  pub returns : new.returns ≡ old.returns

-- no instruction, effect or creation of a function is added, and no operand loses its effect
pub record NothingAdded (old new : HirFunction) : Type 0 where
  pub instructions : (k : ℕ) → is_among (listed_instructions old) k ≡ false → is_among (listed_instructions new) k
      ≡ false
  pub effects : (k : ℕ) → NoneAdded (instruction_effects (slice_get old.instructions k))
      (instruction_effects (slice_get new.instructions k))
  pub terminals : (b : BlockId) → NoneAdded (block_effects (value_at old.body.blocks b))
      (block_effects (value_at new.body.blocks b))
  pub summary : NoneAdded old.aliasing_effects new.aliasing_effects
  pub creations : (k : ℕ) (f : FunctionId) → creation (slice_get new.instructions k) ≡ Some f
      → creation (slice_get old.instructions k) ≡ Some f
  pub operands : (k : ℕ) → NoneLost (instruction_operands (slice_get old.instructions k))
      (instruction_operands (slice_get new.instructions k))
  pub ends : (b : BlockId) → NoneLost (block_operands (value_at old.body.blocks b))
      (block_operands (value_at new.body.blocks b))

-- what a pass leaves of a function that the inference takes, and of its tables
pub record Keeps (func : HirFunction) (env : Environment) (func' : HirFunction) (env' : Environment) : Type 0 where
  pub fits : function_fits func' env' ≡ true
  pub outside : SameOutside func func'
  pub added : NothingAdded func func'
  pub tables : SameTables env env'
  -- no identifier is added to the table, and each keeps its declaration, its name and its type
  pub identifiers : map declaration_name_and_type env'.identifiers ≡ map declaration_name_and_type env.identifiers
  -- no identifier comes to stand in the function
  pub present : (k : ℕ) → is_among (identifiers_in env func) k ≡ false → is_among (identifiers_in env' func') k ≡ false
  -- an identifier that doesn't stand in it stays
  pub others : (k : ℕ) → is_among (identifiers_in env func) k ≡ false → slice_get env'.identifiers k
      ≡ slice_get env.identifiers k
