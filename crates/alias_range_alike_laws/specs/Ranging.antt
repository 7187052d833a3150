-- The range pass gives summaries that are alike, over functions that carry effects that are alike.
use Rattle.std.specs.Prelude.{◌≡◌, ℕ, Bool, false, List, ◌∷◌, Option, Some, Ok, map, option_map, slice_get}
use Rattle.alias_base.specs.declared.ids.BlockId.{BlockId}
use Rattle.alias_base.specs.declared.ids.InstructionId.{InstructionId}
use Rattle.alias_hir.specs.Terminals.{terminal_effects, with_terminal_effects}
use Rattle.alias_hir.specs.Values.{created}
use Rattle.alias_hir.specs.declared.effect.AliasingEffect.{AliasingEffect}
use Rattle.alias_hir.specs.declared.env.Environment.{Environment}
use Rattle.alias_hir.specs.declared.hir.BasicBlock.{BasicBlock}
use Rattle.alias_hir.specs.declared.hir.HirFunction.{HirFunction}
use Rattle.alias_hir.specs.declared.hir.Instruction.{Instruction}
use Rattle.alias_hir.specs.declared.place.Place.{Place}
use Rattle.alias_hir.specs.declared.report.Interned.{Interned}
use Rattle.alias_graph.specs.Walks.{IsOneOf}
use Rattle.alias_range_pass.specs.places.Keeping.{but_effect}
use Rattle.alias_range_pass.specs.Passes.{Ranged, range_pass, records}
use Rattle.alias_certificate_laws.specs.accepting.Alike.{Paired, Maybe, AlikeEffects, Elsewhere, elsewhere}

-- ---- functions that carry effects that are alike

pub data CarryAlike : Instruction → Instruction → Type 0 where
  carried : (i : Instruction) (effects : Option (List AliasingEffect)) → Maybe AlikeEffects i.effects effects
      → CarryAlike i (record i { effects = effects })

-- the same block, or one whose terminal carries effects that are alike
pub data EndAlike : BlockId × BasicBlock → BlockId × BasicBlock → Type 0 where
  stays : (b : BlockId) (block : BasicBlock) → EndAlike (b, block) (b, block)
  ended : (b : BlockId) (block : BasicBlock) (effects : List AliasingEffect)
      → Maybe AlikeEffects (terminal_effects block.terminal)
      (terminal_effects (with_terminal_effects block.terminal effects))
      → EndAlike (b, block) (b, record block { terminal = with_terminal_effects block.terminal effects })

-- the same function, but that its instructions and terminals carry effects that are alike
pub record CarriesAlike (f g : HirFunction) : Type 0 where
  pub same : record g { instructions = f.instructions; body = f.body } ≡ f
  pub instructions : Paired CarryAlike f.instructions g.instructions
  pub entry : g.body.entry ≡ f.body.entry
  pub blocks : Paired EndAlike f.body.blocks g.body.blocks

-- ---- environments

-- Functions that are seen alike, but that the effects of their context places may differ: an effects pass sets these
-- for what it finds to be only read.
pub data NearlyAlike : HirFunction → HirFunction → Type 0 where
  near : (f g : HirFunction) (context : List Place) → map but_effect context ≡ map but_effect f.context
      → Maybe AlikeEffects f.aliasing_effects g.aliasing_effects
      → NearlyAlike f (record g { params = f.params; context = context; returns = f.returns })

-- what an environment may have nearby: functions that are seen nearly alike, and other reports
pub record Nearby (env : Environment) : Type 0 where
  pub functions : List HirFunction
  pub interned : List Interned
  pub near : Paired NearlyAlike env.functions functions

abbrev pub nearby : (env : Environment) → Nearby env → Environment
nearby env o = record env { functions = o.functions; interned = o.interned }

abbrev pub context_in : List HirFunction → ℕ → Option (List Place)
context_in fs k = option_map (λ (f : HirFunction). f.context) (slice_get fs k)

-- the context places of the k-th function are the same, with their effects
abbrev pub SameContextAt : List HirFunction → List HirFunction → ℕ → Type 0
SameContextAt fs gs k = context_in gs k ≡ context_in fs k

-- the instruction that is found carries an effect at least, and creates the k-th function
pub record Sets (found : Option Instruction) (k : ℕ) : Type 0 where
  pub instruction : Instruction
  pub there : found ≡ Some instruction
  pub creates : created instruction.value ≡ Some (record { 0 = k })
  pub first : AliasingEffect
  pub others : List AliasingEffect
  pub carries : instruction.effects ≡ Some (first ∷ others)

-- an instruction of a block does
pub record SetsContext (f : HirFunction) (k : ℕ) : Type 0 where
  pub slot : ℕ
  pub block : BlockId × BasicBlock
  pub block_there : slice_get f.body.blocks slot ≡ Some block
  pub id : InstructionId
  pub listed : IsOneOf id block.1.instructions
  pub sets : Sets (slice_get f.instructions id.0) k

-- ---- the pass

-- What the pass gives elsewhere: a summary that is alike, a function that carries alike, and the same environment but
-- for what is elsewhere in it. Where errors are recorded,
-- their reports are those that are interned elsewhere.
pub record RangesAlike (env : Environment) (o : Elsewhere env) (g : HirFunction) (b : Bool) (r : Ranged) : Type 0 where
  pub other : Ranged
  pub is : range_pass b g (elsewhere env o) ≡ Ok other
  pub summary : AlikeEffects r.summary other.summary
  pub function : CarriesAlike r.after.0 other.after.0
  pub away : Elsewhere r.after.1
  pub environment : record other.after.1 { errors = r.after.1.errors } ≡ elsewhere r.after.1 away
  pub errors : records b env ≡ false → other.after.1.errors ≡ r.after.1.errors

abbrev pub RangePassIsAlike : Type 0
RangePassIsAlike = (env : Environment) (o : Elsewhere env) (f g : HirFunction) (b : Bool) (r : Ranged)
    → CarriesAlike f g → range_pass b f env ≡ Ok r → RangesAlike env o g b r

-- The same of what the pass gives nearby. Context places that had the same effects have the same ones after it, and so
-- have those of each function that an instruction with effects creates:
-- the pass sets them all.
pub record RangesNearby (env : Environment) (o : Nearby env) (f g : HirFunction) (b : Bool) (r : Ranged) : Type 0 where
  pub other : Ranged
  pub is : range_pass b g (nearby env o) ≡ Ok other
  pub summary : AlikeEffects r.summary other.summary
  pub function : CarriesAlike r.after.0 other.after.0
  pub away : Nearby r.after.1
  pub environment : record other.after.1 { errors = r.after.1.errors } ≡ nearby r.after.1 away
  pub interned : away.interned ≡ o.interned
  pub errors : records b env ≡ false → other.after.1.errors ≡ r.after.1.errors
  pub kept : (k : ℕ) → SameContextAt env.functions o.functions k → SameContextAt r.after.1.functions away.functions k
  pub set : (k : ℕ) → SetsContext f k → SameContextAt r.after.1.functions away.functions k

abbrev pub RangePassIsNearlyAlike : Type 0
RangePassIsNearlyAlike = (env : Environment) (o : Nearby env) (f g : HirFunction) (b : Bool) (r : Ranged)
    → CarriesAlike f g → range_pass b f env ≡ Ok r → RangesNearby env o f g b r
