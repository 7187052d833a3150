-- What the effects pass hands out of a function: entry states that solve its flow, and what its blocks record from
-- them.
use Rattle.std.specs.Prelude.{◌≡◌, ◌⊎◌, Bool, List, [], ◌∷◌, Option, Some, None, map, cond}
use Rattle.std.specs.List.{flat_map, AllByRecursion}
use Rattle.std.specs.Map.{keys_of}
use Rattle.alias_base.specs.Find.{same_block}
use Rattle.alias_base.specs.declared.ids.BlockId.{BlockId}
use Rattle.alias_hir.specs.declared.env.Environment.{Environment}
use Rattle.alias_hir.specs.declared.hir.HirFunction.{HirFunction}
use Rattle.alias_lattice.specs.States.{State, state_below}
use Rattle.alias_lattice.specs.ProperStates.{StateProper}
use Rattle.alias_lattice.specs.Flows.{Flow, Outcome, Stepped, Refused, IsOneOf, IsSolution, AreJoins}
use Rattle.alias_step.specs.declared.block.faults.BlockRefusal.{BlockRefusal}
use Rattle.alias_step.specs.declared.block.recorded.BlockEffects.{BlockEffects}
use Rattle.alias_tables.specs.Tables.{TableLists}
use Rattle.alias_effects.specs.declared.solved.BlockEntry.{BlockEntry}
use Rattle.alias_effects.specs.declared.solved.Solved.{Solved}
use Rattle.alias_step.specs.block.Recorded.{no_effects}
use Rattle.alias_effects.specs.FunctionFlow.{flow_of}
use Rattle.alias_step.specs.block.Contexts.{context_of}
use Rattle.alias_effects.specs.Numbered.{tables_left}

-- the entry state of a block, among those handed out
abbrev pub entry_state : List BlockEntry → BlockId → Option State
entry_state [] b = None
entry_state (e ∷ es) b = cond (same_block b e.block) (Some e.state) (entry_state es b)

-- the second list has the first in it, in the same order
abbrev pub IsSubsequence : {A : Type 0} → List A → List A → Type 0
IsSubsequence [] ys = Unit {0}
IsSubsequence (x ∷ xs) [] = ⊥
IsSubsequence (x ∷ xs) (y ∷ ys) = ((x ≡ y) × IsSubsequence xs ys) ⊎ IsSubsequence (x ∷ xs) ys

-- what a step records, where it isn't refused
abbrev pub effects_recorded : Outcome State TableLists BlockEffects BlockRefusal → BlockEffects
effects_recorded (Stepped y tables recorded) = recorded
effects_recorded (Refused fault) = no_effects

-- a function is forward where each edge of each block goes to a block later in stored order
abbrev pub IsForwardFrom : (BlockId → List BlockId) → List BlockId → Type 0
IsForwardFrom edges [] = Unit {0}
IsForwardFrom edges (b ∷ later) = AllByRecursion (λ c. IsOneOf c later) (edges b) × IsForwardFrom edges later

abbrev pub IsForward : HirFunction → (BlockId → List BlockId) → Type 0
IsForward func edges = IsForwardFrom edges (keys_of func.body.blocks)

module _ (env : Environment) (func : HirFunction) (is_function_expression : Bool) where
  abbrev pub flow : Flow BlockId State TableLists BlockEffects BlockRefusal
  flow = flow_of (context_of env func is_function_expression)

  -- the tables that the visits leave
  abbrev pub tables : TableLists
  tables = tables_left (context_of env func is_function_expression)

  -- what the block of an entry records from its state under these tables
  abbrev pub recorded_under : TableLists → BlockEntry → BlockEffects
  recorded_under under e = effects_recorded (flow.step under e.block e.state)

  -- the same under the tables that the visits leave
  abbrev pub recorded_from : BlockEntry → BlockEffects
  recorded_from = recorded_under tables

  -- the entry states solve the flow of the function under these tables, and what is handed out is of these tables, and
  -- what the blocks record from these states
  pub record IsSolvedUnder (under : TableLists) (s : Solved) : Type 0 where
    -- entry states stand in the stored order of their blocks
    pub in_order : IsSubsequence (map (λ (e : BlockEntry). e.block) s.entries) (keys_of func.body.blocks)
    -- each reached block has one, the initial state is below the entry's, and each block steps to a state below that of
    -- each successor
    pub solution : IsSolution state_below flow under (entry_state s.entries)
    -- the interned effects and the temporaries are those of these tables
    pub first : s.first ≡ under.first
    pub temporaries : s.temporaries ≡ under.temporaries
    -- the effects are those that the steps record
    pub effects : s.effects ≡ flat_map (λ (e : BlockEntry). (recorded_under under e).instructions) s.entries
    pub terminal_effects : s.terminal_effects
        ≡ flat_map (λ (e : BlockEntry). (recorded_under under e).terminal) s.entries
    -- in a forward function each entry state is the join of what arrives
    pub joins : IsForward func flow.edges → AreJoins state_below flow StateProper under (entry_state s.entries)

  -- they solve it under the tables that its visits leave
  abbrev pub IsSolved : Solved → Type 0
  IsSolved s = IsSolvedUnder tables s
