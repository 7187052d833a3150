-- Entry states that solve the flow of a function, and the check that accepts them.
use Rattle.std.specs.Prelude.{◌≡◌, ℕ, Bool, List, length, replicate, Option, Some, None, Result, Ok, Err, ⊤}
use Rattle.alias_base.specs.declared.ids.InstructionId.{InstructionId}
use Rattle.alias_hir.specs.declared.error.Counter.TheVariants.{Diagnostics}
use Rattle.alias_hir.specs.declared.env.Environment.{Environment}
use Rattle.alias_hir.specs.declared.hir.HirFunction.{HirFunction}
use Rattle.alias_lattice.specs.Flows.{Stepped, IsSolution, AreJoins}
use Rattle.alias_lattice.specs.ProperStates.{StateProper}
use Rattle.alias_lattice.specs.States.{State, state_join, state_below}
use Rattle.alias_flow.specs.Machine.{Rules}
use Rattle.alias_flow.specs.Solutions.{entry_at, IsForward}
use Rattle.alias_flow.specs.check.Checks.{Arriving, solution_checked}
use Rattle.alias_flow.specs.declared.check.fault.Unsolved.{Unsolved}
use Rattle.alias_flow.specs.declared.check.fault.Unsolved.TheVariants as fault
use Rattle.alias_tables.specs.Tables.{TableLists}
use Rattle.alias_tables.specs.declared.faults.Refusal.TheVariants.{TooMany}
use Rattle.alias_step.specs.block.Contexts.{context_of}
use Rattle.alias_step.specs.declared.block.faults.BlockRefusal.{BlockRefusal}
use Rattle.alias_step.specs.declared.block.faults.BlockRefusal.TheVariants.{Instruction}
use Rattle.alias_step.specs.declared.block.recorded.BlockEffects.{BlockEffects}
use Rattle.alias_effects.specs.Numbered.{numbered}
use Rattle.alias_certificate_laws.specs.accepting.Alike.{AlikeTemporaries, Elsewhere, elsewhere}
use Rattle.alias_certificate_laws.specs.accepting.AlikeBlocks.{AlikeRecorded}

abbrev pub rules_of : Environment → HirFunction → Bool → Rules State TableLists BlockEffects BlockRefusal
rules_of env func is_function_expression = numbered (context_of env func is_function_expression)

module _ (env : Environment) (func : HirFunction) (is_function_expression : Bool) where
  abbrev pub rules : Rules State TableLists BlockEffects BlockRefusal
  rules = rules_of env func is_function_expression

  -- the entry states, one or none for each block in stored order, solve the flow of the function under these tables
  pub record SolvesUnder (tables : TableLists) (entries : List (Option State)) : Type 0 where
    pub count : length entries ≡ length func.body.blocks
    pub proper : (b : ℕ) (s : State) → entry_at entries b ≡ Some s → StateProper s
    pub solves : IsSolution state_below rules.flow tables (entry_at entries)
    pub joins : IsForward rules → AreJoins state_below rules.flow StateProper tables (entry_at entries)

  -- what is claimed of the steps is so: under these tables each records what is said of it
  abbrev pub AreClaimed : TableLists → List (Option State) → (TableLists → ℕ → BlockEffects → Option ⊤) → Type 0
  AreClaimed tables entries differs = (b : ℕ) (s y : State) (k : BlockEffects) → entry_at entries b ≡ Some s
      → rules.flow.step tables b s ≡ Stepped y tables k → differs tables b k ≡ None

  -- the check that begins with these tables finds no fault in the entry states, nor in claims that are so, and its
  -- steps leave the tables
  abbrev pub IsAccepted : TableLists → List (Option State) → Type 0
  IsAccepted tables entries =
      (differs : TableLists → ℕ → BlockEffects → Option ⊤) → AreClaimed tables entries differs
      → (w : Arriving State TableLists BlockEffects)
      × (solution_checked state_join state_below rules differs entries tables
      (replicate (length func.body.blocks) None) ≡ Ok w) × (w.tables ≡ tables)

  -- what is claimed of the steps is so of all that is alike: of what each records but for spans and the numbers of
  -- reports, under tables with such temporaries
  abbrev pub AreClaimedAlike : {D : Type 0} → TableLists → List (Option State)
      → (TableLists → ℕ → BlockEffects → Option D) → Type 0
  AreClaimedAlike tables entries differs =
      (b : ℕ) (s y : State) (k : BlockEffects) → entry_at entries b ≡ Some s → rules.flow.step tables b s
      ≡ Stepped y tables k
      → (t : TableLists) (q : BlockEffects) → AlikeTemporaries tables.temporaries t.temporaries → AlikeRecorded k q
      → differs t b q ≡ None

  -- the check finds no fault, and ends with such temporaries; or no number is left for a report of a step
  pub data IsAcceptedOrFull {D : Type 0} (tables : TableLists)
      (r : Result (Arriving State TableLists BlockEffects) (Unsolved BlockRefusal D)) : Type 0 where
    accepted : (w : Arriving State TableLists BlockEffects) → r ≡ Ok w
        → AlikeTemporaries tables.temporaries w.tables.temporaries → IsAcceptedOrFull tables r
    full : (b : ℕ) (i : InstructionId) → r ≡ Err (fault.Step b (Instruction i (TooMany Diagnostics)))
        → IsAcceptedOrFull tables r

  -- the check accepts the entry states elsewhere, whatever tables it begins with, where these have temporaries of the
  -- same keys and identifiers
  abbrev pub IsAcceptedAnyway : TableLists → List (Option State) → Type 0
  IsAcceptedAnyway tables entries =
      (away : Elsewhere env) (begun : TableLists) → AlikeTemporaries tables.temporaries begun.temporaries
      → (differs : TableLists → ℕ → BlockEffects → Option ⊤) → AreClaimedAlike tables entries differs
      → IsAcceptedOrFull tables (solution_checked state_join state_below
      (rules_of (elsewhere env away) func is_function_expression) differs entries begun
      (replicate (length func.body.blocks) None))
