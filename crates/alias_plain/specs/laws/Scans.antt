-- The instructions of reached blocks, gone through until one breaks a condition.
use Rattle.std.specs.Prelude.{ℕ, ◌+◌, Bool, not, List, [], ◌∷◌, ◌++◌, Option, Some, None, Result, Ok, Err, ⊤, map}
use Rattle.std.specs.Prelude.{slice_get, slice_index_or}
use Rattle.std.specs.List.{list_all}
use Rattle.alias_base.specs.declared.ids.BlockId.{BlockId}
use Rattle.alias_base.specs.declared.ids.IdentifierId.{IdentifierId}
use Rattle.alias_base.specs.declared.ids.InstructionId.{InstructionId}
use Rattle.alias_hir.specs.Values.{created}
use Rattle.alias_hir.specs.declared.effect.AliasingEffect.{AliasingEffect}
use Rattle.alias_hir.specs.declared.env.Environment.{Environment}
use Rattle.alias_hir.specs.declared.hir.BasicBlock.{BasicBlock}
use Rattle.alias_hir.specs.declared.hir.HirFunction.{HirFunction}
use Rattle.alias_hir.specs.declared.hir.Instruction.{Instruction}
use Rattle.alias_hir.specs.declared.report.Report.{Report}
use Rattle.alias_hir.specs.declared.signature.AliasingSignatureConfig.{AliasingSignatureConfig}
use Rattle.alias_hir.specs.declared.signature.FunctionSignature.{FunctionSignature}
use Rattle.alias_signature.specs.Globals.{instruction_report}
use Rattle.alias_visit.specs.Places.{created_places}
use Rattle.alias_tables.specs.declared.faults.Refusal.{Refusal}
use Rattle.alias_tables.specs.declared.faults.Refusal.TheVariants as refusal
use Rattle.alias_tables.specs.Steps.{◌>>=◌, and_then, gives, refuses}
use Rattle.alias_tables.specs.Tables.{TableLists, intern_report}
use Rattle.alias_calls.specs.Configs.{config_expansion}
use Rattle.alias_flow.specs.Machine.{End, VisitLog}
use Rattle.alias_flow.specs.Machine as end
use Rattle.alias_plainness.specs.Making.{number, all_made, needed}
use Rattle.alias_plainness.specs.Sureness.{Sure}
use Rattle.alias_plainness.specs.Calls.{Called, called_by, row_of, no_tables}
use Rattle.alias_plainness.specs.Conditions.{are_distinct, makes_well, is_compatible, freezes_no_spread, first_broken}
use Rattle.alias_plain.specs.unsure.Sets.{Rows, has}
use Rattle.alias_plain.specs.declared.laws.stop.Stop.{Stop}
use Rattle.alias_plain.specs.declared.laws.stop.Stop.TheVariants.{Broken, NotSettled, TooMany}
use Rattle.alias_plain.specs.laws.Scopes.{Scope, scope_of}
use Rattle.alias_plain.specs.unsure.Ways.{UnsureState}
use Rattle.alias_plain.specs.laws.UnsureFlow.{list_in, through, entered, unsure_end}

-- ---- numbers that lists need

-- what a step over tables comes to where only its numbers matter. A freeze of a spread is refused before the list has
-- its numbers; the instruction is broken anyway
abbrev pub counted : {A : Type 0} → Result (A × TableLists) Refusal → Result (⊤ × TableLists) Stop
counted (Ok p) = Ok (tt, p.1)
counted (Err (refusal.TooMany which)) = Err (TooMany which)
counted (Err c) = Ok (tt, no_tables)

-- the report that the list of the instruction has, if it has one
abbrev pub count_reported : Option (IdentifierId × Report) → TableLists → Result (⊤ × TableLists) Stop
count_reported None = gives tt
count_reported (Some reported) = λ t. counted (intern_report reported.0 reported.1 t)

-- the temporaries and the reports of an aliasing part
abbrev pub count_part : Environment → Called → Option AliasingSignatureConfig → TableLists
    → Result (⊤ × TableLists) Stop
count_part env c None = gives tt
count_part env c (Some part) = λ t. counted (config_expansion env part c.site c.args t)

abbrev pub count_row : Environment → Called → Option FunctionSignature → TableLists → Result (⊤ × TableLists) Stop
count_row env c None = gives tt
count_row env c (Some s) = count_part env c s.aliasing

abbrev pub count_call : Environment → Option Called → TableLists → Result (⊤ × TableLists) Stop
count_call env None = gives tt
count_call env (Some c) = count_row env c (row_of env c)

-- ---- instructions

-- what isn't in the set is sure
abbrev pub sure_in : Rows → Sure
sure_in s x = not (has s x)

abbrev pub stops_at : InstructionId → Option ℕ → TableLists → Result (⊤ × TableLists) Stop
stops_at i None = gives tt
stops_at i (Some rule) = refuses (Broken i rule)

-- the number of the first condition that fails of the instruction with the list
abbrev pub failing_of : Environment → Rows → Instruction → List AliasingEffect → Option ℕ
failing_of env s i list =
    first_broken (list_all (sure_in s) (needed list ++ map number (created_places env (created i.value))))
    (are_distinct (all_made list)) (makes_well env list) (is_compatible env list) (freezes_no_spread env list)

module _ (c : Scope) where
  abbrev pub check : Rows → InstructionId → Instruction → TableLists → Result (⊤ × TableLists) Stop
  check s id i = do
    _ ← count_reported (instruction_report i.value i.span)
    _ ← count_call c.env (called_by (list_in c i))
    stops_at id (failing_of c.env s i (list_in c i))

  abbrev pub check_at : Rows → InstructionId → Option Instruction → TableLists → Result (⊤ × TableLists) Stop
  check_at s id None = gives tt
  check_at s id (Some i) = check s id i

  -- ---- blocks

  -- the instructions in order, from the set before them
  abbrev pub scan_instructions : List InstructionId → Rows → TableLists → Result (⊤ × TableLists) Stop
  scan_instructions [] s = gives tt
  scan_instructions (i ∷ is) s = do
    _ ← check_at s i (slice_get c.func.instructions i.0)
    scan_instructions is (through c s i)

  -- a block that isn't reached has no state
  abbrev pub scan_block : BasicBlock → Option UnsureState → TableLists → Result (⊤ × TableLists) Stop
  scan_block b None = gives tt
  scan_block b (Some x) = scan_instructions b.instructions (entered c.func.body.blocks b.phis x)

  -- the blocks, of which the first has the position
  abbrev pub scan_from : List (Option UnsureState) → ℕ → List (BlockId × BasicBlock) → TableLists
      → Result (⊤ × TableLists) Stop
  scan_from entries n [] = gives tt
  scan_from entries n (b ∷ bs) = do
    _ ← scan_block b.1 (slice_index_or entries n None)
    scan_from entries (n + 1) bs

  -- ---- functions

  -- no step is refused, so that the sequence ends in one of two ways
  abbrev pub scan_after : End (VisitLog UnsureState) (Unit {0}) (Unit {0}) (Unit {0}) → TableLists
      → Result (⊤ × TableLists) Stop
  scan_after (end.Solved w) = scan_from w.progress.joined_input 0 c.func.body.blocks
  scan_after (end.Fault b u) = refuses NotSettled
  scan_after (end.NotSettled n) = refuses NotSettled

  abbrev pub scan_function : TableLists → Result (⊤ × TableLists) Stop
  scan_function = scan_after (unsure_end c)
