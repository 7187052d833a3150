-- What a certificate says of a function, checked: the first fault, or what is handed out of the function.
use Rattle.std.specs.Prelude.{ℕ, ◌+◌, Bool, true, false, if◌then◌else◌, List, [], ◌∷◌, length, replicate, Option, None}
use Rattle.std.specs.Prelude.{Result, Ok, Err, ⊤}
use Rattle.alias_base.specs.Answer.{◌>>=◌}
use Rattle.alias_hir.specs.declared.env.Environment.{Environment}
use Rattle.alias_hir.specs.declared.hir.HirFunction.{HirFunction}
use Rattle.alias_lattice.specs.States.{State, state_join, state_below}
use Rattle.alias_flow.specs.Machine.{Rules}
use Rattle.alias_flow.specs.check.Checks.{Arriving, solution_checked}
use Rattle.alias_flow.specs.check.Reached.{reached_marks}
use Rattle.alias_tables.specs.Tables.{TableLists}
use Rattle.alias_step.specs.block.Contexts.{context_of}
use Rattle.alias_step.specs.declared.block.faults.BlockRefusal.{BlockRefusal}
use Rattle.alias_step.specs.declared.block.recorded.BlockEffects.{BlockEffects}
use Rattle.alias_tables.specs.write_back.WriteBack.{tables_of}
use Rattle.alias_effects.specs.Inference.{end_of}
use Rattle.alias_effects.specs.Numbered.{numbered}
use Rattle.alias_effects.specs.declared.output.PassEnd.{PassEnd}
use Rattle.alias_nested.specs.Created.{created_functions}
use Rattle.alias_certificate.specs.declared.certificate.CertFunction.{CertFunction}
use Rattle.alias_certificate.specs.declared.fault.CheckFault.{CheckFault}
use Rattle.alias_certificate.specs.declared.fault.CheckFault.TheVariants as fault
use Rattle.alias_cert.specs.function.Blocks.{line_numbers, are_lines}
use Rattle.alias_cert.specs.function.Claims.{differs}
use Rattle.alias_cert.specs.function.Entries.{entries_stated}
use Rattle.alias_cert.specs.function.Faults.{faulted}
use Rattle.alias_cert.specs.function.Temporaries.{temporaries_stated}

-- the positions that are marked, from the n-th on
abbrev pub marked_positions : ℕ → List Bool → List ℕ
marked_positions n [] = []
marked_positions n (true ∷ marks) = n ∷ marked_positions (n + 1) marks
marked_positions n (false ∷ marks) = marked_positions (n + 1) marks

module _ (c : CertFunction) (env : Environment) (f : HirFunction) (is_function_expression : Bool) where
  -- the function as a flow over the positions of its blocks
  abbrev pub flow_rules : Rules State TableLists BlockEffects BlockRefusal
  flow_rules = numbered (context_of env f is_function_expression)

  -- which blocks are reached, and the line of each of them
  abbrev pub marks : List Bool
  marks = reached_marks flow_rules

  abbrev pub numbers : List (Option ℕ)
  numbers = line_numbers 0 marks

  -- the block lines are those of the reached blocks, in stored order
  abbrev pub lines_checked : Result ⊤ CheckFault
  lines_checked = if are_lines c.blocks f.body.blocks marks then Ok tt else Err (fault.Blocks c.function)

  -- the entry states that are said; identifiers are those of the environment and the temporaries that are said
  abbrev pub entries_checked : Result (List (Option State)) CheckFault
  entries_checked = entries_stated c.function (length env.identifiers + length c.temporaries) (created_functions f)
      c.blocks [] numbers

  -- from these entry states and tables, with nothing recorded yet: each block steps once, in stored order
  abbrev pub steps_checked : List (Option State) → TableLists
      → Result (Arriving State TableLists BlockEffects) CheckFault
  steps_checked entries tables =
      faulted c.function env f.body.blocks (solution_checked state_join state_below flow_rules
      (differs c.blocks numbers (length c.temporaries)) entries tables (replicate (length f.body.blocks) None))

  -- what is handed out: these entry states, with what the check comes to; the visits are the reached blocks in stored
  -- order
  abbrev pub checked_end : List (Option State) → Arriving State TableLists BlockEffects → PassEnd
  checked_end entries w = end_of f (record {
    progress = record { visits = marked_positions 0 marks; joined_input = entries; last_input = [] };
    tables = w.tables;
    recorded = w.recorded;
  })

  abbrev pub function_solved : Result PassEnd CheckFault
  function_solved = do
    u ← lines_checked
    entries ← entries_checked
    tables ← temporaries_stated c.function env c.temporaries (tables_of env)
    w ← steps_checked entries tables
    Ok (checked_end entries w)
