-- What passes the check of a function solves its flow.
use Rattle.std.proofs.Common.{◌≡◌, ℕ, ◌+◌, Bool, true, false, List, [], length, replicate, get_or, Option, Some, None}
use Rattle.std.proofs.Common.{Ok, refl, ap, sym, ◌∙◌, subst}
use Rattle.std.proofs.lemmas.List.{length-replicate}
use Rattle.alias_base.specs.declared.ids.FunctionId.{FunctionId}
use Rattle.alias_hir.specs.declared.env.Environment.{Environment}
use Rattle.alias_hir.specs.declared.hir.HirFunction.{HirFunction}
use Rattle.alias_lattice.specs.Flows.{IsReached}
use Rattle.alias_lattice.specs.JoinLaws.{state_laws}
use Rattle.alias_lattice.specs.ProperStates.{StateProper}
use Rattle.alias_lattice.specs.States.{State, state_join, state_below}
use Rattle.alias_flow.specs.Machine.{FlowLaws}
use Rattle.alias_flow.specs.Solutions.{entry_at}
use Rattle.alias_flow.specs.check.Checks.{Arriving, solution_checked}
use Rattle.alias_flow.specs.check.Reached.{reached_marks}
use Rattle.alias_flow.proofs.check.Marks.{marked_is_reached}
use Rattle.alias_flow.proofs.check.Solves.{check_solves, check_keeps, check_keeps_others, check_keeps_count}
use Rattle.alias_flow.proofs.check.Solves.{check_joins}
use Rattle.alias_step.specs.block.Contexts.{context_of}
use Rattle.alias_step.specs.declared.block.faults.BlockRefusal.{BlockRefusal}
use Rattle.alias_step.specs.declared.block.recorded.BlockEffects.{BlockEffects}
use Rattle.alias_tables.specs.GrowingLaws.{Extends}
use Rattle.alias_tables.specs.Tables.{TableLists}
use Rattle.alias_effects.specs.Inference.{solved_of, end_tables}
use Rattle.alias_effects.specs.Numbered.{numbered}
use Rattle.alias_effects.specs.PassLaws.{pass_laws}
use Rattle.alias_effects.specs.Solutions.{IsSolvedUnder}
use Rattle.alias_effects.specs.declared.output.PassEnd.{PassEnd}
use Rattle.alias_effects.proofs.Solving.{Numbers, solved_over}
use Rattle.alias_nested.specs.Created.{created_functions}
use Rattle.alias_certificate.specs.declared.certificate.CertBlock.{CertBlock}
use Rattle.alias_certificate.specs.declared.certificate.CertFunction.{CertFunction}
use Rattle.alias_cert.specs.declared.function.claims.Difference.{Difference}
use Rattle.alias_cert.specs.function.Blocks.{line_numbers}
use Rattle.alias_cert.specs.function.Claims.{differs}
use Rattle.alias_cert.specs.function.Entries.{entries_stated}
use Rattle.alias_cert.specs.function.Functions.{marks, numbers, marked_positions, entries_checked, steps_checked}
use Rattle.alias_cert.specs.function.Functions.{checked_end}
use Rattle.alias_cert.proofs.function.Answering.{solution_said, unfaulted}
use Rattle.alias_cert.proofs.function.Stating.{AreStated, are_stated, line_is_marked, lines_long}

module _ (env : Environment) (f : HirFunction) (is_function_expression : Bool) (fits : Numbers f) where
  nothing : List (Option BlockEffects)
  nothing = replicate (length f.body.blocks) None

  pub laws : FlowLaws StateProper Extends (numbered (context_of env f is_function_expression))
      (replicate (length f.body.blocks) None)
  laws = pass_laws (context_of env f is_function_expression) fits.entry (replicate (length f.body.blocks) None)
      (length-replicate (length f.body.blocks) None)

  module _ (differs : TableLists → ℕ → BlockEffects → Option Difference) (entries : List (Option State))
      (known : (b : ℕ) (s : State) → entry_at entries b ≡ Some s → StateProper s)
      (long : length entries ≡ length f.body.blocks)
      (only_reached : (b : ℕ) (s : State) → entry_at entries b ≡ Some s
      → IsReached (numbered (context_of env f is_function_expression)).flow b)
      (tables : TableLists) (w : Arriving State TableLists BlockEffects)
      (h : solution_checked state_join state_below (numbered (context_of env f is_function_expression)) differs entries
      tables (replicate (length f.body.blocks) None) ≡ Ok w) (visits : List ℕ) where
    pub solves_function : IsSolvedUnder env f is_function_expression w.tables
        (solved_of f (record {
          progress = record { visits = visits; joined_input = entries; last_input = [] };
          tables = w.tables;
          recorded = w.recorded;
        }))
    solves_function =
        solved_over env f is_function_expression w.tables fits
        (record {
          progress = record { visits = visits; joined_input = entries; last_input = [] };
          tables = w.tables;
          recorded = w.recorded;
        }) refl long
        (check_keeps_count state_laws laws differs entries known long only_reached tables w h)
        (check_solves state_laws laws differs entries known long only_reached tables w h)
        (check_keeps state_laws laws differs entries known long only_reached tables w h)
        (check_keeps_others state_laws laws differs entries known long only_reached tables w h)
        (check_joins state_laws laws differs entries known long only_reached tables w h)

  -- entry states that are stated for the lines of the reached blocks are of reached blocks
  module _ (function : Option FunctionId) (identifiers : ℕ) (created : List FunctionId) (lines : List CertBlock)
      (entries : List (Option State))
      (stated : entries_stated function identifiers created lines []
      (line_numbers 0 (reached_marks (numbered (context_of env f is_function_expression)))) ≡ Ok entries) where
    all_stated : AreStated function identifiers created lines []
        (line_numbers 0 (reached_marks (numbered (context_of env f is_function_expression)))) entries
    all_stated = are_stated function identifiers created lines []
        (line_numbers 0 (reached_marks (numbered (context_of env f is_function_expression)))) entries stated

    pub stated_are_reached : (b : ℕ) (s : State) → entry_at entries b ≡ Some s
        → IsReached (numbered (context_of env f is_function_expression)).flow b
    stated_are_reached b s h =
        let there : entry_at all_stated.more b ≡ Some s = ap (λ es. entry_at es b) (sym all_stated.is) ∙ h in
        let line = all_stated.lined b s there in
        marked_is_reached laws b (line_is_marked 0 (reached_marks (numbered (context_of env f is_function_expression)))
        b line.0 line.1)

    pub stated_long : length (reached_marks (numbered (context_of env f is_function_expression))) ≡ length f.body.blocks
        → length entries ≡ length f.body.blocks
    stated_long marks_long = ap length all_stated.is ∙ all_stated.long
        ∙ lines_long 0 (reached_marks (numbered (context_of env f is_function_expression))) ∙ marks_long

  -- what is handed out of a function whose certificate passes solves its flow
  module _ (c : CertFunction) (entries : List (Option State))
      (stated : entries_checked c env f is_function_expression ≡ Ok entries)
      (known : (b : ℕ) (s : State) → entry_at entries b ≡ Some s → StateProper s)
      (marks_long : length (marks c env f is_function_expression) ≡ length f.body.blocks)
      (tables : TableLists) (w : Arriving State TableLists BlockEffects)
      (h : steps_checked c env f is_function_expression entries tables ≡ Ok w) where
    pub end_solves : (e : PassEnd) → e ≡ checked_end c env f is_function_expression entries w
        → IsSolvedUnder env f is_function_expression (end_tables e) e.solved
    end_solves e is =
        subst (λ (p : PassEnd). IsSolvedUnder env f is_function_expression (end_tables p) p.solved) (sym is)
        (solves_function (differs c.blocks (numbers c env f is_function_expression) (length c.temporaries)) entries
        known
        (stated_long c.function (length env.identifiers + length c.temporaries) (created_functions f) c.blocks entries
        stated marks_long)
        (stated_are_reached c.function (length env.identifiers + length c.temporaries) (created_functions f) c.blocks
        entries stated)
        tables w (unfaulted c.function env f.body.blocks (solution_said c env f is_function_expression entries tables) w
        h) (marked_positions 0 (marks c env f is_function_expression)))
