-- What an effects pass ends with solves the flow, and is what its steps record.
use Rattle.std.specs.Prelude.{replicate}
use Rattle.std.proofs.Common.{◌≡◌, Bool, true, length, None}
use Rattle.std.specs.Option.{is_some}
use Rattle.alias_base.specs.Find.{value_at}
use Rattle.alias_hir.specs.declared.env.Environment.{Environment}
use Rattle.alias_hir.specs.declared.hir.HirFunction.{HirFunction}
use Rattle.alias_lattice.specs.Flows.{IsSolution as SolvesFlow}
use Rattle.alias_lattice.specs.States.{State, state_below}
use Rattle.alias_flow.specs.Machine.{SolverState, VisitLog, Solved}
use Rattle.alias_flow.specs.Solutions.{entry_at, RecordsSteps, KeepsOthers}
use Rattle.alias_tables.specs.Tables.{TableLists}
use Rattle.alias_step.specs.block.Contexts.{context_of}
use Rattle.alias_step.specs.declared.block.recorded.BlockEffects.{BlockEffects}
use Rattle.alias_effects.specs.Numbered.{numbered, visits_end}
use Rattle.alias_certificate_laws.specs.accepting.Certifying.{NamesItsOwn, IsSolution}
use Rattle.alias_certificate_laws.proofs.accepting.Passing.{solves, kept, pass_solves}

pub record IsSolved (env : Environment) (func : HirFunction) (e : Bool)
    (w : SolverState (VisitLog State) TableLists BlockEffects) : Type 0 where
  pub solves : SolvesFlow state_below (numbered (context_of env func e)).flow w.tables
      (entry_at w.progress.joined_input)
  pub records : RecordsSteps (numbered (context_of env func e)).flow w.tables (entry_at w.progress.joined_input)
      w.recorded
  pub others : KeepsOthers (entry_at w.progress.joined_input) (replicate (length func.body.blocks) None) w.recorded

module _ (env : Environment) (func : HirFunction) (e : Bool)
    (entered : is_some (value_at func.body.blocks func.body.entry) ≡ true)
    (w : SolverState (VisitLog State) TableLists BlockEffects)
    (ends : visits_end (context_of env func e) ≡ Solved w) where
  pub solution : NamesItsOwn env func e w.tables w.progress.joined_input
      → IsSolution env func e w.tables w.progress.joined_input w.recorded
  solution names = record {
    solved = pass_solves env func e entered w ends;
    records = (solves env func e entered w ends).keeps;
    count = (kept env func e entered w ends).2;
    names = names;
  }

  pub others : KeepsOthers (entry_at w.progress.joined_input) (replicate (length func.body.blocks) None) w.recorded
  others = (solves env func e entered w ends).others

  -- the entry states solve the flow, and what their steps give is recorded, and no more
  pub is_solved : IsSolved env func e w
  is_solved = let s = solves env func e entered w ends in
      record { solves = s.solves; records = s.keeps; others = s.others }
