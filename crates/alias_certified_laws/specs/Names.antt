-- The entry states that an effects pass ends with name only what is there, and its temporaries are counted on from the
-- identifiers; so its certificate is accepted.
use Rattle.std.specs.Prelude.{◌≡◌, Bool, true}
use Rattle.alias_hir.specs.declared.env.Environment.{Environment}
use Rattle.alias_hir.specs.declared.hir.HirFunction.{HirFunction}
use Rattle.alias_lattice.specs.States.{State}
use Rattle.alias_flow.specs.Machine.{SolverState, VisitLog, Solved}
use Rattle.alias_rules.specs.Fitting.{function_fits}
use Rattle.alias_tables.specs.Tables.{TableLists}
use Rattle.alias_step.specs.block.Contexts.{context_of}
use Rattle.alias_step.specs.declared.block.recorded.BlockEffects.{BlockEffects}
use Rattle.alias_effects.specs.Numbered.{visits_end}
use Rattle.alias_certificate_laws.specs.accepting.Certifying.{NamesItsOwn, IsAcceptedAsSaid}

abbrev pub NamesAreThere : Type 0
NamesAreThere =
    (env : Environment) (func : HirFunction) (is_function_expression : Bool)
    (w : SolverState (VisitLog State) TableLists BlockEffects) → function_fits func env ≡ true
    → visits_end (context_of env func is_function_expression) ≡ Solved w
    → NamesItsOwn env func is_function_expression w.tables w.progress.joined_input

-- the certificate that says what a pass ends with is accepted, also over environments that are seen alike, or no number
-- is left for a report
abbrev pub PassesAreAccepted : Type 0
PassesAreAccepted =
    (env : Environment) (func : HirFunction) (is_function_expression : Bool)
    (w : SolverState (VisitLog State) TableLists BlockEffects) → function_fits func env ≡ true
    → visits_end (context_of env func is_function_expression) ≡ Solved w
    → IsAcceptedAsSaid env func is_function_expression w.tables w.progress.joined_input w.recorded
