-- A function whose solution is said by a certificate, and the check that accepts it.
use Rattle.std.specs.Prelude.{◌≡◌, ℕ, ◌+◌, Bool, List, [], length, Option, Some, Result, Ok, Err}
use Rattle.alias_base.specs.declared.ids.FunctionId.{FunctionId}
use Rattle.alias_hir.specs.declared.env.Environment.{Environment}
use Rattle.alias_hir.specs.declared.error.Counter.TheVariants.{Diagnostics}
use Rattle.alias_hir.specs.declared.hir.HirFunction.{HirFunction}
use Rattle.alias_lattice.specs.States.{State}
use Rattle.alias_flow.specs.Solutions.{entry_at, RecordsSteps}
use Rattle.alias_tables.specs.Tables.{TableLists}
use Rattle.alias_step.specs.declared.block.recorded.BlockEffects.{BlockEffects}
use Rattle.alias_effects.specs.declared.output.PassEnd.{PassEnd}
use Rattle.alias_nested.specs.Created.{created_functions}
use Rattle.alias_certificate.specs.declared.fault.CheckFault.{CheckFault}
use Rattle.alias_certificate.specs.declared.fault.CheckFault.TheVariants as fault
use Rattle.alias_cert.specs.function.Functions.{function_solved}
use Rattle.alias_certificate_laws.specs.accepting.Accepting.{rules, SolvesUnder}
use Rattle.alias_certificate_laws.specs.accepting.Alike.{Elsewhere, elsewhere}
use Rattle.alias_certificate_laws.specs.accepting.Saying.{said_function, NamesThere, AreCounted}

module _ (env : Environment) (func : HirFunction) (is_function_expression : Bool) where
  -- the entry states name only what is there, and the temporaries are counted on from the identifiers
  pub record NamesItsOwn (tables : TableLists) (entries : List (Option State)) : Type 0 where
    pub states : (b : ℕ) (s : State) → entry_at entries b ≡ Some s
        → NamesThere (length env.identifiers + length tables.temporaries) (created_functions func) s
    pub temporaries : AreCounted env [] tables.temporaries

  -- a solution of the function's flow under these tables, with what its blocks record
  pub record IsSolution (tables : TableLists) (entries : List (Option State)) (recorded : List (Option BlockEffects)) :
      Type 0 where
    pub solved : SolvesUnder env func is_function_expression tables entries
    pub records : RecordsSteps (rules env func is_function_expression).flow tables (entry_at entries) recorded
    pub count : length recorded ≡ length func.body.blocks
    pub names : NamesItsOwn tables entries

  -- the certificate that says the solution is accepted, or no number is left for a report
  pub data IsCertified (r : Result PassEnd CheckFault) : Type 0 where
    certified : (e : PassEnd) → r ≡ Ok e → IsCertified r
    full : r ≡ Err (fault.TooMany Diagnostics) → IsCertified r

  abbrev pub IsAcceptedAsSaid : TableLists → List (Option State) → List (Option BlockEffects) → Type 0
  IsAcceptedAsSaid tables entries recorded =
      (away : Elsewhere env) (id : Option FunctionId) (summary : List (List ℕ))
      → IsCertified (function_solved (said_function id func entries recorded tables.temporaries summary)
      (elsewhere env away) func is_function_expression)
