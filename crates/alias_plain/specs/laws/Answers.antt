-- What is answered of a unit.
use Rattle.std.specs.Prelude.{ℕ, ◌+◌, Bool, true, false, List, [], ◌∷◌, Option, Some, None, Result, Ok, Err, ⊤}
use Rattle.alias_base.specs.declared.ids.FunctionId.{FunctionId}
use Rattle.alias_hir.specs.declared.env.Environment.{Environment}
use Rattle.alias_hir.specs.declared.env.Unit.{Unit as HirUnit}
use Rattle.alias_hir.specs.declared.hir.HirFunction.{HirFunction}
use Rattle.alias_tables.specs.Tables.{TableLists}
use Rattle.alias_plainness.specs.Calls.{no_tables}
use Rattle.alias_plain.specs.declared.laws.stop.Stop.{Stop}
use Rattle.alias_plain.specs.declared.laws.stop.Stop.TheVariants as stop
use Rattle.alias_plain.specs.declared.laws.answer.Plainness.{Plainness}
use Rattle.alias_plain.specs.declared.laws.answer.Plainness.TheVariants.{Plain, NotPlain}
use Rattle.alias_plain.specs.declared.laws.answer.PlainFault.{PlainFault}
use Rattle.alias_plain.specs.declared.laws.answer.PlainFault.TheVariants as fault
use Rattle.alias_plain.specs.laws.Scopes.{scope_of}
use Rattle.alias_plain.specs.laws.Scans.{scan_function}

-- ---- a unit

-- the reports, and nothing else
abbrev pub reports_of : TableLists → TableLists
reports_of t = record { first = []; temporaries = []; reports = t.reports; reads = [] }

-- how the unit's functions end: all are gone through, or one stops
pub data UnitEnd : Type 0 where
  AllPlain : TableLists → UnitEnd
  StopsIn : Option FunctionId → Stop → UnitEnd

abbrev pub end_in : Option FunctionId → Result (⊤ × TableLists) Stop → UnitEnd
end_in f (Ok p) = AllPlain p.1
end_in f (Err e) = StopsIn f e

abbrev pub then_function : UnitEnd → Option FunctionId → HirFunction → Environment → UnitEnd
then_function (AllPlain t) f func env = end_in f (scan_function (scope_of func env) (reports_of t))
then_function (StopsIn g e) f func env = StopsIn g e

-- the functions, of which the first has the number
abbrev pub then_nested : Environment → ℕ → List HirFunction → UnitEnd → UnitEnd
then_nested env k [] e = e
then_nested env k (f ∷ fs) e = then_nested env (k + 1) fs (then_function e (Some (record { 0 = k })) f env)

-- the root, and then the nested functions by their numbers
abbrev pub unit_end : HirUnit → UnitEnd
unit_end u = then_nested u.env 0 u.env.functions (then_function (AllPlain no_tables) None u.function u.env)

abbrev pub answer_of : UnitEnd → Result Plainness PlainFault
answer_of (AllPlain t) = Ok Plain
answer_of (StopsIn f (stop.Broken i rule)) = Ok (NotPlain f i rule)
answer_of (StopsIn f stop.NotSettled) = Err (fault.NotSettled f)
answer_of (StopsIn f (stop.TooMany which)) = Err (fault.TooMany which)
answer_of (StopsIn f (stop.Memory e)) = Err (fault.Memory e)

abbrev pub is_fault_memory : PlainFault → Bool
is_fault_memory (fault.Memory e) = true
is_fault_memory e = false
