-- How calls end that go through a unit, where memory may fail at any growth.
use Rattle.std.specs.Prelude.{◌≡◌, Bool, true, false, List, Result, Ok, Err, ⊤, is_some}
use Rattle.std.specs.List.{AllByRecursion}
use Rattle.alias_base.specs.Find.{value_at}
use Rattle.alias_hir.specs.declared.hir.HirFunction.{HirFunction}
use Rattle.alias_tables.specs.declared.faults.EffectFault.{EffectFault}
use Rattle.alias_tables.specs.declared.faults.EffectFault.TheVariants as tables
use Rattle.alias_tables.specs.declared.faults.Refusal.TheVariants as refusal
use Rattle.alias_tables.specs.Tables.{TableLists}
use Rattle.alias_plainness.specs.Calls.{no_tables}
use Rattle.alias_plain.specs.declared.laws.stop.Stop.{Stop}
use Rattle.alias_plain.specs.declared.laws.stop.Stop.TheVariants as stop
use Rattle.alias_plain.specs.laws.Answers.{UnitEnd, AllPlain, StopsIn}
use Rattle.alias_plain.specs.declared.plain.StoppedIn.{StoppedIn}

abbrev pub is_memory : Stop → Bool
is_memory (stop.Memory e) = true
is_memory e = false

-- After Ok the tables are the stated ones. An end before that is the one stated. Memory may fail at any time.
abbrev pub Scans : Result (⊤ × TableLists) Stop → Result ⊤ Stop → TableLists → Type 0
Scans stated (Ok u) t = stated ≡ Ok (tt, t)
Scans stated (Err e) t = is_memory e ≡ false → stated ≡ Err e

-- how a fault ends a step of which only the numbers count: where they are wanting, it stops there, and else nothing is
-- left in the tables
abbrev pub IsStopped : EffectFault → Result ⊤ Stop → TableLists → Type 0
IsStopped (tables.Memory e) r t = r ≡ Err (stop.Memory e)
IsStopped (tables.Refused (refusal.TooMany which)) r t = r ≡ Err (stop.TooMany which)
IsStopped (tables.Refused c) r t = (r ≡ Ok tt) × (t ≡ no_tables)

-- ---- a unit

-- After Ok all functions are gone through, and these are the tables. A stop is the one stated. Memory may fail at any
-- time.
abbrev pub EndsAs : UnitEnd → Result TableLists StoppedIn → Type 0
EndsAs stated (Ok t) = stated ≡ AllPlain t
EndsAs stated (Err e) = is_memory e.stop ≡ false → stated ≡ StopsIn e.function e.stop

-- each function begins with one of its blocks
abbrev pub EntriesExist : List HirFunction → Type 0
EntriesExist = AllByRecursion (λ f. is_some (value_at f.body.blocks f.body.entry) ≡ true)
