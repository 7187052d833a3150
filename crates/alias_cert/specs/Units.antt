-- A certificate, checked against a unit: functions innermost first, and then the root.
use Rattle.std.specs.Prelude.{◌≡◌, ℕ, zero, suc, nat_lt, false, if◌then◌else◌, List, [], ◌∷◌, length, Option, Some}
use Rattle.std.specs.Prelude.{None, Result, Ok, Err, slice_get}
use Rattle.alias_base.specs.Answer.{◌>>=◌}
use Rattle.alias_base.specs.declared.ids.FunctionId.{FunctionId}
use Rattle.alias_hir.specs.declared.env.Unit.{Unit as HirUnit}
use Rattle.alias_hir.specs.declared.hir.HirFunction.{HirFunction}
use Rattle.alias_nesting_laws.specs.Slots.{with_function}
use Rattle.alias_nested.specs.Created.{created_functions}
use Rattle.alias_nested.specs.Slots.{emptied}
use Rattle.alias_nested.specs.Analysis.{most_levels}
use Rattle.alias_certificate.specs.declared.certificate.CertFunction.{CertFunction}
use Rattle.alias_certificate.specs.declared.fault.CheckFault.{CheckFault}
use Rattle.alias_certificate.specs.declared.fault.CheckFault.TheVariants as fault
use Rattle.alias_cert.specs.declared.check.Accepted.{Accepted}
use Rattle.alias_cert.specs.function.Faults.{is_memory}
use Rattle.alias_cert.specs.Functions.{CheckedFunction, Checking, checking, nested_checked, root_checked, Accounts}
use Rattle.alias_cert.specs.Functions.{AreAsSaid}

-- one after the other, up to the first fault
abbrev pub each : {X : Type 0} → (X → Checking → Result Checking CheckFault) → List X → Checking
    → Result Checking CheckFault
each step [] a = Ok a
each step (x ∷ xs) a = step x a >>= each step xs

abbrev pub put_back : FunctionId → HirFunction × Checking → Checking
put_back id s = record s.1 { env = with_function id s.0 s.1.env }

module _ (functions : List CertFunction) where
  -- a nested function that is out of its slot: first those below it
  abbrev pub taken_checked : (HirFunction → Checking → Result Checking CheckFault) → FunctionId → HirFunction → Checking
      → Result (HirFunction × Checking) CheckFault
  taken_checked below id f a = below f a >>= nested_checked functions id f

  abbrev pub found_checked : (HirFunction → Checking → Result Checking CheckFault) → FunctionId → Checking
      → Option HirFunction → Result Checking CheckFault
  found_checked below id a None = Ok a
  found_checked below id a (Some f) = do
    s ← taken_checked below id f (record a { env = with_function id (emptied f.returns) a.env })
    Ok (put_back id s)

  -- the nested function of a number is taken out of its slot, checked behind those below it, and put back
  abbrev pub slot_checked : (HirFunction → Checking → Result Checking CheckFault) → FunctionId → Checking
      → Result Checking CheckFault
  slot_checked below id a = found_checked below id a (slice_get a.env.functions id.0)

  -- the functions on the n levels below a function, in stored order, those below each before it
  unfoldable pub below_checked : ℕ → HirFunction → Checking → Result Checking CheckFault
  below_checked zero f a = Ok a
  below_checked (suc n) f a = each (slot_checked (below_checked n)) (created_functions f) a

  -- nothing more is said behind the root
  abbrev pub none_left : HirFunction × Checking → Result (HirFunction × Checking) CheckFault
  none_left s = if nat_lt (length s.1.functions) (length functions) then Err (fault.Functions (length s.1.functions))
      else Ok s

  -- a unit: the functions below the root, innermost first, and then the root
  abbrev pub unit_checked : HirUnit → Result (HirFunction × Checking) CheckFault
  unit_checked u = below_checked most_levels u.function (checking u.env []) >>= root_checked functions u.function
      >>= none_left

-- ---- what the call answers

-- the unit that is handed out is what the check comes to, with one solution for each function, which solves its flow
-- and enters its blocks
-- with the states that the certificate says
abbrev pub Accepts : List CertFunction → HirUnit → Result Accepted CheckFault → Type 0
Accepts functions u (Ok a) =
    (fs : List CheckedFunction) × (unit_checked functions u ≡ Ok (a.unit.function, checking a.unit.env fs))
    × Accounts fs a.solved × AreAsSaid functions fs
Accepts functions u (Err e) = is_memory e ≡ false → unit_checked functions u ≡ Err e
