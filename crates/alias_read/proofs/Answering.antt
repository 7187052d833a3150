-- From what a reader of data gives to what a reader of units answers.
use Rattle.std.proofs.Common.{◌≡◌, ℕ, List}
use Rattle.std.specs.Prelude.{Result, Ok, Err, IfErr}
use Rattle.serde_json.specs.Data.{Data}
use Rattle.alias_hir.specs.declared.env.Unit.{Unit as HirUnit}
use Rattle.alias_json.specs.declared.fault.ValueFault.{ValueFault}
use Rattle.alias_json.specs.declared.fault.ValueFault.TheVariants as value
use Rattle.alias_read.specs.declared.fault.TextFault.{TextFault}
use Rattle.alias_read.specs.declared.fault.TextFault.TheVariants as fault
use Rattle.alias_read.specs.Fault.{IsMemory}
use Rattle.alias_read.specs.Units.{unit_of, IsReading, NoUnit, ReadsUnit}
use Rattle.alias_read.specs.UnitLaws.{one_reading}

err_not_ok : (e : ValueFault) (u : HirUnit) (r : Result HirUnit ValueFault) → r ≡ Err e → r ≡ Ok u → ⊥
err_not_ok e u r f g = cc

no_unit : (bytes : List ℕ) (d : Data) (e : ValueFault) → IsReading bytes d → unit_of d ≡ Err e → NoUnit bytes
no_unit bytes d e r g u h =
    let same : d ≡ h.0 = one_reading bytes d h.0 r h.1 in
    err_not_ok e u (unit_of d) g (rw same h.2)

pub none_of : (bytes : List ℕ) (result : Result HirUnit TextFault) → ReadsUnit bytes result
    → IfErr result (λ e. ¬ IsMemory e → NoUnit bytes)
none_of bytes (Ok u) r = tt
none_of bytes (Err (fault.NotUnit p q)) r = λ m. no_unit bytes r.0 (value.Refused p q) r.1 r.2
none_of bytes (Err fault.NotJson) r = λ m. λ u. λ h. r h.0 h.1
none_of bytes (Err (fault.Memory e)) r = λ m. absurd (m tt)
