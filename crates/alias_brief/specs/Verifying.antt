-- `brief` and `verify`: the text that follows for a unit, and whether a text is one that follows from what it says.
use Rattle.std.specs.Prelude.{◌≡◌, ℕ, Bool, true, false, List, length, Option, None, Some, Result, Ok, Err}
use Rattle.std.specs.List.{AllByRecursion}
use Rattle.alias_base.specs.Answer.{◌>>=◌}
use Rattle.alias_hir.specs.declared.env.Unit.{Unit as HirUnit}
use Rattle.alias_effects.specs.declared.solved.Solved.{Solved}
use Rattle.alias_cert_text.specs.Certificates.{certificate_of_text}
use Rattle.alias_cert_text.specs.declared.fault.CertFault.{CertFault}
use Rattle.alias_cert_text.specs.declared.fault.CertFault.TheVariants as text_fault
use Rattle.alias_certificate.specs.declared.certificate.Certificate.{Certificate}
use Rattle.alias_certificate.specs.declared.fault.CheckFault.{CheckFault}
use Rattle.alias_certificate.specs.declared.fault.CheckFault.TheVariants as check_fault
use Rattle.alias_follow.specs.declared.unit.Followed.{Followed}
use Rattle.alias_follow.specs.Functions.{FollowedFunction, SolvesItsFlow}
use Rattle.alias_follow.specs.Units.{UnitFollowing, unit_followed}
use Rattle.alias_brief.specs.Briefs.{brief_text}
use Rattle.alias_brief.specs.Differences.{first_difference}
use Rattle.alias_brief.specs.Saying.{said}
use Rattle.alias_brief.specs.declared.calls.VerifyFault.{VerifyFault}
use Rattle.alias_brief.specs.declared.calls.VerifyFault.TheVariants.{BadLine, Rejected, Differs, Memory}

-- ---- `brief`

abbrev pub text_followed : UnitFollowing → Result (List ℕ) CheckFault
text_followed x = Ok (brief_text x.followed)

-- what follows for a unit from what solutions say of its functions, as text
abbrev pub brief_of : List Solved → HirUnit → Result (List ℕ) CheckFault
brief_of solved u = unit_followed (said solved) u >>= text_followed

-- ---- `verify`

abbrev pub text_fault_of : CertFault → VerifyFault
text_fault_of (text_fault.BadLine number) = BadLine number
text_fault_of (text_fault.Memory e) = Memory e

abbrev pub check_fault_of : CheckFault → VerifyFault
check_fault_of (check_fault.Memory e) = Memory e
check_fault_of fault = Rejected fault

abbrev pub is_memory : VerifyFault → Bool
is_memory (Memory e) = true
is_memory fault = false

-- the text is that which follows for a unit of so many functions, or this is the first line that isn't
abbrev pub compared_by : ℕ → Option (ℕ × List ℕ) → Result ℕ VerifyFault
compared_by count None = Ok count
compared_by count (Some d) = Err (Differs d.0 d.1)

abbrev pub compared : List ℕ → UnitFollowing → Result ℕ VerifyFault
compared text x = compared_by (length x.followed.inferred.solved) (first_difference (brief_text x.followed) text)

abbrev pub followed_so : List ℕ → Result UnitFollowing CheckFault → Result ℕ VerifyFault
followed_so text (Ok x) = compared text x
followed_so text (Err fault) = Err (check_fault_of fault)

abbrev pub read_so : List ℕ → HirUnit → Result Certificate CertFault → Result ℕ VerifyFault
read_so text u (Ok c) = followed_so text (unit_followed c.functions u)
read_so text u (Err fault) = Err (text_fault_of fault)

-- how many functions the unit has, where the text is what follows for it from what the text itself says
abbrev pub verified : List ℕ → HirUnit → Result ℕ VerifyFault
verified text u = read_so text u (certificate_of_text text)

-- Of each function of the unit, as the pass over it began, the entry states that follow from what is given solve the flow;
-- and the text is exactly that of what follows, which has so many functions.
abbrev pub IsFollowed : Certificate → List ℕ → HirUnit → ℕ → Type 0
IsFollowed c text u count =
    (fs : List FollowedFunction) × (x : Followed)
    × (unit_followed c.functions u ≡ Ok (record { functions = fs; followed = x })) × AllByRecursion SolvesItsFlow fs
    × (brief_text x ≡ text) × (length x.inferred.solved ≡ count)

-- so it is, or the fault is the first one. Out of memory is free: it can come in the place of any answer
abbrev pub FollowsAs : Certificate → List ℕ → HirUnit → Result ℕ VerifyFault → Type 0
FollowsAs c text u (Ok count) = IsFollowed c text u count
FollowsAs c text u (Err e) = is_memory e ≡ false → followed_so text (unit_followed c.functions u) ≡ Err e

-- the text is that of a certificate, and it is exactly the one that follows from what that gives
abbrev pub IsVerified : List ℕ → HirUnit → ℕ → Type 0
IsVerified text u count = (c : Certificate) × (certificate_of_text text ≡ Ok c) × IsFollowed c text u count

abbrev pub Verifies : List ℕ → HirUnit → Result ℕ VerifyFault → Type 0
Verifies text u (Ok count) = IsVerified text u count
Verifies text u (Err e) = is_memory e ≡ false → verified text u ≡ Err e
