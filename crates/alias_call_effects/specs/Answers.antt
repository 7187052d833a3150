-- What calls over an environment answer.
use Rattle.std.specs.Prelude.{◌≡◌, Bool, true, false, ◌&&◌, nat_lt, List, [], Option, Result, Ok, Err, ⊤, alloc_error}
use Rattle.alias_base.specs.declared.ids.IdentifierId.{IdentifierId}
use Rattle.alias_hir.specs.declared.env.Environment.{Environment}
use Rattle.alias_hir.specs.declared.error.HirError.{HirError}
use Rattle.alias_hir.specs.declared.error.HirError.TheVariants as hir
use Rattle.alias_hir.specs.declared.place.Place.{Place}
use Rattle.alias_hir.specs.declared.place.Span.{Span}
use Rattle.alias_hir.specs.declared.report.Interned.{Interned}
use Rattle.alias_hir.specs.declared.report.Report.{Report}
use Rattle.alias_hir.specs.ReportNumbers.{same_identity, same_instance, number_of}
use Rattle.alias_tables.specs.declared.faults.EffectFault.{EffectFault}
use Rattle.alias_tables.specs.declared.faults.EffectFault.TheVariants.{Refused}
use Rattle.alias_tables.specs.declared.faults.EffectFault.TheVariants as fault
use Rattle.alias_tables.specs.declared.faults.Refusal.{Refusal}
use Rattle.alias_tables.specs.declared.faults.Refusal.TheVariants as refusal
use Rattle.alias_tables.specs.Tables.{TableLists}
use Rattle.alias_calls.specs.declared.call.CallSite.{CallSite}
use Rattle.alias_call_effects.specs.declared.error.SignatureError.{SignatureError}
use Rattle.alias_call_effects.specs.declared.error.SignatureError.TheVariants.{SpreadArgument, TooMany, Memory}

abbrev pub is_memory : SignatureError → Bool
is_memory (Memory e) = true
is_memory e = false

-- why a list is refused. No list is refused but for a spread argument, or where numbers are wanting
abbrev pub signature_error : Refusal → SignatureError
signature_error (refusal.SpreadArgument span report) = SpreadArgument span
signature_error (refusal.TooMany which) = TooMany which
signature_error (refusal.Reinitialized x) = Memory alloc_error
signature_error (refusal.AliasBeforeCreate x) = Memory alloc_error
signature_error (refusal.IncompatibleLibrary report) = Memory alloc_error

abbrev pub fault_error : EffectFault → SignatureError
fault_error (Refused c) = signature_error c
fault_error (fault.Memory e) = Memory e

abbrev pub number_error : HirError → SignatureError
number_error (hir.TooMany which) = TooMany which
number_error (hir.Memory e) = Memory e

-- After Ok the answer is the one stated, and so is what the call leaves. An error is the one stated. Memory may fail at
-- any time.
abbrev pub Answers : {A T : Type 0} → Result (A × T) SignatureError → Result A SignatureError → T → Type 0
Answers stated (Ok x) t = stated ≡ Ok (x, t)
Answers stated (Err e) t = is_memory e ≡ false → stated ≡ Err e

-- After Ok what grows is the one stated, and so is what the call leaves. An error is the one stated. Memory may fail at
-- any time.
abbrev pub Extended : {A T : Type 0} → Result (A × T) SignatureError → Result ⊤ SignatureError → A → T → Type 0
Extended stated (Ok u) x t = stated ≡ Ok (x, t)
Extended stated (Err e) x t = is_memory e ≡ false → stated ≡ Err e

-- tables that have these reports, and nothing else
abbrev pub tables_with : List Interned → TableLists
tables_with reports = record { first = []; temporaries = []; reports = reports; reads = [] }

-- what a step over tables gives, without the tables
abbrev pub given_alone : {A : Type 0} → Result (A × TableLists) Refusal → Result A SignatureError
given_alone (Ok p) = Ok p.0
given_alone (Err c) = Err (signature_error c)

-- what a step over the reports of an environment gives, and the environment with those that it leaves
abbrev pub with_reports : {A : Type 0} → Environment → Result (A × TableLists) Refusal
    → Result (A × Environment) SignatureError
with_reports env (Ok p) = Ok (p.0, record env { interned = p.1.reports })
with_reports env (Err c) = Err (signature_error c)

-- there are numbers for the report: those of reports that are kept, or new ones
abbrev pub has_numbers : IdentifierId → Report → List Interned → Bool
has_numbers id r es = nat_lt (number_of (same_identity id r) es) 4294967295
    && nat_lt (number_of (same_instance id r) es) 4294967295

-- where a call stands
abbrev pub site_of : Place → Place → Option Span → CallSite
site_of lvalue receiver span = record { receiver = receiver; into = lvalue; span = span }
