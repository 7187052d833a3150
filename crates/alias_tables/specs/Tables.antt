-- The tables, and what is found and added in them.
use Rattle.std.specs.Prelude.{◌≡◌, ℕ, ◌+◌, Bool, false, ◌&&◌, nat_lt, List, [], ◌∷◌, ◌++◌, length, Option, Some, None}
use Rattle.std.specs.Prelude.{Result, Ok, Err, ⊤, if◌then◌else◌}
use Rattle.alias_base.specs.declared.ids.IdentifierId.{IdentifierId}
use Rattle.alias_hir.specs.declared.error.Counter.TheVariants.{Diagnostics, Identifiers}
use Rattle.alias_hir.specs.declared.place.Effect.TheVariants.{Unknown}
use Rattle.alias_hir.specs.declared.place.Place.{Place}
use Rattle.alias_hir.specs.declared.place.Span.{Span}
use Rattle.alias_hir.specs.declared.report.ReportId.{ReportId}
use Rattle.alias_hir.specs.declared.report.Interned.{Interned}
use Rattle.alias_hir.specs.declared.report.Report.{Report}
use Rattle.alias_hir.specs.ReportNumbers.{same_identity, same_instance, number_of, with_interned}
use Rattle.alias_hir.specs.declared.effect.AliasingEffect.{AliasingEffect}
use Rattle.alias_hir.specs.declared.env.Environment.{Environment}
use Rattle.alias_tables.specs.declared.key.EffectKey.{EffectKey}
use Rattle.alias_tables.specs.Keys.{key_of, with_error_of}
use Rattle.alias_tables.specs.declared.reads.ContextRead.{ContextRead}
use Rattle.alias_tables.specs.declared.faults.Refusal.{Refusal}
use Rattle.alias_tables.specs.declared.faults.Refusal.TheVariants.{TooMany}
use Rattle.alias_tables.specs.declared.faults.EffectFault.{EffectFault}
use Rattle.alias_tables.specs.declared.faults.EffectFault.TheVariants.{Refused, Memory}
use Rattle.alias_tables.specs.declared.temp_key.TempKey.{TempKey}
use Rattle.alias_tables.specs.declared.temporaries.Temporary.{Temporary}
use Rattle.alias_tables.specs.InternedEffects.{first_like}
use Rattle.alias_tables.specs.Reads.{is_noted}
use Rattle.alias_tables.specs.Temporaries.{temp_like, temporary_of}

pub record TableLists : Type 0 where
  -- the interned effect of each key
  pub first : List AliasingEffect
  -- the identifiers that calls add
  pub temporaries : List Temporary
  -- the interned reports
  pub reports : List Interned
  -- the context places that were found to be only read
  pub reads : List ContextRead

-- what a step gives from the tables, and the tables that it leaves, or why it is refused
abbrev pub Step : Type 0 → Type 0
Step A = TableLists → Result (A × TableLists) Refusal

-- After Ok the answer is the step's, and so are the tables. A refusal is the step's. Memory may fail at any time.
abbrev pub Leaves : {A : Type 0} → Result (A × TableLists) Refusal → Result A EffectFault → TableLists → Type 0
Leaves step (Ok x) t = step ≡ Ok (x, t)
Leaves step (Err (Refused c)) t = step ≡ Err c
Leaves step (Err (Memory e)) t = ⊤

-- ---- effects

abbrev pub intern_after : Option AliasingEffect → AliasingEffect → Step AliasingEffect
intern_after None e t = Ok (e, record t { first = t.first ++ e ∷ [] })
intern_after (Some first) e t = Ok (with_error_of first e, t)

abbrev pub intern_by : Option EffectKey → AliasingEffect → Step AliasingEffect
intern_by None e t = Ok (e, t)
intern_by (Some k) e t = intern_after (first_like k t.first) e t

-- the interned effect of its key, which it becomes itself where there is none, with its own error. A call has no key
abbrev pub intern : AliasingEffect → Step AliasingEffect
intern e = intern_by (key_of e) e

-- ---- temporaries

-- the identifiers and the types have room for so many more and one
abbrev pub has_room : ℕ → ℕ → ℕ → Bool
has_room identifiers types more = nat_lt (identifiers + more) 4294967295 && nat_lt (types + more) 4294967295

-- the place of the identifier after so many
abbrev pub new_place : ℕ → ℕ → Option Span → Place
new_place identifiers more span = record
    { identifier = record { 0 = identifiers + more }; effect = Unknown; reactive = false; span = span }

abbrev pub temporary_after : Option Temporary → Environment → TempKey → Option Span → Step Place
temporary_after (Some temporary) env key span t = Ok (temporary.place, t)
temporary_after None env key span t =
    if has_room (length env.identifiers) (length env.types) (length t.temporaries)
    then (let p = new_place (length env.identifiers) (length t.temporaries) span in
    Ok (p, record t { temporaries = t.temporaries ++ temporary_of key p ∷ [] }))
    else Err (TooMany Identifiers)

-- the place of the key's temporary: a new identifier with this span, where there is none
abbrev pub temporary : Environment → TempKey → Option Span → Step Place
temporary env key span t = temporary_after (temp_like key t.temporaries) env key span t

-- ---- reports

abbrev pub with_reports : TableLists → List Interned → TableLists
with_reports t reports = record t { reports = reports }

-- the numbers of the first report of the identifier that says the same, and of the one that is equal; a new one takes
-- the next number, of which there are 4,294,967,295
abbrev pub intern_report : IdentifierId → Report → Step ReportId
intern_report id r t =
    let identity = number_of (same_identity id r) t.reports in
    let instance = number_of (same_instance id r) t.reports in
    if nat_lt identity 4294967295 && nat_lt instance 4294967295
    then Ok (record { identity = identity; instance = instance }, with_reports t (with_interned t.reports id r))
    else Err (TooMany Diagnostics)

-- ---- context places

-- the function only reads the context place
abbrev pub note_read : ContextRead → TableLists → TableLists
note_read r t = record t { reads = if is_noted r t.reads then t.reads else t.reads ++ r ∷ [] }

-- as a step that gives x
abbrev pub noted : {A : Type 0} → ContextRead → A → Step A
noted r x t = Ok (x, note_read r t)
