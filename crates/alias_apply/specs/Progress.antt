-- What the parts of a step do to its progress.
use Rattle.std.specs.Prelude.{◌≡◌, [], ◌∷◌, ◌++◌, Option, Some, None, Result, Ok, Err, ⊤, if◌then◌else◌}
use Rattle.alias_base.specs.declared.ids.IdentifierId.{IdentifierId}
use Rattle.alias_hir.specs.declared.effect.ValueKind.{ValueKind}
use Rattle.alias_hir.specs.declared.place.Place.{Place}
use Rattle.alias_hir.specs.declared.place.Span.{Span}
use Rattle.alias_lattice.specs.declared.lookup.MissingLookup.{MissingLookup}
use Rattle.alias_lattice.specs.States.{State, lookup, missing_lookup}
use Rattle.alias_hir.specs.declared.effect.AliasingEffect.{AliasingEffect}
use Rattle.alias_tables.specs.declared.faults.Refusal.{Refusal}
use Rattle.alias_tables.specs.declared.faults.Refusal.TheVariants.{Reinitialized}
use Rattle.alias_tables.specs.declared.faults.EffectFault.{EffectFault}
use Rattle.alias_tables.specs.declared.faults.EffectFault.TheVariants.{Refused, Memory}
use Rattle.alias_tables.specs.Tables.{TableLists, Step}
use Rattle.alias_tables.specs.Steps.{gives, refuses}
use Rattle.alias_apply.specs.declared.progress.StepProgress.{StepProgress}
pub use Rattle.alias_apply.specs.Made.{is_made}

-- the effect is recorded
abbrev pub record_of : AliasingEffect → StepProgress → StepProgress
record_of e s = record s { recorded = s.recorded ++ e ∷ [] }

-- the state is another
abbrev pub with_state : State → StepProgress → StepProgress
with_state u s = record s { state = u }

-- the first of two looks that may be missing
abbrev pub first_missing : Option MissingLookup → Option MissingLookup → Option MissingLookup
first_missing None m = m
first_missing (Some l) m = Some l

-- a lookup that may be missing is noted, where it is the first that is
abbrev pub noted : Option MissingLookup → StepProgress → StepProgress
noted m s = record s { missing = first_missing s.missing m }

-- a look at the identifier, which is noted where it is the first without a value
abbrev pub looked_up : IdentifierId → Option Span → StepProgress → StepProgress
looked_up x span s = noted (missing_lookup s.state x span) s

-- a look at a place without its span, and with it
abbrev pub looked_up_at : Place → StepProgress → StepProgress
looked_up_at p s = looked_up p.identifier None s

abbrev pub looked_up_with_span : Place → StepProgress → StepProgress
looked_up_with_span p s = looked_up p.identifier p.span s

-- the kind of the place's value as the step has come
abbrev pub kind_at : Place → StepProgress → ValueKind
kind_at p s = (lookup s.state p.identifier).kind

-- the identifier is made, once in an instruction
abbrev pub made : IdentifierId → StepProgress → Step StepProgress
made x s = if is_made x s.made then refuses (Reinitialized x) else gives (record s { made = s.made ++ x ∷ [] })

-- After Ok the progress and the tables are those that are stated, and so is a refusal. Memory may fail at any time.
abbrev pub Follows : Result (StepProgress × TableLists) Refusal → Result ⊤ EffectFault → StepProgress → TableLists
    → Type 0
Follows stated (Ok u) s t = stated ≡ Ok (s, t)
Follows stated (Err (Refused c)) s t = stated ≡ Err c
Follows stated (Err (Memory e)) s t = ⊤
