-- The effects of a call by a signature without an aliasing part.
use Rattle.std.specs.Prelude.{Bool, true, false, ◌&&◌, List, [], ◌∷◌, ◌++◌, map, Option, Some, None, if◌then◌else◌}
use Rattle.alias_hir.specs.declared.effect.AliasingEffect.{AliasingEffect}
use Rattle.alias_hir.specs.declared.effect.AliasingEffect.TheVariants as effect
use Rattle.alias_hir.specs.declared.effect.ValueReason.{ValueReason}
use Rattle.alias_hir.specs.declared.effect.ValueReason.TheVariants.{Other}
use Rattle.alias_hir.specs.declared.env.Environment.{Environment}
use Rattle.alias_hir.specs.declared.place.Effect.{Effect}
use Rattle.alias_hir.specs.declared.place.Effect.TheVariants as use_of
use Rattle.alias_hir.specs.declared.place.Place.{Place}
use Rattle.alias_hir.specs.declared.place.PlaceOrSpreadOrHole.{PlaceOrSpreadOrHole}
use Rattle.alias_hir.specs.declared.place.PlaceOrSpreadOrHole.TheVariants as arg
use Rattle.alias_hir.specs.declared.signature.FunctionSignature.{FunctionSignature}
use Rattle.alias_lattice.specs.declared.lookup.MissingLookup.{MissingLookup}
use Rattle.alias_lattice.specs.States.{State}
use Rattle.alias_tables.specs.declared.faults.Refusal.TheVariants.{SpreadArgument}
use Rattle.alias_tables.specs.Steps.{◌>>=◌, gives, refuses}
use Rattle.alias_tables.specs.Tables.{Step, intern_report}
use Rattle.alias_apply.specs.Reports.{impure_report, spread_report}
use Rattle.alias_calls.specs.declared.call.CallSite.{CallSite}
use Rattle.alias_calls.specs.declared.immutable.Checked.{Checked}
use Rattle.alias_calls.specs.declared.legacy.Legacy.{Legacy}
use Rattle.alias_calls.specs.declared.visits.Visits.{Visits}
use Rattle.alias_calls.specs.Immutable.{checked, immutables}
use Rattle.alias_calls.specs.Visits.{visit, visit_arguments}

-- a captured place goes where places were stored, or else into the result
abbrev pub links_of : Place → List Place → Place → List AliasingEffect
links_of into [] c = effect.Alias c into ∷ []
links_of into (s ∷ stored) c = map (λ (q : Place). effect.Capture c q) (s ∷ stored)

abbrev pub all_links : Place → List Place → List Place → List AliasingEffect
all_links into stored [] = []
all_links into stored (c ∷ captured) = links_of into stored c ++ all_links into stored captured

abbrev pub legacy : List AliasingEffect → Option MissingLookup → Legacy
legacy effects missing = record { effects = effects; missing = missing }

abbrev pub ended : Option Place → Place → Visits → Option MissingLookup → Step Legacy
ended (Some p) into v m = refuses (SpreadArgument p.span (spread_report p.span))
ended None into v m = gives (legacy (v.out ++ all_links into v.stored v.captured) m)

-- each argument is captured, and not written
abbrev pub still_captures : Place → List PlaceOrSpreadOrHole → List AliasingEffect
still_captures into [] = []
still_captures into (arg.Place p ∷ others) = effect.ImmutableCapture p into ∷ still_captures into others
still_captures into (arg.Spread s ∷ others) = effect.ImmutableCapture s.place into ∷ still_captures into others
still_captures into (arg.Hole ∷ others) = still_captures into others

abbrev pub or_other : Option ValueReason → ValueReason
or_other (Some r) = r
or_other None = Other

abbrev pub return_reason : FunctionSignature → ValueReason
return_reason s = or_other s.return_value_reason

abbrev pub is_capture : Effect → Bool
is_capture use_of.Capture = true
is_capture e = false

-- the call of an impure function is reported, where that is asked
abbrev pub with_impure : Environment → FunctionSignature → CallSite → List AliasingEffect → Step (List AliasingEffect)
with_impure env s site out =
    if s.impure && env.config.validate_no_impure_functions_in_render then (do
      error ← intern_report site.receiver.identifier (impure_report s.canonical_name site.span)
      gives (out ++ effect.Impure site.receiver error ∷ []))
    else gives out

-- the receiver aliases the result, unless it is captured
abbrev pub with_receiver : FunctionSignature → CallSite → List AliasingEffect → List AliasingEffect
with_receiver s site out = if is_capture s.callee_effect then out else out ++ effect.Alias site.receiver site.into ∷ []

abbrev pub visits_of : List AliasingEffect → Visits
visits_of out = record { out = out; stored = []; captured = []; refused = None }

-- whether the arguments are asked for, and immutable
abbrev pub asked : Environment → FunctionSignature → List PlaceOrSpreadOrHole → State → Checked
asked env s args u = if s.mutable_only_if_operands_are_mutable then immutables env u args None else checked false None

-- where they are, the receiver is aliased and the arguments are only read
abbrev pub with_still : CallSite → List PlaceOrSpreadOrHole → List AliasingEffect → List AliasingEffect
with_still site args out = out ++ effect.Alias site.receiver site.into ∷ [] ++ still_captures site.into args

module _ (env : Environment) (s : FunctionSignature) (site : CallSite) (args : List PlaceOrSpreadOrHole) where
  -- receiver and arguments, in order
  abbrev pub visited : List AliasingEffect → Visits
  visited out =
      visit_arguments env s site.into (return_reason s) 0 args
      (visit env site.into (return_reason s) site.receiver s.callee_effect (visits_of (with_receiver s site out)))

  abbrev pub legacy_after : Checked → List AliasingEffect → Step Legacy
  legacy_after c out =
      if c.holds then gives (legacy (with_still site args out) c.missing)
      else ended (visited out).refused site.into (visited out) c.missing

  -- the list, and the first missing lookup on the way
  abbrev pub legacy_expansion : State → Step Legacy
  legacy_expansion u = do
    out ← with_impure env s site (effect.Create site.into s.return_value_kind (return_reason s) ∷ [])
    legacy_after (asked env s args u) out
