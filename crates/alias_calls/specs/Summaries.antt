-- The effects of a call by the summary of a function.
use Rattle.std.specs.Prelude.{Bool, true, false, ◌&&◌, ◌||◌, not, nat_lt, List, [], ◌∷◌, length, Option, Some, None}
use Rattle.std.specs.Prelude.{if◌then◌else◌}
use Rattle.std.specs.List.{list_any}
use Rattle.std.specs.Option.{is_some}
use Rattle.alias_base.specs.declared.ids.FunctionId.{FunctionId}
use Rattle.alias_base.specs.declared.ids.IdentifierId.{IdentifierId}
use Rattle.alias_base.specs.contracts.ids.IdentifierIdPartialEq.TheImpl as identifiers
use Rattle.alias_hir.specs.declared.effect.AliasingEffect.{AliasingEffect}
use Rattle.alias_hir.specs.declared.effect.AliasingEffect.TheVariants as effect
use Rattle.alias_hir.specs.declared.env.Environment.{Environment}
use Rattle.alias_hir.specs.declared.hir.HirFunction.{HirFunction}
use Rattle.alias_hir.specs.declared.hir.ParamPattern.{ParamPattern}
use Rattle.alias_hir.specs.declared.hir.ParamPattern.TheVariants as param
use Rattle.alias_hir.specs.declared.place.Place.{Place}
use Rattle.alias_hir.specs.declared.place.PlaceOrSpreadOrHole.{PlaceOrSpreadOrHole}
use Rattle.alias_hir.specs.declared.place.PlaceOrSpreadOrHole.TheVariants as arg
use Rattle.alias_tables.specs.declared.temp_key.TempKey.TheVariants.{Rest}
use Rattle.alias_tables.specs.Steps.{◌>>=◌, gives, collect}
use Rattle.alias_tables.specs.Tables.{Step, temporary}
use Rattle.alias_calls.specs.declared.call.SummaryNames.{SummaryNames}
use Rattle.alias_calls.specs.declared.copies.PairKind.TheVariants as pair
use Rattle.alias_calls.specs.declared.copies.PlaceKind.TheVariants as at
use Rattle.alias_calls.specs.declared.summaries.SummaryEffect.{SummaryEffect}
use Rattle.alias_calls.specs.declared.summaries.SummaryEffect.TheVariants.{OfPair, OfPlace, OfFreeze, Passed, GivenUp}
use Rattle.alias_calls.specs.Arguments.{substituted_arguments}
use Rattle.alias_calls.specs.Calls.{SummaryCall}
use Rattle.alias_calls.specs.Copies.{Collected, with_pairs, with_each, with_freezes}

abbrev pub same_id : IdentifierId → IdentifierId → Bool
same_id = identifiers.ghosts.eq

-- ---- names

-- the plain parameters, in order
abbrev pub plain_params : List ParamPattern → List IdentifierId
plain_params [] = []
plain_params (param.Place p ∷ ps) = p.identifier ∷ plain_params ps
plain_params (param.Spread s ∷ ps) = plain_params ps

-- the last spread parameter, or else the one before
abbrev pub last_spread : List ParamPattern → Option IdentifierId → Option IdentifierId
last_spread [] before = before
last_spread (param.Place p ∷ ps) before = last_spread ps before
last_spread (param.Spread s ∷ ps) before = last_spread ps (Some s.place.identifier)

-- what further arguments stand for: the spread parameter, or else a temporary
abbrev pub rest_or_temporary : Option IdentifierId → Environment → FunctionId → HirFunction → Step IdentifierId
rest_or_temporary (Some rest) env f function = gives rest
rest_or_temporary None env f function = do
  p ← temporary env (Rest f) function.span
  gives p.identifier

abbrev pub names_with : HirFunction → IdentifierId → SummaryNames
names_with function rest = record {
  params = plain_params function.params;
  rest = Some rest;
  returns = function.returns.identifier;
}

-- the names of the function's summary
abbrev pub summary_names : Environment → FunctionId → HirFunction → Step SummaryNames
summary_names env f function = do
  rest ← rest_or_temporary (last_spread function.params None) env f function
  gives (names_with function rest)

-- ---- what a name stands for

-- a context place stands for itself
abbrev pub substituted_context : IdentifierId → List Place → List Place → List Place
substituted_context q [] so_far = so_far
substituted_context q (p ∷ ps) so_far = substituted_context q ps (if same_id p.identifier q then p ∷ [] else so_far)

abbrev pub returned : SummaryNames → Place → IdentifierId → List Place
returned names into q = if same_id names.returns q then into ∷ [] else []

-- what an identifier of the summary stands for
abbrev pub substituted_for : SummaryCall → IdentifierId → List Place
substituted_for c q = substituted_context q c.context
    (substituted_arguments same_id q c.names.params c.names.rest c.args 0 (returned c.names c.into q))

-- ---- effects

-- what is copied of an effect: it passes over calls, and a new function gives the list up
abbrev pub copied : AliasingEffect → SummaryEffect
copied (effect.Apply receiver function mutates inner x id span) = Passed
copied (effect.CreateFrom a x) = OfPair pair.CreateFrom a.identifier x.identifier
copied (effect.ImmutableCapture a x) = OfPair pair.ImmutableCapture a.identifier x.identifier
copied (effect.Assign a x) = OfPair pair.Assign a.identifier x.identifier
copied (effect.Alias a x) = OfPair pair.Alias a.identifier x.identifier
copied (effect.Capture a x) = OfPair pair.Capture a.identifier x.identifier
copied (effect.MaybeAlias a x) = OfPair pair.MaybeAlias a.identifier x.identifier
copied (effect.Create x k r) = OfPlace (at.Create k r) x.identifier
copied (effect.Freeze v r) = OfFreeze r v.identifier
copied (effect.Impure p error) = OfPlace (at.Impure error) p.identifier
copied (effect.MutateFrozen p error) = OfPlace (at.MutateFrozen error) p.identifier
copied (effect.MutateGlobal p error) = OfPlace (at.MutateGlobal error) p.identifier
copied (effect.Render p) = OfPlace at.Render p.identifier
copied (effect.Mutate v r) = OfPlace (at.Mutate r) v.identifier
copied (effect.MutateConditionally v) = OfPlace at.MutateConditionally v.identifier
copied (effect.MutateTransitive v) = OfPlace at.MutateTransitive v.identifier
copied (effect.MutateTransitiveConditionally v) = OfPlace at.MutateTransitiveConditionally v.identifier
copied (effect.CreateFunction x f captures) = GivenUp

-- for each combination of the places that the identifiers stand for
abbrev pub with_copied : Environment → SummaryCall → SummaryEffect → List AliasingEffect → Step Collected
with_copied env c (OfPair k a x) out = with_pairs k (substituted_for c a) (substituted_for c x) out
with_copied env c (OfPlace k x) out = with_each k (substituted_for c x) out
with_copied env c (OfFreeze r x) out = with_freezes env c.args r (substituted_for c x) out
with_copied env c Passed out = gives (Some out)
with_copied env c GivenUp out = gives None

abbrev pub with_copies : Environment → SummaryCall → AliasingEffect → List AliasingEffect → Step Collected
with_copies env c e = with_copied env c (copied e)

abbrev pub with_all_copies : Environment → SummaryCall → List AliasingEffect → List AliasingEffect → Step Collected
with_all_copies env c = collect (with_copies env c)

-- ---- the list

abbrev pub is_spread : PlaceOrSpreadOrHole → Bool
is_spread (arg.Place p) = false
is_spread (arg.Spread s) = true
is_spread arg.Hole = false

-- the arguments need a rest: there are more than parameters, of which a hole is one too, or some argument is spread
abbrev pub needs_rest : List IdentifierId → List PlaceOrSpreadOrHole → Bool
needs_rest params args = nat_lt (length params) (length args) || list_any is_spread args

-- the list that the names give for these effects, if they give one: not where there are fewer arguments than
-- parameters, nor where they need a rest and there is none
abbrev pub names_expansion : Environment → SummaryCall → List AliasingEffect → Step Collected
names_expansion env c effects =
    if nat_lt (length c.args) (length c.names.params) then gives None
    else (if needs_rest c.names.params c.args && not (is_some c.names.rest) then gives None
    else with_all_copies env c effects [])

abbrev pub summary_call : SummaryNames → Place → List PlaceOrSpreadOrHole → List Place → SummaryCall
summary_call names into args context = record { names = names; into = into; args = args; context = context }

-- the list that the summary of a function gives, if it gives one. The names are made first
abbrev pub summary_expansion : Environment → FunctionId → HirFunction → List AliasingEffect → Place
    → List PlaceOrSpreadOrHole → Step Collected
summary_expansion env f function effects into args = do
  names ← summary_names env f function
  names_expansion env (summary_call names into args function.context) effects
