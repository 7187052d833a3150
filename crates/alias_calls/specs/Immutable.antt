-- Whether the arguments of a call are immutable.
use Rattle.std.specs.Prelude.{◌+◌, Bool, true, false, ◌&&◌, ◌||◌, not, nat_lt, List, [], ◌∷◌, Option, Some, None}
use Rattle.std.specs.Prelude.{option_and_then, slice_get, if◌then◌else◌}
use Rattle.std.specs.List.{list_any}
use Rattle.std.specs.Option.{option_map_or}
use Rattle.alias_base.specs.declared.ids.IdentifierId.{IdentifierId}
use Rattle.alias_hir.specs.declared.effect.ValueKind.{ValueKind}
use Rattle.alias_hir.specs.declared.effect.ValueKind.TheVariants as kind
use Rattle.alias_hir.specs.declared.env.Environment.{Environment}
use Rattle.alias_hir.specs.declared.env.Identifier.{Identifier}
use Rattle.alias_hir.specs.declared.hir.HirFunction.{HirFunction}
use Rattle.alias_hir.specs.declared.hir.ParamPattern.{ParamPattern}
use Rattle.alias_hir.specs.declared.hir.ParamPattern.TheVariants as param
use Rattle.alias_hir.specs.declared.place.Effect.{Effect}
use Rattle.alias_hir.specs.declared.place.Effect.TheVariants as use_of
use Rattle.alias_hir.specs.declared.place.Place.{Place}
use Rattle.alias_hir.specs.declared.place.PlaceOrSpreadOrHole.{PlaceOrSpreadOrHole}
use Rattle.alias_hir.specs.declared.place.PlaceOrSpreadOrHole.TheVariants as arg
use Rattle.alias_hir.specs.declared.signature.FunctionSignature.{FunctionSignature}
use Rattle.alias_hir.specs.Tables.{function_signature}
use Rattle.alias_hir.specs.Types.{type_of}
use Rattle.alias_lattice.specs.declared.lookup.MissingLookup.{MissingLookup}
use Rattle.alias_lattice.specs.declared.site.Site.{Site}
use Rattle.alias_lattice.specs.declared.site.Site.TheVariants.{Function}
use Rattle.alias_lattice.specs.States.{State, lookup, missing_lookup}
use Rattle.alias_apply.specs.freezing.Sites.{sites_at}
use Rattle.alias_apply.specs.Progress.{first_missing}
use Rattle.alias_calls.specs.declared.immutable.Checked.{Checked}
use Rattle.alias_calls.specs.declared.immutable.Verdict.{Verdict}

abbrev pub is_mutating : Effect → Bool
is_mutating use_of.Store = true
is_mutating use_of.Mutate = true
is_mutating use_of.ConditionallyMutate = true
is_mutating use_of.ConditionallyMutateIterator = true
is_mutating e = false

-- calls of this signature write no argument
abbrev pub writes_nothing : FunctionSignature → Bool
writes_nothing s = not (list_any is_mutating s.positional_params || option_map_or is_mutating s.rest_param false)

abbrev pub is_long_in : Option Identifier → Bool
is_long_in None = false
is_long_in (Some i) = nat_lt (i.mutable_range.start.0 + 1) i.mutable_range.end.0

abbrev pub param_place : ParamPattern → Place
param_place (param.Place p) = p
param_place (param.Spread s) = s.place

-- the parameter is written in the function: its range ends above its start + 1
abbrev pub is_long_param : Environment → ParamPattern → Bool
is_long_param env p = is_long_in (slice_get env.identifiers (param_place p).identifier.0)

abbrev pub writes_param : Environment → Option HirFunction → Bool
writes_param env None = false
writes_param env (Some f) = list_any (is_long_param env) f.params

-- the site is a function that writes a parameter
abbrev pub is_writing_site : Environment → Site → Bool
is_writing_site env (Function f) = writes_param env (slice_get env.functions f.0)
is_writing_site env k = false

abbrev pub has_writing_site : Environment → List Site → Bool
has_writing_site env sites = list_any (is_writing_site env) sites

abbrev pub is_still : ValueKind → Bool
is_still kind.Primitive = true
is_still kind.Frozen = true
is_still k = false

abbrev pub verdict : Option Bool → Option MissingLookup → Verdict
verdict answer missing = record { answer = answer; missing = missing }

abbrev pub checked : Bool → Option MissingLookup → Checked
checked holds missing = record { holds = holds; missing = missing }

abbrev pub answered_by : Bool → Option Bool
answered_by b = if b then None else Some false

-- its kind is Primitive or Frozen, and none of its sites is a function that writes a parameter, or else the answer is
-- no
abbrev pub verdict_of_place : Environment → State → Place → Option MissingLookup → Verdict
verdict_of_place env s p m =
    verdict (answered_by (is_still (lookup s p.identifier).kind
    && not (has_writing_site env (sites_at s p.identifier)))) (first_missing m (missing_lookup s p.identifier None))

-- a function with a signature answers at once
abbrev pub verdict_by : Option FunctionSignature → Environment → State → Place → Option MissingLookup → Verdict
verdict_by (Some signature) env s p m = verdict (Some (writes_nothing signature)) m
verdict_by None env s p m = verdict_of_place env s p m

-- the signature of the function that the identifier is, if its type has one
abbrev pub signature_at : Environment → IdentifierId → Option FunctionSignature
signature_at env id = option_and_then (function_signature env) (type_of env id)

abbrev pub verdict_of : Environment → State → PlaceOrSpreadOrHole → Option MissingLookup → Verdict
verdict_of env s (arg.Place p) m = verdict_by (signature_at env p.identifier) env s p m
verdict_of env s (arg.Spread x) m = verdict_of_place env s x.place m
verdict_of env s arg.Hole m = verdict None m

abbrev pub unless_answered : Option Bool → Option MissingLookup → Checked → Checked
unless_answered (Some b) m others = checked b m
unless_answered None m others = others

-- the arguments are immutable, and the first missing lookup on the way
abbrev pub immutables : Environment → State → List PlaceOrSpreadOrHole → Option MissingLookup → Checked
immutables env s [] m = checked true m
immutables env s (a ∷ others) m = let v = verdict_of env s a m in
    unless_answered v.answer v.missing (immutables env s others v.missing)
