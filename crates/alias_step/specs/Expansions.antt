-- Which list of effects a call stands for, where it stands for one.
use Rattle.std.specs.Prelude.{List, [], ◌∷◌, Option, Some, None, slice_get, option_and_then}
use Rattle.alias_base.specs.declared.ids.FunctionId.{FunctionId}
use Rattle.alias_base.specs.declared.ids.TypeId.{TypeId}
use Rattle.alias_hir.specs.Tables.{function_signature}
use Rattle.alias_hir.specs.declared.effect.AliasingEffect.{AliasingEffect}
use Rattle.alias_hir.specs.declared.env.Environment.{Environment}
use Rattle.alias_hir.specs.declared.hir.HirFunction.{HirFunction}
use Rattle.alias_hir.specs.declared.place.Place.{Place}
use Rattle.alias_hir.specs.declared.signature.AliasingSignatureConfig.{AliasingSignatureConfig}
use Rattle.alias_hir.specs.declared.signature.FunctionSignature.{FunctionSignature}
use Rattle.alias_lattice.specs.declared.site.Site.{Site}
use Rattle.alias_lattice.specs.declared.site.Site.TheVariants.{Function}
use Rattle.alias_lattice.specs.States.{State}
use Rattle.alias_apply.specs.freezing.Sites.{sites_at}
use Rattle.alias_tables.specs.Steps.{gives}
use Rattle.alias_tables.specs.Tables.{Step}
use Rattle.alias_calls.specs.Configs.{config_expansion}
use Rattle.alias_calls.specs.Copies.{Collected}
use Rattle.alias_calls.specs.Summaries.{summary_expansion}
use Rattle.alias_step.specs.Operands.{Call}

-- ---- the function that is called

abbrev pub function_of_site : Site → Option FunctionId
function_of_site (Function f) = Some f
function_of_site k = None

-- the function of the sites, where there is exactly one
abbrev pub only_function : List Site → Option FunctionId
only_function [] = None
only_function (k ∷ []) = function_of_site k
only_function (k ∷ l ∷ ks) = None

-- the function that the place is, where it has exactly one site
abbrev pub called_function : State → Place → Option FunctionId
called_function u p = only_function (sites_at u p.identifier)

-- ---- by its summary

abbrev pub expansion_of_summary : Environment → Call → FunctionId → HirFunction → Option (List AliasingEffect)
    → Step Collected
expansion_of_summary env call f function None = gives None
expansion_of_summary env call f function (Some effects) =
    summary_expansion env f function effects call.site.into call.args

abbrev pub expansion_of_function : Environment → Call → FunctionId → Option HirFunction → Step Collected
expansion_of_function env call f None = gives None
expansion_of_function env call f (Some function) = expansion_of_summary env call f function function.aliasing_effects

-- the list that the summary of the function gives, if there are a function, a summary and a list
abbrev pub expansion_of_called : Environment → Call → Option FunctionId → Step Collected
expansion_of_called env call None = gives None
expansion_of_called env call (Some f) = expansion_of_function env call f (slice_get env.functions f.0)

-- ---- by its signature

-- the signature that a type has
abbrev pub signature_of_type : Environment → Option TypeId → Option FunctionSignature
signature_of_type env None = None
signature_of_type env (Some t) = option_and_then (function_signature env) (slice_get env.types t.0)

-- the list that the aliasing part gives, if there are a part and a list
abbrev pub expansion_of_config : Environment → Call → Option AliasingSignatureConfig → Step Collected
expansion_of_config env call None = gives None
expansion_of_config env call (Some config) = config_expansion env config call.site call.args
