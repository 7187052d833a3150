-- The step of each effect, and the three ways of a call: by the summary of the function that is called, by the
-- signature of its
-- type, or by default. A call in the list of an aliasing part has no signature, and its own list holds no call. So a
-- call is
-- expanded at most twice.
use Rattle.std.specs.Prelude.{ℕ, Bool, List, Option, Some, None, if◌then◌else◌}
use Rattle.alias_base.specs.declared.ids.TypeId.{TypeId}
use Rattle.alias_hir.specs.declared.effect.AliasingEffect.{AliasingEffect}
use Rattle.alias_hir.specs.declared.effect.AliasingEffect.TheVariants as effect
use Rattle.alias_hir.specs.declared.place.Place.{Place}
use Rattle.alias_hir.specs.declared.place.PlaceOrSpreadOrHole.{PlaceOrSpreadOrHole}
use Rattle.alias_hir.specs.declared.place.Span.{Span}
use Rattle.alias_hir.specs.declared.signature.FunctionSignature.{FunctionSignature}
use Rattle.alias_lattice.specs.declared.lookup.MissingLookup.{MissingLookup}
use Rattle.alias_tables.specs.declared.faults.Refusal.TheVariants.{IncompatibleLibrary}
use Rattle.alias_tables.specs.Steps.{◌>>=◌, refuses, each}
use Rattle.alias_tables.specs.Tables.{Step}
use Rattle.alias_apply.specs.declared.progress.StepProgress.{StepProgress}
use Rattle.alias_apply.specs.Apply.{intern_and_apply_simple, intern_and_apply_plain, intern_and_apply_all_plain}
use Rattle.alias_apply.specs.Contexts.{StepContext}
use Rattle.alias_apply.specs.Progress.{first_missing}
use Rattle.alias_apply.specs.Reports.{incompatible_report}
use Rattle.alias_calls.specs.Copies.{Collected}
use Rattle.alias_calls.specs.Legacy.{legacy_expansion}
use Rattle.alias_step.specs.Defaults.{apply_by_default}
use Rattle.alias_step.specs.Expansions.{called_function, expansion_of_called, signature_of_type, expansion_of_config}
use Rattle.alias_step.specs.Operands.{Call}

abbrev pub call_of : Place → Place → Bool → List PlaceOrSpreadOrHole → Place → Option Span → Call
call_of receiver function mutates args into span = record {
  site = record { receiver = receiver; into = into; span = span };
  function = function;
  mutates_function = mutates;
  args = args;
}

-- the first missing lookup of a list is one of the step
abbrev pub with_missing : Option MissingLookup → StepProgress → StepProgress
with_missing m s = record s { missing = first_missing s.missing m }

module _ (c : StepContext) where
  -- ---- by a summary

  -- the function may be written, and then the list of its summary is stepped
  abbrev pub apply_by_summary : Call → List AliasingEffect → StepProgress → Step StepProgress
  apply_by_summary call list s = do
    t ← intern_and_apply_simple c (effect.MutateTransitiveConditionally call.function) s
    intern_and_apply_all_plain c list t

  -- ---- a call in the list of an aliasing part

  abbrev pub apply_inner_call_by : Collected → Call → StepProgress → Step StepProgress
  apply_inner_call_by (Some list) call s = apply_by_summary call list s
  apply_inner_call_by None call s = apply_by_default c call s

  abbrev pub apply_inner_call : Call → StepProgress → Step StepProgress
  apply_inner_call call s = do
    list ← expansion_of_called c.env call (called_function s.state call.function)
    apply_inner_call_by list call s

  abbrev pub apply_inner_effect : AliasingEffect → StepProgress → Step StepProgress
  apply_inner_effect (effect.Apply receiver function mutates args into signature span) s =
      apply_inner_call (call_of receiver function mutates args into span) s
  apply_inner_effect e s = intern_and_apply_plain c e s

  abbrev pub apply_inner_effects : List AliasingEffect → StepProgress → Step StepProgress
  apply_inner_effects = each apply_inner_effect

  -- ---- by a signature

  abbrev pub apply_by_legacy : FunctionSignature → Call → StepProgress → Step StepProgress
  apply_by_legacy signature call s = do
    legacy ← legacy_expansion c.env signature call.site call.args s.state
    intern_and_apply_all_plain c legacy.effects (with_missing legacy.missing s)

  abbrev pub apply_by_config : Collected → FunctionSignature → Call → StepProgress → Step StepProgress
  apply_by_config (Some list) signature call s = apply_inner_effects list s
  apply_by_config None signature call s = apply_by_legacy signature call s

  -- why calls of the signature can't be memoized, where that is asked
  abbrev pub incompatible : FunctionSignature → Option (List ℕ)
  incompatible signature = if c.env.config.enable_validations then signature.known_incompatible else None

  -- by the aliasing part, and where that gives no list by the rest of the signature
  abbrev pub apply_compatible : Option (List ℕ) → FunctionSignature → Call → StepProgress → Step StepProgress
  apply_compatible (Some text) signature call s =
      refuses (IncompatibleLibrary (incompatible_report call.site.receiver.span text))
  apply_compatible None signature call s = do
    list ← expansion_of_config c.env call signature.aliasing
    apply_by_config list signature call s

  abbrev pub apply_by_signature : Option FunctionSignature → Call → StepProgress → Step StepProgress
  apply_by_signature (Some signature) call s = apply_compatible (incompatible signature) signature call s
  apply_by_signature None call s = apply_by_default c call s

  -- ---- a call of an instruction

  abbrev pub apply_call_by : Collected → Option TypeId → Call → StepProgress → Step StepProgress
  apply_call_by (Some list) signature call s = apply_by_summary call list s
  apply_call_by None signature call s = apply_by_signature (signature_of_type c.env signature) call s

  -- by the summary of the one function that is called, by the signature of its type, or by default
  abbrev pub apply_call : Option TypeId → Call → StepProgress → Step StepProgress
  apply_call signature call s = do
    list ← expansion_of_called c.env call (called_function s.state call.function)
    apply_call_by list signature call s

  -- the step of each effect of an instruction
  abbrev pub apply_effect : AliasingEffect → StepProgress → Step StepProgress
  apply_effect (effect.Apply receiver function mutates args into signature span) s =
      apply_call signature (call_of receiver function mutates args into span) s
  apply_effect e s = intern_and_apply_plain c e s

  -- the steps of the effects, in order
  abbrev pub apply_effects : List AliasingEffect → StepProgress → Step StepProgress
  apply_effects = each apply_effect
