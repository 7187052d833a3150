-- What is known of calls, and the lists of effects that they stand for.
use Rattle.std.specs.Prelude.{Bool, List, [], ◌∷◌, ◌++◌, Option, None, Some, slice_get}
use Rattle.std.specs.List.{AllByRecursion, flat_map}
use Rattle.std.specs.Option.{option_map_or}
use Rattle.alias_base.specs.declared.ids.FunctionId.{FunctionId}
use Rattle.alias_base.specs.declared.ids.TypeId.{TypeId}
use Rattle.alias_hir.specs.ReportNumbers.{summary}
use Rattle.alias_hir.specs.Parts.{apply_arg_places}
use Rattle.alias_hir.specs.declared.effect.AliasingEffect.{AliasingEffect}
use Rattle.alias_hir.specs.declared.effect.AliasingEffect.TheVariants as effect
use Rattle.alias_hir.specs.declared.env.Environment.{Environment}
use Rattle.alias_hir.specs.declared.hir.HirFunction.{HirFunction}
use Rattle.alias_hir.specs.declared.place.Place.{Place}
use Rattle.alias_hir.specs.declared.place.PlaceOrSpreadOrHole.{PlaceOrSpreadOrHole}
use Rattle.alias_hir.specs.declared.place.PlaceOrSpreadOrHole.TheVariants as arg
use Rattle.alias_hir.specs.declared.place.Span.{Span}
use Rattle.alias_hir.specs.declared.signature.AliasingSignatureConfig.{AliasingSignatureConfig}
use Rattle.alias_apply.specs.freezing.Contexts.{context_in}
use Rattle.alias_tables.specs.GrowingLaws.{Extends}
use Rattle.alias_tables.specs.Tables.{TableLists}
use Rattle.alias_calls.specs.Copies.{Collected}
use Rattle.alias_step.specs.Calls.{call_of}
use Rattle.alias_step.specs.Expansions.{expansion_of_summary, expansion_of_function}
use Rattle.alias_step.specs.Expansions.{expansion_of_called, expansion_of_config}
use Rattle.alias_step.specs.Operands.{Call, argument_operands, operands}
use Rattle.alias_step.specs.declared.call.Operand.{Operand}
use Rattle.alias_walks.specs.Expanding.{ArgsKnown, ListKnown, ReportKnown, config_expansion_known}
use Rattle.alias_walks.specs.Expanding.{summary_expansion_known}
use Rattle.alias_walks.specs.Knowing.{Known, AllKnown, places_later}
use Rattle.alias_walks.specs.Law.{Law, Copied}
use Rattle.alias_walks.specs.Words.{all_mapped, Growing, IfGiven, lead_gives}
use Rattle.std.proofs.Common.{ap, ◌∙◌}
use Rattle.alias_tables.specs.Tables.{Step}
use Rattle.alias_seen_laws.proofs.same.Calling.{of_function_same}
use Rattle.alias_walks.specs.Stepping.{CallKnown}
use Rattle.alias_seen_laws.specs.Beside.{Others, with_others}
use Rattle.alias_seen_laws.proofs.steps.Applying.{Sees}
use Rattle.alias_seen_laws.proofs.steps.Both.{Both, both_self}

module _ {env : Environment} (L : Law env) where
  -- ---- calls

  pub call_grows : Growing (CallKnown L)
  call_grows t u x call h = record {
    receiver = L.raised_later t u x call.site.receiver h.receiver;
    into = L.raised_later t u x call.site.into h.into;
    function = L.raised_later t u x call.function h.function;
    args = places_later L t u x _ h.args;
  }

  args_front : (t : TableLists) (xs : List PlaceOrSpreadOrHole) (p : Place)
      → AllByRecursion (L.Raised t) (flat_map apply_arg_places xs ++ p ∷ []) → ArgsKnown L t xs × L.Raised t p
  args_front t [] p h = (tt, h.0)
  args_front t (arg.Place a ∷ xs) p h = let r = args_front t xs p h.1 in ((h.0, r.0), r.1)
  args_front t (arg.Spread s ∷ xs) p h = let r = args_front t xs p h.1 in ((h.0, r.0), r.1)
  args_front t (arg.Hole ∷ xs) p h = args_front t xs p h

  pub call_known : (receiver function : Place) (mutates : Bool) (args : List PlaceOrSpreadOrHole) (into : Place)
      (signature : Option TypeId) (span : Option Span) (t : TableLists)
      → Known L t (effect.Apply receiver function mutates args into signature span)
      → CallKnown L t (call_of receiver function mutates args into span)
  call_known receiver function mutates args into signature span t g =
      let r = args_front t args into g.0.1.1 in
      record { receiver = g.0.0; into = r.1; function = g.0.1.0; args = r.0 }

  -- ---- the function that is called

  summary_list : (call : Call) (f : FunctionId) (function : HirFunction) (o : Option (List AliasingEffect))
      (t : TableLists) → L.Kept t → L.Made (Some f) → CallKnown L t call
      → AllByRecursion (L.Raised t) function.context
      → AllByRecursion (ReportKnown L t) (option_map_or (λ (es : List AliasingEffect). es) o [])
      → ListKnown L (expansion_of_summary env call f function o) t
  summary_list call f function None t k m h c r = lead_gives L (IfGiven (AllKnown L)) None t k tt
  summary_list call f function (Some effects) t k m h c r =
      summary_expansion_known L f function effects call.site.into call.args t k m h.into h.args c r

  function_list : (call : Call) (f : FunctionId) (o : Option HirFunction) (t : TableLists) → L.Kept t → L.Made (Some f)
      → CallKnown L t call
      → AllByRecursion (L.Raised t) (context_in o) → AllByRecursion (ReportKnown L t) (summary o)
      → ListKnown L (expansion_of_function env call f o) t
  function_list call f None t k m h c r = lead_gives L (IfGiven (AllKnown L)) None t k tt
  function_list call f (Some function) t k m h c r = summary_list call f function function.aliasing_effects t k m h c r

  pub called_list_known : (call : Call) (o : Option FunctionId) (t : TableLists) → L.Kept t → CallKnown L t call
      → L.Made o → ListKnown L (expansion_of_called env call o) t
  called_list_known call None t k h g = lead_gives L (IfGiven (AllKnown L)) None t k tt
  called_list_known call (Some f) t k h g =
      let es = summary (slice_get env.functions f.0) in
      function_list call f (slice_get env.functions f.0) t k g h (L.contexts f t k g)
      (all_mapped (Copied env (L.Raised t) (L.Told t) f) (ReportKnown L t) (λ e r. r.0) es (L.summaries f t k g))

  pub config_known : (call : Call) (o : Option AliasingSignatureConfig) (t : TableLists) → L.Kept t → CallKnown L t call
      → ListKnown L (expansion_of_config env call o) t
  config_known call None t k h = lead_gives L (IfGiven (AllKnown L)) None t k tt
  config_known call (Some part) t k h = config_expansion_known L part call.site call.args t k (h.receiver, h.into)
      h.args

  -- ---- operands

  abbrev pub OperandKnown : TableLists → Operand → Type 0
  OperandKnown t o = L.Raised t o.place

  pub operands_grow : (t u : TableLists) → Extends t u → (os : List Operand) → AllByRecursion (OperandKnown t) os
      → AllByRecursion (OperandKnown u) os
  operands_grow t u x os h = all_mapped (OperandKnown t) (OperandKnown u) (λ o. L.raised_later t u x o.place) os h

  arguments_known : (t : TableLists) (args : List PlaceOrSpreadOrHole) → ArgsKnown L t args
      → AllByRecursion (OperandKnown t) (argument_operands args)
  arguments_known t [] h = tt
  arguments_known t (arg.Place p ∷ others) h = (h.0, arguments_known t others h.1)
  arguments_known t (arg.Spread s ∷ others) h = (h.0, arguments_known t others h.1)
  arguments_known t (arg.Hole ∷ others) h = arguments_known t others h

  pub operands_known : (t : TableLists) (call : Call) → CallKnown L t call
      → AllByRecursion (OperandKnown t) (operands call)
  operands_known t call h = (h.receiver, (h.function, arguments_known t call.args h.args))

module _ {env : Environment} (L : Law env) (o : Others) (S : Sees L o) where
  -- the list that the function called stands for is the same
  pub called_list_twice : (call : Call) (f : Option FunctionId) (t : TableLists) → L.Kept t → CallKnown L t call
      → L.Made f → Both L (IfGiven (AllKnown L)) (expansion_of_called env call f)
      (expansion_of_called (with_others env o) call f) t
  called_list_twice call None t k h g = both_self L (IfGiven (AllKnown L)) _ t (called_list_known L call None t k h g)
  called_list_twice call (Some f) t k h g = record {
    leads = called_list_known L call (Some f) t k h g;
    same =
        ap (λ (x : Option HirFunction). expansion_of_function (with_others env o) call f x t) (S.functions f g)
        ∙ ap (λ (q : Step Collected). q t) (of_function_same env o S.declares call f (slice_get env.functions f.0));
  }
