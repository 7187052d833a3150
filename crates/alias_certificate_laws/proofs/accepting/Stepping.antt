-- The step of an instruction repeats, whatever interned effects and reports there are.
use Rattle.std.specs.Prelude.{ℕ, ◌&&◌, not, Bool, true, false, List, [], ◌∷◌, Option, Some, None, slice_get}
use Rattle.std.proofs.Common.{sym, subst}
use Rattle.std.specs.Option.{is_some}
use Rattle.alias_base.specs.declared.ids.FunctionId.{FunctionId}
use Rattle.alias_base.specs.declared.ids.IdentifierId.{IdentifierId}
use Rattle.alias_base.specs.declared.ids.TypeId.{TypeId}
use Rattle.alias_hir.specs.declared.effect.AliasingEffect.{AliasingEffect}
use Rattle.alias_hir.specs.declared.effect.AliasingEffect.TheVariants as effect
use Rattle.alias_hir.specs.declared.effect.ValueKind.TheVariants.{Mutable}
use Rattle.alias_hir.specs.declared.effect.ValueReason.TheVariants.{Other}
use Rattle.alias_hir.specs.declared.env.Environment.{Environment}
use Rattle.alias_hir.specs.declared.hir.HirFunction.{HirFunction}
use Rattle.alias_hir.specs.declared.hir.Instruction.{Instruction}
use Rattle.alias_hir.specs.declared.place.Place.{Place}
use Rattle.alias_hir.specs.declared.place.PlaceOrSpreadOrHole.{PlaceOrSpreadOrHole}
use Rattle.alias_hir.specs.declared.place.Span.{Span}
use Rattle.alias_hir.specs.declared.report.ReportId.{ReportId}
use Rattle.alias_hir.specs.declared.report.Report.{Report}
use Rattle.alias_hir.specs.declared.signature.AliasingSignatureConfig.{AliasingSignatureConfig}
use Rattle.alias_hir.specs.declared.signature.FunctionSignature.{FunctionSignature}
use Rattle.alias_hir.specs.declared.value.InstructionValue.{InstructionValue}
use Rattle.alias_hir.specs.declared.value.InstructionValue.TheVariants as value
use Rattle.alias_hir.specs.Types.{is_builtin_collection_at}
use Rattle.alias_hir.specs.Values.{created}
use Rattle.alias_facts.specs.declared.facts.FunctionFacts.{FunctionFacts}
use Rattle.alias_signature.specs.Globals.{instruction_report, global_effects}
use Rattle.alias_signature.specs.Known.{known}
use Rattle.alias_signature.specs.Signatures.{signature_of_value}
use Rattle.alias_lattice.specs.declared.lookup.MissingLookup.{MissingLookup}
use Rattle.alias_lattice.specs.declared.site.Site.TheVariants.{Default}
use Rattle.alias_lattice.specs.States.{lookup, sites_of, given, mutable_other}
use Rattle.alias_apply.specs.freezing.Contexts.{context_of}
use Rattle.alias_tables.specs.declared.faults.Refusal.TheVariants.{IncompatibleLibrary}
use Rattle.alias_tables.specs.declared.temporaries.Temporary.{Temporary}
use Rattle.alias_apply.specs.declared.progress.StepProgress.{StepProgress}
use Rattle.alias_apply.specs.Apply.{intern_and_apply_all_plain}
use Rattle.alias_apply.specs.Contexts.{StepContext, summary_of}
use Rattle.alias_apply.specs.Progress.{first_missing}
use Rattle.alias_apply.specs.Reports.{incompatible_report}
use Rattle.alias_calls.specs.declared.call.CallSite.{CallSite}
use Rattle.alias_calls.specs.declared.legacy.Legacy.{Legacy}
use Rattle.alias_calls.specs.Copies.{Collected}
use Rattle.alias_calls.specs.Legacy.{legacy_expansion}
use Rattle.alias_step.specs.declared.call.Operand.{Operand}
use Rattle.alias_step.specs.Calls.{with_missing, apply_by_summary, apply_inner_call_by, apply_inner_call}
use Rattle.alias_step.specs.Calls.{apply_inner_effect, apply_inner_effects, apply_by_legacy, apply_by_config}
use Rattle.alias_step.specs.Calls.{incompatible, apply_compatible, apply_by_signature, apply_call_by, apply_call}
use Rattle.alias_step.specs.Calls.{apply_effect, apply_effects}
use Rattle.alias_step.specs.Defaults.{mutate_operand, iterate_operand, capture_operand, apply_operand, apply_by_default}
use Rattle.alias_step.specs.Instructions.{written_by, is_frozen_context, record_mutate_frozen, check_write}
use Rattle.alias_step.specs.Instructions.{check_effect, check_summary, check_created, begun, with_result}
use Rattle.alias_step.specs.Instructions.{apply_instruction, intern_reported, context_with, apply_signature_with}
use Rattle.alias_step.specs.Instructions.{apply_signature}
use Rattle.alias_step.specs.Expansions.{called_function, expansion_of_summary, expansion_of_function}
use Rattle.alias_step.specs.Expansions.{expansion_of_called, signature_of_type, expansion_of_config}
use Rattle.alias_step.specs.Operands.{Call, same_place, argument_operands, operands}
use Rattle.alias_certificate_laws.specs.accepting.Alike.{Paired, none, more, AlikePlace, Maybe, nothing, just, moved}
use Rattle.alias_certificate_laws.specs.accepting.Alike.{at, plain, spread, hole, AlikeArguments, Alike, apply, assign}
use Rattle.alias_certificate_laws.specs.accepting.Alike.{create, capture, maybe_alias, mutate_frozen, mutate_global}
use Rattle.alias_certificate_laws.specs.accepting.Alike.{mutate_transitive_conditionally, AlikeEffects, AlikeList}
use Rattle.alias_certificate_laws.specs.accepting.Alike.{AlikeSite, called, AlikeLegacy, listed, AlikeProgress, like}
use Rattle.alias_certificate_laws.specs.accepting.Alike.{IsFull, Repeats, AlikeFunction, seen, Elsewhere, elsewhere}
use Rattle.alias_certificate_laws.specs.accepting.Alike.{mutate, mutate_transitive}
use Rattle.alias_certificate_laws.proofs.accepting.Likeness.{paired_self, paired_append, alike_self, lookup_self}
use Rattle.alias_certificate_laws.proofs.accepting.Likeness.{progress_self}
use Rattle.alias_certificate_laws.proofs.accepting.Repeating.{repeats_gives, repeats_refuses, repeats_then}
use Rattle.alias_certificate_laws.proofs.accepting.Repeating.{repeats_each, maybe_self}
use Rattle.alias_certificate_laws.proofs.accepting.Tabling.{AnyNumber, repeats_report}
use Rattle.alias_certificate_laws.proofs.accepting.Applying.{recorded_alike, first_alike, stated, Same, same_gives}
use Rattle.alias_certificate_laws.proofs.accepting.Applying.{same_then, same_if, same_intern_and_apply_simple}
use Rattle.alias_certificate_laws.proofs.accepting.Applying.{same_intern_and_apply_plain}
use Rattle.alias_certificate_laws.proofs.accepting.Applying.{same_intern_and_apply_all_plain}
use Rattle.alias_signature.specs.Functions.{captured, function_effects}
use Rattle.std.specs.List.{flat_map}
use Rattle.alias_certificate_laws.proofs.accepting.Calling.{same_config_expansion, same_summary_expansion, seen_as}
use Rattle.alias_certificate_laws.proofs.accepting.Elsewhere.{other, function_elsewhere, summary_elsewhere}
use Rattle.alias_certificate_laws.proofs.accepting.Elsewhere.{context_elsewhere, context_at_elsewhere}
use Rattle.alias_certificate_laws.proofs.accepting.Legacies.{same_legacy_expansion}

-- ---- calls

-- calls of places of the same identifiers
data AlikeCall : Call → Call → Type 0 where
  calls : (s t : CallSite) (f g : Place) (mutates : Bool) (args others : List PlaceOrSpreadOrHole) → AlikeSite s t
      → AlikeArguments args others
      → AlikeCall (record { site = s; function = f; mutates_function = mutates; args = args })
      (record { site = t; function = moved f g; mutates_function = mutates; args = others })

data AlikeOperand : Operand → Operand → Type 0 where
  operand : (p q : Place) (is_spread : Bool)
      → AlikeOperand (record { place = p; is_spread = is_spread }) (record { place = moved p q; is_spread = is_spread })

arguments_alike : (args others : List PlaceOrSpreadOrHole) → AlikeArguments args others
    → Paired AlikeOperand (argument_operands args) (argument_operands others)
arguments_alike args others none = none
arguments_alike args others (more {xs = xs} {ys = ys} (plain p q) rest) =
    more (operand p q false) (arguments_alike xs ys rest)
arguments_alike args others (more {xs = xs} {ys = ys} (spread p q) rest) =
    more (operand p q true) (arguments_alike xs ys rest)
arguments_alike args others (more {xs = xs} {ys = ys} hole rest) = arguments_alike xs ys rest

operands_alike : (c d : Call) → AlikeCall c d → Paired AlikeOperand (operands c) (operands d)
operands_alike c d (calls s t f g mutates args others (called u v) a) =
    more (operand u.receiver v.receiver false) (more (operand f g false) (arguments_alike args others a))

missing_alike : (m : Option MissingLookup) (s t : StepProgress) → AlikeProgress s t
    → AlikeProgress (with_missing m s) (with_missing m t)
missing_alike m s t (like u r l a b) = like (with_missing m u) r (first_missing l m) a
    (first_alike u.missing l m m b (lookup_self m))

linked : (c d : Call) (o p : Operand) → AlikeCall c d → AlikeOperand o p
    → Alike (effect.MaybeAlias o.place c.site.into) (effect.MaybeAlias p.place d.site.into)
linked c d o p (calls s t f g mutates args others (called u v) a) (operand q r b) = maybe_alias q r u.into v.into

made_alike : (c d : Call) → AlikeCall c d
    → Alike (effect.Create c.site.into Mutable Other) (effect.Create d.site.into Mutable Other)
made_alike c d (calls s t f g mutates args others (called u v) a) = create u.into v.into Mutable Other

function_written : (c d : Call) → AlikeCall c d
    → Alike (effect.MutateTransitiveConditionally c.function) (effect.MutateTransitiveConditionally d.function)
function_written c d (calls s t f g mutates args others site a) = mutate_transitive_conditionally f g

legacy_self : (l : Legacy) → AlikeLegacy l l
legacy_self l = listed l.effects l.effects l.missing (paired_self Alike alike_self l.effects)

module _ {whole : List Temporary} where
  same_list_of_summary : (env : Environment) (away : Elsewhere env) (c d : Call) (f : FunctionId)
      (function there : HirFunction) (o p : Option (List AliasingEffect)) → Maybe AlikeEffects o p → AlikeCall c d
      → Repeats IsFull whole AlikeList (expansion_of_summary env c f function o)
      (expansion_of_summary (elsewhere env away) d f (seen_as function there) p)
  same_list_of_summary env away c d f function there o p nothing a = repeats_gives AlikeList None None nothing
  same_list_of_summary env away c d f function there o p (just k) (calls s t g h mutates args others (called u v) a) =
      same_summary_expansion env away f function there _ _ u.into _ args others k (at u.into v.into) a

  same_list_of_function : (env : Environment) (away : Elsewhere env) (c d : Call) (f : FunctionId)
      (o p : Option HirFunction) → Maybe AlikeFunction o p → AlikeCall c d
      → Repeats IsFull whole AlikeList (expansion_of_function env c f o)
      (expansion_of_function (elsewhere env away) d f p)
  same_list_of_function env away c d f o p nothing a = repeats_gives AlikeList None None nothing
  same_list_of_function env away c d f o p (just (seen function there k)) a =
      same_list_of_summary env away c d f function there function.aliasing_effects there.aliasing_effects k a

  same_list_of_called : (env : Environment) (away : Elsewhere env) (c d : Call) (o : Option FunctionId) → AlikeCall c d
      → Repeats IsFull whole AlikeList (expansion_of_called env c o) (expansion_of_called (elsewhere env away) d o)
  same_list_of_called env away c d None a = repeats_gives AlikeList None None nothing
  same_list_of_called env away c d (Some f) a =
      same_list_of_function env away c d f (slice_get env.functions f.0) (slice_get away.functions f.0)
      (function_elsewhere env away f) a

  same_list_of_config : (env : Environment) (away : Elsewhere env) (c d : Call) (o : Option AliasingSignatureConfig)
      → AlikeCall c d → Repeats IsFull whole AlikeList (expansion_of_config env c o)
      (expansion_of_config (elsewhere env away) d o)
  same_list_of_config env away c d None a = repeats_gives AlikeList None None nothing
  same_list_of_config env away c d (Some config) (calls s t g h mutates args others site a) =
      same_config_expansion env away config s t args others site a

  -- the list of the function that is called, in states that are the same
  same_list : (env : Environment) (away : Elsewhere env) (c d : Call) (s t : StepProgress) → AlikeCall c d
      → AlikeProgress s t → Repeats IsFull whole AlikeList
      (expansion_of_called env c (called_function s.state c.function))
      (expansion_of_called (elsewhere env away) d (called_function t.state d.function))
  same_list env away c d s t (calls p q f g mutates args others site a) (like u r m b l) =
      same_list_of_called env away (record { site = p; function = f; mutates_function = mutates; args = args })
      (record { site = q; function = moved f g; mutates_function = mutates; args = others })
      (called_function u.state f) (calls p q f g mutates args others site a)

  module _ (x : StepContext) (o₀ : Elsewhere x.env) where
    -- ---- by default

    same_mutate_operand : (c d : Call) (o p : Operand) (s t : StepProgress) → AlikeCall c d → AlikeOperand o p
        → AlikeProgress s t → Same whole (mutate_operand x c o s) (mutate_operand (other x o₀) d p t)
    same_mutate_operand c d o p s t (calls u v f g mutates args others site a) (operand q r b) e =
        same_if (same_place q f && not mutates) _ _ _ _ (same_gives s t e)
        (same_intern_and_apply_simple x o₀ _ _ s t (mutate_transitive_conditionally q r) e)

    same_iterate_operand : (o p : Operand) (s t : StepProgress) → AlikeOperand o p → AlikeProgress s t
        → Same whole (iterate_operand x o s) (iterate_operand (other x o₀) p t)
    same_iterate_operand o p s t (operand q r b) e =
        same_if (b && not (is_builtin_collection_at x.env q.identifier)) _ _ _ _
        (same_intern_and_apply_simple x o₀ _ _ s t (mutate_transitive_conditionally q r) e) (same_gives s t e)

    same_capture_operand : (o p m n : Operand) (s t : StepProgress) → AlikeOperand o p → AlikeOperand m n
        → AlikeProgress s t → Same whole (capture_operand x o m s) (capture_operand (other x o₀) p n t)
    same_capture_operand o p m n s t (operand q r b) (operand u v d) e =
        same_if (same_place u q && not b) _ _ _ _ (same_gives s t e)
        (same_intern_and_apply_simple x o₀ _ _ s t (capture q r u v) e)

    same_operand : (c d : Call) (all every : List Operand) (o p : Operand) (s t : StepProgress) → AlikeCall c d
        → Paired AlikeOperand all every → AlikeOperand o p → AlikeProgress s t
        → Same whole (apply_operand x c all o s) (apply_operand (other x o₀) d every p t)
    same_operand c d all every o p s t a b e i =
        same_then _ _ _ _ (same_mutate_operand c d o p s t a e i) (λ u v j.
        same_then _ _ _ _ (same_iterate_operand o p u v e j) (λ w y k.
        same_then _ _ _ _ (same_intern_and_apply_simple x o₀ _ _ w y (linked c d o p a e) k) (λ z n l.
        repeats_each AlikeOperand AlikeProgress progress_self (capture_operand x o) (capture_operand (other x o₀) p)
        (λ m q f g h r. same_capture_operand o p m q g h e f r) all every b z n l)))

    same_by_default : (c d : Call) (s t : StepProgress) → AlikeCall c d → AlikeProgress s t
        → Same whole (apply_by_default x c s) (apply_by_default (other x o₀) d t)
    same_by_default c d s t a b =
        same_then _ _ _ _ (same_intern_and_apply_simple x o₀ _ _ s t (made_alike c d a) b) (λ u v e.
        repeats_each AlikeOperand AlikeProgress progress_self (apply_operand x c (operands c))
        (apply_operand (other x o₀) d (operands d))
        (λ o p f g h i. same_operand c d (operands c) (operands d) o p g h a (operands_alike c d a) f i)
        (operands c) (operands d) (operands_alike c d a) u v e)

    -- ---- by a summary

    same_by_summary : (c d : Call) (es fs : List AliasingEffect) (s t : StepProgress) → AlikeCall c d
        → AlikeEffects es fs → AlikeProgress s t
        → Same whole (apply_by_summary x c es s) (apply_by_summary (other x o₀) d fs t)
    same_by_summary c d es fs s t a b e = same_then _ _ _ _
        (same_intern_and_apply_simple x o₀ _ _ s t (function_written c d a) e)
        (λ u v i. same_intern_and_apply_all_plain x o₀ es fs u v b i)

    -- ---- in the list of an aliasing part

    same_inner_call_by : (o p : Collected) (c d : Call) (s t : StepProgress) → AlikeList o p → AlikeCall c d
        → AlikeProgress s t → Same whole (apply_inner_call_by x o c s) (apply_inner_call_by (other x o₀) p d t)
    same_inner_call_by o p c d s t (just b) a e = same_by_summary c d _ _ s t a b e
    same_inner_call_by o p c d s t nothing a e = same_by_default c d s t a e

    same_inner_call : (c d : Call) (s t : StepProgress) → AlikeCall c d → AlikeProgress s t
        → Same whole (apply_inner_call x c s) (apply_inner_call (other x o₀) d t)
    same_inner_call c d s t a b = repeats_then AlikeList AlikeProgress
        (maybe_self AlikeEffects (paired_self Alike alike_self)) _ _ _ _ (same_list x.env o₀ c d s t a b)
        (λ o p e. same_inner_call_by o p c d s t e a b)

    same_inner_effect : (e f : AliasingEffect) (s t : StepProgress) → Alike e f → AlikeProgress s t
        → Same whole (apply_inner_effect x e s) (apply_inner_effect (other x o₀) f t)
    same_inner_effect e f s t (apply r q g h i j mutates args others signature span other a) b =
        same_inner_call _ _ s t (calls _ _ g h mutates args others
        (called (record { receiver = r; into = i; span = span }) (record { receiver = q; into = j; span = other }))
        a) b
    same_inner_effect e f s t a b = same_intern_and_apply_plain x o₀ e f s t a b

    same_inner_effects : (es fs : List AliasingEffect) (s t : StepProgress) → AlikeEffects es fs → AlikeProgress s t
        → Same whole (apply_inner_effects x es s) (apply_inner_effects (other x o₀) fs t)
    same_inner_effects es fs s t a b = repeats_each Alike AlikeProgress progress_self (apply_inner_effect x)
        (apply_inner_effect (other x o₀)) (λ e f d u v g. same_inner_effect e f u v d g) es fs a s t b

    -- ---- by a signature

    same_listed : (l m : Legacy) (s t : StepProgress) → AlikeLegacy l m → AlikeProgress s t
        → Same whole (intern_and_apply_all_plain x l.effects (with_missing l.missing s))
        (intern_and_apply_all_plain (other x o₀) m.effects (with_missing m.missing t))
    same_listed l m s t (listed es fs lookup a) b =
        same_intern_and_apply_all_plain x o₀ es fs _ _ a (missing_alike lookup s t b)

    same_legacy_of : (g : FunctionSignature) (c d : Call) (s t : StepProgress) → AlikeCall c d → AlikeProgress s t
        → Repeats IsFull whole AlikeLegacy (legacy_expansion x.env g c.site c.args s.state)
        (legacy_expansion (elsewhere x.env o₀) g d.site d.args t.state)
    same_legacy_of g c d s t (calls p q f h mutates args others site a) (like u r m b l) =
        same_legacy_expansion x.env o₀ g args others a p q u.state site

    same_by_legacy : (g : FunctionSignature) (c d : Call) (s t : StepProgress) → AlikeCall c d → AlikeProgress s t
        → Same whole (apply_by_legacy x g c s) (apply_by_legacy (other x o₀) g d t)
    same_by_legacy g c d s t a b = repeats_then AlikeLegacy AlikeProgress legacy_self _ _ _ _
        (same_legacy_of g c d s t a b) (λ l m e. same_listed l m s t e b)

    same_by_config : (o p : Collected) (g : FunctionSignature) (c d : Call) (s t : StepProgress) → AlikeList o p
        → AlikeCall c d → AlikeProgress s t → Same whole (apply_by_config x o g c s)
        (apply_by_config (other x o₀) p g d t)
    same_by_config o p g c d s t (just b) a e = same_inner_effects _ _ s t b e
    same_by_config o p g c d s t nothing a e = same_by_legacy g c d s t a e

    same_compatible : (o : Option (List ℕ)) (g : FunctionSignature) (c d : Call) (s t : StepProgress) → AlikeCall c d
        → AlikeProgress s t → Same whole (apply_compatible x o g c s) (apply_compatible (other x o₀) o g d t)
    same_compatible (Some text) g c d s t a b =
        repeats_refuses AlikeProgress (IncompatibleLibrary (incompatible_report c.site.receiver.span text)) _
    same_compatible None g c d s t a b =
        repeats_then AlikeList AlikeProgress (maybe_self AlikeEffects (paired_self Alike alike_self)) _ _ _ _
        (same_list_of_config x.env o₀ c d g.aliasing a) (λ o p e. same_by_config o p g c d s t e a b)

    same_by_signature : (o : Option FunctionSignature) (c d : Call) (s t : StepProgress) → AlikeCall c d
        → AlikeProgress s t → Same whole (apply_by_signature x o c s) (apply_by_signature (other x o₀) o d t)
    same_by_signature (Some g) c d s t a b = same_compatible (incompatible x g) g c d s t a b
    same_by_signature None c d s t a b = same_by_default c d s t a b

    -- ---- effects

    same_call_by : (o p : Collected) (signature : Option TypeId) (c d : Call) (s t : StepProgress) → AlikeList o p
        → AlikeCall c d → AlikeProgress s t → Same whole (apply_call_by x o signature c s)
        (apply_call_by (other x o₀) p signature d t)
    same_call_by o p signature c d s t (just b) a e = same_by_summary c d _ _ s t a b e
    same_call_by o p signature c d s t nothing a e = same_by_signature (signature_of_type x.env signature) c d s t a e

    same_call : (signature : Option TypeId) (c d : Call) (s t : StepProgress) → AlikeCall c d → AlikeProgress s t
        → Same whole (apply_call x signature c s) (apply_call (other x o₀) signature d t)
    same_call signature c d s t a b =
        repeats_then AlikeList AlikeProgress (maybe_self AlikeEffects (paired_self Alike alike_self)) _ _ _ _
        (same_list x.env o₀ c d s t a b) (λ o p e. same_call_by o p signature c d s t e a b)

    same_effect : (e f : AliasingEffect) (s t : StepProgress) → Alike e f → AlikeProgress s t
        → Same whole (apply_effect x e s) (apply_effect (other x o₀) f t)
    same_effect e f s t (apply r q g h i j mutates args others signature span other a) b =
        same_call signature _ _ s t (calls _ _ g h mutates args others
        (called (record { receiver = r; into = i; span = span }) (record { receiver = q; into = j; span = other }))
        a) b
    same_effect e f s t a b = same_intern_and_apply_plain x o₀ e f s t a b

    same_effects : (es fs : List AliasingEffect) (s t : StepProgress) → AlikeEffects es fs → AlikeProgress s t
        → Same whole (apply_effects x es s) (apply_effects (other x o₀) fs t)
    same_effects es fs s t a b = repeats_each Alike AlikeProgress progress_self (apply_effect x)
        (apply_effect (other x o₀)) (λ e f d u v g. same_effect e f u v d g) es fs a s t b

-- ---- what is reported of an instruction

abbrev pub AnyReport : Option ReportId → Option ReportId → Type 0
AnyReport = Maybe AnyNumber

global_alike : (d e : Option ReportId) (v : Place) → AnyReport d e
    → AlikeEffects (global_effects d v) (global_effects e v)
global_alike d e v nothing = none
global_alike d e v (just {a = x} {b = y} n) = more (mutate_global v v x y) none

function_alike : (env : Environment) (away : Elsewhere env) (l : Place) (f : FunctionId)
    → AlikeEffects (function_effects env l f) (function_effects (elsewhere env away) l f)
function_alike env away l f =
    subst (λ ps. AlikeEffects (function_effects env l f) (effect.CreateFunction l f (flat_map captured ps) ∷ []))
    (context_at_elsewhere env away f) (paired_self Alike alike_self (function_effects env l f))

value_alike : (env : Environment) (away : Elsewhere env) (facts : FunctionFacts) (d e : Option ReportId) (l : Place)
    (span : Option Span) (v : InstructionValue) → AnyReport d e
    → AlikeEffects (signature_of_value (known env facts d) l span v)
    (signature_of_value (known (elsewhere env away) facts e) l span v)
value_alike env away facts d e l span (value.FunctionExpression lowered) a = function_alike env away l lowered.func
value_alike env away facts d e l span (value.ObjectMethod lowered) a = function_alike env away l lowered.func
value_alike env away facts d e l span (value.StoreGlobal name v) a =
    paired_append (global_alike d e v a) (more (assign v v l l) none)
value_alike env away facts d e l span v a = paired_self Alike alike_self _

begun_alike : (s t : StepProgress) → AlikeProgress s t → AlikeProgress (begun s) (begun t)
begun_alike s t (like u r m a l) = like (begun u) [] m none l

result_alike : (y : IdentifierId) (b : Bool) (s t : StepProgress) → AlikeProgress s t
    → AlikeProgress (with_result b y s) (with_result b y t)
result_alike y true s t a = a
result_alike y false s t a = stated (given y (Default y) mutable_other) s t a

with_result_alike : (y : IdentifierId) (s t : StepProgress) → AlikeProgress s t
    → AlikeProgress (with_result (is_some (sites_of s.state y)) y s) (with_result (is_some (sites_of t.state y)) y t)
with_result_alike y s t (like u r m a l) = result_alike y (is_some (sites_of u.state y)) u _ (like u r m a l)

written_alike : (e f : AliasingEffect) → Alike e f → Maybe AlikePlace (written_by e) (written_by f)
written_alike e f (mutate v w r s) = just (at v w)
written_alike e f (mutate_transitive v w) = just (at v w)
written_alike e f a = nothing

module _ {whole : List Temporary} where
  same_reported : (o : Option (IdentifierId × Report))
      → Repeats IsFull whole AnyReport (intern_reported o) (intern_reported o)
  same_reported None = repeats_gives AnyReport None None nothing
  same_reported (Some reported) = repeats_then AnyNumber AnyReport (λ d. tt) _ _ _ _
      (repeats_report reported.0 reported.1 reported.1) (λ d e n. repeats_gives AnyReport (Some d) (Some e) (just tt))

  same_record_mutate_frozen : (r q : Report) (v w : Place) (s t : StepProgress) → AlikeProgress s t
      → Same whole (record_mutate_frozen r v s) (record_mutate_frozen q (moved v w) t)
  same_record_mutate_frozen r q v w s t a =
      repeats_then AnyNumber AlikeProgress (λ d. tt) _ _ _ _ (repeats_report v.identifier r q)
      (λ d e n. same_gives _ _ (recorded_alike _ _ s t (mutate_frozen v w d e) a))

  module _ (x : StepContext) (o₀ : Elsewhere x.env) where
    same_check_write : (context : List Place) (o p : Option Place) (s t : StepProgress) → Maybe AlikePlace o p
        → AlikeProgress s t → Same whole (check_write x context o s) (check_write (other x o₀) context p t)
    same_check_write context o p s t nothing a = same_gives s t a
    same_check_write context o p s t (just (at v w)) (like u r m a l) =
        same_if (is_frozen_context context u.state v) _ _ _ _ (same_record_mutate_frozen _ _ v w u _ (like u r m a l))
        (same_gives u _ (like u r m a l))

    same_check_summary : (context : List Place) (o p : Option (List AliasingEffect)) (s t : StepProgress)
        → Maybe AlikeEffects o p → AlikeProgress s t
        → Same whole (check_summary x context o s) (check_summary (other x o₀) context p t)
    same_check_summary context o p s t nothing a = same_gives s t a
    same_check_summary context o p s t (just {a = es} {b = fs} k) a =
        repeats_each Alike AlikeProgress progress_self (check_effect x context) (check_effect (other x o₀) context)
        (λ e f i u v b. same_check_write context (written_by e) (written_by f) u v (written_alike e f i) b) es fs k
        s t a

    same_check_created : (o : Option FunctionId) (s t : StepProgress) → AlikeProgress s t
        → Same whole (check_created x o s) (check_created (other x o₀) o t)
    same_check_created None s t a = same_gives s t a
    same_check_created (Some f) s t a =
        subst (λ z. Same whole (check_summary x (context_of x.env f) (summary_of x.env f) s)
        (check_summary (other x o₀) z (summary_of (elsewhere x.env o₀) f) t)) (sym (context_elsewhere x.env o₀ f))
        (same_check_summary (context_of x.env f) (summary_of x.env f) (summary_of (elsewhere x.env o₀) f) s t
        (summary_elsewhere x.env o₀ f) a)

    same_instruction : (o : Option FunctionId) (es fs : List AliasingEffect) (y : IdentifierId) (s t : StepProgress)
        → AlikeEffects es fs → AlikeProgress s t
        → Same whole (apply_instruction x o es y s) (apply_instruction (other x o₀) o fs y t)
    same_instruction o es fs y s t a b =
        same_then _ _ _ _ (same_check_created o (begun s) (begun t) (begun_alike s t b)) (λ u v d.
        same_then _ _ _ _ (same_effects x o₀ es fs u v a d) (λ w z e. same_gives _ _ (with_result_alike y w z e)))

  same_signature_with : (env : Environment) (away : Elsewhere env) (facts : FunctionFacts) (i : Instruction)
      (d e : Option ReportId) (s t : StepProgress) → AnyReport d e → AlikeProgress s t
      → Same whole (apply_signature_with env facts i d s) (apply_signature_with (elsewhere env away) facts i e t)
  same_signature_with env away facts i d e s t a b =
      same_instruction (context_with env facts) away (created i.value) _ _ i.lvalue.identifier s t
      (value_alike env away facts d e i.lvalue i.span i.value a) b

  pub same_signature : (env : Environment) (away : Elsewhere env) (facts : FunctionFacts) (i : Instruction)
      (s t : StepProgress) → AlikeProgress s t
      → Same whole (apply_signature env facts i s) (apply_signature (elsewhere env away) facts i t)
  same_signature env away facts i s t a =
      repeats_then AnyReport AlikeProgress (maybe_self AnyNumber (λ d. tt)) _ _ _ _
      (same_reported (instruction_report i.value i.span))
      (λ d e b. same_signature_with env away facts i d e s t b a)
