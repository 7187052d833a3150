-- The instructions of a plain function are as asked.
use Rattle.std.specs.Prelude.{◌≡◌, ◌<◌, Bool, true, length, List, [], Option, Some, None, slice_get, option_and_then}
use Rattle.std.specs.Prelude.{refl}
use Rattle.std.proofs.Common.{ap, sym, ◌∙◌}
use Rattle.alias_base.specs.declared.ids.InstructionId.{InstructionId}
use Rattle.alias_facts.specs.Facts.{function_facts}
use Rattle.alias_hir.specs.Tables.{function_signature}
use Rattle.alias_hir.specs.declared.effect.AliasingEffect.{AliasingEffect}
use Rattle.alias_hir.specs.declared.env.Environment.{Environment}
use Rattle.alias_hir.specs.declared.hir.HirFunction.{HirFunction}
use Rattle.alias_hir.specs.declared.hir.Instruction.{Instruction}
use Rattle.alias_hir.specs.declared.place.Place.{Place}
use Rattle.alias_hir.specs.declared.place.PlaceOrSpread.{PlaceOrSpread}
use Rattle.alias_hir.specs.declared.place.Span.{Span}
use Rattle.alias_hir.specs.declared.signature.FunctionSignature.{FunctionSignature}
use Rattle.alias_hir.specs.declared.signature.Shape.{Shape}
use Rattle.alias_hir.specs.declared.types.Ty.{Ty}
use Rattle.alias_hir.specs.ShapeNames.{shape_named}
use Rattle.alias_hir.specs.Types.{function_shape, type_of}
use Rattle.alias_hir.specs.declared.env.Config.{Config}
use Rattle.alias_signature.specs.Calls.{call_effects, type_id_of}
use Rattle.alias_apply.specs.declared.progress.StepProgress.{StepProgress}
use Rattle.alias_step.specs.Expansions.{signature_of_type}
use Rattle.alias_plainness.specs.Making.{all_made}
use Rattle.alias_plainness.specs.Sureness.{list_of}
use Rattle.alias_plainness.specs.Paths.{sure_before}
use Rattle.alias_plainness.specs.Conditions.{names_sure, are_distinct, makes_well, is_compatible, freezes_no_spread}
use Rattle.alias_plainness.specs.Plainness.{IsPlain}
use Rattle.alias_completeness.specs.Agreeing.{Agrees, agrees_self}
use Rattle.alias_completeness.specs.Blocking.{AllSuit}
use Rattle.alias_completeness.specs.CallPlaces.{IsWithin, CallIsWithin, call_within}
use Rattle.alias_completeness.specs.Conditions.{AllHold, all_hold, same_type, call_without, called_as, RowHolds}
use Rattle.alias_completeness.specs.Conditions.{row_holds}
use Rattle.alias_completeness.specs.Going.{made_so_far}
use Rattle.alias_completeness.specs.Instructing.{RowsFit}
use Rattle.alias_completeness.specs.Substituting.{part_fits}

module _ (env more : Environment) (agrees : Agrees env more) where
  same_signature : (ty : Ty) → function_signature more ty ≡ function_signature env ty
  same_signature ty = ap (λ (shapes : List Shape).
      option_and_then (λ (s : Shape). s.signature) (option_and_then (shape_named shapes) (function_shape ty)))
      agrees.shapes

  all_signatures : (o : Option Ty) → option_and_then (function_signature more) o
      ≡ option_and_then (function_signature env) o
  all_signatures None = refl
  all_signatures (Some ty) = same_signature ty

  -- a call finds the row that it finds where the conditions are read
  same_row : (f : Place) → f.identifier.0 < length env.identifiers → (row : FunctionSignature)
      → signature_of_type more (type_id_of more f.identifier) ≡ Some row
      → signature_of_type env (type_id_of env f.identifier) ≡ Some row
  same_row f within row found =
      same_type env (slice_get env.identifiers f.identifier.0) ∙ sym (all_signatures (type_of env f.identifier))
      ∙ ap (option_and_then (function_signature more)) (sym (agrees.types f.identifier within))
      ∙ sym (same_type more (slice_get more.identifiers f.identifier.0)) ∙ found

  -- the conditions of an instruction that speak of its row, over env
  pub record RowConditions (func : HirFunction) (x : Instruction) : Type 0 where
    pub makes : makes_well env (list_of func env x) ≡ true
    pub compatible : is_compatible env (list_of func env x) ≡ true
    pub freezes : freezes_no_spread env (list_of func env x) ≡ true

  -- the row of a call of the list fits, where the instruction is the same call over env
  pub rows_fit : (func : HirFunction) → IsWithin env func → (i : InstructionId) (x : Instruction)
      → slice_get func.instructions i.0 ≡ Some x → RowConditions func x → (es : List AliasingEffect)
      → ((r f : Place) (m : Bool) (args : List PlaceOrSpread) (into : Place) (span : Option Span) → es
      ≡ call_effects more r f m args into span → list_of func env x ≡ call_effects env r f m args into span)
      → (u : StepProgress) → made_so_far u ≡ [] → RowsFit more u es
  rows_fit func within i x e h es same u none r f m args into span is row found =
      let here = same r f m args into span is in
      let inside : CallIsWithin env r f args into =
      call_within env func within (function_facts func env) None i x e r f m args into (type_id_of env f.identifier)
      span here in
      let there = same_row f inside.function_within row found in
      let holds : RowHolds env (called_as r f args into span) row =
      row_holds env (list_of func env x) r f m args into span row here there h.makes h.compatible h.freezes in
      record {
        compatible = λ v. holds.compatible (sym (ap (λ (c : Config). c.enable_validations) agrees.config) ∙ v);
        spread = holds.spread;
        part = λ p a. part_fits env more agrees r f m args into span p u inside (holds.part p a) none;
      }

-- the instructions of a plain function are as asked, over the environment that it is plain over
pub plain_suits : (env : Environment) (func : HirFunction) → IsWithin env func → IsPlain func env → AllSuit env func
plain_suits env func within plain b path done rest i x split e =
    let holds : (let list = list_of func env x in
    AllHold (names_sure func env (sure_before func env path done) x) (are_distinct (all_made list))
    (makes_well env list) (is_compatible env list) (freezes_no_spread env list)) =
    all_hold func env (sure_before func env path done) x (plain b done i rest split path x e) in
    record {
      names = holds.first;
      distinct = holds.second;
      rows = λ error u none. rows_fit env env (agrees_self env) func within i x e
          (record { makes = holds.third; compatible = holds.fourth; freezes = holds.fifth }) _
          (λ r f m args into span is. call_without env (function_facts func env) error x.lvalue x.span x.value r f m
          args into span is) u none;
    }
