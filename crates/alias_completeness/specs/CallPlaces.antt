-- The places of calls are identifiers of the unit.
use Rattle.std.specs.Prelude.{◌≡◌, ◌<◌, Bool, List, [], ◌∷◌, ◌++◌, Option, Some, length, map, slice_get}
use Rattle.std.proofs.Common.{sym, subst, inl, inr}
use Rattle.std.specs.List.{AllByRecursion, flat_map}
use Rattle.alias_base.specs.declared.ids.InstructionId.{InstructionId}
use Rattle.alias_base.specs.declared.ids.TypeId.{TypeId}
use Rattle.alias_facts.specs.declared.facts.FunctionFacts.{FunctionFacts}
use Rattle.alias_hir.specs.Parts.{apply_arg_places}
use Rattle.alias_hir.specs.declared.effect.AliasingEffect.TheVariants.{Apply}
use Rattle.alias_hir.specs.declared.env.Environment.{Environment}
use Rattle.alias_hir.specs.declared.hir.HirFunction.{HirFunction}
use Rattle.alias_hir.specs.declared.hir.Instruction.{Instruction}
use Rattle.alias_hir.specs.declared.place.Place.{Place}
use Rattle.alias_hir.specs.declared.place.PlaceOrSpread.{PlaceOrSpread}
use Rattle.alias_hir.specs.declared.place.Span.{Span}
use Rattle.alias_hir.specs.declared.report.ReportId.{ReportId}
use Rattle.alias_signature.specs.Calls.{argument}
use Rattle.alias_signature.specs.Known.{known}
use Rattle.alias_signature.specs.Signatures.{signature_of}
use Rattle.alias_signature.specs.SignatureLaws.{IsOneOf, SpeaksOf, places_spoken_of, signature_speaks_of}
use Rattle.alias_plainness.specs.Making.{number}
use Rattle.alias_completeness.specs.States.{all_more}

-- the places of a call are identifiers of the unit
pub record CallIsWithin (env : Environment) (r f : Place) (args : List PlaceOrSpread) (into : Place) : Type 0 where
  pub receiver_within : number r < length env.identifiers
  pub function_within : number f < length env.identifiers
  pub into_within : number into < length env.identifiers
  pub args_within : AllByRecursion (λ (p : Place). number p < length env.identifiers)
      (flat_map apply_arg_places (map argument args))

-- what instructions speak of are identifiers of the unit
abbrev pub IsWithin : Environment → HirFunction → Type 0
IsWithin env func = (i : InstructionId) (x : Instruction) → slice_get func.instructions i.0 ≡ Some x
    → AllByRecursion (λ (p : Place). number p < length env.identifiers) (places_spoken_of env x)

one_of_all : (P : Place → Type 0) (ps : List Place) (p : Place) → IsOneOf ps p → AllByRecursion P ps → P p
one_of_all P [] p h a = absurd h
one_of_all P (q ∷ ps) p (inl e) a = subst P (sym e) a.0
one_of_all P (q ∷ ps) p (inr h) a = one_of_all P ps p h a.1

args_front : (P : Place → Type 0) (xs : List Place) (p : Place) → AllByRecursion P (xs ++ p ∷ []) → AllByRecursion P xs
    × P p
args_front P [] p h = (tt, h.0)
args_front P (x ∷ xs) p h = let r = args_front P xs p h.1 in ((h.0, r.0), r.1)

-- the places of the call that an instruction is
pub call_within : (env : Environment) (func : HirFunction) → IsWithin env func
    → (facts : FunctionFacts) (error : Option ReportId) (i : InstructionId) (x : Instruction)
    → slice_get func.instructions i.0 ≡ Some x
    → (r f : Place) (m : Bool) (args : List PlaceOrSpread) (into : Place) (signature : Option TypeId)
    (span : Option Span) → signature_of (known env facts error) x
    ≡ Apply r f m (map argument args) into signature span ∷ [] → CallIsWithin env r f args into
call_within env func within facts error i x e r f m args into signature span is =
    let P : Place → Type 0 = λ p. number p < length env.identifiers in
    let speaks = subst (AllByRecursion (SpeaksOf (known env facts error) x)) is
    (signature_speaks_of (known env facts error) x) in
    let places = all_more (IsOneOf (places_spoken_of env x)) P
    (λ p h. one_of_all P (places_spoken_of env x) p h (within i x e))
    (r ∷ f ∷ (flat_map apply_arg_places (map argument args) ++ into ∷ [])) speaks.0.0 in
    let behind = args_front P (flat_map apply_arg_places (map argument args)) into places.1.1 in
    record { receiver_within = places.0; function_within = places.1.0; into_within = behind.1; args_within = behind.0 }
