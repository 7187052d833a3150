-- What an instruction names: places of the table, and a function that has F.
use Rattle.std.specs.Prelude.{ℕ, List, [], ◌∷◌, Option, slice_get, None, Some}
use Rattle.std.specs.List.{AllByRecursion}
use Rattle.alias_base.specs.declared.ids.FunctionId.{FunctionId}
use Rattle.alias_base.specs.declared.ids.TypeId.{TypeId}
use Rattle.alias_facts.specs.declared.facts.FunctionFacts.{FunctionFacts}
use Rattle.alias_hir.specs.Values.{places_of, created}
use Rattle.alias_hir.specs.declared.effect.AliasingEffect.{AliasingEffect}
use Rattle.alias_hir.specs.declared.env.Environment.{Environment}
use Rattle.alias_hir.specs.declared.hir.Instruction.{Instruction}
use Rattle.alias_hir.specs.declared.place.Place.{Place}
use Rattle.alias_hir.specs.declared.report.ReportId.{ReportId}
use Rattle.alias_hir.specs.declared.value.InstructionValue.{InstructionValue}
use Rattle.alias_hir.specs.declared.value.InstructionValue.TheVariants as value
use Rattle.alias_signature.specs.Known.{known}
use Rattle.alias_signature.specs.SignatureLaws.{Named, Speaks, names_by_kind, signature_speaks}
use Rattle.alias_signature.specs.Signatures.{signature_of}
use Rattle.alias_tables.specs.Tables.{TableLists}
use Rattle.alias_visit.specs.Places.{created_places}
use Rattle.alias_walks.specs.Blocking.{InstructionKnown}
use Rattle.alias_walks.specs.Law.{Names}
use Rattle.alias_walks.specs.OfProgress.{Any}
use Rattle.alias_walks.specs.Words.{all_mapped}
use Rattle.alias_step_laws.specs.steps.Within.{PlaceWithin}
use Rattle.alias_effects_laws.specs.entries.Named.{CreatesHas}
use Rattle.alias_effects_laws.proofs.entries.NamedLaw.{InTable, in_table_within, Naming, naming}

-- its places are of the table, among them the context of the function that it creates, which has F
pub record InstructionNamed (env : Environment) (F : FunctionId → Type 0) (i : Instruction) : Type 0 where
  pub lvalue : InTable env i.lvalue
  pub places : AllByRecursion (InTable env) (places_of i.value)
  pub context : AllByRecursion (InTable env) (created_places env (created i.value))
  pub created : CreatesHas F (created i.value)

module _ (env : Environment) (F : FunctionId → Type 0) where
  names_there : (v : InstructionValue) → CreatesHas F (created v) → CreatesHas F (names_by_kind env v).0
  names_there (value.NewExpression callee args) h = tt
  names_there (value.CallExpression callee args) h = tt
  names_there (value.MethodCall receiver property args) h = tt
  names_there (value.FunctionExpression lowered) h = h
  names_there (value.ObjectMethod lowered) h = h
  names_there v h = tt

  abbrev NamedHas : Named → Type 0
  NamedHas n = CreatesHas F n.0

  abbrev EffectKnown : TableLists → AliasingEffect → Type 0
  EffectKnown t e = Names (PlaceWithin env t) (Any {X = Option ReportId}) (CreatesHas F) (Any {X = Option TypeId}) e

  effects_known : (t : TableLists) (es : List AliasingEffect)
      → AllByRecursion (Speaks (InTable env) (λ (o : Option ReportId). Unit {0}) NamedHas) es
      → AllByRecursion (EffectKnown t) es
  effects_known t [] h = tt
  effects_known t (e ∷ es) h = (
    (
      all_mapped (InTable env) (PlaceWithin env t) (in_table_within env t) _ h.0.0,
      (tt, (h.0.1.1, tt)),
    ),
    effects_known t es h.1,
  )

  signature_known : (facts : FunctionFacts) (i : Instruction) (error : Option ReportId) (t : TableLists)
      → InstructionNamed env F i → AllByRecursion (EffectKnown t) (signature_of (known env facts error) i)
  signature_known facts i error t h =
      effects_known t (signature_of (known env facts error) i)
      (signature_speaks (InTable env) (λ (o : Option ReportId). Unit {0}) tt NamedHas tt (known env facts error)
      i.lvalue i.span i.value h.lvalue h.places h.context tt (names_there i.value h.created))

  pub instruction_known : (N : TableLists → ℕ → Type 0) (names : Naming env N F) (facts : FunctionFacts)
      (i : Instruction) → InstructionNamed env F i → InstructionKnown (naming env N F names) facts i
  instruction_known N names facts i h = record {
    lvalue = λ t k. in_table_within env t i.lvalue h.lvalue;
    creation = h.created;
    effects = λ error t k e. signature_known facts i error t h;
  }
