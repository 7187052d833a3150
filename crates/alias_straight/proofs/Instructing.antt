-- Instructions, as they are taken off the tokens.
use Rattle.std.specs.Prelude.{Ok, codes}
use Rattle.std.proofs.Common.{◌≡◌, ℕ, ◌-◌, ◌<◌, List, [], ◌∷◌, Option, Some, None, refl}
use Rattle.json.specs.Token.{Token}
use Rattle.serde_json.specs.Data.{Data, object}
use Rattle.alias_hir.specs.declared.place.Place.{Place}
use Rattle.alias_hir.specs.declared.place.Span.{Span}
use Rattle.alias_hir.specs.declared.value.InstructionValue.{InstructionValue}
use Rattle.alias_hir.specs.declared.hir.Instruction.{Instruction}
use Rattle.alias_json.specs.Reading.{number_at, known_keys}
use Rattle.alias_read.specs.Json.{required, optional}
use Rattle.alias_read.specs.Places.{place_at, span_at}
use Rattle.alias_read.specs.Values.{instruction_value_at}
use Rattle.alias_read.specs.Functions.{instruction_at}
use Rattle.alias_straight.specs.Takes.{Takes}
use Rattle.alias_straight.specs.Members.{TakesMember, MayTake, Fields, members_of, IsRead}
use Rattle.alias_straight.proofs.Fielding.{opened, goes, may_go, closed}
use Rattle.alias_straight.proofs.Finding.{required_is, optional_is, known_is}
use Rattle.alias_straight.proofs.Identifying.{no_span}

abbrev instruction_of : ℕ → Place → InstructionValue → Option Span → Instruction
instruction_of id lvalue computed span =
    record { id = record { 0 = id }; lvalue = lvalue; value = computed; span = span; effects = None }

abbrev instruction_fields : Option Data → Option Data → Option Data → Option Data → Fields
instruction_fields a b c d = (codes "span", d) ∷ (codes "value", c) ∷ (codes "lvalue", b) ∷ (codes "id", a) ∷ []

instruction_is : (a b c d : Option Data) (id : ℕ) (lvalue : Place) (computed : InstructionValue) (span : Option Span)
    → IsRead number_at (Some id) a → IsRead place_at (Some lvalue) b → IsRead instruction_value_at (Some computed) c
    → IsRead span_at span d
    → (p : List ℕ) → instruction_at p (object (members_of (instruction_fields a b c d)))
    ≡ Ok (instruction_of id lvalue computed span)
instruction_is a b c d id lvalue computed span x y z w p =
    let fs = instruction_fields a b c d in
    let e₁ : required number_at p (codes "id") (object (members_of fs)) ≡ Ok id =
    required_is number_at (codes "id") fs id a refl x p in
    let e₂ : required place_at p (codes "lvalue") (object (members_of fs)) ≡ Ok lvalue =
    required_is place_at (codes "lvalue") fs lvalue b refl y p in
    let e₃ : required instruction_value_at p (codes "value") (object (members_of fs)) ≡ Ok computed =
    required_is instruction_value_at (codes "value") fs computed c refl z p in
    let e₄ : optional span_at p (codes "span") (object (members_of fs)) ≡ Ok span =
    optional_is span_at no_span (codes "span") fs span d refl w p in
    let e₅ : known_keys (codes "id" ∷ codes "lvalue" ∷ codes "value" ∷ codes "span" ∷ []) p (object (members_of fs))
    ≡ Ok tt = known_is (codes "id" ∷ codes "lvalue" ∷ codes "value" ∷ codes "span" ∷ []) fs refl p in
    rw (e₁, e₂, e₃, e₄, e₅) refl

pub instruction_taken : (depth : ℕ) (start t₀ t₁ t₂ t₃ t₄ rest : List Token) (id : ℕ) (lvalue : Place)
    (computed : InstructionValue) (span : Option Span) → 0 < depth → start ≡ Token.begin_object ∷ t₀
    → TakesMember number_at (depth - 1) t₀ (codes "id") id t₁
    → TakesMember place_at (depth - 1) t₁ (codes "lvalue") lvalue t₂
    → TakesMember instruction_value_at (depth - 1) t₂ (codes "value") computed t₃
    → MayTake span_at (depth - 1) t₃ (codes "span") span t₄ → t₄ ≡ Token.end_object ∷ rest
    → Takes instruction_at depth start (instruction_of id lvalue computed span) rest
instruction_taken depth start t₀ t₁ t₂ t₃ t₄ rest id lvalue computed span h begins m₁ m₂ m₃ m₄ ends =
    let f₁ = goes number_at depth start t₀ t₁ [] (codes "id") id (opened depth start t₀ h begins) m₁ in
    let f₂ = goes place_at depth start t₁ t₂ _ (codes "lvalue") lvalue f₁.opens m₂ in
    let f₃ = goes instruction_value_at depth start t₂ t₃ _ (codes "value") computed f₂.opens m₃ in
    let f₄ = may_go span_at depth start t₃ t₄ _ (codes "span") span f₃.opens m₄ in
    record {
      tree = object (members_of (instruction_fields f₁.tree f₂.tree f₃.tree f₄.tree));
      read = closed depth start t₄ rest (instruction_fields f₁.tree f₂.tree f₃.tree f₄.tree) f₄.opens ends;
      is = instruction_is f₁.tree f₂.tree f₃.tree f₄.tree id lvalue computed span f₁.is f₂.is f₃.is f₄.is;
    }
