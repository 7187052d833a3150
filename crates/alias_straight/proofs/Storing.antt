-- The variables of declarations and stores, as they are taken off the tokens.
use Rattle.std.specs.Prelude.{Ok, codes}
use Rattle.std.proofs.Common.{◌≡◌, ℕ, ◌-◌, ◌<◌, List, [], ◌∷◌, Option, Some, refl}
use Rattle.json.specs.Token.{Token}
use Rattle.serde_json.specs.Data.{Data, object}
use Rattle.alias_hir.specs.declared.place.Place.{Place}
use Rattle.alias_hir.specs.declared.value.InstructionKind.{InstructionKind}
use Rattle.alias_json.specs.Reading.{known_keys}
use Rattle.alias_json.specs.Names.{named_at}
use Rattle.alias_read.specs.Json.{required}
use Rattle.alias_read.specs.Names.{instruction_kind_names}
use Rattle.alias_read.specs.Places.{place_at}
use Rattle.alias_read.specs.Patterns.{lvalue_at}
use Rattle.alias_straight.specs.Takes.{Takes}
use Rattle.alias_straight.specs.Members.{TakesMember, Fields, members_of, IsRead}
use Rattle.alias_straight.proofs.Fielding.{opened, goes, closed}
use Rattle.alias_straight.proofs.Finding.{required_is, known_is}

lvalue_is : (a b : Option Data) (kind : InstructionKind) (place : Place)
    → IsRead (named_at instruction_kind_names) (Some kind) a → IsRead place_at (Some place) b
    → (p : List ℕ) → lvalue_at p (object (members_of ((codes "place", b) ∷ (codes "kind", a) ∷ [])))
    ≡ Ok (record { place = place; kind = kind })
lvalue_is a b kind place x y p =
    let fs : Fields = (codes "place", b) ∷ (codes "kind", a) ∷ [] in
    let e₁ : required (named_at instruction_kind_names) p (codes "kind") (object (members_of fs)) ≡ Ok kind =
    required_is (named_at instruction_kind_names) (codes "kind") fs kind a refl x p in
    let e₂ : required place_at p (codes "place") (object (members_of fs)) ≡ Ok place =
    required_is place_at (codes "place") fs place b refl y p in
    let e₃ : known_keys (codes "kind" ∷ codes "place" ∷ []) p (object (members_of fs)) ≡ Ok tt =
    known_is (codes "kind" ∷ codes "place" ∷ []) fs refl p in
    rw (e₁, e₂, e₃) refl

pub lvalue_taken : (depth : ℕ) (start t₀ t₁ t₂ rest : List Token) (kind : InstructionKind) (place : Place) → 0 < depth
    → start ≡ Token.begin_object ∷ t₀
    → TakesMember (named_at instruction_kind_names) (depth - 1) t₀ (codes "kind") kind t₁
    → TakesMember place_at (depth - 1) t₁ (codes "place") place t₂ → t₂ ≡ Token.end_object ∷ rest
    → Takes lvalue_at depth start (record { place = place; kind = kind }) rest
lvalue_taken depth start t₀ t₁ t₂ rest kind place h begins m₁ m₂ ends =
    let f₁ = goes (named_at instruction_kind_names) depth start t₀ t₁ [] (codes "kind") kind
    (opened depth start t₀ h begins) m₁ in
    let f₂ = goes place_at depth start t₁ t₂ _ (codes "place") place f₁.opens m₂ in
    record {
      tree = object (members_of ((codes "place", f₂.tree) ∷ (codes "kind", f₁.tree) ∷ []));
      read = closed depth start t₂ rest ((codes "place", f₂.tree) ∷ (codes "kind", f₁.tree) ∷ []) f₂.opens ends;
      is = lvalue_is f₁.tree f₂.tree kind place f₁.is f₂.is;
    }
