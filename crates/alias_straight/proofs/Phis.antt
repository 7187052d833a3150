-- Phis, as they are taken off the tokens.
use Rattle.std.specs.Prelude.{Result, Ok, codes}
use Rattle.std.proofs.Common.{◌≡◌, ℕ, ◌-◌, ◌<◌, List, [], ◌∷◌, Option, Some, refl, ap}
use Rattle.alias_base.specs.Answer.{◌>>=◌}
use Rattle.alias_base.specs.declared.ids.BlockId.{BlockId}
use Rattle.json.specs.Token.{Token}
use Rattle.serde_json.specs.Data.{Data, object}
use Rattle.alias_hir.specs.declared.place.Place.{Place}
use Rattle.alias_json.specs.Reading.{number_at, known_keys}
use Rattle.alias_json.specs.declared.fault.ValueFault.{ValueFault}
use Rattle.alias_read.specs.Json.{required}
use Rattle.alias_read.specs.Entries.{entries_at}
use Rattle.alias_read.specs.Functions.{instruction_id_at, operand_at, phi_at}
use Rattle.alias_read.specs.Places.{place_at}
use Rattle.alias_straight.specs.Takes.{Takes}
use Rattle.alias_straight.specs.Members.{TakesMember, Fields, members_of, IsRead}
use Rattle.alias_straight.proofs.Fielding.{opened, goes, closed}
use Rattle.alias_straight.proofs.Finding.{required_is, known_is}

pub instruction_id_is : (n : ℕ) (d : Data) → ((p : List ℕ) → number_at p d ≡ Ok n) → (p : List ℕ)
    → instruction_id_at p d ≡ Ok (record { 0 = n })
instruction_id_is n d is p = ap (λ (r : Result ℕ ValueFault). r >>= (λ n. Ok (record { 0 = n }))) (is p)

phi_is : (a b : Option Data) (place : Place) (operands : List (BlockId × Place)) → IsRead place_at (Some place) a
    → IsRead (entries_at operand_at) (Some operands) b
    → (p : List ℕ) → phi_at p (object (members_of ((codes "operands", b) ∷ (codes "place", a) ∷ [])))
    ≡ Ok (record { place = place; operands = operands })
phi_is a b place operands x y p =
    let fs : Fields = (codes "operands", b) ∷ (codes "place", a) ∷ [] in
    let e₁ : required place_at p (codes "place") (object (members_of fs)) ≡ Ok place =
    required_is place_at (codes "place") fs place a refl x p in
    let e₂ : required (entries_at operand_at) p (codes "operands") (object (members_of fs)) ≡ Ok operands =
    required_is (entries_at operand_at) (codes "operands") fs operands b refl y p in
    let e₃ : known_keys (codes "place" ∷ codes "operands" ∷ []) p (object (members_of fs)) ≡ Ok tt =
    known_is (codes "place" ∷ codes "operands" ∷ []) fs refl p in
    rw (e₁, e₂, e₃) refl

pub phi_taken : (depth : ℕ) (start t₀ t₁ t₂ rest : List Token) (place : Place) (operands : List (BlockId × Place)) → 0
    < depth → start ≡ Token.begin_object ∷ t₀
    → TakesMember place_at (depth - 1) t₀ (codes "place") place t₁
    → TakesMember (entries_at operand_at) (depth - 1) t₁ (codes "operands") operands t₂ → t₂ ≡ Token.end_object
    ∷ rest
    → Takes phi_at depth start (record { place = place; operands = operands }) rest
phi_taken depth start t₀ t₁ t₂ rest place operands h begins m₁ m₂ ends =
    let f₁ = goes place_at depth start t₀ t₁ [] (codes "place") place (opened depth start t₀ h begins) m₁ in
    let f₂ = goes (entries_at operand_at) depth start t₁ t₂ _ (codes "operands") operands f₁.opens m₂ in
    record {
      tree = object (members_of ((codes "operands", f₂.tree) ∷ (codes "place", f₁.tree) ∷ []));
      read = closed depth start t₂ rest ((codes "operands", f₂.tree) ∷ (codes "place", f₁.tree) ∷ []) f₂.opens ends;
      is = phi_is f₁.tree f₂.tree place operands f₁.is f₂.is;
    }
