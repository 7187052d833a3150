-- Places, spreads and elements, of which the first token tells.
use Rattle.std.specs.Prelude.{Result, Ok, Err, ⊤, codes}
use Rattle.std.proofs.Common.{◌≡◌, ℕ, ◌-◌, ◌<◌, List, [], ◌∷◌, Option, Some, refl, ap, sym, subst}
use Rattle.alias_base.specs.Answer.{◌>>=◌}
use Rattle.json.specs.Token.{Token}
use Rattle.serde_json.specs.Data.{Data, null, boolean, number, string, array, object}
use Rattle.alias_hir.specs.declared.place.Place.{Place}
use Rattle.alias_hir.specs.declared.place.SpreadPattern.{SpreadPattern}
use Rattle.alias_hir.specs.declared.value.ArrayElement.TheVariants as element
use Rattle.alias_hir.specs.declared.value.JsxAttribute.TheVariants as attribute
use Rattle.alias_json.specs.Reading.{Reads, known_keys}
use Rattle.alias_json.specs.declared.fault.ValueFault.{ValueFault}
use Rattle.alias_read.specs.Json.{required}
use Rattle.alias_read.specs.Places.{place_at, spread_at, place_or_spread}
use Rattle.alias_read.specs.Elements.{array_element_at, attribute_at}
use Rattle.alias_straight.specs.Takes.{Takes}
use Rattle.alias_straight.specs.Members.{TakesMember, Fields, members_of, IsRead}
use Rattle.alias_straight.proofs.Fielding.{opened, goes, closed}
use Rattle.alias_straight.proofs.Finding.{required_is, known_is}

pub from_first : {A : Type 0} (reads : Reads A) (depth : ℕ) (start ts rest : List Token) (x : A) → start ≡ ts
    → Takes reads depth ts x rest → Takes reads depth start x rest
from_first reads depth start ts rest x e t = subst (λ (l : List Token). Takes reads depth l x rest) (sym e) t

pub taken_as : {A B : Type 0} (reads : Reads A) (other : Reads B) (depth : ℕ) (ts rest : List Token) (x : A) (y : B)
    → ((d : Data) → ((p : List ℕ) → reads p d ≡ Ok x) → (p : List ℕ) → other p d ≡ Ok y) → Takes reads depth ts x rest
    → Takes other depth ts y rest
taken_as reads other depth ts rest x y f t = record { tree = t.tree; read = t.read; is = f t.tree t.is }

abbrev IsErr : {A : Type 0} → Result A ValueFault → Type 0
IsErr (Ok x) = ⊥
IsErr (Err e) = ⊤

module _ {A : Type 0} (of_place : Place → A) (of_spread : SpreadPattern → A) where
  pub place_there : (x : Place) (d : Data) → ((p : List ℕ) → place_at p d ≡ Ok x) → (p : List ℕ)
      → place_or_spread of_place of_spread p d ≡ Ok (of_place x)
  place_there x null is p = ap (λ (r : Result Place ValueFault). r >>= (λ place. Ok (of_place place))) (is p)
  place_there x (boolean b) is p = ap (λ (r : Result Place ValueFault). r >>= (λ place. Ok (of_place place))) (is p)
  place_there x (number n) is p = ap (λ (r : Result Place ValueFault). r >>= (λ place. Ok (of_place place))) (is p)
  place_there x (string s) is p = ap (λ (r : Result Place ValueFault). r >>= (λ place. Ok (of_place place))) (is p)
  place_there x (array ds) is p = ap (λ (r : Result Place ValueFault). r >>= (λ place. Ok (of_place place))) (is p)
  place_there x (object ms) is p = absurd (subst IsErr (is []) tt)

  pub spread_there : (x : SpreadPattern) (d : Data) → ((p : List ℕ) → spread_at p d ≡ Ok x) → (p : List ℕ)
      → place_or_spread of_place of_spread p d ≡ Ok (of_spread x)
  spread_there x null is p = absurd (subst IsErr (is []) tt)
  spread_there x (boolean b) is p = absurd (subst IsErr (is []) tt)
  spread_there x (number n) is p = absurd (subst IsErr (is []) tt)
  spread_there x (string s) is p = absurd (subst IsErr (is []) tt)
  spread_there x (array ds) is p = absurd (subst IsErr (is []) tt)
  spread_there x (object ms) is p = ap (λ (r : Result SpreadPattern ValueFault). r
      >>= (λ spread. Ok (of_spread spread))) (is p)

pub element_place_there : (x : Place) (d : Data) → ((p : List ℕ) → place_at p d ≡ Ok x) → (p : List ℕ)
    → array_element_at p d ≡ Ok (element.Place x)
element_place_there x null is p = place_there element.Place element.Spread x null is p
element_place_there x (boolean b) is p = place_there element.Place element.Spread x (boolean b) is p
element_place_there x (number n) is p = place_there element.Place element.Spread x (number n) is p
element_place_there x (string s) is p = absurd (subst IsErr (is []) tt)
element_place_there x (array ds) is p = place_there element.Place element.Spread x (array ds) is p
element_place_there x (object ms) is p = place_there element.Place element.Spread x (object ms) is p

pub element_spread_there : (x : SpreadPattern) (d : Data) → ((p : List ℕ) → spread_at p d ≡ Ok x) → (p : List ℕ)
    → array_element_at p d ≡ Ok (element.Spread x)
element_spread_there x null is p = spread_there element.Place element.Spread x null is p
element_spread_there x (boolean b) is p = spread_there element.Place element.Spread x (boolean b) is p
element_spread_there x (number n) is p = spread_there element.Place element.Spread x (number n) is p
element_spread_there x (string s) is p = absurd (subst IsErr (is []) tt)
element_spread_there x (array ds) is p = spread_there element.Place element.Spread x (array ds) is p
element_spread_there x (object ms) is p = spread_there element.Place element.Spread x (object ms) is p

pub attribute_spread_there : (x : SpreadPattern) (d : Data) → ((p : List ℕ) → spread_at p d ≡ Ok x) → (p : List ℕ)
    → attribute_at p d ≡ Ok (attribute.Spread x.place)
attribute_spread_there x d is p = spread_there attribute.Attribute (λ spread. attribute.Spread spread.place) x d is p

-- ---- a spread

spread_is : (a : Option Data) (place : Place) → IsRead place_at (Some place) a → (p : List ℕ)
    → spread_at p (object (members_of ((codes "spread", a) ∷ []))) ≡ Ok (record { place = place })
spread_is a place x p =
    let fs : Fields = (codes "spread", a) ∷ [] in
    let e₁ : required place_at p (codes "spread") (object (members_of fs)) ≡ Ok place =
    required_is place_at (codes "spread") fs place a refl x p in
    let e₂ : known_keys (codes "spread" ∷ []) p (object (members_of fs)) ≡ Ok tt =
    known_is (codes "spread" ∷ []) fs refl p in
    rw (e₁, e₂) refl

pub spread_taken : (depth : ℕ) (start t₀ t₁ rest : List Token) (place : Place) → 0 < depth → start ≡ Token.begin_object
    ∷ t₀ → TakesMember place_at (depth - 1) t₀ (codes "spread") place t₁ → t₁ ≡ Token.end_object ∷ rest
    → Takes spread_at depth start (record { place = place }) rest
spread_taken depth start t₀ t₁ rest place h begins m ends =
    let f = goes place_at depth start t₀ t₁ [] (codes "spread") place (opened depth start t₀ h begins) m in
    record {
      tree = object (members_of ((codes "spread", f.tree) ∷ []));
      read = closed depth start t₁ rest ((codes "spread", f.tree) ∷ []) f.opens ends;
      is = spread_is f.tree place f.is;
    }
