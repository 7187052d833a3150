-- Properties of object expressions, as they are taken off the tokens.
use Rattle.std.specs.Prelude.{Result, Ok, Err, ⊤, codes, Bool, is_some, if◌then◌else◌}
use Rattle.std.proofs.Common.{◌≡◌, ℕ, ◌-◌, ◌<◌, List, [], ◌∷◌, Option, Some, None, refl, ap, subst, ◌∙◌}
use Rattle.alias_base.specs.Answer.{◌>>=◌}
use Rattle.json.specs.Token.{Token}
use Rattle.serde_json.specs.Data.{Data, null, object}
use Rattle.alias_hir.specs.declared.place.Place.{Place}
use Rattle.alias_hir.specs.declared.place.SpreadPattern.{SpreadPattern}
use Rattle.alias_hir.specs.declared.value.ObjectPropertyOrSpread.{ObjectPropertyOrSpread}
use Rattle.alias_hir.specs.declared.value.ObjectPropertyOrSpread.TheVariants as property
use Rattle.alias_json.specs.Reading.{known_keys, has_key}
use Rattle.alias_json.specs.declared.fault.ValueFault.{ValueFault}
use Rattle.alias_read.specs.Json.{required, optional}
use Rattle.alias_read.specs.Places.{place_at, spread_at}
use Rattle.alias_read.specs.Elements.{keyed_at, property_at}
use Rattle.alias_straight.specs.Takes.{Takes}
use Rattle.alias_straight.specs.Members.{TakesMember, MayTake, Fields, members_of, field, IsRead}
use Rattle.alias_straight.proofs.Fielding.{get-members_of, opened, goes, may_go, closed}
use Rattle.alias_straight.proofs.Finding.{required_is, optional_is, known_is}

abbrev IsErr : {A : Type 0} → Result A ValueFault → Type 0
IsErr (Ok x) = ⊥
IsErr (Err e) = ⊤

no_place : (x : Place) → place_at [] null ≡ Ok x → ⊥
no_place x e = subst IsErr e tt

abbrev chosen : Bool → List ℕ → Data → Result ObjectPropertyOrSpread ValueFault
chosen spread p d = if spread then (spread_at p d >>= (λ spread. Ok (property.Spread spread))) else keyed_at p d

pub has_key-members_of : (key : List ℕ) (fs : Fields) → has_key key (object (members_of fs)) ≡ is_some (field key fs)
has_key-members_of key fs = ap is_some (get-members_of key fs)

abbrev keyed_fields : Option Data → Option Data → Fields
keyed_fields a b = (codes "place", b) ∷ (codes "computed", a) ∷ []

keyed_is : (a b : Option Data) (computed : Option Place) (place : Place) → IsRead place_at computed a
    → IsRead place_at (Some place) b
    → (p : List ℕ) → property_at p (object (members_of (keyed_fields a b)))
    ≡ Ok (property.Property (record { computed = computed; place = place }))
keyed_is a b computed place x y p =
    let fs = keyed_fields a b in
    let e₁ : optional place_at p (codes "computed") (object (members_of fs)) ≡ Ok computed =
    optional_is place_at no_place (codes "computed") fs computed a refl x p in
    let e₂ : required place_at p (codes "place") (object (members_of fs)) ≡ Ok place =
    required_is place_at (codes "place") fs place b refl y p in
    let e₃ : known_keys (codes "computed" ∷ codes "place" ∷ []) p (object (members_of fs)) ≡ Ok tt =
    known_is (codes "computed" ∷ codes "place" ∷ []) fs refl p in
    let keyed : keyed_at p (object (members_of fs))
    ≡ Ok (property.Property (record { computed = computed; place = place })) = rw (e₁, e₂, e₃) refl in
    ap (λ (s : Bool). chosen s p (object (members_of fs))) (has_key-members_of (codes "spread") fs) ∙ keyed

pub keyed_taken : (depth : ℕ) (start t₀ t₁ t₂ rest : List Token) (computed : Option Place) (place : Place) → 0 < depth
    → start ≡ Token.begin_object ∷ t₀
    → MayTake place_at (depth - 1) t₀ (codes "computed") computed t₁
    → TakesMember place_at (depth - 1) t₁ (codes "place") place t₂ → t₂ ≡ Token.end_object ∷ rest
    → Takes property_at depth start (property.Property (record { computed = computed; place = place })) rest
keyed_taken depth start t₀ t₁ t₂ rest computed place h begins m₁ m₂ ends =
    let f₁ = may_go place_at depth start t₀ t₁ [] (codes "computed") computed (opened depth start t₀ h begins) m₁ in
    let f₂ = goes place_at depth start t₁ t₂ _ (codes "place") place f₁.opens m₂ in
    record {
      tree = object (members_of (keyed_fields f₁.tree f₂.tree));
      read = closed depth start t₂ rest (keyed_fields f₁.tree f₂.tree) f₂.opens ends;
      is = keyed_is f₁.tree f₂.tree computed place f₁.is f₂.is;
    }

property_spread_is : (a : Option Data) (place : Place) → IsRead place_at (Some place) a → (p : List ℕ)
    → property_at p (object (members_of ((codes "spread", a) ∷ []))) ≡ Ok (property.Spread (record { place = place }))
property_spread_is None place x p = absurd x
property_spread_is (Some d) place x p =
    let fs : Fields = (codes "spread", Some d) ∷ [] in
    let e₁ : required place_at p (codes "spread") (object (members_of fs)) ≡ Ok place =
    required_is place_at (codes "spread") fs place (Some d) refl x p in
    let spread : spread_at p (object (members_of fs)) ≡ Ok (record { place = place }) = rw e₁ refl in
    ap (λ (s : Bool). chosen s p (object (members_of fs))) (has_key-members_of (codes "spread") fs)
    ∙ ap (λ (r : Result SpreadPattern ValueFault). r >>= (λ spread. Ok (property.Spread spread))) spread

pub property_spread_taken : (depth : ℕ) (start t₀ t₁ rest : List Token) (place : Place) → 0 < depth → start
    ≡ Token.begin_object ∷ t₀
    → TakesMember place_at (depth - 1) t₀ (codes "spread") place t₁ → t₁ ≡ Token.end_object ∷ rest
    → Takes property_at depth start (property.Spread (record { place = place })) rest
property_spread_taken depth start t₀ t₁ rest place h begins m ends =
    let f = goes place_at depth start t₀ t₁ [] (codes "spread") place (opened depth start t₀ h begins) m in
    record {
      tree = object (members_of ((codes "spread", f.tree) ∷ []));
      read = closed depth start t₁ rest ((codes "spread", f.tree) ∷ []) f.opens ends;
      is = property_spread_is f.tree place f.is;
    }
