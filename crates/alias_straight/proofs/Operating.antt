-- The instructions that are a kind and places alone, as they are taken off the tokens.
use Rattle.std.specs.Prelude.{Result, Ok, ⊤, codes, unwrap_or}
use Rattle.std.proofs.Common.{◌≡◌, ℕ, ◌-◌, true, List, [], ◌∷◌, Option, Some, refl, ap, ◌∙◌}
use Rattle.alias_base.specs.Answer.{◌>>=◌}
use Rattle.json.specs.Token.{Token}
use Rattle.serde_json.specs.Data.{Data, object}
use Rattle.alias_hir.specs.declared.place.Place.{Place}
use Rattle.alias_json.specs.Reading.{known_keys}
use Rattle.alias_json.specs.declared.fault.ValueFault.{ValueFault}
use Rattle.alias_read.specs.Json.{required, list_at, list_of}
use Rattle.alias_read.specs.Places.{place_at}
use Rattle.alias_read.specs.declared.value_kinds.InstructionValueKind.TheVariants as of
use Rattle.alias_straight.specs.Kinds.{TakesKind}
use Rattle.alias_straight.specs.Members.{TakesMember, TakesList, Fields, members_of, field, are_known, IsRead}
use Rattle.alias_straight.proofs.Fielding.{goes, may_go}
use Rattle.alias_straight.proofs.Finding.{required_is, known_is}
use Rattle.alias_straight.proofs.Kinding.{kind_taken, list_of_is, key_is, list_key_is}
use Rattle.alias_read.specs.declared.value_kinds.PlainKind.{PlainKind}
use Rattle.alias_read.specs.declared.value_kinds.OnePlaceKind.{OnePlaceKind}
use Rattle.alias_read.specs.declared.value_kinds.OnePlaceKind.TheVariants as one
use Rattle.alias_read.specs.declared.value_kinds.TwoPlacesKind.{TwoPlacesKind}
use Rattle.alias_read.specs.declared.value_kinds.TwoPlacesKind.TheVariants as two
use Rattle.alias_read.specs.declared.value_kinds.PlaceListKind.{PlaceListKind}
use Rattle.alias_read.specs.declared.value_kinds.PlaceListKind.TheVariants as list
use Rattle.alias_read.specs.Operations.{plain_with, plain_at, one_place_key, one_place_with, one_place_at, first_key}
use Rattle.alias_read.specs.Operations.{second_key, two_places_with, two_places_at, place_list_key, place_list_with}
use Rattle.alias_read.specs.Operations.{place_list_at}

-- ---- no further key

plain_is : (k : PlainKind) (a : Option Data) (p : List ℕ) → plain_at k p (object (members_of ((codes "kind", a) ∷ [])))
    ≡ Ok (plain_with k)
plain_is k a p = ap (λ (r : Result ⊤ ValueFault). r >>= (λ _. Ok (plain_with k)))
    (known_is (codes "kind" ∷ []) ((codes "kind", a) ∷ []) refl p)

pub plain_taken : (k : PlainKind) (depth : ℕ) (ts rest : List Token) → ts ≡ Token.end_object ∷ rest
    → TakesKind (of.Plain k) depth ts (plain_with k) rest
plain_taken k depth ts rest ends = record {
  takes = λ start tree is so_far. kind_taken (of.Plain k) depth start ts rest ((codes "kind", tree) ∷ []) tree
      (plain_with k) refl is so_far ends (plain_is k tree);
}

-- ---- one place

abbrev one_fields : OnePlaceKind → Option Data → Option Data → Fields
one_fields k a b = (one_place_key k, b) ∷ (codes "kind", a) ∷ []

one_found : (k : OnePlaceKind) (a b : Option Data) → (field (codes "kind") (one_fields k a b) ≡ a)
    × (field (one_place_key k) (one_fields k a b) ≡ b)
    × (are_known (codes "kind" ∷ one_place_key k ∷ []) (one_fields k a b) ≡ true)
one_found one.Await a b = (refl, refl, refl)
one_found one.PropertyDelete a b = (refl, refl, refl)
one_found one.PropertyLoad a b = (refl, refl, refl)
one_found one.GetIterator a b = (refl, refl, refl)
one_found one.NextPropertyOf a b = (refl, refl, refl)
one_found one.LoadContext a b = (refl, refl, refl)
one_found one.LoadLocal a b = (refl, refl, refl)
one_found one.TypeCastExpression a b = (refl, refl, refl)
one_found one.FinishMemoize a b = (refl, refl, refl)
one_found one.TaggedTemplateExpression a b = (refl, refl, refl)
one_found one.UnaryExpression a b = (refl, refl, refl)

one_is : (k : OnePlaceKind) (a b : Option Data) (place : Place) → IsRead place_at (Some place) b → (p : List ℕ)
    → one_place_at k p (object (members_of (one_fields k a b))) ≡ Ok (one_place_with k place)
one_is k a b place x p =
    let fs = one_fields k a b in
    let found = one_found k a b in
    let e₁ : required place_at p (one_place_key k) (object (members_of fs)) ≡ Ok place =
    required_is place_at (one_place_key k) fs place b found.1 x p in
    let e₂ : known_keys (codes "kind" ∷ one_place_key k ∷ []) p (object (members_of fs)) ≡ Ok tt =
    known_is (codes "kind" ∷ one_place_key k ∷ []) fs found.2 p in
    ap (λ (r : Result Place ValueFault). r
    >>= (λ x. known_keys (codes "kind" ∷ one_place_key k ∷ []) p (object (members_of fs))
    >>= (λ _. Ok (one_place_with k x)))) e₁
    ∙ ap (λ (r : Result ⊤ ValueFault). r >>= (λ _. Ok (one_place_with k place))) e₂

pub one_taken : (k : OnePlaceKind) (depth : ℕ) (ts t₁ rest : List Token) (name : List ℕ) (place : Place) → name
    ≡ one_place_key k → TakesMember place_at (depth - 1) ts name place t₁ → t₁ ≡ Token.end_object ∷ rest
    → TakesKind (of.OnePlace k) depth ts (one_place_with k place) rest
one_taken k depth ts t₁ rest name place same m ends = record {
  takes = λ start tree is so_far.
      let f = goes place_at depth start ts t₁ ((codes "kind", tree) ∷ []) (one_place_key k) place so_far
      (key_is place_at (depth - 1) ts t₁ name (one_place_key k) place same m) in
      kind_taken (of.OnePlace k) depth start t₁ rest (one_fields k tree f.tree) tree (one_place_with k place)
      (one_found k tree f.tree).0 is f.opens ends (one_is k tree f.tree place f.is);
}

-- ---- two places

abbrev two_fields : TwoPlacesKind → Option Data → Option Data → Option Data → Fields
two_fields k a b c = (second_key k, c) ∷ (first_key k, b) ∷ (codes "kind", a) ∷ []

two_found : (k : TwoPlacesKind) (a b c : Option Data) → (field (codes "kind") (two_fields k a b c) ≡ a)
    × (field (first_key k) (two_fields k a b c) ≡ b) × (field (second_key k) (two_fields k a b c) ≡ c)
    × (are_known (codes "kind" ∷ first_key k ∷ second_key k ∷ []) (two_fields k a b c) ≡ true)
two_found two.ComputedDelete a b c = (refl, refl, refl, refl)
two_found two.ComputedLoad a b c = (refl, refl, refl, refl)
two_found two.IteratorNext a b c = (refl, refl, refl, refl)
two_found two.PostfixUpdate a b c = (refl, refl, refl, refl)
two_found two.PrefixUpdate a b c = (refl, refl, refl, refl)
two_found two.BinaryExpression a b c = (refl, refl, refl, refl)

two_is : (k : TwoPlacesKind) (a b c : Option Data) (first second : Place) → IsRead place_at (Some first) b
    → IsRead place_at (Some second) c
    → (p : List ℕ) → two_places_at k p (object (members_of (two_fields k a b c))) ≡ Ok (two_places_with k first second)
two_is k a b c first second x y p =
    let fs = two_fields k a b c in
    let found = two_found k a b c in
    let e₁ : required place_at p (first_key k) (object (members_of fs)) ≡ Ok first =
    required_is place_at (first_key k) fs first b found.1 x p in
    let e₂ : required place_at p (second_key k) (object (members_of fs)) ≡ Ok second =
    required_is place_at (second_key k) fs second c found.2 y p in
    let e₃ : known_keys (codes "kind" ∷ first_key k ∷ second_key k ∷ []) p (object (members_of fs)) ≡ Ok tt =
    known_is (codes "kind" ∷ first_key k ∷ second_key k ∷ []) fs found.3 p in
    ap (λ (r : Result Place ValueFault). r
    >>= (λ x. required place_at p (second_key k) (object (members_of fs))
    >>= (λ y. known_keys (codes "kind" ∷ first_key k ∷ second_key k ∷ []) p (object (members_of fs))
    >>= (λ _. Ok (two_places_with k x y))))) e₁
    ∙ ap (λ (r : Result Place ValueFault). r
    >>= (λ y. known_keys (codes "kind" ∷ first_key k ∷ second_key k ∷ []) p (object (members_of fs))
    >>= (λ _. Ok (two_places_with k first y)))) e₂
    ∙ ap (λ (r : Result ⊤ ValueFault). r >>= (λ _. Ok (two_places_with k first second))) e₃

pub two_taken : (k : TwoPlacesKind) (depth : ℕ) (ts t₁ t₂ rest : List Token) (name other : List ℕ)
    (first second : Place) → name ≡ first_key k → other ≡ second_key k
    → TakesMember place_at (depth - 1) ts name first t₁ → TakesMember place_at (depth - 1) t₁ other second t₂ → t₂
    ≡ Token.end_object ∷ rest
    → TakesKind (of.TwoPlaces k) depth ts (two_places_with k first second) rest
two_taken k depth ts t₁ t₂ rest name other first second same also m₁ m₂ ends = record {
  takes = λ start tree is so_far.
      let f₁ = goes place_at depth start ts t₁ ((codes "kind", tree) ∷ []) (first_key k) first so_far
      (key_is place_at (depth - 1) ts t₁ name (first_key k) first same m₁) in
      let f₂ = goes place_at depth start t₁ t₂ ((first_key k, f₁.tree) ∷ (codes "kind", tree) ∷ []) (second_key k)
      second f₁.opens (key_is place_at (depth - 1) t₁ t₂ other (second_key k) second also m₂) in
      kind_taken (of.TwoPlaces k) depth start t₂ rest (two_fields k tree f₁.tree f₂.tree) tree
      (two_places_with k first second) (two_found k tree f₁.tree f₂.tree).0 is f₂.opens ends
      (two_is k tree f₁.tree f₂.tree first second f₁.is f₂.is);
}

-- ---- a list of places

abbrev list_fields : PlaceListKind → Option Data → Option Data → Fields
list_fields k a b = (place_list_key k, b) ∷ (codes "kind", a) ∷ []

list_found : (k : PlaceListKind) (a b : Option Data) → (field (codes "kind") (list_fields k a b) ≡ a)
    × (field (place_list_key k) (list_fields k a b) ≡ b)
    × (are_known (codes "kind" ∷ place_list_key k ∷ []) (list_fields k a b) ≡ true)
list_found list.JsxFragment a b = (refl, refl, refl)
list_found list.StartMemoize a b = (refl, refl, refl)
list_found list.TemplateLiteral a b = (refl, refl, refl)

list_kind_is : (k : PlaceListKind) (a b : Option Data) (given : Option (List Place)) (places : List Place)
    → IsRead (list_at place_at) given b → places ≡ unwrap_or given []
    → (p : List ℕ) → place_list_at k p (object (members_of (list_fields k a b))) ≡ Ok (place_list_with k places)
list_kind_is k a b given places x same p =
    let fs = list_fields k a b in
    let found = list_found k a b in
    let e₁ : list_of place_at p (place_list_key k) (object (members_of fs)) ≡ Ok places =
    list_of_is place_at (place_list_key k) fs given places b found.1 x same p in
    let e₂ : known_keys (codes "kind" ∷ place_list_key k ∷ []) p (object (members_of fs)) ≡ Ok tt =
    known_is (codes "kind" ∷ place_list_key k ∷ []) fs found.2 p in
    ap (λ (r : Result (List Place) ValueFault). r
    >>= (λ x. known_keys (codes "kind" ∷ place_list_key k ∷ []) p (object (members_of fs))
    >>= (λ _. Ok (place_list_with k x)))) e₁
    ∙ ap (λ (r : Result ⊤ ValueFault). r >>= (λ _. Ok (place_list_with k places))) e₂

pub list_taken : (k : PlaceListKind) (depth : ℕ) (ts t₁ rest : List Token) (name : List ℕ) (places : List Place) → name
    ≡ place_list_key k → TakesList place_at (depth - 1) ts name places t₁ → t₁ ≡ Token.end_object ∷ rest
    → TakesKind (of.PlaceList k) depth ts (place_list_with k places) rest
list_taken k depth ts t₁ rest name places same m ends = record {
  takes = λ start tree is so_far.
      let l = list_key_is place_at (depth - 1) ts t₁ name (place_list_key k) places same m in
      let f = may_go (list_at place_at) depth start ts t₁ ((codes "kind", tree) ∷ []) (place_list_key k) l.list so_far
      l.may in
      kind_taken (of.PlaceList k) depth start t₁ rest (list_fields k tree f.tree) tree (place_list_with k places)
      (list_found k tree f.tree).0 is f.opens ends (list_kind_is k tree f.tree l.list places f.is l.is);
}
