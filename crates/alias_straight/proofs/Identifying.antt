-- Identifiers, as they are taken off the tokens.
use Rattle.std.specs.Prelude.{Result, Ok, Err, ⊤, codes}
use Rattle.std.proofs.Common.{◌≡◌, ℕ, ◌-◌, ◌<◌, List, [], ◌∷◌, Option, Some, None, refl, subst}
use Rattle.json.specs.Token.{Token}
use Rattle.serde_json.specs.Data.{Data, null, object, string}
use Rattle.alias_hir.specs.declared.env.IdentifierName.{IdentifierName}
use Rattle.alias_hir.specs.declared.env.IdentifierName.TheVariants.{Named, Promoted}
use Rattle.alias_hir.specs.declared.env.Identifier.{Identifier}
use Rattle.alias_hir.specs.declared.place.Span.{Span}
use Rattle.alias_json.specs.Reading.{number_at, text_at, known_keys}
use Rattle.alias_json.specs.declared.fault.ValueFault.{ValueFault}
use Rattle.alias_read.specs.Json.{required, optional}
use Rattle.alias_read.specs.Places.{span_at}
use Rattle.alias_read.specs.Tables.{name_at, identifier_at}
use Rattle.alias_straight.specs.Tables.{identifier_of}
use Rattle.alias_straight.specs.Tables.{identifier_of}
use Rattle.alias_straight.specs.Tables.{identifier_of}
use Rattle.alias_straight.specs.Tables.{identifier_of}
use Rattle.alias_straight.specs.Tables.{identifier_of}
use Rattle.alias_straight.specs.Takes.{Takes}
use Rattle.alias_straight.specs.Members.{TakesMember, MayTake, Fields, members_of, IsRead}
use Rattle.alias_straight.proofs.Fielding.{opened, goes, may_go, closed}
use Rattle.alias_straight.proofs.Finding.{required_is, optional_is, known_is}
use Rattle.alias_straight.proofs.Placing.{text_read}

pub name_taken : (depth : ℕ) (ts rest : List Token) (s : List ℕ) → ts ≡ Token.string s ∷ rest
    → Takes name_at depth ts (Named s) rest
name_taken depth ts rest s first = record { tree = string s; read = text_read depth ts rest s first; is = λ p. refl }

abbrev IsErr : {A : Type 0} → Result A ValueFault → Type 0
IsErr (Ok x) = ⊥
IsErr (Err e) = ⊤

pub no_span : (s : Span) → span_at [] null ≡ Ok s → ⊥
no_span s e = subst IsErr e tt

no_name : (s : IdentifierName) → name_at [] null ≡ Ok s → ⊥
no_name s e = subst IsErr e tt

promoted_is : (a : Option Data) (name : List ℕ) → IsRead text_at (Some name) a → (p : List ℕ)
    → name_at p (object (members_of ((codes "promoted", a) ∷ []))) ≡ Ok (Promoted name)
promoted_is a name x p =
    let fs : Fields = (codes "promoted", a) ∷ [] in
    let e₁ : required text_at p (codes "promoted") (object (members_of fs)) ≡ Ok name =
    required_is text_at (codes "promoted") fs name a refl x p in
    let e₂ : known_keys (codes "promoted" ∷ []) p (object (members_of fs)) ≡ Ok tt =
    known_is (codes "promoted" ∷ []) fs refl p in
    rw (e₁, e₂) refl

pub promoted_taken : (depth : ℕ) (start t₀ t₁ rest : List Token) (name : List ℕ) → 0 < depth → start
    ≡ Token.begin_object ∷ t₀ → TakesMember text_at (depth - 1) t₀ (codes "promoted") name t₁ → t₁ ≡ Token.end_object
    ∷ rest
    → Takes name_at depth start (Promoted name) rest
promoted_taken depth start t₀ t₁ rest name h begins m ends =
    let f = goes text_at depth start t₀ t₁ [] (codes "promoted") name (opened depth start t₀ h begins) m in
    record {
      tree = object (members_of ((codes "promoted", f.tree) ∷ []));
      read = closed depth start t₁ rest ((codes "promoted", f.tree) ∷ []) f.opens ends;
      is = promoted_is f.tree name f.is;
    }

abbrev identifier_fields : Option Data → Option Data → Option Data → Option Data → Fields
identifier_fields a b c d = (codes "type", b) ∷ (codes "span", d) ∷ (codes "name", c) ∷ (codes "declaration", a) ∷ []

identifier_is : (a b c d : Option Data) (declaration t : ℕ) (name : Option IdentifierName) (span : Option Span)
    → IsRead number_at (Some declaration) a → IsRead number_at (Some t) b → IsRead name_at name c
    → IsRead span_at span d
    → (p : List ℕ) → identifier_at p (object (members_of (identifier_fields a b c d)))
    ≡ Ok (identifier_of declaration t name span)
identifier_is a b c d declaration t name span x y z w p =
    let fs = identifier_fields a b c d in
    let e₁ : required number_at p (codes "declaration") (object (members_of fs)) ≡ Ok declaration =
    required_is number_at (codes "declaration") fs declaration a refl x p in
    let e₂ : required number_at p (codes "type") (object (members_of fs)) ≡ Ok t =
    required_is number_at (codes "type") fs t b refl y p in
    let e₃ : optional name_at p (codes "name") (object (members_of fs)) ≡ Ok name =
    optional_is name_at no_name (codes "name") fs name c refl z p in
    let e₄ : optional span_at p (codes "span") (object (members_of fs)) ≡ Ok span =
    optional_is span_at no_span (codes "span") fs span d refl w p in
    let e₅ : known_keys (codes "declaration" ∷ codes "type" ∷ codes "name" ∷ codes "span" ∷ []) p
    (object (members_of fs)) ≡ Ok tt = known_is
    (codes "declaration" ∷ codes "type" ∷ codes "name" ∷ codes "span" ∷ []) fs refl p in
    rw (e₁, e₂, e₃, e₄, e₅) refl

pub identifier_taken : (depth : ℕ) (start t₀ t₁ t₂ t₃ t₄ rest : List Token) (declaration t : ℕ)
    (name : Option IdentifierName) (span : Option Span) → 0 < depth → start ≡ Token.begin_object ∷ t₀
    → TakesMember number_at (depth - 1) t₀ (codes "declaration") declaration t₁
    → MayTake name_at (depth - 1) t₁ (codes "name") name t₂
    → MayTake span_at (depth - 1) t₂ (codes "span") span t₃ → TakesMember number_at (depth - 1) t₃ (codes "type") t t₄
    → t₄ ≡ Token.end_object ∷ rest
    → Takes identifier_at depth start (identifier_of declaration t name span) rest
identifier_taken depth start t₀ t₁ t₂ t₃ t₄ rest declaration t name span h begins m₁ m₂ m₃ m₄ ends =
    let f₁ = goes number_at depth start t₀ t₁ [] (codes "declaration") declaration (opened depth start t₀ h begins)
    m₁ in
    let f₂ = may_go name_at depth start t₁ t₂ _ (codes "name") name f₁.opens m₂ in
    let f₃ = may_go span_at depth start t₂ t₃ _ (codes "span") span f₂.opens m₃ in
    let f₄ = goes number_at depth start t₃ t₄ _ (codes "type") t f₃.opens m₄ in
    record {
      tree = object (members_of (identifier_fields f₁.tree f₄.tree f₂.tree f₃.tree));
      read = closed depth start t₄ rest (identifier_fields f₁.tree f₄.tree f₂.tree f₃.tree) f₄.opens ends;
      is = identifier_is f₁.tree f₄.tree f₂.tree f₃.tree declaration t name span f₁.is f₄.is f₂.is f₃.is;
    }

-- the type stands behind the declaration

early_is : (d0 d1 d2 d3 : Option Data) (declaration : ℕ) (t : ℕ) (name : Option IdentifierName) (span : Option Span)
    → IsRead number_at (Some declaration) d0 → IsRead number_at (Some t) d1 → IsRead name_at name d2
    → IsRead span_at span d3 → (p : List ℕ)
    → identifier_at p (object (members_of ((codes "span", d3) ∷ (codes "name", d2) ∷ (codes "type", d1)
    ∷ (codes "declaration", d0) ∷ []))) ≡ Ok (identifier_of declaration t name span)
early_is d0 d1 d2 d3 declaration t name span x_declaration x_t x_name x_span p =
    let fs : Fields = (codes "span", d3) ∷ (codes "name", d2) ∷ (codes "type", d1) ∷ (codes "declaration", d0) ∷ [] in
    let e0 : required number_at p (codes "declaration") (object (members_of fs)) ≡ Ok declaration =
    required_is number_at (codes "declaration") fs declaration d0 refl x_declaration p in
    let e1 : required number_at p (codes "type") (object (members_of fs)) ≡ Ok t =
    required_is number_at (codes "type") fs t d1 refl x_t p in
    let e2 : optional name_at p (codes "name") (object (members_of fs)) ≡ Ok name =
    optional_is name_at no_name (codes "name") fs name d2 refl x_name p in
    let e3 : optional span_at p (codes "span") (object (members_of fs)) ≡ Ok span =
    optional_is span_at no_span (codes "span") fs span d3 refl x_span p in
    let e4 : known_keys (codes "declaration" ∷ codes "type" ∷ codes "name" ∷ codes "span" ∷ []) p
    (object (members_of fs)) ≡ Ok tt = known_is
    (codes "declaration" ∷ codes "type" ∷ codes "name" ∷ codes "span" ∷ []) fs refl p in
    rw (e0, e1, e2, e3, e4) refl

pub early_taken : (depth : ℕ) (start t0 t1 t2 t3 t4 rest : List Token) (declaration : ℕ) (t : ℕ)
    (name : Option IdentifierName) (span : Option Span) → 0 < depth → start ≡ Token.begin_object ∷ t0
    → TakesMember number_at (depth - 1) t0 (codes "declaration") declaration t1
    → TakesMember number_at (depth - 1) t1 (codes "type") t t2 → MayTake name_at (depth - 1) t2 (codes "name") name t3
    → MayTake span_at (depth - 1) t3 (codes "span") span t4 → t4 ≡ Token.end_object ∷ rest
    → Takes identifier_at depth start (identifier_of declaration t name span) rest
early_taken depth start t0 t1 t2 t3 t4 rest declaration t name span h begins m0 m1 m2 m3 ends =
    let f0 = goes number_at depth start t0 t1 [] (codes "declaration") declaration (opened depth start t0 h begins)
    m0 in
    let f1 = goes number_at depth start t1 t2 _ (codes "type") t f0.opens m1 in
    let f2 = may_go name_at depth start t2 t3 _ (codes "name") name f1.opens m2 in
    let f3 = may_go span_at depth start t3 t4 _ (codes "span") span f2.opens m3 in
    record {
      tree = object (members_of ((codes "span", f3.tree) ∷ (codes "name", f2.tree) ∷ (codes "type", f1.tree)
          ∷ (codes "declaration", f0.tree) ∷ []));
      read = closed depth start t4 rest ((codes "span", f3.tree) ∷ (codes "name", f2.tree) ∷ (codes "type", f1.tree)
          ∷ (codes "declaration", f0.tree) ∷ []) f3.opens ends;
      is = early_is f0.tree f1.tree f2.tree f3.tree declaration t name span f0.is f1.is f2.is f3.is;
    }
