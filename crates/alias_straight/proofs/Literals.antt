-- Tags and names of properties, as they are taken off the tokens.
use Rattle.std.specs.Prelude.{Result, Ok, Err, ⊤}
use Rattle.std.proofs.Common.{◌≡◌, ℕ, List, [], ◌∷◌, Option, Some, refl, ap, subst, ◌∙◌}
use Rattle.alias_base.specs.Answer.{◌>>=◌}
use Rattle.json.specs.Token.{Token}
use Rattle.json.specs.Json.{value}
use Rattle.json.proofs.Grammar.{value_is}
use Rattle.serde_json.specs.Data.{Data, null, string}
use Rattle.serde_json.specs.Read.{of_json, converted}
use Rattle.alias_hir.specs.declared.place.Place.{Place}
use Rattle.alias_hir.specs.declared.value.JsxTag.TheVariants as tag
use Rattle.alias_hir.specs.declared.value.PropertyLiteral.TheVariants as literal
use Rattle.alias_json.specs.declared.fault.ValueFault.{ValueFault}
use Rattle.alias_read.specs.Places.{place_at}
use Rattle.alias_read.specs.Elements.{tag_of, tag_at, literal_at}
use Rattle.alias_straight.specs.Takes.{Takes}
use Rattle.alias_straight.proofs.Finding.{not_null}
use Rattle.alias_straight.proofs.Placing.{text_read}

abbrev IsErr : {A : Type 0} → Result A ValueFault → Type 0
IsErr (Ok x) = ⊥
IsErr (Err e) = ⊤

no_place : (x : Place) → place_at [] null ≡ Ok x → ⊥
no_place x e = subst IsErr e tt

pub tag_there : (x : Place) (d : Data) → ((p : List ℕ) → place_at p d ≡ Ok x) → (p : List ℕ) → tag_at p d
    ≡ Ok (tag.Place x)
tag_there x d is p = ap (λ (r : Result (Option Place) ValueFault). r >>= (λ place. Ok (tag_of place)))
    (not_null place_at no_place p x d is)

pub null_read : (depth : ℕ) (ts rest : List Token) → ts ≡ Token.null ∷ rest → converted of_json (value depth ts)
    ≡ Some (null, rest)
null_read depth ts rest first = ap (λ (l : List Token). converted of_json (value depth l)) first
    ∙ ap (converted of_json) (value_is depth (Token.null ∷ rest))

pub builtin_taken : (depth : ℕ) (ts rest : List Token) → ts ≡ Token.null ∷ rest → Takes tag_at depth ts tag.Builtin rest
builtin_taken depth ts rest first = record { tree = null; read = null_read depth ts rest first; is = λ p. refl }

pub no_literal_taken : (depth : ℕ) (ts rest : List Token) → ts ≡ Token.null ∷ rest
    → Takes literal_at depth ts literal.Number rest
no_literal_taken depth ts rest first = record { tree = null; read = null_read depth ts rest first; is = λ p. refl }

pub literal_taken : (depth : ℕ) (ts rest : List Token) (s : List ℕ) → ts ≡ Token.string s ∷ rest
    → Takes literal_at depth ts (literal.String s) rest
literal_taken depth ts rest s first = record { tree = string s; read = text_read depth ts rest s first; is = λ p. refl }
