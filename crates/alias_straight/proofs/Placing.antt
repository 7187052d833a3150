-- Numbers, texts and places, as they are taken off the tokens.
use Rattle.std.specs.Prelude.{Ok}
use Rattle.std.proofs.Common.{◌≡◌, ℕ, ◌-◌, ◌^◌, ◌<◌, List, [], ◌∷◌, length, Some, None, refl, ap, ◌∙◌, arith}
use Rattle.std.proofs.lemmas.Bool.{lt-ltb}
use Rattle.json.specs.Token.{Token}
use Rattle.json.specs.Json.{parse_map, after_end_array, items, value}
use Rattle.json.proofs.Grammar.{value_is}
use Rattle.serde_json.specs.Data.{number, unsigned, string, array, Items, no_items, item}
use Rattle.serde_json.specs.Read.{of_json, of_items, number_of, converted}
use Rattle.alias_json.specs.Direct.{wholes, IsWhole}
use Rattle.alias_json.specs.Reading.{number_at, text_at}
use Rattle.alias_json.specs.Names.{named, named_at, if_named}
use Rattle.alias_json.proofs.Directly.{three_read}
use Rattle.alias_json.proofs.Parsing.{opened_array, item_read, items_over}
use Rattle.alias_read.specs.Places.{place_of, place_at, span_at}
use Rattle.alias_straight.specs.Takes.{Takes}

whole_read : (depth : ℕ) (s : List ℕ) (rest : List Token) (n : ℕ) → number_of s ≡ Some (unsigned n)
    → converted of_json (value depth (Token.number s ∷ rest)) ≡ Some (number (unsigned n), rest)
whole_read depth s rest n e = ap (converted of_json) (value_is depth (Token.number s ∷ rest)) ∙ rw e refl

numeral_read : (depth : ℕ) (ts rest : List Token) (s : List ℕ) (n : ℕ) → ts ≡ Token.number s ∷ rest → number_of s
    ≡ Some (unsigned n) → converted of_json (value depth ts) ≡ Some (number (unsigned n), rest)
numeral_read depth ts rest s n first e = ap (λ (l : List Token). converted of_json (value depth l)) first
    ∙ whole_read depth s rest n e

number_is : (n : ℕ) → n < 2 ^ 32 → (p : List ℕ) → number_at p (number (unsigned n)) ≡ Ok n
number_is n x p = rw (lt-ltb n (2 ^ 32) x) refl

pub number_taken : (depth : ℕ) (ts rest : List Token) (n : ℕ) → IsWhole ts n rest → n < 2 ^ 32
    → Takes number_at depth ts n rest
number_taken depth ts rest n w x = record
    { tree = number (unsigned n); read = numeral_read depth ts rest w.numeral n w.first w.worth; is = number_is n x }

pub text_read : (depth : ℕ) (ts rest : List Token) (s : List ℕ) → ts ≡ Token.string s ∷ rest
    → converted of_json (value depth ts) ≡ Some (string s, rest)
text_read depth ts rest s first = ap (λ (l : List Token). converted of_json (value depth l)) first
    ∙ ap (converted of_json) (value_is depth (Token.string s ∷ rest))

pub text_taken : (depth : ℕ) (ts rest : List Token) (s : List ℕ) → ts ≡ Token.string s ∷ rest
    → Takes text_at depth ts s rest
text_taken depth ts rest s first = record { tree = string s; read = text_read depth ts rest s first; is = λ p. refl }

pub named_taken : {A : Type 0} (table : List (List ℕ × A)) (depth : ℕ) (ts rest : List Token) (s : List ℕ) (x : A) → ts
    ≡ Token.string s ∷ rest → named table s ≡ Some x → Takes (named_at table) depth ts x rest
named_taken table depth ts rest s x first e =
    record { tree = string s; read = text_read depth ts rest s first; is = λ p. ap (if_named p) e }

-- ---- places and spans

unspanned_is : (n : ℕ) → n < 2 ^ 32 → (p : List ℕ) → place_at p (number (unsigned n)) ≡ Ok (place_of n None)
unspanned_is n x p = rw (lt-ltb n (2 ^ 32) x) refl

pub unspanned_taken : (depth : ℕ) (ts rest : List Token) (s : List ℕ) (n : ℕ) → ts ≡ Token.number s ∷ rest → number_of s
    ≡ Some (unsigned n) → n < 2 ^ 32 → Takes place_at depth ts (place_of n None) rest
unspanned_taken depth ts rest s n first e x =
    record { tree = number (unsigned n); read = numeral_read depth ts rest s n first e; is = unspanned_is n x }

spanned_is : (a b c : ℕ) → a < 2 ^ 32 → b < 2 ^ 32 → c < 2 ^ 32 → (p : List ℕ) → place_at p (wholes (a ∷ b ∷ c ∷ []))
    ≡ Ok (place_of a (Some (record { start = b; end = c })))
spanned_is a b c x y z p = rw (lt-ltb a (2 ^ 32) x, lt-ltb b (2 ^ 32) y, lt-ltb c (2 ^ 32) z) refl

pub spanned_taken : (depth a b c : ℕ) (ts t₁ t₂ t₃ r rest : List Token) → 0 < depth → ts ≡ Token.begin_array ∷ t₁
    → IsWhole t₁ a t₂ → IsWhole t₂ b t₃ → IsWhole t₃ c r → after_end_array r ≡ Some rest
    → a < 2 ^ 32 → b < 2 ^ 32 → c < 2 ^ 32
    → Takes place_at depth ts (place_of a (Some (record { start = b; end = c }))) rest
spanned_taken depth a b c ts t₁ t₂ t₃ r rest h begins u v w e x y z =
    record {
      tree = wholes (a ∷ b ∷ c ∷ []);
      read = three_read depth a b c ts t₁ t₂ t₃ r rest h begins u v w e;
      is = spanned_is a b c x y z;
    }

one_whole : (depth n k : ℕ) (s : List ℕ) (ts rest : List Token) (more : Items) → number_of s ≡ Some (unsigned k) → 0 < n
    → converted of_items (items (value depth) (n - 1) ts) ≡ Some (more, rest)
    → converted of_items (items (value depth) n (Token.number s ∷ ts)) ≡ Some (item (number (unsigned k)) more, rest)
one_whole depth n k s ts rest more e some then =
    item_read (value depth) n (Token.number s ∷ ts) ts (number (unsigned k)) some refl (whole_read depth s ts k e)
    ∙ ap (parse_map (item (number (unsigned k)))) then

two_written : (depth a b : ℕ) (s t : List ℕ) (r rest : List Token) → 0 < depth → number_of s ≡ Some (unsigned a)
    → number_of t ≡ Some (unsigned b) → after_end_array r ≡ Some rest
    → converted of_json (value depth (Token.begin_array ∷ Token.number s ∷ Token.number t ∷ r))
    ≡ Some (wholes (a ∷ b ∷ []), rest)
two_written depth a b s t r rest h p q e =
    let n = length (Token.number s ∷ Token.number t ∷ r) in
    let over = items_over (value (depth - 1)) (n - 1 - 1) r rest (omega arith) e in
    let second = one_whole (depth - 1) (n - 1) b t r rest no_items q (omega arith) over in
    let first = one_whole (depth - 1) n a s (Token.number t ∷ r) rest _ p (omega arith) second in
    opened_array depth _ h ∙ ap (parse_map array) first

span_is : (a b : ℕ) → a < 2 ^ 32 → b < 2 ^ 32 → (p : List ℕ) → span_at p (wholes (a ∷ b ∷ []))
    ≡ Ok (record { start = a; end = b })
span_is a b x y p = rw (lt-ltb a (2 ^ 32) x, lt-ltb b (2 ^ 32) y) refl

pub span_taken : (depth a b : ℕ) (ts t₁ t₂ r rest : List Token) → 0 < depth → ts ≡ Token.begin_array ∷ t₁
    → IsWhole t₁ a t₂ → IsWhole t₂ b r → after_end_array r ≡ Some rest
    → a < 2 ^ 32 → b < 2 ^ 32 → Takes span_at depth ts (record { start = a; end = b }) rest
span_taken depth a b ts t₁ t₂ r rest h begins u v e x y =
    let tokens : ts ≡ Token.begin_array ∷ Token.number u.numeral ∷ Token.number v.numeral ∷ r =
    begins ∙ ap (λ l. Token.begin_array ∷ l) (u.first ∙ ap (λ l. Token.number u.numeral ∷ l) v.first) in
    record {
      tree = wholes (a ∷ b ∷ []);
      read = ap (λ (l : List Token). converted of_json (value depth l)) tokens
          ∙ two_written depth a b u.numeral v.numeral r rest h u.worth v.worth e;
      is = span_is a b x y;
    }
