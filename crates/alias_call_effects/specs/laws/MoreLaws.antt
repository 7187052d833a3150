-- What calls ask of an environment is the same where it has more identifiers of which nothing is known.
use Rattle.std.specs.Prelude.{◌≡◌, ℕ, zero, suc, false, List, [], ◌∷◌, ◌++◌, length, slice_get, Option, Some, None}
use Rattle.std.specs.Prelude.{refl, option_and_then}
use Rattle.std.specs.Option.{option_map_or}
use Rattle.std.proofs.Common.{ap, sym, ◌∙◌, arith}
use Rattle.std.proofs.lemmas.Option.{slice_get_past}
use Rattle.alias_base.specs.declared.ids.IdentifierId.{IdentifierId}
use Rattle.alias_hir.specs.declared.env.Environment.{Environment}
use Rattle.alias_hir.specs.declared.env.Identifier.{Identifier}
use Rattle.alias_hir.specs.declared.place.Span.{Span}
use Rattle.alias_hir.specs.declared.types.Ty as ty
use Rattle.alias_hir.specs.declared.types.Ty.{Ty}
use Rattle.alias_hir.specs.declared.types.Ty.TheVariants.{Var}
use Rattle.alias_hir.specs.Tables.{fresh_identifier, with_identifier, function_signature}
use Rattle.alias_hir.specs.Types.{is_builtin_collection_type, type_at, type_of, is_builtin_collection_at}
use Rattle.alias_tables.specs.declared.temporaries.Temporary.{Temporary}
use Rattle.alias_tables.specs.write_back.WriteBack.{with_identifiers}
use Rattle.alias_calls.specs.Immutable.{is_long_in, signature_at}

-- calls ask the same of both environments
pub record AsksTheSame (e f : Environment) : Type 0 where
  pub config : e.config ≡ f.config
  pub functions : e.functions ≡ f.functions
  pub collections : (x : IdentifierId) → is_builtin_collection_at e x ≡ is_builtin_collection_at f x
  pub signatures : (x : IdentifierId) → signature_at e x ≡ signature_at f x
  pub long : (n : ℕ) → is_long_in (slice_get e.identifiers n) ≡ is_long_in (slice_get f.identifiers n)

-- ---- types

-- what is asked of a type, where of one of which nothing is known the answer is the same as where there is none
module _ {X : Type 0} (q : Ty → X) (d : X) (unknown : q Var ≡ d) where
  asked_more : (ts : List Ty) (n : ℕ) → option_map_or q (slice_get (ts ++ Var ∷ []) n) d
      ≡ option_map_or q (slice_get ts n) d
  asked_more [] zero = unknown
  asked_more [] (suc n) = refl
  asked_more (t ∷ ts) zero = refl
  asked_more (t ∷ ts) (suc n) = asked_more ts n

  asked_at : (span : Option Span) (env : Environment) (o : Option Identifier)
      → option_map_or q (type_at (with_identifier span env) o) d ≡ option_map_or q (type_at env o) d
  asked_at span env None = refl
  asked_at span env (Some i) = asked_more env.types i.type_.0

  asked_new : (env : Environment) → option_map_or q (slice_get (env.types ++ Var ∷ []) (length env.types)) d ≡ d
  asked_new env =
      asked_more env.types (length env.types)
      ∙ ap (λ (o : Option Ty). option_map_or q o d) (slice_get_past env.types (length env.types) (omega arith))

  asked_among : (env : Environment) (xs : List Identifier) (y : Identifier) (n : ℕ)
      → option_map_or q (slice_get env.types y.type_.0) d ≡ d
      → option_map_or q (type_at env (slice_get (xs ++ y ∷ []) n)) d ≡ option_map_or q (type_at env (slice_get xs n)) d
  asked_among env [] y zero h = h
  asked_among env [] y (suc n) h = refl
  asked_among env (x ∷ xs) y zero h = refl
  asked_among env (x ∷ xs) y (suc n) h = asked_among env xs y n h

  asked_with_one : (span : Option Span) (env : Environment) (x : IdentifierId)
      → option_map_or q (type_of (with_identifier span env) x) d ≡ option_map_or q (type_of env x) d
  asked_with_one span env x =
      asked_among (with_identifier span env) env.identifiers
      (fresh_identifier span (length env.identifiers) (length env.types)) x.0 (asked_new env)
      ∙ asked_at span env (slice_get env.identifiers x.0)

no_collection : is_builtin_collection_type Var ≡ false
unfolding ty.out-Ty denote.Hole.Carrier.out
no_collection = refl

no_signature : (env : Environment) → function_signature env Var ≡ None
unfolding ty.out-Ty denote.Hole.Carrier.out
no_signature env = refl

asked_or : {X : Type 0} (q : Ty → Option X) (o : Option Ty) → option_and_then q o ≡ option_map_or q o None
asked_or q None = refl
asked_or q (Some t) = refl

signature_with_one : (span : Option Span) (env : Environment) (x : IdentifierId)
    → signature_at (with_identifier span env) x ≡ signature_at env x
signature_with_one span env x =
    asked_or (function_signature env) (type_of (with_identifier span env) x)
    ∙ asked_with_one (function_signature env) None (no_signature env) span env x
    ∙ sym (asked_or (function_signature env) (type_of env x))

-- ---- ranges

long_among : (xs : List Identifier) (y : Identifier) (n : ℕ) → is_long_in (Some y) ≡ false
    → is_long_in (slice_get (xs ++ y ∷ []) n) ≡ is_long_in (slice_get xs n)
long_among [] y zero h = h
long_among [] y (suc n) h = refl
long_among (x ∷ xs) y zero h = refl
long_among (x ∷ xs) y (suc n) h = long_among xs y n h

-- ---- more identifiers

asks_with_one : (span : Option Span) (env : Environment) → AsksTheSame (with_identifier span env) env
asks_with_one span env = record {
  config = refl;
  functions = refl;
  collections = asked_with_one is_builtin_collection_type false no_collection span env;
  signatures = signature_with_one span env;
  long = λ n. long_among env.identifiers (fresh_identifier span (length env.identifiers) (length env.types)) n refl;
}

asks_through : (e f g : Environment) → AsksTheSame e f → AsksTheSame f g → AsksTheSame e g
asks_through e f g a b = record {
  config = a.config ∙ b.config;
  functions = a.functions ∙ b.functions;
  collections = λ x. a.collections x ∙ b.collections x;
  signatures = λ x. a.signatures x ∙ b.signatures x;
  long = λ n. a.long n ∙ b.long n;
}

pub asks_with : (ts : List Temporary) (env : Environment) → AsksTheSame (with_identifiers ts env) env
asks_with [] env = record {
  config = refl;
  functions = refl;
  collections = λ x. refl;
  signatures = λ x. refl;
  long = λ n. refl;
}
asks_with (t ∷ ts) env = asks_through (with_identifiers ts (with_identifier t.place.span env))
    (with_identifier t.place.span env) env (asks_with ts (with_identifier t.place.span env))
    (asks_with_one t.place.span env)
