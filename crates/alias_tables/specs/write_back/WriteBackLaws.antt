-- Identifiers that were added stand behind those that were there.
use Rattle.std.specs.Prelude.{◌≡◌, ℕ, zero, suc, ◌+◌, ◌<◌, List, [], ◌∷◌, ◌++◌, map, take, drop, length, Option, refl}
use Rattle.std.specs.Prelude.{slice_set}
use Rattle.std.proofs.Common.{sym, ◌∙◌, ap, append_assoc, append-nil, arith, get_or}
use Rattle.std.proofs.lemmas.List.Edits.{map_over_more}
use Rattle.std.proofs.lemmas.List.{take-append-le, take_all}
use Rattle.alias_hir.specs.declared.env.Environment.{Environment}
use Rattle.alias_hir.specs.declared.env.Identifier.{Identifier}
use Rattle.alias_hir.specs.declared.place.Span.{Span}
use Rattle.alias_hir.specs.declared.types.Ty.{Ty}
use Rattle.alias_hir.specs.declared.types.Ty.TheVariants.{Var}
use Rattle.alias_hir.specs.Tables.{fresh_identifier, with_identifier}
use Rattle.alias_tables.specs.declared.temporaries.Temporary.{Temporary}
use Rattle.alias_tables.specs.write_back.WriteBack.{with_identifiers}

-- the environment has more identifiers and types behind its own, and is the same in all else
pub record HasMore (env more : Environment) : Type 0 where
  pub identifiers : List Identifier
  pub types : List Ty
  pub is : record env { identifiers = env.identifiers ++ identifiers; types = env.types ++ types } ≡ more

has_itself : (env : Environment) → HasMore env env
has_itself env = record {
  identifiers = [];
  types = [];
  is = ap (λ xs. record env { identifiers = xs; types = env.types ++ [] }) (append-nil env.identifiers)
      ∙ ap (λ ts. record env { types = ts }) (append-nil env.types);
}

has_one_and_more : (span : Option Span) (env more : Environment) → HasMore (with_identifier span env) more
    → HasMore env more
has_one_and_more span env more h = record {
  identifiers = fresh_identifier span (length env.identifiers) (length env.types) ∷ h.identifiers;
  types = Var ∷ h.types;
  is =
      ap (λ xs. record env { identifiers = xs; types = env.types ++ Var ∷ h.types })
      (sym (append_assoc env.identifiers (fresh_identifier span (length env.identifiers) (length env.types) ∷ [])
      h.identifiers))
      ∙ ap (λ ts. record env {
        identifiers =
            (env.identifiers ++ fresh_identifier span (length env.identifiers) (length env.types) ∷ [])
            ++ h.identifiers;
        types = ts;
      }) (sym (append_assoc env.types (Var ∷ []) h.types))
      ∙ h.is;
}

pub with_identifiers_has_more : (ts : List Temporary) (env : Environment) → HasMore env (with_identifiers ts env)
with_identifiers_has_more [] env = has_itself env
with_identifiers_has_more (t ∷ ts) env =
    has_one_and_more t.place.span env (with_identifiers ts (with_identifier t.place.span env))
    (with_identifiers_has_more ts (with_identifier t.place.span env))

take_front : {A : Type 0} (xs ys : List A) → take (length xs) (xs ++ ys) ≡ xs
take_front xs ys = grind (arith, take-append-le, take_all)

abbrev pub cut : ℕ → ℕ → Environment → Environment
cut identifiers types env = record env { identifiers = take identifiers env.identifiers; types = take types env.types }

cut_of_more : (env more : Environment) → HasMore env more → cut (length env.identifiers) (length env.types) more ≡ env
cut_of_more env more h =
    ap (cut (length env.identifiers) (length env.types)) (sym h.is)
    ∙ ap (λ xs. record env { identifiers = xs; types = take (length env.types) (env.types ++ h.types) })
    (take_front env.identifiers h.identifiers)
    ∙ ap (λ ts. record env { types = ts }) (take_front env.types h.types)

-- without them the environment is as it was
pub cut_of_identifiers : (ts : List Temporary) (env : Environment)
    → cut (length env.identifiers) (length env.types) (with_identifiers ts env) ≡ env
cut_of_identifiers ts env = cut_of_more env (with_identifiers ts env) (with_identifiers_has_more ts env)

-- ---- one item more of a list is changed

module _ {A : Type 0} where
  read_again : (ys : List A) (i : ℕ) (d : A) → i < length ys → get_or ys i d ≡ get_or ys i (get_or ys i d)
  read_again [] i d h = absurd (omega arith)
  read_again (y ∷ ys) zero d h = refl
  read_again (y ∷ ys) (suc i) d h = read_again ys i d (omega arith)

  pub item_step : (f : A → A) (xs ys : List A) (i : ℕ) (d : A) → i < length xs → length ys ≡ length xs → ys
      ≡ map f (take i xs) ++ drop i xs
      → slice_set ys i (f (get_or ys i d)) ≡ map f (take (i + 1) xs) ++ drop (i + 1) xs
  item_step f xs ys i d h same is = map_over_more f xs ys i (get_or ys i d) h is (read_again ys i d (omega arith))

-- one identifier more, for the temporary at an index
pub one_more : (ts : List Temporary) (i : ℕ) (env : Environment) (t : Temporary) → i < length ts → t ≡ get_or ts i t
    → with_identifier t.place.span (with_identifiers (take i ts) env) ≡ with_identifiers (take (i + 1) ts) env
one_more [] i env t h is = absurd (omega arith)
one_more (x ∷ ts) zero env t h is = ap (λ (z : Temporary). with_identifier z.place.span env) is
one_more (x ∷ ts) (suc i) env t h is =
    one_more ts i (with_identifier x.place.span env) t (omega arith) is
    ∙ ap (λ n. with_identifiers (take n (x ∷ ts)) env) (let e : suc (i + 1) ≡ suc i + 1 = omega arith in e)
