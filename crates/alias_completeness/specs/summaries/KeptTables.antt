-- What the passes keep of the tables of an environment.
use Rattle.std.specs.Prelude.{◌≡◌, ℕ, ◌+◌, ◌<◌, ◌≤◌, List, [], ◌∷◌, ◌++◌, Option, option_map, map, length, slice_get}
use Rattle.std.specs.Prelude.{refl}
use Rattle.std.proofs.Common.{zero, suc, ap, sym, ◌∙◌, arith, length-append}
use Rattle.std.proofs.lemmas.List.{length-map}
use Rattle.std.proofs.lemmas.Option.{slice_get-map}
use Rattle.alias_base.specs.declared.ids.DeclarationId.{DeclarationId}
use Rattle.alias_base.specs.declared.ids.TypeId.{TypeId}
use Rattle.alias_hir.specs.Tables.{fresh_identifier, with_identifier}
use Rattle.alias_hir.specs.declared.env.Environment.{Environment}
use Rattle.alias_hir.specs.declared.env.Identifier.{Identifier}
use Rattle.alias_hir.specs.declared.place.Span.{Span}
use Rattle.alias_hir.specs.declared.types.Ty.TheVariants.{Var}

-- the declaration of an identifier, and its type
abbrev pub bound_to : Identifier → DeclarationId × TypeId
bound_to i = (i.declaration_id, i.type_)

-- identifiers and types that were there stay, but for ranges, scopes and the like, and there may be further ones
pub record TablesKept (old new : Environment) : Type 0 where
  pub identifiers : (k : ℕ) → k < length old.identifiers → option_map bound_to (slice_get new.identifiers k)
      ≡ option_map bound_to (slice_get old.identifiers k)
  pub longer : length old.identifiers ≤ length new.identifiers
  pub types : (k : ℕ) → k < length old.types → slice_get new.types k ≡ slice_get old.types k
  pub more_types : length old.types ≤ length new.types
  pub shapes : new.shapes ≡ old.shapes
  pub config : new.config ≡ old.config

pub tables_self : (env : Environment) → TablesKept env env
tables_self env = record {
  identifiers = λ k h. refl;
  longer = omega arith;
  types = λ k h. refl;
  more_types = omega arith;
  shapes = refl;
  config = refl;
}

at_least : (k n m : ℕ) → k < n → n ≤ m → k < m
at_least k n m h g = omega arith

no_less : (a b c : ℕ) → a ≤ b → b ≤ c → a ≤ c
no_less a b c g h = omega arith

pub tables_then : (a b c : Environment) → TablesKept a b → TablesKept b c → TablesKept a c
tables_then a b c g h = record {
  identifiers = λ k l. h.identifiers k (at_least k (length a.identifiers) (length b.identifiers) l g.longer)
      ∙ g.identifiers k l;
  longer = no_less (length a.identifiers) (length b.identifiers) (length c.identifiers) g.longer h.longer;
  types = λ k l. h.types k (at_least k (length a.types) (length b.types) l g.more_types) ∙ g.types k l;
  more_types = no_less (length a.types) (length b.types) (length c.types) g.more_types h.more_types;
  shapes = h.shapes ∙ g.shapes;
  config = h.config ∙ g.config;
}

as_many : (n m : ℕ) → m ≡ n → n ≤ m
as_many n m e = omega arith

-- identifiers that differ in other things alone
pub tables_alike : (old new : Environment) → map bound_to new.identifiers ≡ map bound_to old.identifiers → new.types
    ≡ old.types → new.shapes ≡ old.shapes → new.config ≡ old.config → TablesKept old new
tables_alike old new ids types shapes config = record {
  identifiers = λ k h. sym (slice_get-map bound_to new.identifiers k) ∙ ap (λ xs. slice_get xs k) ids
      ∙ slice_get-map bound_to old.identifiers k;
  longer = as_many (length old.identifiers) (length new.identifiers)
      (sym (length-map new.identifiers bound_to) ∙ ap length ids ∙ length-map old.identifiers bound_to);
  types = λ k h. ap (λ ts. slice_get ts k) types;
  more_types = as_many (length old.types) (length new.types) (ap length types);
  shapes = shapes;
  config = config;
}

-- what is forgotten of identifiers beside
pub bound_without : (h : Identifier → Identifier) → ((i : Identifier) → bound_to (h i) ≡ bound_to i)
    → (is : List Identifier) → map bound_to (map h is) ≡ map bound_to is
bound_without h e [] = refl
bound_without h e (i ∷ is) = ap (λ z. z ∷ map bound_to (map h is)) (e i)
    ∙ ap (λ zs. bound_to i ∷ zs) (bound_without h e is)

-- identifiers that are the same once that is forgotten
pub bound_alike : (h : Identifier → Identifier) → ((i : Identifier) → bound_to (h i) ≡ bound_to i)
    → (is js : List Identifier) → map h js ≡ map h is → map bound_to js ≡ map bound_to is
bound_alike h e is js same = sym (bound_without h e js) ∙ ap (λ xs. map bound_to xs) same ∙ bound_without h e is

still_there : {X : Type 0} (xs ys : List X) (k : ℕ) → k < length xs → slice_get (xs ++ ys) k ≡ slice_get xs k
still_there [] ys k h = absurd (omega arith)
still_there (x ∷ xs) ys zero h = refl
still_there (x ∷ xs) ys (suc k) h = still_there xs ys k (omega arith)

longer_by : (n m k : ℕ) → m ≡ n + k → n ≤ m
longer_by n m k e = omega arith

-- a further identifier
pub tables_more : (span : Option Span) (env : Environment) → TablesKept env (with_identifier span env)
tables_more span env =
    let i : Identifier = fresh_identifier span (length env.identifiers) (length env.types) in
    record {
      identifiers = λ k h. ap (λ (o : Option Identifier). option_map bound_to o)
          (still_there env.identifiers (i ∷ []) k h);
      longer = longer_by (length env.identifiers) (length (with_identifier span env).identifiers) (length (i ∷ []))
          (length-append env.identifiers (i ∷ []));
      types = λ k h. still_there env.types (Var ∷ []) k h;
      more_types = longer_by (length env.types) (length (with_identifier span env).types) (length (Var ∷ []))
          (length-append env.types (Var ∷ []));
      shapes = refl;
      config = refl;
    }
