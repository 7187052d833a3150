-- What each effects pass looked at is what the environment has that is computed of what is handed out.
use Rattle.std.specs.Prelude.{◌≡◌, ℕ, zero, suc, ◌+◌, ◌-◌, List, [], ◌∷◌, ◌++◌, Option, Some, length, map}
use Rattle.std.specs.Prelude.{option_map, slice_get, take, refl}
use Rattle.std.specs.List.{flat_map}
use Rattle.std.proofs.Common.{ap, sym, ◌∙◌, subst, arith, length-append}
use Rattle.std.proofs.lemmas.Grind.{flat_map-append}
use Rattle.std.proofs.lemmas.List.{append-nil, append_assoc, map-append, length-map, take-append-le, take_all}
use Rattle.std.proofs.lemmas.List.{take-map}
use Rattle.std.proofs.lemmas.Option.{slice_get-map}
use Rattle.alias_effects.specs.declared.solved.Solved.{Solved}
use Rattle.alias_fitting_laws.specs.bare.Bare.{without_range}
use Rattle.alias_graph.specs.Reach.{end_of}
use Rattle.alias_graph.specs.Walks.{IsOneOf}
use Rattle.alias_hir.specs.Parts.{param_place}
use Rattle.alias_hir.specs.Tables.{fresh_identifier, with_identifier}
use Rattle.alias_hir.specs.declared.env.Environment.{Environment}
use Rattle.alias_hir.specs.declared.env.Identifier.{Identifier}
use Rattle.alias_hir.specs.declared.env.Unit.{Unit as HirUnit}
use Rattle.alias_hir.specs.declared.hir.HirFunction.{HirFunction}
use Rattle.alias_hir.specs.declared.types.Ty.{Ty}
use Rattle.alias_hir.specs.declared.types.Ty.TheVariants.{Var}
use Rattle.alias_tables.specs.declared.temporaries.Temporary.{Temporary}
use Rattle.alias_tables.specs.write_back.WriteBack.{with_identifiers}
use Rattle.alias_nested.specs.Analysis.{Analysed}
use Rattle.alias_nested.specs.Units.{UnitAnalysis}
use Rattle.alias_cause_laws.proofs.handed.Tabling.{both_more}
use Rattle.alias_cause_laws.specs.handed.Captures.{context_summarized, IsFoundSummarized, CreatedAreSummarized}
use Rattle.alias_cause_laws.specs.handed.Seen.{without_last, summarized_by, as_created, environment_before, LooksLike}
use Rattle.alias_cause_laws.specs.handed.Seen.{EachLooksAsHanded}
use Rattle.alias_cause_laws.specs.handed.Spans.{start_of, SameRange, ParamsStay}
use Rattle.alias_cause_laws.specs.handed.Tables.{declarations, temporaries_of, declared_with, DeclareAsGiven}

-- ---- lists

-- a list without its last items
front_is : {A : Type 0} (xs ys zs : List A) (n : ℕ) → zs ≡ xs ++ ys → length ys ≡ n → take (length zs - n) zs ≡ xs
front_is xs ys zs n e c =
    let l : length zs ≡ length xs + length ys = ap length e ∙ length-append xs ys in
    let k : length zs - n ≡ length xs = omega arith in
    ap (λ m. take m zs) k ∙ ap (take (length xs)) e ∙ take-append-le (length xs) xs ys (omega arith)
    ∙ take_all (length xs) xs (omega arith)

-- what is said of items of a list that is as long as the front of another one
front_same : (g : Option Identifier → ℕ) (old full : List Identifier) (k n : ℕ) → length old ≡ length (take k full)
    → g (slice_get full n) ≡ g (slice_get old n) → g (slice_get (take k full) n) ≡ g (slice_get old n)
front_same g [] full zero n e h = refl
front_same g [] [] (suc k) n e h = refl
front_same g [] (y ∷ ys) (suc k) n e h = absurd (omega arith)
front_same g (x ∷ xs) full zero n e h = absurd (omega arith)
front_same g (x ∷ xs) [] (suc k) n e h = absurd (omega arith)
front_same g (x ∷ xs) (y ∷ ys) (suc k) zero e h = h
front_same g (x ∷ xs) (y ∷ ys) (suc k) (suc n) e h = front_same g xs ys k n (omega arith) h

-- ---- identifiers of temporaries

-- an environment with so many identifiers and types more
record Widened (n : ℕ) (env new : Environment) : Type 0 where
  identifiers : List Identifier
  identifiers_are : new.identifiers ≡ env.identifiers ++ identifiers
  count : length identifiers ≡ n
  types : List Ty
  types_are : new.types ≡ env.types ++ types
  types_count : length types ≡ n
  rest : record new { identifiers = env.identifiers; types = env.types } ≡ env

widened : (ts : List Temporary) (env : Environment) → Widened (length ts) env (with_identifiers ts env)
widened [] env = record {
  identifiers = [];
  identifiers_are = sym (append-nil env.identifiers);
  count = refl;
  types = [];
  types_are = sym (append-nil env.types);
  types_count = refl;
  rest = refl;
}
widened (t ∷ ts) env =
    let one : Environment = with_identifier t.place.span env in
    let new : Identifier = fresh_identifier t.place.span (length env.identifiers) (length env.types) in
    let w : Widened (length ts) one (with_identifiers ts one) = widened ts one in
    let c = w.count in
    let d = w.types_count in
    record {
      identifiers = new ∷ w.identifiers;
      identifiers_are = w.identifiers_are ∙ append_assoc env.identifiers (new ∷ []) w.identifiers;
      count = omega arith;
      types = Var ∷ w.types;
      types_are = w.types_are ∙ append_assoc env.types (Var ∷ []) w.types;
      types_count = omega arith;
      rest = ap (λ (z : Environment). record z { identifiers = env.identifiers; types = env.types }) w.rest;
    }

bare_without_last : (n : ℕ) (env : Environment) → declarations (without_last n env)
    ≡ without_last n (declarations env)
bare_without_last n env =
    let ids : List Identifier = map without_range env.identifiers in
    let l : length ids ≡ length env.identifiers = length-map env.identifiers without_range in
    ap (λ zs. record (declarations (without_last n env)) { identifiers = zs })
    (sym (take-map without_range (length env.identifiers - n) env.identifiers)
    ∙ ap (λ m. take (m - n) ids) (sym l))

-- without those of its temporaries it declares what it did
taken_back : (ts : List Temporary) (env : Environment)
    → without_last (length ts) (declarations (with_identifiers ts env)) ≡ declarations env
taken_back ts env =
    let new : Environment = with_identifiers ts env in
    let w : Widened (length ts) env new = widened ts env in
    let ids : List Identifier = map without_range new.identifiers in
    let own : List Identifier = map without_range env.identifiers in
    let one : take (length ids - length ts) ids ≡ own
    = front_is own (map without_range w.identifiers) ids (length ts)
    (ap (map without_range) w.identifiers_are ∙ map-append without_range env.identifiers w.identifiers)
    (length-map w.identifiers without_range ∙ w.count) in
    let two : take (length new.types - length ts) new.types ≡ env.types =
    front_is env.types w.types new.types (length ts) w.types_are w.types_count in
    ap (λ zs. record (declarations new) { identifiers = zs; types = take (length new.types - length ts) new.types }) one
    ∙ ap (λ zs. record (declarations new) { identifiers = own; types = zs }) two
    ∙ ap (λ (z : Environment). record (declarations z) { identifiers = own; types = env.types }) w.rest

solved_temporaries : (xs : List Analysed)
    → flat_map (λ (s : Solved). s.temporaries) (map (λ (x : Analysed). x.solved) xs) ≡ temporaries_of xs
solved_temporaries [] = refl
solved_temporaries (x ∷ xs) = ap (λ ts. x.solved.temporaries ++ ts) (solved_temporaries xs)

-- what was declared before a function is what is declared in the end without the temporaries from it on
declared_before : (env : Environment) (xs zs : List Analysed)
    → without_last (length (flat_map (λ (s : Solved). s.temporaries) (map (λ (x : Analysed). x.solved) zs)))
    (declared_with env (xs ++ zs)) ≡ declared_with env xs
declared_before env xs zs =
    let mid : Environment = with_identifiers (temporaries_of xs) env in
    let later : List Temporary = temporaries_of zs in
    ap (λ (ts : List Temporary). without_last (length ts) (declared_with env (xs ++ zs))) (solved_temporaries zs)
    ∙ ap (λ (ts : List Temporary). without_last (length later) (declarations (with_identifiers ts env)))
    (flat_map-append (λ (x : Analysed). x.solved.temporaries) xs zs)
    ∙ ap (λ (e : Environment). without_last (length later) (declarations e)) (both_more (temporaries_of xs) later env)
    ∙ taken_back later mid

-- ---- functions

created_same : (found : Option HirFunction) (fs : List HirFunction) (k : ℕ) → IsFoundSummarized found (slice_get fs k)
    → found ≡ slice_get (map as_created fs) k
created_same found fs k s =
    s.is ∙ sym (slice_get-map as_created fs k ∙ ap (option_map as_created) s.there
    ∙ ap (λ o. Some (summarized_by o s.func)) s.stores)

some_is : {A : Type 0} (x y : A) → Some x ≡ Some y → x ≡ y
some_is x y h = cc

-- it has the parameters of the one that is handed out
created_params : (found : Option HirFunction) (fs : List HirFunction) (k : ℕ) (f : HirFunction)
    (s : IsFoundSummarized found (slice_get fs k)) → slice_get (map as_created fs) k ≡ Some f → f.params ≡ s.func.params
created_params found fs k f s at =
    let g : HirFunction = record s.func { context = map (context_summarized s.summary) s.func.context } in
    sym (ap (λ (z : HirFunction). z.params) (some_is g f (sym s.is ∙ created_same found fs k s ∙ at)))

-- ---- the unit

module _ (u : HirUnit) (a : UnitAnalysis) (declare : DeclareAsGiven u a) (captures : CreatedAreSummarized a)
    (params : ParamsStay a) where
  abbrev handed : Environment
  handed = a.inferred.unit.env

  module _ (xs ys : List Analysed) (x : Analysed) (whole : a.functions ≡ xs ++ x ∷ ys) where
    abbrev later : List Solved
    later = map (λ (z : Analysed). z.solved) (x ∷ ys)

    abbrev count : ℕ
    count = length (flat_map (λ (s : Solved). s.temporaries) later)

    declares : declarations x.env ≡ declarations (environment_before later handed)
    declares =
        declare.begun xs ys x whole
        ∙ sym (bare_without_last count handed
        ∙ ap (without_last count) (declare.handed ∙ ap (declared_with u.env) whole)
        ∙ declared_before u.env xs (x ∷ ys))

    front_count : length x.env.identifiers ≡ length (environment_before later handed).identifiers
    front_count =
        sym (length-map x.env.identifiers without_range)
        ∙ ap (λ (z : Environment). length z.identifiers) declares
        ∙ length-map (environment_before later handed).identifiers without_range

    cut : (n : ℕ) → SameRange x.env.identifiers handed.identifiers n
        → SameRange x.env.identifiers (environment_before later handed).identifiers n
    cut n s =
        let k : ℕ = length handed.identifiers - count in
        record {
          start = front_same start_of x.env.identifiers handed.identifiers k n front_count s.start;
          end = front_same end_of x.env.identifiers handed.identifiers k n front_count s.end;
        }

    looks : LooksLike x.func (environment_before later handed) x.env
    looks = record {
      declares = declares;
      created = λ id i. created_same (slice_get x.env.functions id.0) handed.functions id.0
          (captures xs ys x id whole i).1;
      params = λ id i f at p among.
          let c = captures xs ys x id whole i in
          let same : f.params ≡ c.1.func.params =
          created_params (slice_get x.env.functions id.0) handed.functions id.0 f c.1 at in
          cut (param_place p).identifier.0
          (params xs ys x id whole c.0 c.1.func c.1.there p (subst (IsOneOf p) same among));
    }

  pub each_looks : EachLooksAsHanded a
  each_looks = λ xs ys x whole. looks xs ys x whole
