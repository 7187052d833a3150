-- Passes add to what an environment declares the temporaries of their functions alone.
use Rattle.std.specs.Prelude.{◌≡◌, ℕ, true, false, List, [], ◌∷◌, ◌++◌, map, length, Option, Some, None, Result, Ok}
use Rattle.std.specs.Prelude.{slice_get}
use Rattle.std.specs.Prelude.{refl}
use Rattle.std.proofs.Common.{zero, suc, ⊎_elim, ap, sym, ◌∙◌, subst}
use Rattle.std.proofs.lemmas.List.{append-nil, append_assoc, map-append, length-map}
use Rattle.alias_base.specs.declared.ids.FunctionId.{FunctionId}
use Rattle.alias_fitting_laws.specs.bare.Bare.{without_range}
use Rattle.alias_hir.specs.Tables.{fresh_identifier, with_identifier}
use Rattle.alias_hir.specs.declared.env.Environment.{Environment}
use Rattle.alias_hir.specs.declared.env.Identifier.{Identifier}
use Rattle.alias_hir.specs.declared.env.Unit.{Unit as HirUnit}
use Rattle.alias_hir.specs.declared.error.InferError.{InferError}
use Rattle.alias_hir.specs.declared.hir.HirFunction.{HirFunction}
use Rattle.alias_hir.specs.declared.place.Place.{Place}
use Rattle.alias_hir.specs.declared.place.Span.{Span}
use Rattle.alias_effects.specs.Inference.{env_after}
use Rattle.alias_effects.specs.Recording.{with_effects_of}
use Rattle.alias_tables.specs.declared.temporaries.Temporary.{Temporary}
use Rattle.alias_tables.specs.write_back.WriteBack.{with_identifiers}
use Rattle.alias_nesting_laws.specs.Slots.{with_function}
use Rattle.alias_range_pass.specs.Laws.{PassKeeps}
use Rattle.alias_range_pass.specs.Passes.{Ranged}
use Rattle.alias_range_pass.specs.places.Keeping.{but_range}
use Rattle.alias_range_pass.specs.places.StayLaws.{set_stays}
use Rattle.alias_nested.specs.Analysis.{numbered, Analysed, Analysis, analysis, most_levels, each, function_analysed}
use Rattle.alias_nested.specs.Analysis.{taken_analysed, put_back, found_analysed, slot_analysed, analysed}
use Rattle.alias_nested.specs.Annotating.{summarized, reset_at, reset}
use Rattle.alias_nested.specs.Created.{created_functions}
use Rattle.alias_nested.specs.Slots.{emptied}
use Rattle.alias_nested.specs.Units.{UnitAnalysis, handed_out, unit_analysed}
use Rattle.alias_answer_laws.proofs.order.Ordering.{went}
use Rattle.alias_inferred_laws.proofs.handed.Preceding.{WasThere, IsNew, new_or_there}
use Rattle.alias_inferred_laws.proofs.inferred.Listing.{Passed, function_passed}
use Rattle.alias_inferred_laws.proofs.inferred.Ranging.{pass_leaves}
use Rattle.alias_inferred_laws.proofs.inferred.Rooting.{root_entry, root_begun, root_validated, root_ended}
use Rattle.alias_cause_laws.specs.handed.Tables.{declarations, temporaries_of, declared_with, DeclareAsGiven}

-- ---- identifiers

again : (is : List Identifier) → map without_range (map without_range is) ≡ map without_range is
again [] = refl
again (i ∷ is) = ap (λ z. without_range i ∷ z) (again is)

unranged : (is : List Identifier) → map without_range (map but_range is) ≡ map without_range is
unranged [] = refl
unranged (i ∷ is) = ap (λ z. without_range i ∷ z) (unranged is)

reset_one : (is : List Identifier) (n : ℕ) (o : Option Identifier) → slice_get is n ≡ o
    → map without_range (reset_at is n o) ≡ map without_range is
reset_one is n None h = refl
reset_one is n (Some i) h = set_stays without_range is n i (without_range i) (sym h) refl

reset_same : (ps : List Place) (is : List Identifier) → map without_range (reset ps is) ≡ map without_range is
reset_same [] is = refl
reset_same (p ∷ ps) is =
    let o : Option Identifier = slice_get is p.identifier.0 in
    reset_same ps (reset_at is p.identifier.0 o) ∙ reset_one is p.identifier.0 o refl

-- ---- one temporary more, and many

one_declared : (span : Option Span) (env : Environment) → declarations (with_identifier span env)
    ≡ declarations (with_identifier span (declarations env))
one_declared span env =
    let bare : List Identifier = map without_range env.identifiers in
    let new : ℕ → List Identifier = λ n. fresh_identifier span n (length env.types) ∷ [] in
    let first : map without_range (env.identifiers ++ new (length env.identifiers)) ≡ bare
    ++ new (length env.identifiers) = map-append without_range env.identifiers (new (length env.identifiers)) in
    let second : map without_range (bare ++ new (length bare)) ≡ map without_range bare ++ new (length bare) =
    map-append without_range bare (new (length bare)) in
    let count : length bare ≡ length env.identifiers = length-map env.identifiers without_range in
    let third : map without_range bare ++ new (length bare) ≡ bare ++ new (length env.identifiers) =
    ap (λ z. z ++ new (length bare)) (again env.identifiers) ∙ ap (λ n. bare ++ new n) count in
    ap (λ is. record (declarations (with_identifier span env)) { identifiers = is }) (first ∙ sym third ∙ sym second)

more_declared : (ts : List Temporary) (env other : Environment) → declarations env ≡ declarations other
    → declarations (with_identifiers ts env) ≡ declarations (with_identifiers ts other)
more_declared [] env other h = h
more_declared (t ∷ ts) env other h =
    more_declared ts (with_identifier t.place.span env) (with_identifier t.place.span other)
    (one_declared t.place.span env ∙ ap (λ (e : Environment). declarations (with_identifier t.place.span e)) h
    ∙ sym (one_declared t.place.span other))

pub both_more : (ts us : List Temporary) (env : Environment) → with_identifiers (ts ++ us) env
    ≡ with_identifiers us (with_identifiers ts env)
both_more [] us env = refl
both_more (t ∷ ts) us env = both_more ts us (with_identifier t.place.span env)

temporaries_more : (xs : List Analysed) (x : Analysed) → temporaries_of (xs ++ x ∷ []) ≡ temporaries_of xs
    ++ x.solved.temporaries
temporaries_more [] x = append-nil x.solved.temporaries
temporaries_more (y ∷ xs) x = ap (λ z. y.solved.temporaries ++ z) (temporaries_more xs x)
    ∙ sym (append_assoc y.solved.temporaries (temporaries_of xs) x.solved.temporaries)

-- ---- the range pass

ranged_declares : (old new : Environment) → PassKeeps old new → declarations new ≡ declarations old
ranged_declares old new k =
    sym (ap (λ is. record (declarations new) { identifiers = is }) (unranged new.identifiers))
    ∙ ap declarations k.rest ∙ ap (λ is. record (declarations old) { identifiers = is }) (unranged old.identifiers)

-- ---- nested functions

module _ (u : Environment) where
  -- what was declared as each of the functions so far began, and what is now
  record Declares (a : Analysis) : Type 0 where
    now : declarations a.env ≡ declared_with u a.functions
    begun : (xs ys : List Analysed) (x : Analysed) → a.functions ≡ xs ++ x ∷ ys → declarations x.env
        ≡ declared_with u xs

  -- one function more
  with_more : (fs : List Analysed) (y : Analysed) → declarations y.env ≡ declared_with u fs
      → declarations (with_identifiers y.solved.temporaries y.env) ≡ declared_with u (fs ++ y ∷ [])
  with_more fs y h =
      more_declared y.solved.temporaries y.env (with_identifiers (temporaries_of fs) u) h
      ∙ sym (ap declarations (both_more (temporaries_of fs) y.solved.temporaries u))
      ∙ ap (λ ts. declarations (with_identifiers ts u)) (sym (temporaries_more fs y))

  begun_more : (fs : List Analysed) (y : Analysed)
      → ((xs ys : List Analysed) (x : Analysed) → fs ≡ xs ++ x ∷ ys → declarations x.env ≡ declared_with u xs)
      → declarations y.env ≡ declared_with u fs
      → (xs ys : List Analysed) (x : Analysed) → fs ++ y ∷ [] ≡ xs ++ x ∷ ys → declarations x.env ≡ declared_with u xs
  begun_more fs y before own xs ys x split =
      ⊎_elim
      (λ (n : IsNew fs y xs ys x). ap (λ (z : Analysed). declarations z.env) (sym n.same) ∙ own
      ∙ ap (declared_with u) n.before)
      (λ (t : WasThere fs y xs ys x). before xs t.rest x t.all)
      (new_or_there fs xs ys x y split)

  function_declares : (id : FunctionId) (f : HirFunction) (a : Analysis) (s : HirFunction × Analysis)
      → function_analysed id f a ≡ Ok s → Declares a → Declares s.1
  function_declares id f a s h d =
      let p : Passed id f a s = function_passed id f a s h in
      let y : Analysed = record {
        env = a.env;
        func = f;
        is_function_expression = true;
        solved = numbered id p.end.solved;
      } in
      let r : Ranged = p.ranged in
      let mid : Environment = env_after a.env p.end in
      let kept : PassKeeps mid r.after.1 = (pass_leaves true (with_effects_of p.end.solved f) mid r p.ran).kept in
      let functions : s.1.functions ≡ a.functions ++ y ∷ [] =
      ap (λ (q : HirFunction × Analysis). q.1.functions) (sym p.is) in
      let after : declarations s.1.env ≡ declarations r.after.1
      = ap (λ (q : HirFunction × Analysis). declarations q.1.env) (sym p.is)
      ∙ ap (λ is. record (declarations r.after.1) { identifiers = is })
      (reset_same (summarized r.summary r.after.0).context r.after.1.identifiers) in
      record {
        now = after ∙ ranged_declares mid r.after.1 kept ∙ with_more a.functions y d.now
            ∙ ap (declared_with u) (sym functions);
        begun = λ xs ys x split. begun_more a.functions y d.begun d.now xs ys x (sym functions ∙ split);
      }

  abbrev Keeps : (HirFunction → Analysis → Result Analysis InferError) → Type 0
  Keeps below = (f : HirFunction) (a b : Analysis) → Declares a → below f a ≡ Ok b → Declares b

  module _ (below : HirFunction → Analysis → Result Analysis InferError) (keeps : Keeps below) where
    found_declares : (id : FunctionId) (a b : Analysis) (o : Option HirFunction) → Declares a
        → found_analysed below id a o ≡ Ok b → Declares b
    found_declares id a b None d h = let is : a ≡ b = cc in subst Declares is d
    found_declares id a b (Some f) d h =
        let out : Analysis = record a { env = with_function id (emptied f.returns) a.env } in
        let w = went (taken_analysed below id f out) (λ (s : HirFunction × Analysis). Ok (put_back id s)) b h in
        let s : HirFunction × Analysis = w.0 in
        let v = went (below f out) (function_analysed id f) s w.1 in
        let is : put_back id s ≡ b = cc in
        let first : Declares v.0 = keeps f out v.0 (record { now = d.now; begun = d.begun }) v.1 in
        let second : Declares s.1 = function_declares id f v.0 s v.2 first in
        subst Declares is (record { now = second.now; begun = second.begun })

    each_declares : (ids : List FunctionId) (a b : Analysis) → Declares a → each (slot_analysed below) ids a ≡ Ok b
        → Declares b
    each_declares [] a b d h = let is : a ≡ b = cc in subst Declares is d
    each_declares (id ∷ ids) a b d h =
        let w = went (slot_analysed below id a) (each (slot_analysed below) ids) b h in
        each_declares ids w.0 b (found_declares id a w.0 (slice_get a.env.functions id.0) d w.1) w.2

  analysed_declares : (n : ℕ) → Keeps (analysed n)
  unfolding analysed
  analysed_declares zero f a b d h = let is : a ≡ b = cc in subst Declares is d
  analysed_declares (suc n) f a b d h = each_declares (analysed n) (analysed_declares n) (created_functions f) a b d h

  none_before : (xs ys : List Analysed) (x : Analysed) → [] ≡ xs ++ x ∷ ys → ⊥
  none_before [] ys x e = cc
  none_before (z ∷ xs) ys x e = cc

  none_declares : Declares (analysis u [])
  none_declares = record { now = refl; begun = λ xs ys x e. absurd (none_before xs ys x e) }

-- ---- a unit

pub declare_as_given : (u : HirUnit) (a : UnitAnalysis) → unit_analysed u ≡ Ok a → DeclareAsGiven u a
declare_as_given u a h =
    let b = root_begun u a h in
    let last : Analysed = root_entry u b.nested b.end in
    let fs : List Analysed = b.nested.functions ++ last ∷ [] in
    let mid : Environment = env_after b.nested.env b.end in
    let e = root_ended (with_effects_of b.end.solved u.function) mid fs b.root b.finishes in
    let whole : handed_out (root_validated e.ranged e.reassigned fs) ≡ a = ap handed_out e.is ∙ b.out in
    let all : a.functions ≡ fs = ap (λ (q : UnitAnalysis). q.functions) (sym whole) in
    let d : Declares u.env b.nested = analysed_declares u.env most_levels u.function (analysis u.env []) b.nested
    (none_declares u.env) b.analyses in
    let kept : PassKeeps mid e.ranged.after.1 =
    (pass_leaves false (with_effects_of b.end.solved u.function) mid e.ranged e.ran).kept in
    record {
      begun = λ xs ys x split. begun_more u.env b.nested.functions last d.begun d.now xs ys x (sym all ∙ split);
      handed =
          ap (λ (q : UnitAnalysis). declarations q.inferred.unit.env) (sym whole)
          ∙ ranged_declares mid e.ranged.after.1 kept
          ∙ with_more u.env b.nested.functions last d.now ∙ ap (declared_with u.env) (sym all);
    }
