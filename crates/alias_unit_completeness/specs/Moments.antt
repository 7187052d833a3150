-- At each moment of the analysis of a unit all functions of the table are callable.
use Rattle.std.specs.Prelude.{◌≡◌, ℕ, ◌<◌, ◌≤◌, Bool, true, false, if◌then◌else◌, List, [], ◌∷◌, Option, Some, None}
use Rattle.std.specs.Prelude.{Result, Ok, Err, ⊤, is_none, nat_lt, length, map, slice_get, slice_set, refl}
use Rattle.std.proofs.Common.{zero, suc, ap, sym, ◌∙◌, subst, arith}
use Rattle.std.proofs.Common.{ltb-true}
use Rattle.std.specs.List.{AllByRecursion, list_all}
use Rattle.alias_base.specs.Answer.{◌>>=◌, all_pass}
use Rattle.alias_base.specs.AnswerLaws.{both_true, both_pass}
use Rattle.alias_base.specs.declared.ids.FunctionId.{FunctionId}
use Rattle.alias_rules.specs.function_rules.Rules.{first_again, own_identifiers, repeated, place_fits, numbers_fit}
use Rattle.alias_rules.specs.function_rules.Rules.{function_is_uninferred}
use Rattle.alias_rules.specs.declared.function_rules.fault.UnitFault.{UnitFault}
use Rattle.alias_hir.specs.Parts.{param_place}
use Rattle.alias_hir.specs.declared.effect.AliasingEffect.{AliasingEffect}
use Rattle.alias_hir.specs.declared.env.Environment.{Environment}
use Rattle.alias_hir.specs.declared.env.Identifier.{Identifier}
use Rattle.alias_hir.specs.declared.env.Unit.{Unit as HirUnit}
use Rattle.alias_hir.specs.declared.error.InferError.{InferError}
use Rattle.alias_hir.specs.declared.hir.HirFunction.{HirFunction}
use Rattle.alias_hir.specs.declared.place.Place.{Place}
use Rattle.alias_rules.specs.Functions.{rules_hold, of_function}
use Rattle.alias_rules.specs.RuleLaws.{parts_of_rules, nested_of_rules}
use Rattle.alias_rules.specs.declared.rules.Rule.TheVariants.{Numbers, Distinct}
use Rattle.alias_effects.specs.Inference.{pass_end, end_tables, env_after}
use Rattle.alias_hir.specs.Tables.{with_identifier}
use Rattle.alias_tables.specs.declared.temporaries.Temporary.{Temporary}
use Rattle.alias_tables.specs.write_back.WriteBack.{with_identifiers}
use Rattle.alias_nested.proofs.Evolving.{passed_contexts}
use Rattle.alias_effects.specs.Recording.{with_effects_of}
use Rattle.alias_effects.specs.declared.output.PassEnd.{PassEnd}
use Rattle.alias_graph.specs.declared.recorded.listing.Listing.{Listing}
use Rattle.alias_fitting_laws.specs.bare.Bare.{without_range}
use Rattle.alias_range_pass.specs.places.Blocks.{Placed, function_placed}
use Rattle.alias_range_pass.specs.places.StayLaws.{set_stays}
use Rattle.alias_range_pass.specs.summary.MarkedPlaces.{function_captured}
use Rattle.alias_range_pass.specs.summary.Walking.{mutations_done}
use Rattle.alias_range_pass.specs.Passes.{Ranged, range_pass}
use Rattle.alias_ranges.specs.laws.AnswerLaws.{pass_is}
use Rattle.alias_nesting_laws.specs.Slots.{with_function}
use Rattle.alias_nested.specs.Analysis.{naming, Analysed, Analysis, analysis, each, effects_analysed, completed}
use Rattle.alias_nested.specs.Analysis.{completed_with, function_analysed, taken_analysed, found_analysed}
use Rattle.alias_nested.specs.Analysis.{slot_analysed, analysed}
use Rattle.alias_nested.specs.Created.{created_functions}
use Rattle.alias_nested.specs.Annotating.{context_annotated, summarized, reset_at, reset, annotated}
use Rattle.alias_nested.specs.Slots.{emptied}
use Rattle.alias_completeness.specs.Going.{all_both}
use Rattle.alias_completeness.specs.Callable.{IsSummary, AreCallable}
use Rattle.alias_completeness.specs.summaries.Faces.{HasPlaces, HasFace, HaveFaces, faces_callable, same_ids, SameOwn}
use Rattle.alias_completeness.specs.summaries.Faces.{same_own_then, places_alike, faces_alike, Stays, stays_then}
use Rattle.alias_completeness.specs.summaries.Faces.{mutations_stay, PlacedStays, function_stays, captured_own}
use Rattle.alias_completeness.specs.summaries.KeptTables.{bound_to, TablesKept, tables_self, tables_then, tables_alike}
use Rattle.alias_completeness.specs.summaries.KeptTables.{tables_more}
use Rattle.alias_completeness.specs.summaries.SummaryOrder.{summary_in_order}

-- ---- answers

-- what is answered has the property; of a refusal nothing is said
abbrev pub OnAnswer : {A : Type 0} → (A → Type 0) → Result A InferError → Type 0
OnAnswer P (Ok x) = P x
OnAnswer P (Err e) = Unit {0}

pub answer_then : {A B : Type 0} (P : A → Type 0) (Q : B → Type 0) (r : Result A InferError)
    (g : A → Result B InferError) → OnAnswer P r → ((x : A) → P x → OnAnswer Q (g x)) → OnAnswer Q (r >>= g)
answer_then P Q (Ok x) g h k = k x h
answer_then P Q (Err e) g h k = tt

pub answer_naming : {A : Type 0} (P : A → Type 0) (id : FunctionId) (r : Result A InferError) → OnAnswer P r
    → OnAnswer P (naming id r)
answer_naming P id (Ok x) h = h
answer_naming P id (Err e) h = tt

pub answer_is : {A : Type 0} (P : A → Type 0) (r : Result A InferError) → ((x : A) → r ≡ Ok x → P x) → OnAnswer P r
answer_is P (Ok x) h = h x refl
answer_is P (Err e) h = tt

-- ---- the effects pass

identifiers_kept : (ts : List Temporary) (env : Environment) → TablesKept env (with_identifiers ts env)
identifiers_kept [] env = tables_self env
identifiers_kept (t ∷ ts) env = tables_then env (with_identifier t.place.span env)
    (with_identifiers ts (with_identifier t.place.span env)) (tables_more t.place.span env)
    (identifiers_kept ts (with_identifier t.place.span env))

pub pass_stays : (env : Environment) (e : PassEnd) → Stays env (env_after env e)
pass_stays env e =
    let k : TablesKept env (with_identifiers (end_tables e).temporaries env) =
    identifiers_kept (end_tables e).temporaries env in
    record {
      functions = passed_contexts env e;
      tables = record {
        identifiers = k.identifiers;
        longer = k.longer;
        types = k.types;
        more_types = k.more_types;
        shapes = k.shapes;
        config = k.config;
      };
    }

-- ---- from the range pass on

one_reset : (is : List Identifier) (n : ℕ) (o : Option Identifier) → slice_get is n ≡ o → map bound_to (reset_at is n o)
    ≡ map bound_to is
one_reset is n None e = refl
one_reset is n (Some i) e = set_stays bound_to is n i (without_range i) (sym e) refl

all_reset : (ps : List Place) (is : List Identifier) → map bound_to (reset ps is) ≡ map bound_to is
all_reset [] is = refl
all_reset (p ∷ ps) is = all_reset ps (reset_at is p.identifier.0 (slice_get is p.identifier.0))
    ∙ one_reset is p.identifier.0 (slice_get is p.identifier.0) refl

-- a finished function has a face and its own places, and its environment stays
pub record Finished (env : Environment) (f : HirFunction) (c : HirFunction × Environment) : Type 0 where
  pub own : SameOwn f c.0
  pub face : HasFace (length c.1.identifiers) c.0
  pub stays : Stays env c.1

pub annotated_finished : (env : Environment) (f : HirFunction) (summary : List AliasingEffect)
    (s : HirFunction × Environment) → SameOwn f s.0 → Stays env s.1 → HasPlaces (length env.identifiers) f
    → IsSummary f.returns.identifier.0 summary
    → Finished env f (annotated summary s)
annotated_finished env f summary s own stays places order =
    let g : HirFunction = summarized summary s.0 in
    let same : SameOwn s.0 g = record {
      params = refl;
      context = same_ids (context_annotated summary) (λ p. refl) s.0.context;
      returns = refl;
    } in
    let all : SameOwn f g = same_own_then f s.0 g own same in
    let reset_kept : TablesKept s.1 (annotated summary s).1 =
    tables_alike s.1 (annotated summary s).1 (all_reset g.context s.1.identifiers) refl refl refl in
    let after : Stays env (annotated summary s).1 =
    stays_then env s.1 (annotated summary s).1 stays (record { functions = refl; tables = reset_kept }) in
    record {
      own = all;
      face = record {
        places = places_alike (length env.identifiers) (length (annotated summary s).1.identifiers) f g all
            after.tables.longer places;
        summary = λ es e. let is : summary ≡ es = cc in
            subst (IsSummary g.returns.identifier.0) is
            (subst (λ (p : Place). IsSummary p.identifier.0 summary) (sym all.returns) order);
      };
      stays = after;
    }

-- what the range pass leaves: the function's own places, the environment, and a summary in order
pub record RangesDone (env : Environment) (f : HirFunction) (r : Ranged) : Type 0 where
  pub own : SameOwn f r.after.0
  pub stays : Stays env r.after.1
  pub order : IsSummary f.returns.identifier.0 r.summary

pub ranges_done : (f : HirFunction) (env : Environment) (r : Ranged) → HasPlaces (length env.identifiers) f
    → range_pass true f env ≡ Ok r → RangesDone env f r
ranges_done f env r places h =
    let p = pass_is true f env r h in
    let l : Listing = p.0 in
    let w = mutations_done false l env in
    let begun : Placed = (function_captured w.0 f, w.1) in
    let placed : PlacedStays begun (function_placed true begun) = function_stays true begun in
    let own : SameOwn f (function_placed true begun).0 =
    same_own_then f begun.0 (function_placed true begun).0 (captured_own w.0 f) placed.own in
    let stays : Stays env (function_placed true begun).1 =
    stays_then env w.1 (function_placed true begun).1 (mutations_stay l env) placed.env in
    record {
      own = subst (λ (z : Ranged). SameOwn f z.after.0) p.2 own;
      stays = subst (λ (z : Ranged). Stays env z.after.1) p.2 stays;
      order = summary_in_order None true f env r places.distinct h;
    }

pub ranged_finished : (f : HirFunction) (env : Environment) (r : Ranged) → HasPlaces (length env.identifiers) f
    → range_pass true f env ≡ Ok r → Finished env f (annotated r.summary r.after)
ranged_finished f env r places h = let d : RangesDone env f r = ranges_done f env r places h in
    annotated_finished env f r.summary r.after d.own d.stays places d.order

pub completed_finished : (id : FunctionId) (f : HirFunction) (env : Environment) → HasPlaces (length env.identifiers) f
    → OnAnswer (Finished env f) (completed id f env)
completed_finished id f env places =
    answer_then (λ r. range_pass true f env ≡ Ok r) (Finished env f) (naming id (range_pass true f env)) _
    (answer_naming (λ r. range_pass true f env ≡ Ok r) id (range_pass true f env)
    (answer_is (λ r. range_pass true f env ≡ Ok r) (range_pass true f env) (λ r e. e)))
    (λ r e. ranged_finished f env r places e)

-- ---- the analysis

-- all functions are callable as the effects pass of a function began
abbrev pub BeganCallable : Analysed → Type 0
BeganCallable x = AreCallable x.env

-- all functions of the table have a face, and had one as each pass began
pub record Holds (a : Analysis) : Type 0 where
  pub faces : HaveFaces (length a.env.identifiers) a.env.functions
  pub moments : AllByRecursion BeganCallable a.functions

-- the same after an analysis, which lets no identifier go
record Went (a b : Analysis) : Type 0 where
  holds : Holds b
  identifiers : length a.env.identifiers ≤ length b.env.identifiers

went_then : (a b : Analysis) → Went a b → (c : Analysis) → Went b c → Went a c
went_then a b g c h = record {
  holds = h.holds;
  identifiers = let p = g.identifiers in let q = h.identifiers in omega arith;
}

-- the function that is out of its slot
record Taken (a : Analysis) (s : HirFunction × Analysis) : Type 0 where
  places : HasPlaces (length s.1.env.identifiers) s.0
  went : Went a s.1

record Done (a : Analysis) (s : HirFunction × Analysis) : Type 0 where
  face : HasFace (length s.1.env.identifiers) s.0
  went : Went a s.1

stays_went : (a : Analysis) (env : Environment) (fs : List Analysed) → Holds a → Stays a.env env
    → AllByRecursion BeganCallable fs → Went a (analysis env fs)
stays_went a env fs h s m =
    record {
      holds = record {
        faces = faces_alike (length a.env.identifiers) (length env.identifiers) a.env.functions
            env.functions s.functions s.tables.longer h.faces;
        moments = m;
      };
      identifiers = s.tables.longer;
    }

effects_taken : (id : FunctionId) (f : HirFunction) (a : Analysis) → HasPlaces (length a.env.identifiers) f → Holds a
    → OnAnswer (Taken a) (effects_analysed id f a)
effects_taken id f a places h =
    answer_then (λ (e : PassEnd). Unit {0}) (Taken a) (naming id (pass_end a.env f true)) _
    (answer_naming (λ (e : PassEnd). Unit {0}) id (pass_end a.env f true)
    (answer_is (λ (e : PassEnd). Unit {0}) (pass_end a.env f true) (λ e i. tt)))
    (λ e u.
    let stays : Stays a.env (env_after a.env e) = pass_stays a.env e in
    record {
      places = places_alike (length a.env.identifiers) (length (env_after a.env e).identifiers) f
          (with_effects_of e.solved f) (record { params = refl; context = refl; returns = refl }) stays.tables.longer
          places;
      went = stays_went a (env_after a.env e) _ h stays
          (all_both BeganCallable a.functions (_ ∷ []) h.moments (faces_callable a.env h.faces, tt));
    })

completed_done : (id : FunctionId) (a : Analysis) (s : HirFunction × Analysis) → Taken a s
    → OnAnswer (Done a) (completed_with id s)
completed_done id a s h =
    answer_then (Finished s.1.env s.0) (Done a) (completed id s.0 s.1.env) _
    (completed_finished id s.0 s.1.env h.places)
    (λ c d. record {
      face = d.face;
      went =
          went_then a s.1 h.went (analysis c.1 s.1.functions)
          (stays_went s.1 c.1 s.1.functions h.went.holds d.stays h.went.holds.moments);
    })

function_done : (id : FunctionId) (f : HirFunction) (a : Analysis) → HasPlaces (length a.env.identifiers) f → Holds a
    → OnAnswer (Done a) (function_analysed id f a)
function_done id f a places h = answer_then (Taken a) (Done a) (effects_analysed id f a) (completed_with id)
    (effects_taken id f a places h) (completed_done id a)

went_self : (a : Analysis) → Holds a → Went a a
went_self a h = record { holds = h; identifiers = omega arith }

pub on_answer : {A : Type 0} (P Q : A → Type 0) (r : Result A InferError) → ((x : A) → P x → Q x) → OnAnswer P r
    → OnAnswer Q r
on_answer P Q (Ok x) f h = f x h
on_answer P Q (Err e) f h = tt

each_went : {X : Type 0} (step : X → Analysis → Result Analysis InferError)
    → ((x : X) (a : Analysis) → Holds a → OnAnswer (Went a) (step x a)) → (xs : List X) (a : Analysis) → Holds a
    → OnAnswer (Went a) (each step xs a)
each_went step h [] a n = went_self a n
each_went step h (x ∷ xs) a n =
    answer_then (Went a) (Went a) (step x a) (each step xs) (h x a n)
    (λ b w. on_answer (Went b) (Went a) (each step xs b) (λ c v. went_then a b w c v)
    (each_went step h xs b w.holds))

pub set_face : (n : ℕ) (fs : List HirFunction) (k : ℕ) (f : HirFunction) → HasFace n f → HaveFaces n fs
    → HaveFaces n (slice_set fs k f)
set_face n [] k f p h = tt
set_face n (g ∷ gs) zero f p h = (p, h.1)
set_face n (g ∷ gs) (suc k) f p h = (h.0, set_face n gs k f p h.1)

pub found_face : (n : ℕ) (fs : List HirFunction) (k : ℕ) (f : HirFunction) → slice_get fs k ≡ Some f → HaveFaces n fs
    → HasFace n f
found_face n [] k f e h = cc
found_face n (g ∷ gs) zero f e h = let same : g ≡ f = cc in subst (HasFace n) same h.0
found_face n (g ∷ gs) (suc k) f e h = found_face n gs k f e h.1

no_summary : (r : ℕ) (es : List AliasingEffect) (o : Option (List AliasingEffect)) → o ≡ None → o ≡ Some es
    → IsSummary r es
no_summary r es None h e = cc
no_summary r es (Some x) h e = cc

-- what stands in for a function that is out
pub stand_in : (n : ℕ) (f : HirFunction) → HasFace n f → HasFace n (emptied f.returns)
stand_in n f h = record {
  places = record { distinct = refl; within = h.places.within };
  summary = λ es e. no_summary f.returns.identifier.0 es None refl e;
}

module _ (below : HirFunction → Analysis → Result Analysis InferError)
    (goes : (f : HirFunction) (a : Analysis) → Holds a → OnAnswer (Went a) (below f a)) where
  taken_done : (id : FunctionId) (f : HirFunction) (a : Analysis) → HasPlaces (length a.env.identifiers) f → Holds a
      → OnAnswer (Done a) (taken_analysed below id f a)
  taken_done id f a places h =
      answer_then (Went a) (Done a) (below f a) (function_analysed id f) (goes f a h)
      (λ b w. on_answer (Done b) (Done a) (function_analysed id f b)
      (λ s d. record { face = d.face; went = went_then a b w s.1 d.went })
      (function_done id f b (places_alike (length a.env.identifiers) (length b.env.identifiers) f f
      (record { params = refl; context = refl; returns = refl }) w.identifiers places) w.holds))

  found_went : (id : FunctionId) (a : Analysis) (o : Option HirFunction) → slice_get a.env.functions id.0 ≡ o → Holds a
      → OnAnswer (Went a) (found_analysed below id a o)
  found_went id a None e h = went_self a h
  found_went id a (Some f) e h =
      let n = length a.env.identifiers in
      let face : HasFace n f = found_face n a.env.functions id.0 f e h.faces in
      let out : Analysis = record a { env = with_function id (emptied f.returns) a.env } in
      let held : Holds out = record {
        faces =
            set_face n a.env.functions id.0 (emptied f.returns) (stand_in n f face) h.faces;
        moments = h.moments;
      } in
      answer_then (Done out) (Went a) (taken_analysed below id f out) _ (taken_done id f out face.places held)
      (λ s d. record {
        holds = record {
          faces =
              set_face (length s.1.env.identifiers) s.1.env.functions id.0 s.0 d.face d.went.holds.faces;
          moments = d.went.holds.moments;
        };
        identifiers = d.went.identifiers;
      })

  slot_went : (id : FunctionId) (a : Analysis) → Holds a → OnAnswer (Went a) (slot_analysed below id a)
  slot_went id a h = found_went id a (slice_get a.env.functions id.0) refl h

analysed_went : (n : ℕ) (f : HirFunction) (a : Analysis) → Holds a → OnAnswer (Went a) (analysed n f a)
unfolding analysed
analysed_went zero f a h = went_self a h
analysed_went (suc n) f a h = each_went (slot_analysed (analysed n)) (slot_went (analysed n) (analysed_went n))
    (created_functions f) a h

-- where all functions of the table have a face, the analysis keeps that
pub analysis_holds : (n : ℕ) (f : HirFunction) (a : Analysis) → Holds a → OnAnswer Holds (analysed n f a)
analysis_holds n f a h = on_answer (Went a) Holds (analysed n f a) (λ b w. w.holds) (analysed_went n f a h)

-- ---- a unit

pub not_again : (o : Option FunctionId) (r : Option ℕ) → repeated o r ≡ Ok tt → repeated None r ≡ Ok tt
not_again o None h = refl
not_again o (Some k) h = cc

pub asked : (b : Bool) (e : UnitFault) → (let r : Result ⊤ UnitFault = if b then Ok tt else Err e in r ≡ Ok tt) → b
    ≡ true
asked true e h = refl
asked false e h = cc

pub returns_within : (env : Environment) (f : HirFunction) → numbers_fit env f ≡ Ok tt → f.returns.identifier.0
    < length env.identifiers
returns_within env f h =
    let a = both_pass (all_pass (λ p. place_fits env (param_place p)) f.params) _ h in
    let b = both_pass (all_pass (place_fits env) f.context) _ a.1 in
    ltb-true f.returns.identifier.0 (length env.identifiers)
    (asked (nat_lt f.returns.identifier.0 (length env.identifiers)) _
    (both_pass (place_fits env f.returns) _ b.1).0)

is_nothing : {X : Type 0} (o : Option X) → is_none o ≡ true → o ≡ None
is_nothing None h = refl
is_nothing (Some x) h = cc

uninferred_summary : (f : HirFunction) → function_is_uninferred f ≡ true → f.aliasing_effects ≡ None
uninferred_summary f h = is_nothing f.aliasing_effects
    (both_true (is_none f.aliasing_effects) _ (both_true _ _ (both_true _ _ h).0).0).0

pub all_at : {X : Type 0} (p : X → Bool) (xs : List X) (k : ℕ) (x : X) → list_all p xs ≡ true → slice_get xs k ≡ Some x
    → p x ≡ true
all_at p [] k x h e = cc
all_at p (y ∷ ys) zero x h e = let same : y ≡ x = cc in
    subst (λ z. p z ≡ true) same (both_true (p y) (list_all p ys) h).0
all_at p (y ∷ ys) (suc k) x h e = all_at p ys k x (both_true (p y) (list_all p ys) h).1 e

all_faces : (n : ℕ) (fs : List HirFunction) → ((k : ℕ) (f : HirFunction) → slice_get fs k ≡ Some f → HasFace n f)
    → HaveFaces n fs
all_faces n [] h = tt
all_faces n (f ∷ fs) h = (h 0 f refl, all_faces n fs (λ k g e. h (suc k) g e))

module _ (u : HirUnit) (rules : rules_hold u ≡ Ok tt) where
  pub unit_faces : (k : ℕ) (f : HirFunction) → slice_get u.env.functions k ≡ Some f
      → HasFace (length u.env.identifiers) f
  unit_faces k f e =
      let p = parts_of_rules u rules in
      let uninferred : list_all function_is_uninferred u.env.functions ≡ true =
      (both_true _ (list_all function_is_uninferred u.env.functions) p.environment).1 in
      record {
        places = record {
          distinct = not_again (Some (record { 0 = k })) (first_again [] (own_identifiers f))
              (sym (ap (of_function Distinct u.env k) e) ∙ nested_of_rules Distinct u k p.distinct);
          within = returns_within u.env f (sym (ap (of_function Numbers u.env k) e)
              ∙ nested_of_rules Numbers u k p.numbers);
        };
        summary = λ es i. no_summary f.returns.identifier.0 es f.aliasing_effects
            (uninferred_summary f (all_at function_is_uninferred u.env.functions k f uninferred e)) i;
      }

  -- a unit that is well formed begins so
  pub unit_holds : Holds (analysis u.env [])
  unit_holds = record { faces = all_faces (length u.env.identifiers) u.env.functions unit_faces; moments = tt }

callable_answer : (r : Result Analysis InferError) (a : Analysis) → OnAnswer Holds r → r ≡ Ok a → AreCallable a.env
    × AllByRecursion BeganCallable a.functions
callable_answer (Ok b) a h e = let same : b ≡ a = cc in let held : Holds a = subst Holds same h in
    (faces_callable a.env held.faces, held.moments)
callable_answer (Err c) a h e = cc

-- where the functions below the root are analysed, all functions of the table are callable as the root's pass begins,
-- and were as that of each of them began
pub unit_callable : (u : HirUnit) → rules_hold u ≡ Ok tt → (n : ℕ) (a : Analysis)
    → analysed n u.function (analysis u.env []) ≡ Ok a → AreCallable a.env × AllByRecursion BeganCallable a.functions
unit_callable u rules n a e = callable_answer (analysed n u.function (analysis u.env [])) a
    (analysis_holds n u.function (analysis u.env []) (unit_holds u rules)) e
