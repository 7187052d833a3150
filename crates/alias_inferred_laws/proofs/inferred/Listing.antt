-- What the functions of a unit that is inferred carry, in the unit that is handed out: each has a listing, and the
-- effects of its solution.
use Rattle.std.specs.Prelude.{◌≡◌, true, List, [], ◌∷◌, ◌++◌, Some, None, Ok, map, refl}
use Rattle.std.proofs.Common.{ap, sym, ◌∙◌, subst}
use Rattle.alias_base.specs.declared.ids.FunctionId.{FunctionId}
use Rattle.alias_hir.specs.declared.effect.AliasingEffect.{AliasingEffect}
use Rattle.alias_hir.specs.declared.env.Environment.{Environment}
use Rattle.alias_hir.specs.declared.hir.HirFunction.{HirFunction}
use Rattle.alias_hir.specs.declared.place.Place.{Place}
use Rattle.alias_effects.specs.Inference.{pass_end, env_after}
use Rattle.alias_effects.specs.Recording.{with_effects_of}
use Rattle.alias_effects.specs.declared.output.PassEnd.{PassEnd}
use Rattle.alias_graph.specs.recorded.BlockListings.{listed}
use Rattle.alias_graph.specs.declared.recorded.listing.Listing.{Listing}
use Rattle.alias_inferred_laws.proofs.lints.Placing.{listed_alike}
use Rattle.alias_range_pass.specs.Laws.{but_places}
use Rattle.alias_range_pass.specs.Passes.{Ranged, range_pass}
use Rattle.alias_range_pass.specs.places.Keeping.{but_effect, but_context}
use Rattle.alias_nested.specs.Analysis.{naming, numbered, Analysed, Analysis, analysis, effects_analysed, completed}
use Rattle.alias_nested.specs.Analysis.{completed_with, function_analysed}
use Rattle.alias_nested.specs.Annotating.{context_annotated, summarized, annotated}
use Rattle.alias_answer_laws.proofs.order.Ordering.{went, naming_ok}
use Rattle.alias_inferred_laws.specs.inferred.Solutions.{but_ranged, CarriesItsSolution}
use Rattle.alias_inferred_laws.proofs.inferred.Lasting.{Entered}
use Rattle.alias_inferred_laws.proofs.inferred.Ranging.{PassLeaves, pass_leaves, lists_still}

-- what the function records is listed
abbrev pub IsListed : HirFunction → Type 0
IsListed f = (l : Listing) × (listed f ≡ Ok l)

alike_listed : (f g : HirFunction) → listed g ≡ listed f → IsListed f → IsListed g
alike_listed f g e p = (p.0, e ∙ p.1)

context_places : (f g : HirFunction) → but_context g ≡ but_context f → but_places g ≡ but_places f
context_places f g e = ap (λ (z : HirFunction). record (but_places z) { context = z.context }) e

-- ---- a nested function

pub places_annotated : (summary : List AliasingEffect) (ps : List Place)
    → map but_effect (map (context_annotated summary) ps) ≡ map but_effect ps
places_annotated summary [] = refl
places_annotated summary (p ∷ ps) = ap (λ z. but_effect p ∷ z) (places_annotated summary ps)

annotated_listed : (summary : List AliasingEffect) (f : HirFunction) → IsListed f → IsListed (summarized summary f)
annotated_listed summary f h =
    let g : HirFunction = record f { aliasing_effects = Some summary } in
    let places : but_places (summarized summary f) ≡ but_places g =
    ap (λ ps. record (but_places g) { context = ps }) (places_annotated summary f.context) in
    alike_listed f (summarized summary f) (listed_alike g (summarized summary f) places) h

-- ---- what it went through

abbrev Taken : Type 0
Taken = HirFunction × Analysis

abbrev entry : FunctionId → HirFunction → Analysis → PassEnd → Analysed
entry id f a e = record { env = a.env; func = f; is_function_expression = true; solved = numbered id e.solved }

abbrev recorded_of : FunctionId → HirFunction → Analysis → PassEnd → Taken
recorded_of id f a e = (with_effects_of e.solved f, analysis (env_after a.env e) (a.functions ++ entry id f a e ∷ []))

abbrev ranged_of : FunctionId → HirFunction → Analysis → PassEnd → Ranged → Taken
ranged_of id f a e r = (
  (annotated r.summary r.after).0,
  analysis (annotated r.summary r.after).1 (a.functions ++ entry id f a e ∷ []),
)

-- a nested function's effects pass and its range pass
pub record Passed (id : FunctionId) (f : HirFunction) (a : Analysis) (s : HirFunction × Analysis) : Type 0 where
  pub end : PassEnd
  pub ended : pass_end a.env f true ≡ Ok end
  pub ranged : Ranged
  pub ran : range_pass true (with_effects_of end.solved f) (env_after a.env end) ≡ Ok ranged
  pub is : ranged_of id f a end ranged ≡ s

pub function_passed : (id : FunctionId) (f : HirFunction) (a : Analysis) (s : Taken) → function_analysed id f a ≡ Ok s
    → Passed id f a s
function_passed id f a s h =
    let w = went (effects_analysed id f a) (completed_with id) s h in
    let p : Taken = w.0 in
    let t = went (naming id (pass_end a.env f true)) (λ (e : PassEnd). Ok (recorded_of id f a e)) p w.1 in
    let made : recorded_of id f a t.0 ≡ p = cc in
    let v = went (completed id p.0 p.1.env) (λ (c : HirFunction × Environment). Ok (c.0, analysis c.1 p.1.functions)) s
    w.2 in
    let c : HirFunction × Environment = v.0 in
    let y = went (naming id (range_pass true p.0 p.1.env)) (λ (r : Ranged). Ok (annotated r.summary r.after)) c v.1 in
    let r : Ranged = y.0 in
    let set : annotated r.summary r.after ≡ c = cc in
    let last : ◌≡◌ {A = Taken} (c.0, analysis c.1 p.1.functions) s = cc in
    record {
      end = t.0;
      ended = naming_ok id (pass_end a.env f true) t.0 t.1;
      ranged = r;
      ran = subst (λ (q : Taken). range_pass true q.0 q.1.env ≡ Ok r) (sym made)
          (naming_ok id (range_pass true p.0 p.1.env) r y.1);
      is =
          ap (λ (q : Taken). let z : Taken = (
            (annotated r.summary r.after).0,
            analysis (annotated r.summary r.after).1 q.1.functions,
          ) in z) made
          ∙ ap (λ (d : HirFunction × Environment). let z : Taken = (d.0, analysis d.1 p.1.functions) in z) set ∙ last;
    }

-- ---- what is handed out of it

-- a function once it was analysed
pub record IsRecorded (x : Analysed) (f : HirFunction) : Type 0 where
  pub carries : CarriesItsSolution x f
  pub listed : IsListed f

abbrev pub without_summary : HirFunction → HirFunction
without_summary f = record f { aliasing_effects = None }

pub still_recorded : (x : Analysed) (f g : HirFunction) → but_context g ≡ but_context f → IsRecorded x f
    → IsRecorded x g
still_recorded x f g e h = record {
  carries = ap without_summary (context_places f g e) ∙ h.carries;
  listed = alike_listed f g (listed_alike f g (context_places f g e)) h.listed;
}

annotated_carries : (summary : List AliasingEffect) (f : HirFunction) → but_ranged (summarized summary f) ≡ but_ranged f
annotated_carries summary f = ap (λ ps. record (but_ranged f) { context = ps }) (places_annotated summary f.context)

passed_recorded : (id : FunctionId) (f : HirFunction) (a : Analysis) (e : PassEnd) (r : Ranged)
    → range_pass true (with_effects_of e.solved f) (env_after a.env e) ≡ Ok r
    → IsRecorded (entry id f a e) (summarized r.summary r.after.0)
passed_recorded id f a e r ran =
    let leaves : PassLeaves true (with_effects_of e.solved f) (env_after a.env e) r =
    pass_leaves true (with_effects_of e.solved f) (env_after a.env e) r ran in
    record {
      carries = annotated_carries r.summary r.after.0 ∙ ap without_summary leaves.still;
      listed = annotated_listed r.summary r.after.0
          (leaves.listing, lists_still true (with_effects_of e.solved f) (env_after a.env e) r leaves);
    }

pub function_recorded : (id : FunctionId) (f : HirFunction) (a : Analysis) (s : Taken) → function_analysed id f a ≡ Ok s
    → (x : Analysed) × Entered id a s x × IsRecorded x s.0
function_recorded id f a s h =
    let p = function_passed id f a s h in
    let x : Analysed = entry id f a p.end in (
      x,
      record { functions = ap (λ (q : Taken). q.1.functions) (sym p.is); number = refl },
      subst (λ (q : Taken). IsRecorded x q.0) p.is (passed_recorded id f a p.end p.ranged p.ran),
    )
