-- What the passes leave of a nested function and of its environment, where they keep all and where passes of the
-- caller change functions within their law.
use Rattle.std.specs.Prelude.{◌≡◌, Bool, true, List, [], ◌∷◌, Option, Some, Result, Ok, Err, length, map, refl}
use Rattle.std.proofs.Common.{ap, sym, ◌∙◌, subst}
use Rattle.alias_base.specs.declared.ids.DeclarationId.{DeclarationId}
use Rattle.alias_base.specs.declared.ids.FunctionId.{FunctionId}
use Rattle.alias_base.specs.declared.ids.TypeId.{TypeId}
use Rattle.alias_effects.specs.Inference.{pass_end}
use Rattle.alias_effects.specs.declared.output.PassEnd.{PassEnd}
use Rattle.alias_hir.specs.Parts.{param_place}
use Rattle.alias_hir.specs.declared.env.Environment.{Environment}
use Rattle.alias_hir.specs.declared.env.Identifier.{Identifier}
use Rattle.alias_hir.specs.declared.env.IdentifierName.{IdentifierName}
use Rattle.alias_hir.specs.declared.error.InferError.{InferError}
use Rattle.alias_hir.specs.declared.error.InferError.TheVariants.{PassFault}
use Rattle.alias_hir.specs.declared.error.Pass.{Pass}
use Rattle.alias_hir.specs.declared.error.Pass.TheVariants.{DeadCodeElimination}
use Rattle.alias_hir.specs.declared.error.Pass.TheVariants.{RewriteInstructionKindsBasedOnReassignment}
use Rattle.alias_hir.specs.declared.error.Pass.TheVariants.{InferReactiveScopeVariables}
use Rattle.alias_hir.specs.declared.hir.HirFunction.{HirFunction}
use Rattle.alias_hir.specs.declared.hir.ParamPattern.{ParamPattern}
use Rattle.alias_hir.specs.declared.place.Place.{Place}
use Rattle.alias_inner_passes.specs.Passes.{declaration_name_and_type, Keeps}
use Rattle.alias_range_pass.specs.Passes.{Ranged, range_pass}
use Rattle.alias_range_pass.specs.places.Keeping.{but_context}
use Rattle.alias_nested.specs.Analysis.{named, naming, Analysis, analysis, effects_analysed, completed, completed_with}
use Rattle.alias_nested.specs.Analysis.{function_analysed}
use Rattle.alias_nested.specs.Answers.{Only, Passed, Completed, CompletedWith, FunctionAnalysed}
use Rattle.alias_nested.specs.Annotating.{annotated}
use Rattle.alias_completeness.specs.Callable.{IsSummary}
use Rattle.alias_completeness.specs.summaries.Faces.{HasPlaces, SameOwn, same_own_then, places_alike, Stays, stays_then}
use Rattle.alias_completeness.specs.summaries.KeptTables.{bound_to, tables_alike}
use Rattle.alias_unit_completeness.specs.Answering.{Meets, AllMeet, meets_then, meets_naming, only_meets, then_meets}
use Rattle.alias_unit_completeness.specs.Answering.{AsStated}
use Rattle.alias_unit_completeness.specs.Moments.{pass_stays, Finished, annotated_finished, RangesDone, ranges_done}
use Rattle.alias_unit_completeness.specs.Moments.{ranged_finished}
use Rattle.alias_unit_completeness.specs.Walking.{Turned}

-- a function's own places stay, and its environment
record Kept (f : HirFunction) (env : Environment) (s : HirFunction × Environment) : Type 0 where
  own : SameOwn f s.0
  stays : Stays env s.1

kept_then : (f g : HirFunction) (env more : Environment) (s : HirFunction × Environment) → SameOwn f g → Stays env more
    → Kept g more s → Kept f env s
kept_then f g env more s own stays k = record
    { own = same_own_then f g s.0 own k.own; stays = stays_then env more s.1 stays k.stays }

-- ---- a pass of the caller

-- the declaration and the type, without the name between them
abbrev without_name : DeclarationId × (Option IdentifierName × TypeId) → DeclarationId × TypeId
without_name d = (d.0, d.1.1)

bound_so : (is js : List Identifier) → map declaration_name_and_type js ≡ map declaration_name_and_type is
    → map bound_to js ≡ map bound_to is
bound_so [] [] e = refl
bound_so [] (j ∷ js) e = cc
bound_so (i ∷ is) [] e = cc
bound_so (i ∷ is) (j ∷ js) e =
    let one : declaration_name_and_type j ≡ declaration_name_and_type i = cc in
    let rest : map declaration_name_and_type js ≡ map declaration_name_and_type is = cc in
    ap (λ (d : DeclarationId × (Option IdentifierName × TypeId)). without_name d ∷ map bound_to js) one
    ∙ ap (λ (ds : List (DeclarationId × TypeId)). bound_to i ∷ ds) (bound_so is js rest)

pass_keeps : (old new : HirFunction × Environment) → Keeps old.0 old.1 new.0 new.1 → Kept old.0 old.1 new
pass_keeps old new k = record {
  own = record {
    params = ap (λ (ps : List ParamPattern). map (λ p. (param_place p).identifier.0) ps) k.outside.params;
    context = ap (λ (ps : List Place). map (λ (p : Place). p.identifier.0) ps) k.outside.context;
    returns = k.outside.returns;
  };
  stays = record {
    functions = ap (λ (fs : List HirFunction). map but_context fs) k.tables.functions;
    tables = tables_alike old.1 new.1 (bound_so old.1.identifiers new.1.identifiers k.identifiers) k.tables.types
        k.tables.shapes k.tables.config;
  };
}

-- a fault of one has its cause
abbrev HasFaults : (InferError → Type 0) → FunctionId → Type 0
HasFaults E id = (pass : Pass) → E (PassFault (Some id) pass)

module _ (E : InferError → Type 0) where
  module _ (id : FunctionId) (faults : HasFaults E id) (b : Bool) (pass : Pass) (old : HirFunction × Environment) where
    passed_case : (r : Result (HirFunction × Environment) InferError) → Passed b id pass old r
        → Meets E (Kept old.0 old.1) r
    passed_case (Ok new) h = pass_keeps old new h.keeps
    passed_case (Err e) q = subst E (sym q) (faults pass)

    passed_keeps : AllMeet E (Kept old.0 old.1) (Passed b id pass old)
    passed_keeps = λ r h. passed_case r h

  -- ---- a function

  -- its effects pass
  effects_turn : (id : FunctionId) (g : HirFunction) (a : Analysis)
      → ((e : InferError) → pass_end a.env g true ≡ Err e → E (named id e))
      → Meets E (λ (s : HirFunction × Analysis). Kept g a.env (s.0, s.1.env)) (effects_analysed id g a)
  effects_turn id g a caused =
      meets_then E (λ (e : PassEnd). Unit {0}) (λ (s : HirFunction × Analysis). Kept g a.env (s.0, s.1.env))
      (naming id (pass_end a.env g true)) _
      (meets_naming E (λ (e : PassEnd). Unit {0}) id (pass_end a.env g true) (λ e q. tt) caused)
      (λ e u. record { own = record { params = refl; context = refl; returns = refl }; stays = pass_stays a.env e })

  module _ (id : FunctionId) (ranges : (f : HirFunction) (env : Environment) (e : InferError) → range_pass true f env
      ≡ Err e → E (named id e)) where
    range_is : (f : HirFunction) (env : Environment)
        → Meets E (λ (r : Ranged). range_pass true f env ≡ Ok r) (naming id (range_pass true f env))
    range_is f env = meets_naming E (λ (r : Ranged). range_pass true f env ≡ Ok r) id (range_pass true f env) (λ r q. q)
        (ranges f env)

    -- what follows it
    completed_turns : (f : HirFunction) (env : Environment) → HasPlaces (length env.identifiers) f
        → Meets E (Finished env f) (completed id f env)
    completed_turns f env places = meets_then E (λ (r : Ranged). range_pass true f env ≡ Ok r) (Finished env f)
        (naming id (range_pass true f env)) _ (range_is f env) (λ r q. ranged_finished f env r places q)

    completed_by_passes : HasFaults E id → (b : Bool) (f : HirFunction) (env : Environment)
        → HasPlaces (length env.identifiers) f → AllMeet E (Finished env f) (Completed b id (f, env))
    completed_by_passes faults b f env places =
        then_meets E (Kept f env) (Finished env f) (Passed b id DeadCodeElimination (f, env)) _
        (passed_keeps id faults b DeadCodeElimination (f, env)) (λ dead d.
        then_meets E (λ (r : Ranged). range_pass true dead.0 dead.1 ≡ Ok r) (Finished env f)
        (Only (naming id (range_pass true dead.0 dead.1))) _
        (only_meets E (λ (r : Ranged). range_pass true dead.0 dead.1 ≡ Ok r) (naming id (range_pass true dead.0 dead.1))
        (range_is dead.0 dead.1)) (λ r q.
        let there : HasPlaces (length dead.1.identifiers) dead.0 =
        places_alike (length env.identifiers) (length dead.1.identifiers) f dead.0 d.own d.stays.tables.longer
        places in
        let ranged : RangesDone dead.1 dead.0 r = ranges_done dead.0 dead.1 r there q in
        let order : IsSummary f.returns.identifier.0 r.summary =
        subst (λ (p : Place). IsSummary p.identifier.0 r.summary) d.own.returns ranged.order in
        let after : Kept f env r.after = kept_then f dead.0 env dead.1 r.after d.own d.stays
        (record { own = ranged.own; stays = ranged.stays }) in
        then_meets E (Kept r.after.0 r.after.1) (Finished env f)
        (Passed b id RewriteInstructionKindsBasedOnReassignment r.after) _
        (passed_keeps id faults b RewriteInstructionKindsBasedOnReassignment r.after) (λ kinds k.
        let second : Kept f env kinds = kept_then f r.after.0 env r.after.1 kinds after.own after.stays k in
        then_meets E (Kept kinds.0 kinds.1) (Finished env f) (Passed b id InferReactiveScopeVariables kinds) _
        (passed_keeps id faults b InferReactiveScopeVariables kinds) (λ scopes s.
        let third : Kept f env scopes = kept_then f kinds.0 env kinds.1 scopes second.own second.stays s in
        only_meets E (Finished env f) (Ok (annotated r.summary scopes))
        (annotated_finished env f r.summary scopes third.own third.stays places order)))))

    module _ (g : HirFunction) (a : Analysis) (places : HasPlaces (length a.env.identifiers) g)
        (caused : (e : InferError) → pass_end a.env g true ≡ Err e → E (named id e)) where
      finished_turned : (s : HirFunction × Analysis) → Kept g a.env (s.0, s.1.env) → (c : HirFunction × Environment)
          → Finished s.1.env s.0 c → Turned g a (c.0, analysis c.1 s.1.functions)
      finished_turned s k c d = record {
        own = same_own_then g s.0 c.0 k.own d.own;
        face = d.face;
        stays = stays_then a.env s.1.env c.1 k.stays d.stays;
      }

      still_there : (s : HirFunction × Analysis) → Kept g a.env (s.0, s.1.env)
          → HasPlaces (length s.1.env.identifiers) s.0
      still_there s k = places_alike (length a.env.identifiers) (length s.1.env.identifiers) g s.0 k.own
          k.stays.tables.longer places

      -- where the passes keep all
      pub turns_stated : AllMeet E (Turned g a) (AsStated id g a)
      turns_stated =
          only_meets E (Turned g a) (function_analysed id g a)
          (meets_then E (λ (s : HirFunction × Analysis). Kept g a.env (s.0, s.1.env)) (Turned g a)
          (effects_analysed id g a) (completed_with id) (effects_turn id g a caused) (λ s k.
          meets_then E (Finished s.1.env s.0) (Turned g a) (completed id s.0 s.1.env) _
          (completed_turns s.0 s.1.env (still_there s k)) (finished_turned s k)))

      -- where they change functions within their law
      pub turns_by_passes : HasFaults E id → (b : Bool) → AllMeet E (Turned g a) (FunctionAnalysed b id g a)
      turns_by_passes faults b =
          then_meets E (λ (s : HirFunction × Analysis). Kept g a.env (s.0, s.1.env)) (Turned g a)
          (Only (effects_analysed id g a)) (CompletedWith b id)
          (only_meets E (λ (s : HirFunction × Analysis). Kept g a.env (s.0, s.1.env)) (effects_analysed id g a)
          (effects_turn id g a caused)) (λ s k.
          then_meets E (Finished s.1.env s.0) (Turned g a) (Completed b id (s.0, s.1.env)) _
          (completed_by_passes faults b s.0 s.1.env (still_there s k)) (λ c d.
          only_meets E (Turned g a) (Ok (c.0, analysis c.1 s.1.functions)) (finished_turned s k c d)))
