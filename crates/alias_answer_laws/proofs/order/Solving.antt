-- What is solved of a unit, in its order.
use Rattle.std.specs.Prelude.{◌≡◌, false, List, [], ◌∷◌, ◌++◌, Some, None, Ok, length, map}
use Rattle.std.proofs.Common.{refl, ap, sym, ◌∙◌, arith, ◌<◌, ◌≤◌, ⊎_elim}
use Rattle.std.proofs.lemmas.List.{map-append}
use Rattle.alias_hir.specs.declared.env.Environment.{Environment}
use Rattle.alias_hir.specs.declared.env.Unit.{Unit as HirUnit}
use Rattle.alias_hir.specs.declared.hir.HirFunction.{HirFunction}
use Rattle.alias_rules.specs.Functions.{rules_hold}
use Rattle.alias_rules.specs.Nesting.{times}
use Rattle.alias_rules.specs.RuleLaws.{lt_or_le}
use Rattle.alias_lattice.specs.States.{State}
use Rattle.alias_flow.specs.Machine.{VisitLog, End}
use Rattle.alias_flow.specs.Machine as end
use Rattle.alias_step.specs.block.Contexts.{context_of}
use Rattle.alias_step.specs.declared.block.faults.BlockRefusal.{BlockRefusal}
use Rattle.alias_step.specs.declared.block.recorded.BlockEffects.{BlockEffects}
use Rattle.alias_tables.specs.Tables.{TableLists}
use Rattle.alias_effects.specs.Inference.{end_of, answer_of, pass_end, env_after}
use Rattle.alias_effects.specs.Numbered.{visits_end}
use Rattle.alias_effects.specs.Recording.{with_effects_of}
use Rattle.alias_effects.specs.declared.output.PassEnd.{PassEnd}
use Rattle.alias_range_pass.specs.Passes.{Ranged, range_pass}
use Rattle.alias_nested.specs.Analysis.{Analysed, Analysis, analysis, most_levels, analysed}
use Rattle.alias_nested.specs.Created.{created_functions}
use Rattle.alias_nested.specs.Units.{RootAnalysis, validated, root_finished, root_analysed, all_analysed, UnitAnalysis}
use Rattle.alias_nested.specs.Units.{handed_out, unit_analysed}
use Rattle.alias_nested.specs.Order.{innermost_first, functions_of}
use Rattle.alias_answer_laws.specs.order.Order.{nested_innermost_first}
use Rattle.alias_answer_laws.proofs.order.Ordering.{went, done, Apart, Done, goes_over}
use Rattle.alias_answer_laws.proofs.order.Unit.{order_once, order_past}

-- the solution of the effects pass names no function
pub end_names_none : (env : Environment) (f : HirFunction)
    (x : End (VisitLog State) TableLists BlockEffects BlockRefusal) (e : PassEnd) → answer_of env f x ≡ Ok e
    → e.solved.function ≡ None
end_names_none env f (end.Solved w) e h = let is : end_of f w ≡ e = cc in
    ap (λ (z : PassEnd). z.solved.function) (sym is)
end_names_none env f (end.Fault n c) e h = cc
end_names_none env f (end.NotSettled v) e h = cc

finished_functions : (f : HirFunction) (env : Environment) (fs : List Analysed) (r : RootAnalysis)
    → root_finished f env fs ≡ Ok r → r.analysis.functions ≡ fs
finished_functions f env fs r h =
    let w = went (range_pass false f env) _ r h in
    let p : Ranged = w.0 in
    let v = went (validated p.after.0 p.after.1)
    (λ (more : Environment). Ok (record { summary = p.summary; func = p.after.0; analysis = analysis more fs })) r
    w.2 in
    let more : Environment = v.0 in
    let is : ◌≡◌ {A = RootAnalysis} (record { summary = p.summary; func = p.after.0; analysis = analysis more fs }) r =
    cc in
    ap (λ (z : RootAnalysis). z.analysis.functions) (sym is)

root_done : (f : HirFunction) (a : Analysis) (r : RootAnalysis) → root_analysed f a ≡ Ok r → done r.analysis ≡ done a
    ++ None ∷ []
root_done f a r h =
    let w = went (pass_end a.env f false) (λ (e : PassEnd).
    root_finished (with_effects_of e.solved f) (env_after a.env e)
    (a.functions ++ record { env = a.env; func = f; is_function_expression = false; solved = e.solved } ∷ [])) r
    h in
    let e : PassEnd = w.0 in
    let x : Analysed = record { env = a.env; func = f; is_function_expression = false; solved = e.solved } in
    let all : r.analysis.functions ≡ a.functions ++ x ∷ [] =
    finished_functions (with_effects_of e.solved f) (env_after a.env e) (a.functions ++ x ∷ []) r w.2 in
    let none : e.solved.function ≡ None = end_names_none a.env f (visits_end (context_of a.env f false)) e w.1 in
    ap (map (λ (x : Analysed). x.solved.function)) all
    ∙ map-append (λ (x : Analysed). x.solved.function) a.functions (x ∷ []) ∙ ap (λ o. done a ++ o ∷ []) none

solved_functions : (fs : List Analysed) → functions_of (map (λ (x : Analysed). x.solved) fs)
    ≡ map (λ (x : Analysed). x.solved.function) fs
solved_functions [] = refl
solved_functions (x ∷ xs) = ap (λ zs. x.solved.function ∷ zs) (solved_functions xs)

-- in the order of a unit that is well formed functions are apart
pub root_apart : (u : HirUnit) → rules_hold u ≡ Ok tt → Apart u.env.functions [] (nested_innermost_first u)
root_apart u rules = record {
  once = λ j.
      let none : times [] j ≡ 0 = refl in
      ⊎_elim (λ (there : j < length u.env.functions). let a = order_once u rules j there in omega arith)
      (λ (past : length u.env.functions ≤ j). let a = order_past u rules j past in omega arith)
      (lt_or_le j (length u.env.functions));
  there = λ j h. ⊎_elim (λ (there : j < length u.env.functions). there)
      (λ (past : length u.env.functions ≤ j). let a = order_past u rules j past in absurd (omega arith))
      (lt_or_le j (length u.env.functions));
}

-- one solution a nested function, in the order of the unit, and then that of the root
pub solved_in_order : (u : HirUnit) (a : UnitAnalysis) → rules_hold u ≡ Ok tt → unit_analysed u ≡ Ok a
    → functions_of a.inferred.solved ≡ map Some (nested_innermost_first u) ++ None ∷ []
solved_in_order u a rules h =
    let w = went (all_analysed u.function (analysis u.env [])) (λ (r : RootAnalysis). Ok (handed_out r)) a h in
    let r : RootAnalysis = w.0 in
    let is : handed_out r ≡ a = cc in
    let v = went (analysed most_levels u.function (analysis u.env [])) (root_analysed u.function) r w.1 in
    let b : Analysis = v.0 in
    let nested : Done u.env.functions [] (analysis u.env []) b
    (innermost_first most_levels u.env.functions (created_functions u.function))
    = goes_over u.env.functions most_levels u.function [] (analysis u.env []) b
    (record { count = refl; slots = λ k h. refl }) (root_apart u rules) v.1 in
    ap (λ (z : UnitAnalysis). functions_of z.inferred.solved) (sym is) ∙ solved_functions r.analysis.functions
    ∙ root_done u.function b r v.2 ∙ ap (λ xs. xs ++ None ∷ []) nested.functions
