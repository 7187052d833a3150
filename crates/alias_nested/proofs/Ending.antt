-- What the effects pass on a function leads to.
use Rattle.std.specs.Prelude.{◌≡◌, Bool, true, false, List, [], ◌∷◌, ◌++◌, Result, Ok, Err, map, refl}
use Rattle.std.proofs.Common.{ap, sym, subst, ◌∙◌}
use Rattle.std.proofs.lemmas.List.{map-append}
use Rattle.alias_base.specs.Answer.{◌>>=◌}
use Rattle.alias_base.specs.declared.ids.FunctionId.{FunctionId}
use Rattle.alias_effects.specs.Inference.{pass_end, inferred, env_after, env_inferred}
use Rattle.alias_effects.specs.Recording.{with_effects_of}
use Rattle.alias_effects.specs.Solutions.{IsSolved}
use Rattle.alias_effects.specs.declared.output.PassEnd.{PassEnd}
use Rattle.alias_effects.specs.declared.solved.Solved.{Solved}
use Rattle.alias_hir.specs.Errors.{is_memory}
use Rattle.alias_hir.specs.declared.effect.AliasingEffect.{AliasingEffect}
use Rattle.alias_hir.specs.declared.env.Environment.{Environment}
use Rattle.alias_hir.specs.declared.env.Unit.{Unit as HirUnit}
use Rattle.alias_hir.specs.declared.error.InferError.{InferError}
use Rattle.alias_hir.specs.declared.error.InferError.TheVariants as error
use Rattle.alias_hir.specs.declared.hir.HirFunction.{HirFunction}
use Rattle.alias_hir.specs.declared.report.Report.{Report}
use Rattle.alias_nested.specs.Analysis.{Analysed, analysis, named, naming, numbered, is_free, SolvesItsFlow, Accounts}
use Rattle.alias_nested.specs.Analysis.{effects_analysed}
use Rattle.alias_nested.specs.Fitting.{FunctionKept}
use Rattle.alias_nested.specs.Units.{RootAnalysis, validated, root_finished, root_analysed, all_analysed, handed_out}
use Rattle.alias_nested.specs.Units.{unit_analysed, RootLeads}
use Rattle.alias_nested.specs.Order.{functions_of, Notes, SameInSlots}
use Rattle.alias_nested.proofs.Evolving.{passed_contexts}
use Rattle.alias_nested.proofs.Keeping.{effects_keep}
use Rattle.alias_range_pass.specs.Passes.{Ranged, range_pass}
use Rattle.alias_rules.specs.Fitting.{function_fits}
use Rattle.alias_validate.specs.Freezing.{frozen_reports}
use Rattle.alias_validate.specs.Reassigning.{reassigned_reports, with_reassigned}
use Rattle.alias_validate.specs.Reports.{with_reports, with_errors}
use Rattle.alias_walks.specs.Words.{all_appended}

-- the pass ends with this solution, and with what it makes of the environment
pub record Ended (env : Environment) (func : HirFunction) (b : Bool) (s : Solved) (after : Environment) : Type 0 where
  pub end : PassEnd
  pub is : pass_end env func b ≡ Ok end
  pub solved : end.solved ≡ s
  pub left : env_after env end ≡ after

ended_at : (r : Result PassEnd InferError) (env : Environment) (func : HirFunction) (b : Bool) (s : Solved)
    (after : Environment) → pass_end env func b ≡ r
    → ◌≡◌ {A = Result Solved InferError} (r >>= (λ e. Ok e.solved)) (Ok s)
    → ◌≡◌ {A = Result Environment InferError} (r >>= (λ e. Ok (env_after env e))) (Ok after)
    → Ended env func b s after
ended_at (Ok e) env func b s after p h i =
    let a : e.solved ≡ s = cc in
    let c : env_after env e ≡ after = cc in
    record { end = e; is = p; solved = a; left = c }
ended_at (Err x) env func b s after p h i = cc

pub ended : (env : Environment) (func : HirFunction) (b : Bool) (s : Solved) (after : Environment) → inferred env func b
    ≡ Ok s → env_inferred env func b ≡ Ok after → Ended env func b s after
ended env func b s after h i = ended_at (pass_end env func b) env func b s after refl h i

module _ (env : Environment) (func : HirFunction) (b : Bool) (s : Solved) (after : Environment)
    (x : Ended env func b s after) (func' : HirFunction) (made : func' ≡ with_effects_of s func) where
  func_is : with_effects_of x.end.solved func ≡ func'
  func_is = ap (λ (z : Solved). with_effects_of z func) x.solved ∙ sym made

  pub ended_keeps : function_fits func env ≡ true → FunctionKept func env func' after
  ended_keeps h =
      subst (λ (e : Environment). FunctionKept func env func' e) x.left
      (subst (λ (f : HirFunction). FunctionKept func env f (env_after env x.end)) func_is
      (effects_keep func env b x.end h x.is))

  -- what is analysed of the function
  abbrev pub begun : FunctionId → Analysed
  begun id = record { env = env; func = func; is_function_expression = true; solved = numbered id s }

pub ended_slots : (env : Environment) (func : HirFunction) (b : Bool) (s : Solved) (after : Environment)
    → Ended env func b s after → SameInSlots env after
ended_slots env func b s after x = subst (SameInSlots env) x.left (passed_contexts env x.end)

-- a nested function
module _ (env : Environment) (func : HirFunction) (s : Solved) (after : Environment) (x : Ended env func true s after)
    (func' : HirFunction) (made : func' ≡ with_effects_of s func) where
  pub effects_lead : (id : FunctionId) (fs : List Analysed) → effects_analysed id func (analysis env fs)
      ≡ Ok (func', analysis after (fs ++ begun env func true s after x func' made id ∷ []))
  effects_lead id fs =
      ap (λ r. naming id r >>= (λ e. Ok (
        with_effects_of e.solved func,
        analysis (env_after env e) (fs ++ record
            { env = env; func = func; is_function_expression = true; solved = numbered id e.solved } ∷ []),
      ))) x.is
      ∙ ap (λ f. Ok (
        f,
        analysis (env_after env x.end)
            (fs ++ record { env = env; func = func; is_function_expression = true; solved = numbered id x.end.solved }
            ∷ []),
      )) (func_is env func true s after x func' made)
      ∙ ap (λ e. Ok (
        func',
        analysis e (fs ++ record
            { env = env; func = func; is_function_expression = true; solved = numbered id x.end.solved } ∷ []),
      )) x.left
      ∙ ap (λ z. Ok (
        func',
        analysis after (fs
            ++ record { env = env; func = func; is_function_expression = true; solved = numbered id z } ∷ []),
      )) x.solved

-- a solution that is noted
numbered_solves : (env : Environment) (func : HirFunction) (b : Bool) (id : FunctionId) (s : Solved)
    → IsSolved env func b s → IsSolved env func b (numbered id s)
numbered_solves env func b id s h = record {
  in_order = h.in_order;
  solution = h.solution;
  first = h.first;
  temporaries = h.temporaries;
  effects = h.effects;
  terminal_effects = h.terminal_effects;
  joins = h.joins;
}

pub accounts_more : (fs : List Analysed) (before after : List Solved) (x : Analysed) → Accounts fs before → after
    ≡ before ++ x.solved ∷ [] → SolvesItsFlow x → Accounts (fs ++ x ∷ []) after
accounts_more fs before after x a more h = record {
  same = map-append (λ (y : Analysed). y.solved) fs (x ∷ []) ∙ ap (λ ss. ss ++ x.solved ∷ []) a.same ∙ sym more;
  solve = all_appended SolvesItsFlow fs (x ∷ []) a.solve (h, tt);
}

pub accounts_numbered : (env : Environment) (func : HirFunction) (id : FunctionId) (s : Solved) (fs : List Analysed)
    (before after : List Solved) → Accounts fs before → after ≡ before ++ numbered id s ∷ [] → IsSolved env func true s
    → Accounts (fs ++ record { env = env; func = func; is_function_expression = true; solved = numbered id s } ∷ [])
    after
accounts_numbered env func id s fs before after a more h =
    accounts_more fs before after (record {
      env = env;
      func = func;
      is_function_expression = true;
      solved = numbered id s;
    }) a more (numbered_solves env func true id s h)

pub notes_one : (id : FunctionId) (s : Solved) (before after : List Solved) → after ≡ before ++ numbered id s ∷ []
    → Notes (id ∷ []) before after
notes_one id s before after more = ap functions_of more
    ∙ map-append (λ (x : Solved). x.function) before (numbered id s ∷ [])

-- ---- refusals

-- a refusal of a function is no out of memory
pub not_memory : (id : FunctionId) (e : InferError) → is_memory (named id e) ≡ false → is_memory e ≡ false
not_memory id (error.Memory m) h = cc
not_memory id (error.PassFault f p) h = refl
not_memory id (error.NotSettled f v r) h = refl
not_memory id (error.Uninitialized f b x s r) h = refl
not_memory id (error.Reinitialized f i x) h = refl
not_memory id (error.AliasBeforeCreate f i x) h = refl
not_memory id (error.IncompatibleLibrary f i r) h = refl
not_memory id (error.SpreadArgument f i s r) h = refl
not_memory id (error.UnreplacedApply i r) h = refl
not_memory id (error.EffectsNotInferred x) h = refl
not_memory id (error.TooMany w) h = refl

pub unfree : (e : InferError) → is_free e ≡ false → is_memory e ≡ false
unfree (error.Memory m) h = cc
unfree (error.PassFault f p) h = refl
unfree (error.NotSettled f v r) h = refl
unfree (error.Uninitialized f b x s r) h = refl
unfree (error.Reinitialized f i x) h = refl
unfree (error.AliasBeforeCreate f i x) h = refl
unfree (error.IncompatibleLibrary f i r) h = refl
unfree (error.SpreadArgument f i s r) h = refl
unfree (error.UnreplacedApply i r) h = refl
unfree (error.EffectsNotInferred x) h = refl
unfree (error.TooMany w) h = refl

-- the refusal of a step is that of what follows it
pub refused_at : {A B : Type 0} (r : Result A InferError) (f : A → B) (e : InferError)
    → ◌≡◌ {A = Result B InferError} (r >>= (λ x. Ok (f x))) (Err e) → r ≡ Err e
refused_at (Ok x) f e h = cc
refused_at (Err z) f e h = let same : z ≡ e = cc in ap Err same

pub effects_refused : (env : Environment) (func : HirFunction) (id : FunctionId) (fs : List Analysed) (e : InferError)
    → inferred env func true ≡ Err e → effects_analysed id func (analysis env fs) ≡ Err (named id e)
effects_refused env func id fs e h =
    ap (λ r. naming id r >>= (λ e. Ok (
      with_effects_of e.solved func,
      analysis (env_after env e) (fs ++ record
          { env = env; func = func; is_function_expression = true; solved = numbered id e.solved } ∷ []),
    )))
    (refused_at (pass_end env func true) (λ e. e.solved) e h)

-- ---- the root

module _ (env : Environment) (func : HirFunction) (s : Solved) (after : Environment) (x : Ended env func false s after)
    (func' : HirFunction) (made : func' ≡ with_effects_of s func) where
  pub root_begins : (fs : List Analysed) → root_analysed func (analysis env fs)
      ≡ root_finished func' after (fs ++ record { env = env; func = func; is_function_expression = false; solved = s }
      ∷ [])
  root_begins fs =
      ap (λ r. r >>= (λ e. root_finished (with_effects_of e.solved func) (env_after env e)
      (fs ++ record { env = env; func = func; is_function_expression = false; solved = e.solved } ∷ []))) x.is
      ∙ ap (λ f. root_finished f (env_after env x.end)
      (fs ++ record { env = env; func = func; is_function_expression = false; solved = x.end.solved } ∷ []))
      (func_is env func false s after x func' made)
      ∙ ap (λ e. root_finished func' e (fs ++ record
      { env = env; func = func; is_function_expression = false; solved = x.end.solved } ∷ [])) x.left
      ∙ ap (λ z. root_finished func' after (fs
      ++ record { env = env; func = func; is_function_expression = false; solved = z } ∷ [])) x.solved

pub root_refused : (env : Environment) (func : HirFunction) (fs : List Analysed) (e : InferError)
    → inferred env func false ≡ Err e → root_analysed func (analysis env fs) ≡ Err e
root_refused env func fs e h =
    ap (λ r. r >>= (λ e. root_finished (with_effects_of e.solved func) (env_after env e)
    (fs ++ record { env = env; func = func; is_function_expression = false; solved = e.solved } ∷ [])))
    (refused_at (pass_end env func false) (λ e. e.solved) e h)

-- an error of a step of the root
pub root_error : (stated : Result RootAnalysis InferError) (r : Result (List AliasingEffect) InferError)
    (e : InferError) (f : HirFunction) (env : Environment) (solved : List Solved) → r ≡ Err e
    → (is_free e ≡ false → stated ≡ Err e) → RootLeads stated r f env solved
root_error stated r e f env solved is h = subst (λ q. RootLeads stated q f env solved) (sym is) h

-- the range pass refuses
pub unranged : (f : HirFunction) (env : Environment) (fs : List Analysed) (e : InferError) → range_pass false f env
    ≡ Err e → root_finished f env fs ≡ Err e
unranged f env fs e h = ap (λ r. r >>= (λ r. validated r.after.0 r.after.1
    >>= (λ more. Ok (record { summary = r.summary; func = r.after.0; analysis = analysis more fs })))) h

-- the first validation refuses
pub unvalidated : (f : HirFunction) (env : Environment) (fs : List Analysed) (r : Ranged) (e : InferError)
    → range_pass false f env ≡ Ok r → with_reassigned r.after.1 (reassigned_reports r.after.1 r.after.0) ≡ Err e
    → root_finished f env fs ≡ Err e
unvalidated f env fs r e h i =
    ap (λ r. r >>= (λ r. validated r.after.0 r.after.1
    >>= (λ more. Ok (record { summary = r.summary; func = r.after.0; analysis = analysis more fs })))) h
    ∙ ap (λ v. (v >>= (λ more. Ok (with_reports more (frozen_reports more r.after.0))))
    >>= (λ more. Ok (record { summary = r.summary; func = r.after.0; analysis = analysis more fs }))) i

-- nothing refuses
pub finished : (f : HirFunction) (env : Environment) (fs : List Analysed) (r : Ranged) (more last : Environment)
    → range_pass false f env ≡ Ok r → with_reassigned r.after.1 (reassigned_reports r.after.1 r.after.0) ≡ Ok more
    → last ≡ with_reports more (frozen_reports more r.after.0)
    → root_finished f env fs ≡ Ok (record { summary = r.summary; func = r.after.0; analysis = analysis last fs })
finished f env fs r more last h i j =
    ap (λ r. r >>= (λ r. validated r.after.0 r.after.1
    >>= (λ more. Ok (record { summary = r.summary; func = r.after.0; analysis = analysis more fs })))) h
    ∙ ap (λ v. (v >>= (λ more. Ok (with_reports more (frozen_reports more r.after.0))))
    >>= (λ more. Ok (record { summary = r.summary; func = r.after.0; analysis = analysis more fs }))) i
    ∙ ap (λ e. Ok (record { summary = r.summary; func = r.after.0; analysis = analysis e fs })) (sym j)

-- ---- the unit

pub unit_leads : (u v : HirUnit) (r : RootAnalysis) → u ≡ v → all_analysed u.function (analysis u.env []) ≡ Ok r
    → unit_analysed v ≡ Ok (handed_out r)
unit_leads u v r same h = ap unit_analysed (sym same) ∙ ap (λ q. q >>= (λ r. Ok (handed_out r))) h

-- what is handed out, in other words
pub unit_as : (v : HirUnit) (fs : List Analysed) (f : HirFunction) (env : Environment) (summary : List AliasingEffect)
    (solved : List Solved) (left : Environment) (reports : List Report)
    → unit_analysed v ≡ Ok (handed_out (record { summary = summary; func = f; analysis = analysis env fs }))
    → map (λ (x : Analysed). x.solved) fs ≡ solved → left ≡ with_errors env [] → reports ≡ env.errors
    → unit_analysed v ≡ Ok (record {
      functions = fs;
      inferred = record {
        unit = record { function = f; env = left };
        solved = solved;
        summary = summary;
        reports = reports;
      };
    })
unit_as v fs f env summary solved left reports h same without taken =
    h
    ∙ ap (λ ss. Ok (record {
      functions = fs;
      inferred = record {
        unit = record { function = f; env = with_errors env [] };
        solved = ss;
        summary = summary;
        reports = env.errors;
      };
    })) same
    ∙ ap (λ e. Ok (record {
      functions = fs;
      inferred = record {
        unit = record { function = f; env = e };
        solved = solved;
        summary = summary;
        reports = env.errors;
      };
    })) (sym without)
    ∙ ap (λ rs. Ok (record {
      functions = fs;
      inferred = record {
        unit = record { function = f; env = left };
        solved = solved;
        summary = summary;
        reports = rs;
      };
    })) (sym taken)
