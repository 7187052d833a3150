-- The lints and the explanations of what is inferred of a unit are never refused.
use Rattle.std.proofs.Common.{◌≡◌, ◌∙◌, ℕ, true, List, [], ◌∷◌, length, Option, Some, None, refl, sym, ap, subst}
use Rattle.std.specs.Prelude.{Result, Ok, Err}
use Rattle.std.specs.List.{AllByRecursion, range_with_len}
use Rattle.alias_base.specs.Answer.{Gives, ◌>>=◌}
use Rattle.alias_base.specs.declared.ids.FunctionId.{FunctionId}
use Rattle.alias_base.specs.declared.ids.IdentifierId.{IdentifierId}
use Rattle.alias_hir.specs.Errors.{is_memory}
use Rattle.alias_hir.specs.declared.env.Unit.{Unit as HirUnit}
use Rattle.alias_hir.specs.declared.hir.HirFunction.{HirFunction}
use Rattle.alias_hir.specs.declared.error.Counter.{Counter}
use Rattle.alias_hir.specs.declared.error.InferError.{InferError}
use Rattle.alias_hir.specs.declared.error.InferError.TheVariants as infer
use Rattle.alias_explain.specs.Explanations.{explained, function_of, is_want_of_memory}
use Rattle.alias_explain.specs.Functions.{numbered, if_here, with_found, each_explained, explained_there}
use Rattle.alias_explain.specs.Functions.{function_explained, IsExplanationOf}
use Rattle.alias_explain.specs.declared.function.IdentifierExplanation.{IdentifierExplanation}
use Rattle.alias_explain.specs.declared.explain.ExplainFault.{ExplainFault}
use Rattle.alias_explain.specs.declared.explain.ExplainFault.TheVariants as explain
use Rattle.alias_explain.specs.declared.explain.Explanation.{Explanation}
use Rattle.alias_lint.specs.Lints.{lints_of}
use Rattle.alias_lint.specs.Sites.{reports_of}
use Rattle.alias_lint.specs.declared.sites.Lint.{Lint}
use Rattle.alias_nested.specs.declared.infer.Inferred.{Inferred as UnitInference}
use Rattle.alias_nested.specs.Units.{InfersUnit, UnitAnalysis, unit_analysed}
use Rattle.alias_rules.specs.Fitting.{function_fits}
use Rattle.alias_rules.specs.Functions.{rules_hold}
use Rattle.alias_cause_laws.proofs.causes.Caused.{each_has_cause}
use Rattle.alias_cause_laws.specs.causes.Causes.{EachHasCause}
use Rattle.alias_inferred_laws.proofs.inferred.Explaining.{never_too_many}
use Rattle.alias_inferred_laws.proofs.inferred.Reporting.{unit_lints}
use Rattle.alias_inferred_laws.specs.inferred.Explanations.{NeverTooMany}
use Rattle.alias_inferred_laws.specs.inferred.Reports.{LintsAreReports}
use Rattle.alias_run.specs.declared.answer.Answer.{Answer}
use Rattle.alias_run.specs.declared.answer.Answer.TheVariants.{Nothing, Linted, Explained, FunctionExplained}
use Rattle.alias_run.specs.declared.outcome.Outcome.{Outcome}
use Rattle.alias_run.specs.declared.status.Status.{Status}
use Rattle.alias_run.specs.declared.status.Status.TheVariants.{Done, Memory}
use Rattle.alias_run.specs.Findings.{IsAskable, IsLintedOf, IsExplainedOf, AllHaveCause, IsFunctionExplainedOf}
use Rattle.alias_run.specs.Statuses.{infer_status, explain_status}
use Rattle.alias_run.proofs.Running.{ended_as}

-- ---- what is inferred of a unit that is well formed

pub inferred_askable : (u v : HirUnit) (i : UnitInference) → v ≡ u → rules_hold v ≡ Ok tt
    → InfersUnit (unit_analysed u) (Ok i) → function_fits i.unit.function i.unit.env ≡ true → IsAskable i
inferred_askable u v i same rules h fits =
    let a : UnitAnalysis = record { functions = h.0; inferred = i } in
    let r = subst (λ z. rules_hold z ≡ Ok tt) same rules in
    record {
      fits = fits;
      lints = unit_lints u a r h.1;
      numbered = never_too_many u a r h.1;
      caused = each_has_cause u a r h.1;
    }

-- ---- lints

-- those that a call answers are the reports
lints_found : (i : UnitInference) (ls : List Lint) → LintsAreReports i → lints_of i.unit ≡ Ok ls
    → IsLintedOf i Done (Linted ls)
lints_found i ls l h = let same : l.lints ≡ ls = cc in (h, subst (λ z. reports_of z ≡ i.reports) same l.reports)

pub lints_done : (i : UnitInference) (ls : List Lint) (o : Outcome) → o ≡ record { status = Done; answer = Linted ls }
    → LintsAreReports i → Gives is_memory (lints_of i.unit) (Ok ls) → IsLintedOf i o.status o.answer
lints_done i ls o is l h = subst (λ (z : Outcome). IsLintedOf i z.status z.answer) (sym is) (lints_found i ls l h)

none_refused : (i : UnitInference) (e : InferError) → LintsAreReports i → Gives is_memory (lints_of i.unit) (Err e)
    → IsLintedOf i (infer_status e) Nothing
none_refused i (infer.Memory e) l h = refl
none_refused i e l h = let no : Ok l.lints ≡ Err e = sym l.are ∙ h refl in absurd (cc)

pub lints_fault : (i : UnitInference) (e : InferError) (status : Status) (o : Outcome) → o ≡ ended_as status → status
    ≡ infer_status e → LintsAreReports i → Gives is_memory (lints_of i.unit) (Err e) → IsLintedOf i o.status o.answer
lints_fault i e status o is s l h = subst (λ (z : Outcome). IsLintedOf i z.status z.answer) (sym (is ∙ ap ended_as s))
    (none_refused i e l h)

-- ---- explanations

pub explanation_done : (f : Option FunctionId) (id : IdentifierId) (i : UnitInference) (e : Explanation) (o : Outcome)
    → o ≡ record { status = Done; answer = Explained e } → EachHasCause i
    → Gives is_want_of_memory (explained i.unit f id) (Ok e) → IsExplainedOf f id i o.status o.answer
explanation_done f id i e o is caused h =
    subst (λ (z : Outcome). IsExplainedOf f id i z.status z.answer) (sym is) (h, caused f id e h)

not_refused : (f : Option FunctionId) (id : IdentifierId) (i : UnitInference) (e : ExplainFault) → NeverTooMany i
    → Gives is_want_of_memory (explained i.unit f id) (Err e) → IsExplainedOf f id i (explain_status e) Nothing
not_refused f id i explain.NotHere n h = (h refl, refl)
not_refused f id i (explain.TooMany which) n h = absurd (n f id which (h refl))
not_refused f id i (explain.Memory e) n h = refl

pub explanation_fault : (f : Option FunctionId) (id : IdentifierId) (i : UnitInference) (e : ExplainFault)
    (status : Status) (o : Outcome) → o ≡ ended_as status → status ≡ explain_status e → NeverTooMany i
    → Gives is_want_of_memory (explained i.unit f id) (Err e) → IsExplainedOf f id i o.status o.answer
explanation_fault f id i e status o is s n h =
    subst (λ (z : Outcome). IsExplainedOf f id i z.status z.answer) (sym (is ∙ ap ended_as s))
    (not_refused f id i e n h)

-- ---- explanations of all identifiers of a function

all_caused : (f : Option FunctionId) (i : UnitInference) (xs : List IdentifierExplanation) → EachHasCause i
    → AllByRecursion (IsExplanationOf i.unit f) xs → AllHaveCause xs
all_caused f i [] caused h = tt
all_caused f i (x ∷ xs) caused h = (caused f x.identifier x.explanation h.0, all_caused f i xs caused h.1)

pub function_done : (f : Option FunctionId) (i : UnitInference) (xs : List IdentifierExplanation) (o : Outcome) → o
    ≡ record { status = Done; answer = FunctionExplained xs } → EachHasCause i
    → Gives is_want_of_memory (function_explained i.unit f) (Ok xs) → AllByRecursion (IsExplanationOf i.unit f) xs
    → IsFunctionExplainedOf f i o.status o.answer
function_done f i xs o is caused h alone =
    subst (λ (z : Outcome). IsFunctionExplainedOf f i z.status z.answer) (sym is) (h, all_caused f i xs caused alone)

module _ (u : HirUnit) (f : Option FunctionId)
    (never : (id : IdentifierId) (which : Counter) → explained u f id ≡ Err (explain.TooMany which) → ⊥) where
  next_numbered : (n : ℕ) (ns : List ℕ) (found : List IdentifierExplanation) (which : Counter)
      (r : Result Explanation ExplainFault) → explained u f (numbered n) ≡ r
      → ((more : List IdentifierExplanation) → each_explained u f more ns ≡ Err (explain.TooMany which) → ⊥)
      → (if_here r >>= (λ e. each_explained u f (with_found found (numbered n) e) ns)) ≡ Err (explain.TooMany which)
      → ⊥
  next_numbered n ns found which (Ok e) is rest h = rest (with_found found (numbered n) (Some e)) h
  next_numbered n ns found which (Err explain.NotHere) is rest h = rest found h
  next_numbered n ns found which (Err (explain.TooMany other)) is rest h = never (numbered n) other is
  next_numbered n ns found which (Err (explain.Memory e)) is rest h = cc

  each_numbered : (ns : List ℕ) (found : List IdentifierExplanation) (which : Counter) → each_explained u f found ns
      ≡ Err (explain.TooMany which) → ⊥
  each_numbered [] found which h = cc
  each_numbered (n ∷ ns) found which h = next_numbered n ns found which (explained u f (numbered n)) refl
      (λ more e. each_numbered ns more which e) h

  there_numbered : (func : Option HirFunction) (which : Counter) → explained_there u f func
      ≡ Err (explain.TooMany which) → ⊥
  there_numbered None which h = cc
  there_numbered (Some func) which h = each_numbered (range_with_len 0 (length u.env.identifiers)) [] which h

function_not_refused : (f : Option FunctionId) (i : UnitInference) (e : ExplainFault) → NeverTooMany i
    → Gives is_want_of_memory (function_explained i.unit f) (Err e)
    → IsFunctionExplainedOf f i (explain_status e) Nothing
function_not_refused f i explain.NotHere n h = (h refl, refl)
function_not_refused f i (explain.TooMany which) n h =
    absurd (there_numbered i.unit f (n f) (function_of i.unit f) which (h refl))
function_not_refused f i (explain.Memory e) n h = refl

pub function_fault : (f : Option FunctionId) (i : UnitInference) (e : ExplainFault) (status : Status) (o : Outcome) → o
    ≡ ended_as status → status ≡ explain_status e → NeverTooMany i
    → Gives is_want_of_memory (function_explained i.unit f) (Err e) → IsFunctionExplainedOf f i o.status o.answer
function_fault f i e status o is s n h =
    subst (λ (z : Outcome). IsFunctionExplainedOf f i z.status z.answer) (sym (is ∙ ap ended_as s))
    (function_not_refused f i e n h)

-- ---- where memory ran out there is no answer

pub memory_lints : (i : UnitInference) (a : Answer) → IsLintedOf i Memory a → a ≡ Nothing
memory_lints i a h = h

pub memory_explained : (f : Option FunctionId) (id : IdentifierId) (i : UnitInference) (a : Answer)
    → IsExplainedOf f id i Memory a → a ≡ Nothing
memory_explained f id i a h = h

pub memory_function : (f : Option FunctionId) (i : UnitInference) (a : Answer) → IsFunctionExplainedOf f i Memory a → a
    ≡ Nothing
memory_function f i a h = h
