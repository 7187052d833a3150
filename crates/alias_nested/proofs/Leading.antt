-- What calls lead to, one after the other.
use Rattle.std.specs.Prelude.{◌≡◌, ℕ, ◌+◌, ◌<◌, ◌≤◌, Bool, false, List, [], ◌∷◌, Some, Result, Ok, Err, ⊤, length}
use Rattle.std.specs.Prelude.{slice_get, slice_index_or, refl}
use Rattle.std.proofs.Common.{zero, suc, ap, sym, subst, ◌∙◌, drop, arith}
use Rattle.std.proofs.lemmas.List.{drop_more}
use Rattle.std.proofs.lemmas.Option.{slice_get_within, get_or_from_slice_get}
use Rattle.alias_base.specs.declared.ids.FunctionId.{FunctionId}
use Rattle.alias_effects.specs.declared.solved.Solved.{Solved}
use Rattle.alias_hir.specs.Errors.{is_memory}
use Rattle.alias_hir.specs.declared.env.Environment.{Environment}
use Rattle.alias_hir.specs.declared.error.InferError.{InferError}
use Rattle.alias_hir.specs.declared.hir.HirFunction.{HirFunction}
use Rattle.alias_nested.specs.Analysis.{Analysed, Analysis, analysis, Accounts}
use Rattle.alias_nested.specs.Answers.{Answers, done, Each, SlotAnalysed, AnalysedWith}
use Rattle.alias_nested.specs.Refusals.{Refusals, OneOfRefused, at_once, later, SlotRefused, AnalysisRefused}
use Rattle.alias_nested.specs.Refusals.{LeadsToOne}
use Rattle.alias_nested.specs.Created.{created_functions}

-- so far the steps lead from the analysis to this environment and these solutions, and those that are left decide
pub record Continued (stops : FunctionId → Analysis → Refusals Environment)
    (step : FunctionId → Analysis → Answers Analysis) (all left : List FunctionId) (a : Analysis) (env : Environment)
    (solved : List Solved) (fs : List Analysed) : Type 0 where
  pub accounts : Accounts fs solved
  pub rest : (r : Result Analysis InferError) → Each step left (analysis env fs) r → Each step all a r
  pub refusals : (e : InferError) (last : Environment) → OneOfRefused stops step left (analysis env fs) e last
      → OneOfRefused stops step all a e last

abbrev pub Continues : (FunctionId → Analysis → Refusals Environment) → (FunctionId → Analysis → Answers Analysis)
    → List FunctionId → List FunctionId → Analysis → Environment → List Solved → Type 0
Continues stops step all left a env solved = (fs : List Analysed) × Continued stops step all left a env solved fs

-- ---- lists, from a place on

pub item_at : (xs : List FunctionId) (k : ℕ) (d : FunctionId) → k < length xs → slice_get xs k
    ≡ Some (slice_index_or xs k d)
item_at [] k d h = absurd (omega arith)
item_at (x ∷ xs) zero d h = refl
item_at (x ∷ xs) (suc k) d h = item_at xs k d (omega arith)

pub from_here : (xs : List FunctionId) (k : ℕ) (x : FunctionId) → slice_get xs k ≡ Some x → drop k xs ≡ x
    ∷ drop (k + 1) xs
from_here xs k x h = drop_more xs k x (slice_get_within xs k x h)
    ∙ ap (λ z. z ∷ drop (k + 1) xs) (get_or_from_slice_get xs k x x h)

pub nothing_from : (xs : List FunctionId) (k : ℕ) → length xs ≤ k → drop k xs ≡ []
nothing_from [] zero h = refl
nothing_from [] (suc k) h = refl
nothing_from (x ∷ xs) zero h = absurd (omega arith)
nothing_from (x ∷ xs) (suc k) h = nothing_from xs k (omega arith)

-- ---- steps

module _ (stops : FunctionId → Analysis → Refusals Environment) (step : FunctionId → Analysis → Answers Analysis)
    (xs : List FunctionId) (k : ℕ) (id : FunctionId) (at : slice_get xs k ≡ Some id) (a : Analysis) where
  -- a refusal of this step is one of all that are left
  pub stops_here : (e : InferError) (last : Environment) → stops id a e last
      → OneOfRefused stops step (drop k xs) a e last
  stops_here e last h = subst (λ ys. OneOfRefused stops step ys a e last) (sym (from_here xs k id at)) (at_once h)

  -- where this step is done, those behind it decide
  pub goes_on : (b : Analysis) → step id a (Ok b) → (r : Result Analysis InferError) → Each step (drop (k + 1) xs) b r
      → Each step (drop k xs) a r
  goes_on b h r i = subst (λ ys. Each step ys a r) (sym (from_here xs k id at)) (done b h i)

  pub stops_later : (b : Analysis) → step id a (Ok b) → (e : InferError) (last : Environment)
      → OneOfRefused stops step (drop (k + 1) xs) b e last → OneOfRefused stops step (drop k xs) a e last
  stops_later b h e last i = subst (λ ys. OneOfRefused stops step ys a e last) (sym (from_here xs k id at))
      (later b h i)

pub all_done : (step : FunctionId → Analysis → Answers Analysis) (xs : List FunctionId) (k : ℕ) (a : Analysis)
    → length xs ≤ k → Each step (drop k xs) a (Ok a)
all_done step xs k a h = subst (λ ys. Each step ys a (Ok a)) (sym (nothing_from xs k h)) refl

-- before the first step
pub continues_all : (stops : FunctionId → Analysis → Refusals Environment)
    (step : FunctionId → Analysis → Answers Analysis) (all : List FunctionId) (env : Environment) (fs : List Analysed)
    (solved : List Solved) → Accounts fs solved → Continues stops step all all (analysis env fs) env solved
continues_all stops step all env fs solved a = (fs, record { accounts = a; rest = λ r h. h; refusals = λ e last h. h })

-- after one more step
pub continues_on : (stops : FunctionId → Analysis → Refusals Environment)
    (step : FunctionId → Analysis → Answers Analysis) (all : List FunctionId) (k : ℕ) (id : FunctionId) (a : Analysis)
    (env after : Environment) (solved more : List Solved) → slice_get all k ≡ Some id
    → Continues stops step all (drop k all) a env solved
    → ((fs : List Analysed) → Accounts fs solved
    → LeadsToOne (step id (analysis env fs)) (stops id (analysis env fs)) (Ok tt) after more)
    → Continues stops step all (drop (k + 1) all) a after more
continues_on stops step all k id a env after solved more at c h =
    let l = h c.0 c.1.accounts in (
      l.0,
      record {
        accounts = l.2;
        rest = λ r e. c.1.rest r (goes_on stops step all k id at (analysis env c.0) (analysis after l.0) l.1 r e);
        refusals = λ e last i. c.1.refusals e last
            (stops_later stops step all k id at (analysis env c.0) (analysis after l.0) l.1 e last i);
      },
    )

-- ---- levels

at_zero : (keeps_all : Bool) (f : HirFunction) (a : Analysis) → AnalysedWith keeps_all 0 f a (Ok a)
unfolding AnalysedWith
at_zero keeps_all f a = refl

at_more : (keeps_all : Bool) (m : ℕ) (f : HirFunction) (a : Analysis) (r : Result Analysis InferError)
    → Each (SlotAnalysed keeps_all (AnalysedWith keeps_all m)) (created_functions f) a r
    → AnalysedWith keeps_all (suc m) f a r
unfolding AnalysedWith
at_more keeps_all m f a r h = h

pub analysed_none : (keeps_all : Bool) (n : ℕ) (f : HirFunction) (a : Analysis) → n ≡ 0
    → AnalysedWith keeps_all n f a (Ok a)
analysed_none keeps_all n f a h = subst (λ k. AnalysedWith keeps_all k f a (Ok a)) (sym h) (at_zero keeps_all f a)

pub analysed_more : (keeps_all : Bool) (n m : ℕ) (f : HirFunction) (a : Analysis) (r : Result Analysis InferError) → n
    ≡ suc m → Each (SlotAnalysed keeps_all (AnalysedWith keeps_all m)) (created_functions f) a r
    → AnalysedWith keeps_all n f a r
analysed_more keeps_all n m f a r h i = subst (λ k. AnalysedWith keeps_all k f a r) (sym h)
    (at_more keeps_all m f a r i)

one_more : (keeps_all : Bool) (m : ℕ) (f : HirFunction) (a : Analysis) (e : InferError) (last : Environment)
    → OneOfRefused (SlotRefused keeps_all m (AnalysisRefused keeps_all m))
    (SlotAnalysed keeps_all (AnalysedWith keeps_all m)) (created_functions f) a e last
    → AnalysisRefused keeps_all (suc m) f a e last
unfolding AnalysisRefused
one_more keeps_all m f a e last h = h

pub refused_more : (keeps_all : Bool) (n m : ℕ) (f : HirFunction) (a : Analysis) (e : InferError) (last : Environment)
    → n ≡ suc m → OneOfRefused (SlotRefused keeps_all m (AnalysisRefused keeps_all m))
    (SlotAnalysed keeps_all (AnalysedWith keeps_all m)) (created_functions f) a e last
    → AnalysisRefused keeps_all n f a e last
refused_more keeps_all n m f a e last h i =
    subst (λ k. AnalysisRefused keeps_all k f a e last) (sym h) (one_more keeps_all m f a e last i)

-- a call that was refused
pub leads_error : (answers : Answers Analysis) (refusals : Refusals Environment) (r : Result ⊤ InferError)
    (e : InferError) (env : Environment) (solved : List Solved) → r ≡ Err e → (is_memory e ≡ false → refusals e env)
    → LeadsToOne answers refusals r env solved
leads_error answers refusals r e env solved is h = subst (λ q. LeadsToOne answers refusals q env solved) (sym is) h
