-- What the check of the functions below a function comes to.
use Rattle.std.specs.Prelude.{⊤, slice_get}
use Rattle.std.proofs.Common.{◌≡◌, ℕ, ◌+◌, ◌≤◌, suc, List, length, drop, Some, Result, Ok, Err, refl, ap, sym, ◌∙◌}
use Rattle.alias_base.specs.Answer.{◌>>=◌}
use Rattle.alias_base.specs.declared.ids.FunctionId.{FunctionId}
use Rattle.alias_hir.specs.declared.env.Environment.{Environment}
use Rattle.alias_hir.specs.declared.hir.HirFunction.{HirFunction}
use Rattle.alias_effects.specs.declared.solved.Solved.{Solved}
use Rattle.alias_nesting_laws.specs.Slots.{with_function}
use Rattle.alias_nested.specs.Created.{created_functions}
use Rattle.alias_nested.specs.Slots.{emptied}
use Rattle.alias_nested.proofs.Leading.{from_here, nothing_from}
use Rattle.alias_certificate.specs.declared.certificate.CertFunction.{CertFunction}
use Rattle.alias_certificate.specs.declared.fault.CheckFault.{CheckFault}
use Rattle.alias_cert.specs.Functions.{CheckedFunction, Checking, checking, nested_checked, Accounts, Comes, ComesWith}
use Rattle.alias_cert.specs.Units.{each, put_back, taken_checked, found_checked, slot_checked, below_checked}
use Rattle.alias_cert.proofs.Coming.{comes_as}

-- ---- one after the other

-- so far the steps come to this environment and these solutions, and those that are left decide
pub record Continued (step : FunctionId → Checking → Result Checking CheckFault) (all left : List FunctionId)
    (a : Checking) (env : Environment) (solved : List Solved) (fs : List CheckedFunction) : Type 0 where
  pub accounts : Accounts fs solved
  pub rest : each step all a ≡ each step left (checking env fs)

abbrev pub Continues : (FunctionId → Checking → Result Checking CheckFault) → List FunctionId → List FunctionId
    → Checking → Environment → List Solved → Type 0
Continues step all left a env solved = (fs : List CheckedFunction) × Continued step all left a env solved fs

module _ (step : FunctionId → Checking → Result Checking CheckFault) where
  -- before the first step
  pub continues_all : (all : List FunctionId) (env : Environment) (fs : List CheckedFunction) (solved : List Solved)
      → Accounts fs solved → Continues step all all (checking env fs) env solved
  continues_all all env fs solved a = (fs, record { accounts = a; rest = refl })

  each_here : (xs : List FunctionId) (k : ℕ) (id : FunctionId) (a : Checking) → slice_get xs k ≡ Some id
      → each step (drop k xs) a ≡ (step id a >>= each step (drop (k + 1) xs))
  each_here xs k id a at = ap (λ ys. each step ys a) (from_here xs k id at)

  -- after one more step
  pub continues_on : (all : List FunctionId) (k : ℕ) (id : FunctionId) (a : Checking) (env after : Environment)
      (solved more : List Solved) → slice_get all k ≡ Some id
      → Continues step all (drop k all) a env solved
      → ((fs : List CheckedFunction) → Accounts fs solved → Comes (step id (checking env fs)) (Ok tt) after more)
      → Continues step all (drop (k + 1) all) a after more
  continues_on all k id a env after solved more at c h =
      let l = h c.0 c.1.accounts in (
        l.0,
        record {
          accounts = l.2;
          rest = c.1.rest ∙ each_here all k id (checking env c.0) at
              ∙ ap (λ r. r >>= each step (drop (k + 1) all)) l.1;
        },
      )

  -- a fault of this step is one of all
  pub stops_here : (all : List FunctionId) (k : ℕ) (id : FunctionId) (a : Checking) (env : Environment)
      (solved : List Solved) (e : CheckFault) (c : Continues step all (drop k all) a env solved) → slice_get all k
      ≡ Some id
      → step id (checking env c.0) ≡ Err e → each step all a ≡ Err e
  stops_here all k id a env solved e c at h = c.1.rest ∙ each_here all k id (checking env c.0) at
      ∙ ap (λ r. r >>= each step (drop (k + 1) all)) h

  -- after the last step
  pub all_done : (all : List FunctionId) (k : ℕ) (a : Checking) (env : Environment) (solved : List Solved) → length all
      ≤ k → (c : Continues step all (drop k all) a env solved) → each step all a ≡ Ok (checking env c.0)
  all_done all k a env solved h c = c.1.rest ∙ ap (λ ys. each step ys (checking env c.0)) (nothing_from all k h)

-- ---- levels

module _ (functions : List CertFunction) where
  at_zero : (f : HirFunction) (a : Checking) → below_checked functions 0 f a ≡ Ok a
  unfolding below_checked
  at_zero f a = refl

  at_more : (m : ℕ) (f : HirFunction) (a : Checking) → below_checked functions (suc m) f a
      ≡ each (slot_checked functions (below_checked functions m)) (created_functions f) a
  unfolding below_checked
  at_more m f a = refl

  pub below_none : (n : ℕ) (f : HirFunction) (a : Checking) → n ≡ 0 → below_checked functions n f a ≡ Ok a
  below_none n f a h = ap (λ k. below_checked functions k f a) h ∙ at_zero f a

  pub below_more : (n m : ℕ) (f : HirFunction) (a : Checking) (xs : List FunctionId) → n ≡ suc m → xs
      ≡ created_functions f → below_checked functions n f a
      ≡ each (slot_checked functions (below_checked functions m)) xs a
  below_more n m f a xs h same = ap (λ k. below_checked functions k f a) h ∙ at_more m f a
      ∙ ap (λ ys. each (slot_checked functions (below_checked functions m)) ys a) (sym same)

  -- ---- slots

  module _ (below : HirFunction → Checking → Result Checking CheckFault) (id : FunctionId) where
    -- first those below it
    pub taken_refused : (f : HirFunction) (a : Checking) (e : CheckFault) → below f a ≡ Err e
        → taken_checked functions below id f a ≡ Err e
    taken_refused f a e h = ap (λ r. r >>= nested_checked functions id f) h

    pub taken_comes : (f g : HirFunction) (a b : Checking) (env : Environment) (solved : List Solved)
        (r : Result ⊤ CheckFault) → below f a ≡ Ok b → ComesWith (nested_checked functions id f b) r g env solved
        → ComesWith (taken_checked functions below id f a) r g env solved
    taken_comes f g a b env solved r h = comes_as (taken_checked functions below id f a)
        (nested_checked functions id f b) r g env solved (ap (λ z. z >>= nested_checked functions id f) h)

    -- the function is taken out, and put back
    module _ (env out : Environment) (fs : List CheckedFunction) (f : HirFunction)
        (at : slice_get env.functions id.0 ≡ Some f) (is : out ≡ with_function id (emptied f.returns) env) where
      taken_there : slot_checked functions below id (checking env fs)
          ≡ (taken_checked functions below id f (checking out fs) >>= (λ s. Ok (put_back id s)))
      taken_there =
          ap (found_checked functions below id (checking env fs)) at
          ∙ ap (λ e. taken_checked functions below id f (checking e fs) >>= (λ s. Ok (put_back id s))) (sym is)

      pub slot_comes : (g : HirFunction) (after back : Environment) (solved : List Solved) (r : Result ⊤ CheckFault)
          → back ≡ with_function id g after → ComesWith (taken_checked functions below id f (checking out fs)) r g after
          solved
          → Comes (slot_checked functions below id (checking env fs)) r back solved
      slot_comes g after back solved (Ok u) put l = (
        l.0,
        taken_there ∙ ap (λ r. r >>= (λ s. Ok (put_back id s))) l.1 ∙ ap (λ e. Ok (checking e l.0)) (sym put),
        l.2,
      )
      slot_comes g after back solved (Err e) put l = λ free. taken_there
          ∙ ap (λ r. r >>= (λ s. Ok (put_back id s))) (l free)
