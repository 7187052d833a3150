-- What following the functions below a function comes to.
use Rattle.std.specs.Prelude.{⊤, slice_get}
use Rattle.std.proofs.Common.{◌≡◌, ℕ, ◌+◌, ◌≤◌, suc, List, length, drop, Some, Result, Ok, Err, refl, ap, sym, ◌∙◌}
use Rattle.alias_base.specs.Answer.{◌>>=◌}
use Rattle.alias_base.specs.declared.ids.FunctionId.{FunctionId}
use Rattle.alias_hir.specs.declared.env.Environment.{Environment}
use Rattle.alias_hir.specs.declared.hir.HirFunction.{HirFunction}
use Rattle.alias_effects.specs.declared.solved.Solved.{Solved}
use Rattle.alias_nesting_laws.specs.Slots.{with_function}
use Rattle.alias_nested.specs.Created.{created_functions}
use Rattle.alias_nested.specs.Slots.{emptied}
use Rattle.alias_nested.proofs.Leading.{from_here, nothing_from}
use Rattle.alias_certificate.specs.declared.certificate.CertFunction.{CertFunction}
use Rattle.alias_certificate.specs.declared.fault.CheckFault.{CheckFault}
use Rattle.alias_follow.specs.declared.function.follow.FunctionBeyond.{FunctionBeyond}
use Rattle.alias_follow.specs.Functions.{FollowedFunction, Following, following, nested_followed, Accounts, Comes}
use Rattle.alias_follow.specs.Functions.{ComesWith}
use Rattle.alias_follow.specs.Units.{each, put_back, taken_followed, found_followed, slot_followed, below_followed}
use Rattle.alias_follow.proofs.Coming.{comes_as}

-- ---- one after the other

-- so far the steps come to this environment and these solutions, and those that are left decide
pub record Continued (step : FunctionId → Following → Result Following CheckFault) (all left : List FunctionId)
    (a : Following) (env : Environment) (solved : List Solved) (beyond : List FunctionBeyond) (fs : List FollowedFunction) : Type 0 where
  pub accounts : Accounts fs solved beyond
  pub rest : each step all a ≡ each step left (following env fs)

abbrev pub Continues : (FunctionId → Following → Result Following CheckFault) → List FunctionId → List FunctionId
    → Following → Environment → List Solved → List FunctionBeyond → Type 0
Continues step all left a env solved beyond = (fs : List FollowedFunction)
    × Continued step all left a env solved beyond fs

module _ (step : FunctionId → Following → Result Following CheckFault) where
  -- before the first step
  pub continues_all : (all : List FunctionId) (env : Environment) (fs : List FollowedFunction) (solved : List Solved)
      (beyond : List FunctionBeyond) → Accounts fs solved beyond
      → Continues step all all (following env fs) env solved beyond
  continues_all all env fs solved beyond a = (fs, record { accounts = a; rest = refl })

  each_here : (xs : List FunctionId) (k : ℕ) (id : FunctionId) (a : Following) → slice_get xs k ≡ Some id
      → each step (drop k xs) a ≡ (step id a >>= each step (drop (k + 1) xs))
  each_here xs k id a at = ap (λ ys. each step ys a) (from_here xs k id at)

  -- after one more step
  pub continues_on : (all : List FunctionId) (k : ℕ) (id : FunctionId) (a : Following) (env after : Environment)
      (solved : List Solved) (beyond : List FunctionBeyond) (more : List Solved) (beyond_more : List FunctionBeyond)
      → slice_get all k ≡ Some id
      → Continues step all (drop k all) a env solved beyond
      → ((fs : List FollowedFunction) → Accounts fs solved beyond
      → Comes (step id (following env fs)) (Ok tt) after more beyond_more)
      → Continues step all (drop (k + 1) all) a after more beyond_more
  continues_on all k id a env after solved beyond more beyond_more at c h =
      let l = h c.0 c.1.accounts in (
        l.0,
        record {
          accounts = l.2;
          rest = c.1.rest ∙ each_here all k id (following env c.0) at
              ∙ ap (λ r. r >>= each step (drop (k + 1) all)) l.1;
        },
      )

  -- a fault of this step is one of all
  pub stops_here : (all : List FunctionId) (k : ℕ) (id : FunctionId) (a : Following) (env : Environment)
      (solved : List Solved) (beyond : List FunctionBeyond) (e : CheckFault)
      (c : Continues step all (drop k all) a env solved beyond) → slice_get all k ≡ Some id
      → step id (following env c.0) ≡ Err e → each step all a ≡ Err e
  stops_here all k id a env solved beyond e c at h = c.1.rest ∙ each_here all k id (following env c.0) at
      ∙ ap (λ r. r >>= each step (drop (k + 1) all)) h

  -- after the last step
  pub all_done : (all : List FunctionId) (k : ℕ) (a : Following) (env : Environment) (solved : List Solved)
      (beyond : List FunctionBeyond) → length all ≤ k → (c : Continues step all (drop k all) a env solved beyond)
      → each step all a ≡ Ok (following env c.0)
  all_done all k a env solved beyond h c = c.1.rest ∙ ap (λ ys. each step ys (following env c.0)) (nothing_from all k h)

-- ---- levels

module _ (given : List CertFunction) where
  at_zero : (f : HirFunction) (a : Following) → below_followed given 0 f a ≡ Ok a
  unfolding below_followed
  at_zero f a = refl

  at_more : (m : ℕ) (f : HirFunction) (a : Following) → below_followed given (suc m) f a
      ≡ each (slot_followed given (below_followed given m)) (created_functions f) a
  unfolding below_followed
  at_more m f a = refl

  pub below_none : (n : ℕ) (f : HirFunction) (a : Following) → n ≡ 0 → below_followed given n f a ≡ Ok a
  below_none n f a h = ap (λ k. below_followed given k f a) h ∙ at_zero f a

  pub below_more : (n m : ℕ) (f : HirFunction) (a : Following) (xs : List FunctionId) → n ≡ suc m → xs
      ≡ created_functions f → below_followed given n f a
      ≡ each (slot_followed given (below_followed given m)) xs a
  below_more n m f a xs h same = ap (λ k. below_followed given k f a) h ∙ at_more m f a
      ∙ ap (λ ys. each (slot_followed given (below_followed given m)) ys a) (sym same)

  -- ---- slots

  module _ (below : HirFunction → Following → Result Following CheckFault) (id : FunctionId) where
    -- first those below it
    pub taken_refused : (f : HirFunction) (a : Following) (e : CheckFault) → below f a ≡ Err e
        → taken_followed given below id f a ≡ Err e
    taken_refused f a e h = ap (λ r. r >>= nested_followed given id f) h

    pub taken_comes : (f g : HirFunction) (a b : Following) (env : Environment) (solved : List Solved)
        (beyond : List FunctionBeyond) (r : Result ⊤ CheckFault) → below f a ≡ Ok b
        → ComesWith (nested_followed given id f b) r g env solved beyond
        → ComesWith (taken_followed given below id f a) r g env solved beyond
    taken_comes f g a b env solved beyond r h = comes_as (taken_followed given below id f a)
        (nested_followed given id f b) r g env solved beyond (ap (λ z. z >>= nested_followed given id f) h)

    -- the function is taken out, and put back
    module _ (env out : Environment) (fs : List FollowedFunction) (f : HirFunction)
        (at : slice_get env.functions id.0 ≡ Some f) (is : out ≡ with_function id (emptied f.returns) env) where
      taken_there : slot_followed given below id (following env fs)
          ≡ (taken_followed given below id f (following out fs) >>= (λ s. Ok (put_back id s)))
      taken_there =
          ap (found_followed given below id (following env fs)) at
          ∙ ap (λ e. taken_followed given below id f (following e fs) >>= (λ s. Ok (put_back id s))) (sym is)

      pub slot_comes : (g : HirFunction) (after back : Environment) (solved : List Solved)
          (beyond : List FunctionBeyond) (r : Result ⊤ CheckFault) → back ≡ with_function id g after
          → ComesWith (taken_followed given below id f (following out fs)) r g after solved beyond
          → Comes (slot_followed given below id (following env fs)) r back solved beyond
      slot_comes g after back solved beyond (Ok u) put l = (
        l.0,
        taken_there ∙ ap (λ r. r >>= (λ s. Ok (put_back id s))) l.1 ∙ ap (λ e. Ok (following e l.0)) (sym put),
        l.2,
      )
      slot_comes g after back solved beyond (Err e) put l = λ free. taken_there
          ∙ ap (λ r. r >>= (λ s. Ok (put_back id s))) (l free)
