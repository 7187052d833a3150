-- What the calls of a check come to.
use Rattle.std.specs.Prelude.{⊤}
use Rattle.std.specs.List.{AllByRecursion}
use Rattle.std.proofs.Common.{◌≡◌, Bool, true, false, List, [], ◌∷◌, ◌++◌, length, Option, Some, None, Result, Ok, Err}
use Rattle.std.proofs.Common.{refl, ap, sym, subst, ◌∙◌}
use Rattle.std.proofs.lemmas.List.{length-map, map-append}
use Rattle.alias_base.specs.Answer.{◌>>=◌, Gives}
use Rattle.alias_base.specs.declared.ids.FunctionId.{FunctionId}
use Rattle.alias_hir.specs.Errors.{is_memory as is_want}
use Rattle.alias_hir.specs.declared.effect.AliasingEffect.{AliasingEffect}
use Rattle.alias_hir.specs.declared.env.Environment.{Environment}
use Rattle.alias_hir.specs.declared.error.InferError.{InferError}
use Rattle.alias_hir.specs.declared.error.InferError.TheVariants as error
use Rattle.alias_hir.specs.declared.hir.HirFunction.{HirFunction}
use Rattle.alias_effects.specs.Inference.{env_after, end_tables}
use Rattle.alias_effects.specs.Recording.{with_effects_of}
use Rattle.alias_effects.specs.Solutions.{IsSolvedUnder}
use Rattle.alias_effects.specs.declared.output.PassEnd.{PassEnd}
use Rattle.alias_effects.specs.declared.solved.Solved.{Solved}
use Rattle.alias_range_pass.specs.Passes.{Ranged, range_pass}
use Rattle.alias_nested.specs.Finishing.{finished}
use Rattle.alias_certificate.specs.declared.certificate.CertFunction.{CertFunction}
use Rattle.alias_certificate.specs.declared.fault.CheckFault.{CheckFault}
use Rattle.alias_cert.specs.function.Faults.{is_memory}
use Rattle.alias_cert.specs.function.Functions.{function_solved}
use Rattle.alias_cert.specs.Functions.{CheckedFunction, Checking, checking, said, checked_function, effects_checked}
use Rattle.alias_cert.specs.Functions.{range_fault, ranging, summary_checked, stored_summary, summed, nested_finished}
use Rattle.alias_cert.specs.Functions.{nested_as_said, nested_checked, root_finished, root_as_said, root_checked}
use Rattle.alias_cert.specs.Functions.{SolvesItsFlow, Accounts, Comes, ComesWith}
use Rattle.alias_cert.proofs.Naming.{solves_as}

-- ---- answers

-- a call that found a fault
pub comes_fault : (stated : Result Checking CheckFault) (r : Result ⊤ CheckFault) (e : CheckFault) (env : Environment)
    (solved : List Solved) → r ≡ Err e → (is_memory e ≡ false → stated ≡ Err e) → Comes stated r env solved
comes_fault stated r e env solved is h = subst (λ q. Comes stated q env solved) (sym is) h

pub comes_with_fault : (stated : Result (HirFunction × Checking) CheckFault) (r : Result ⊤ CheckFault) (e : CheckFault)
    (f : HirFunction) (env : Environment) (solved : List Solved) → r ≡ Err e → (is_memory e ≡ false → stated ≡ Err e)
    → ComesWith stated r f env solved
comes_with_fault stated r e f env solved is h = subst (λ q. ComesWith stated q f env solved) (sym is) h

-- what comes of what is equal
pub comes_as : (stated also : Result (HirFunction × Checking) CheckFault) (r : Result ⊤ CheckFault) (f : HirFunction)
    (env : Environment) (solved : List Solved) → stated ≡ also → ComesWith also r f env solved
    → ComesWith stated r f env solved
comes_as stated also r f env solved same h = subst (λ z. ComesWith z r f env solved) (sym same) h

-- ---- what is accounted for

-- there is one solution for each function
pub as_many : (fs : List CheckedFunction) (solved : List Solved) → Accounts fs solved → length fs ≡ length solved
as_many fs solved a = sym (length-map fs (λ (x : CheckedFunction). x.solved)) ∙ ap length a.same

pub all_appended : {X : Type 0} (p : X → Type 0) (xs : List X) (x : X) → AllByRecursion p xs → p x
    → AllByRecursion p (xs ++ x ∷ [])
all_appended p [] x h k = (k, tt)
all_appended p (y ∷ ys) x h k = (h.0, all_appended p ys x h.1 k)

pub accounts_more : (fs : List CheckedFunction) (before after : List Solved) (x : CheckedFunction) → Accounts fs before
    → after ≡ before ++ x.solved ∷ [] → SolvesItsFlow x → Accounts (fs ++ x ∷ []) after
accounts_more fs before after x a more h = record {
  same = map-append (λ (y : CheckedFunction). y.solved) fs (x ∷ []) ∙ ap (λ ss. ss ++ x.solved ∷ []) a.same ∙ sym more;
  solve = all_appended SolvesItsFlow fs x a.solve h;
}

-- ---- effects

module _ (id : Option FunctionId) (b : Bool) (f : HirFunction) (env : Environment) (c : CertFunction) where
  abbrev effects_left : List CheckedFunction → PassEnd → Result (HirFunction × Checking) CheckFault
  effects_left fs e = Ok (
    with_effects_of e.solved f,
    checking (env_after env e) (fs ++ checked_function id b f env c e ∷ []),
  )

  pub effects_come : (fs : List CheckedFunction) (e : PassEnd) (g : HirFunction) (after : Environment)
      → function_solved c env f b ≡ Ok e → g ≡ with_effects_of e.solved f → after ≡ env_after env e
      → effects_checked id b f (checking env fs) c ≡ Ok (g, checking after (fs ++ checked_function id b f env c e ∷ []))
  effects_come fs e g after h made left =
      ap (λ r. r >>= effects_left fs) h
      ∙ ap (λ z. Ok (z, checking (env_after env e) (fs ++ checked_function id b f env c e ∷ []))) (sym made)
      ∙ ap (λ v. Ok (g, checking v (fs ++ checked_function id b f env c e ∷ []))) (sym left)

  pub effects_accounted : (fs : List CheckedFunction) (e : PassEnd) (before after : List Solved)
      → IsSolvedUnder env f b (end_tables e) e.solved → Accounts fs before → after ≡ before
      ++ record e.solved { function = id } ∷ []
      → Accounts (fs ++ checked_function id b f env c e ∷ []) after
  effects_accounted fs e before after solves a more =
      accounts_more fs before after (checked_function id b f env c e) a more
      (solves_as env f b (end_tables e) id e.solved solves)

-- ---- summaries

-- a fault of the range pass that isn't out of memory is an error that isn't
pub no_want : (id : Option FunctionId) (e : InferError) → is_memory (range_fault id e) ≡ false → is_want e ≡ false
no_want id (error.Memory m) h = cc
no_want id (error.PassFault f p) h = refl
no_want id (error.NotSettled f v r) h = refl
no_want id (error.Uninitialized f b x s r) h = refl
no_want id (error.Reinitialized f i x) h = refl
no_want id (error.AliasBeforeCreate f i x) h = refl
no_want id (error.IncompatibleLibrary f i r) h = refl
no_want id (error.SpreadArgument f i s r) h = refl
no_want id (error.UnreplacedApply i r) h = refl
no_want id (error.EffectsNotInferred x) h = refl
no_want id (error.TooMany w) h = refl

pub sums_up : (c : CertFunction) (summary : List AliasingEffect) (f : HirFunction) (env : Environment)
    (fs : List CheckedFunction) (solved : List Solved) (r : Result ⊤ CheckFault) → Accounts fs solved
    → Gives is_memory (summary_checked c summary) r
    → ComesWith (summed c summary f (checking env fs)) r f env solved
sums_up c summary f env fs solved (Ok u) a h = (fs, ap (λ z. z >>= (λ v. Ok (f, checking env fs))) h, a)
sums_up c summary f env fs solved (Err e) a h = λ free. ap (λ z. z >>= (λ v. Ok (f, checking env fs))) (h free)

-- ---- a nested function, and the root

-- what is said stands at the position behind those that are checked
pub said_here : (functions : List CertFunction) (fs : List CheckedFunction) (solved : List Solved)
    (id : Option FunctionId) (r : Result CertFunction CheckFault) → Accounts fs solved
    → said functions (length solved) id ≡ r → said functions (length fs) id ≡ r
said_here functions fs solved id r a h = ap (λ n. said functions n id) (as_many fs solved a) ∙ h

module _ (functions : List CertFunction) (id : FunctionId) (f : HirFunction) (env : Environment)
    (fs : List CheckedFunction) where
  pub nested_unsaid : (e : CheckFault) → said functions (length fs) (Some id) ≡ Err e
      → nested_checked functions id f (checking env fs) ≡ Err e
  nested_unsaid e h = ap (λ r. r >>= nested_as_said id f (checking env fs)) h

  module _ (c : CertFunction) (is : said functions (length fs) (Some id) ≡ Ok c) where
    pub nested_refused : (e : CheckFault) → effects_checked (Some id) true f (checking env fs) c ≡ Err e
        → nested_checked functions id f (checking env fs) ≡ Err e
    nested_refused e h = ap (λ r. r >>= nested_as_said id f (checking env fs)) is
        ∙ ap (λ r. r >>= nested_finished c id) h

    module _ (g : HirFunction) (after : Environment) (gs : List CheckedFunction)
        (effects : effects_checked (Some id) true f (checking env fs) c ≡ Ok (g, checking after gs)) where
      abbrev nested_left : HirFunction × Environment → Result (HirFunction × Checking) CheckFault
      nested_left r = summed c (stored_summary r.0) r.0 (checking r.1 gs)

      nested_so_far : nested_checked functions id f (checking env fs) ≡ nested_finished c id (g, checking after gs)
      nested_so_far = ap (λ r. r >>= nested_as_said id f (checking env fs)) is
          ∙ ap (λ r. r >>= nested_finished c id) effects

      pub nested_unfinished : (e : InferError) → finished g after ≡ Err e
          → nested_checked functions id f (checking env fs) ≡ Err (range_fault (Some id) e)
      nested_unfinished e h = nested_so_far ∙ ap (λ r. ranging (Some id) r >>= nested_left) h

      pub nested_comes : (h : HirFunction) (last : Environment) (solved : List Solved) (r : Result ⊤ CheckFault)
          → finished g after ≡ Ok (h, last) → Accounts gs solved
          → Gives is_memory (summary_checked c (stored_summary h)) r
          → ComesWith (nested_checked functions id f (checking env fs)) r h last solved
      nested_comes h last solved r done a gives =
          comes_as (nested_checked functions id f (checking env fs)) (summed c (stored_summary h) h (checking last gs))
          r h last solved (nested_so_far ∙ ap (λ z. ranging (Some id) z >>= nested_left) done)
          (sums_up c (stored_summary h) h last gs solved r a gives)

module _ (functions : List CertFunction) (f : HirFunction) (env : Environment) (fs : List CheckedFunction) where
  pub root_unsaid : (e : CheckFault) → said functions (length fs) None ≡ Err e
      → root_checked functions f (checking env fs) ≡ Err e
  root_unsaid e h = ap (λ r. r >>= root_as_said f (checking env fs)) h

  module _ (c : CertFunction) (is : said functions (length fs) None ≡ Ok c) where
    pub root_refused : (e : CheckFault) → effects_checked None false f (checking env fs) c ≡ Err e
        → root_checked functions f (checking env fs) ≡ Err e
    root_refused e h = ap (λ r. r >>= root_as_said f (checking env fs)) is ∙ ap (λ r. r >>= root_finished c) h

    module _ (g : HirFunction) (after : Environment) (gs : List CheckedFunction)
        (effects : effects_checked None false f (checking env fs) c ≡ Ok (g, checking after gs)) where
      abbrev root_left : Ranged → Result (HirFunction × Checking) CheckFault
      root_left r = summed c r.summary r.after.0 (checking r.after.1 gs)

      root_so_far : root_checked functions f (checking env fs) ≡ root_finished c (g, checking after gs)
      root_so_far = ap (λ r. r >>= root_as_said f (checking env fs)) is ∙ ap (λ r. r >>= root_finished c) effects

      pub root_unfinished : (e : InferError) → range_pass false g after ≡ Err e
          → root_checked functions f (checking env fs) ≡ Err (range_fault None e)
      root_unfinished e h = root_so_far ∙ ap (λ r. ranging None r >>= root_left) h

      pub root_comes : (summary : List AliasingEffect) (h : HirFunction) (last : Environment) (solved : List Solved)
          (r : Result ⊤ CheckFault) → range_pass false g after ≡ Ok (record { summary = summary; after = (h, last) })
          → Accounts gs solved
          → Gives is_memory (summary_checked c summary) r
          → ComesWith (root_checked functions f (checking env fs)) r h last solved
      root_comes summary h last solved r done a gives =
          comes_as (root_checked functions f (checking env fs)) (summed c summary h (checking last gs)) r h last solved
          (root_so_far ∙ ap (λ z. ranging None z >>= root_left) done) (sums_up c summary h last gs solved r a gives)
