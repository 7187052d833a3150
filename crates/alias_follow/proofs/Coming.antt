-- What the calls of following come to.
use Rattle.std.specs.Prelude.{⊤}
use Rattle.std.proofs.Common.{◌≡◌, Bool, true, false, List, [], ◌∷◌, ◌++◌, Option, Some, None, Result, Ok, Err}
use Rattle.std.proofs.Common.{ap, sym, subst, ◌∙◌}
use Rattle.std.proofs.lemmas.List.{map-append}
use Rattle.alias_base.specs.Answer.{◌>>=◌}
use Rattle.alias_base.specs.declared.ids.FunctionId.{FunctionId}
use Rattle.alias_hir.specs.Errors.{is_memory as is_free}
use Rattle.alias_hir.specs.declared.effect.AliasingEffect.{AliasingEffect}
use Rattle.alias_hir.specs.declared.env.Environment.{Environment}
use Rattle.alias_hir.specs.declared.error.InferError.{InferError}
use Rattle.alias_hir.specs.declared.hir.HirFunction.{HirFunction}
use Rattle.alias_effects.specs.Faults.{GivesInto}
use Rattle.alias_effects.specs.Inference.{env_after, end_tables}
use Rattle.alias_effects.specs.Recording.{with_effects_of}
use Rattle.alias_effects.specs.Solutions.{IsSolvedUnder}
use Rattle.alias_effects.specs.declared.solved.Solved.{Solved}
use Rattle.alias_range_pass.specs.Passes.{Ranged, range_pass}
use Rattle.alias_nested.specs.Finishing.{finished}
use Rattle.alias_nested.specs.Fitting.{FunctionKept}
use Rattle.alias_nested.specs.Units.{validated}
use Rattle.alias_validate.specs.Freezing.{frozen_reports}
use Rattle.alias_validate.specs.Reassigning.{reassigned_reports, with_reassigned}
use Rattle.alias_validate.specs.Reports.{with_reports}
use Rattle.alias_certificate.specs.declared.certificate.CertFunction.{CertFunction}
use Rattle.alias_certificate.specs.declared.fault.CheckFault.{CheckFault}
use Rattle.alias_cert.specs.Functions.{range_fault, ranging}
use Rattle.alias_cert.specs.function.Faults.{is_memory}
use Rattle.alias_cert.proofs.Coming.{all_appended}
use Rattle.alias_cert.proofs.Naming.{solves_as}
use Rattle.alias_follow.specs.declared.function.follow.FunctionBeyond.{FunctionBeyond}
use Rattle.alias_follow.specs.declared.function.follow.FunctionEnd.{FunctionEnd}
use Rattle.alias_follow.specs.Functions.{FollowedFunction, Following, following, followed_function, effects_followed}
use Rattle.alias_follow.specs.Functions.{nested_finished, nested_followed, root_ended, RootFollowing, root_finished}
use Rattle.alias_follow.specs.Functions.{root_followed, SolvesItsFlow, Accounts, Comes, ComesWith, RootEnds, RootComes}
use Rattle.alias_follow.specs.function.Functions.{function_followed}
use Rattle.alias_follow.specs.function.Givens.{given_of}

-- ---- answers

-- a call that found a fault
pub comes_fault : (stated : Result Following CheckFault) (r : Result ⊤ CheckFault) (e : CheckFault) (env : Environment)
    (solved : List Solved) (beyond : List FunctionBeyond) → r ≡ Err e → (is_memory e ≡ false → stated ≡ Err e)
    → Comes stated r env solved beyond
comes_fault stated r e env solved beyond is h = subst (λ q. Comes stated q env solved beyond) (sym is) h

pub comes_with_fault : (stated : Result (HirFunction × Following) CheckFault) (r : Result ⊤ CheckFault) (e : CheckFault)
    (f : HirFunction) (env : Environment) (solved : List Solved) (beyond : List FunctionBeyond) → r ≡ Err e
    → (is_memory e ≡ false → stated ≡ Err e) → ComesWith stated r f env solved beyond
comes_with_fault stated r e f env solved beyond is h = subst (λ q. ComesWith stated q f env solved beyond) (sym is) h

pub root_fault : (stated : Result RootFollowing CheckFault) (r : Result (List AliasingEffect) CheckFault)
    (e : CheckFault) (f : HirFunction) (env : Environment) (solved : List Solved) (beyond : List FunctionBeyond)
    → r ≡ Err e → (is_memory e ≡ false → stated ≡ Err e) → RootComes stated r f env solved beyond
root_fault stated r e f env solved beyond is h = subst (λ q. RootComes stated q f env solved beyond) (sym is) h

-- what comes of what is equal
pub comes_as : (stated also : Result (HirFunction × Following) CheckFault) (r : Result ⊤ CheckFault) (f : HirFunction)
    (env : Environment) (solved : List Solved) (beyond : List FunctionBeyond) → stated ≡ also
    → ComesWith also r f env solved beyond → ComesWith stated r f env solved beyond
comes_as stated also r f env solved beyond same h = subst (λ z. ComesWith z r f env solved beyond) (sym same) h

-- ---- what is accounted for

accounts_more : (fs : List FollowedFunction) (before after : List Solved) (beyond more : List FunctionBeyond)
    (x : FollowedFunction) → Accounts fs before beyond → after ≡ before ++ x.solved ∷ [] → more ≡ beyond ++ x.beyond ∷ []
    → SolvesItsFlow x → Accounts (fs ++ x ∷ []) after more
accounts_more fs before after beyond more x a solved_more beyond_more h = record {
  solved_same = map-append (λ (y : FollowedFunction). y.solved) fs (x ∷ [])
      ∙ ap (λ ss. ss ++ x.solved ∷ []) a.solved_same ∙ sym solved_more;
  beyond_same = map-append (λ (y : FollowedFunction). y.beyond) fs (x ∷ [])
      ∙ ap (λ bs. bs ++ x.beyond ∷ []) a.beyond_same ∙ sym beyond_more;
  solve = all_appended SolvesItsFlow fs x a.solve h;
}

-- ---- effects

module _ (given : List CertFunction) (id : Option FunctionId) (b : Bool) (f : HirFunction) (env : Environment) where
  effects_left : List FollowedFunction → FunctionEnd → Result (HirFunction × Following) CheckFault
  effects_left fs e = Ok (
    with_effects_of e.end.solved f,
    following (env_after env e.end) (fs ++ followed_function id b f env e ∷ []),
  )

  pub effects_refused : (fs : List FollowedFunction) (e : CheckFault)
      → function_followed (given_of given id) id env f b ≡ Err e
      → effects_followed given id b f (following env fs) ≡ Err e
  unfolding effects_left
  effects_refused fs e h = ap (λ r. r >>= effects_left fs) h

  pub effects_come : (fs : List FollowedFunction) (e : FunctionEnd) (g : HirFunction) (after : Environment)
      → function_followed (given_of given id) id env f b ≡ Ok e → g ≡ with_effects_of e.end.solved f
      → after ≡ env_after env e.end
      → effects_followed given id b f (following env fs)
      ≡ Ok (g, following after (fs ++ followed_function id b f env e ∷ []))
  unfolding effects_left
  effects_come fs e g after h made left =
      ap (λ r. r >>= effects_left fs) h
      ∙ ap (λ z. Ok (z, following (env_after env e.end) (fs ++ followed_function id b f env e ∷ []))) (sym made)
      ∙ ap (λ v. Ok (g, following v (fs ++ followed_function id b f env e ∷ []))) (sym left)

  pub effects_accounted : (fs : List FollowedFunction) (e : FunctionEnd) (before after : List Solved)
      (beyond more : List FunctionBeyond) → IsSolvedUnder env f b (end_tables e.end) e.end.solved
      → Accounts fs before beyond → after ≡ before ++ record e.end.solved { function = id } ∷ []
      → more ≡ beyond ++ e.beyond ∷ [] → Accounts (fs ++ followed_function id b f env e ∷ []) after more
  effects_accounted fs e before after beyond more solves a solved_more beyond_more =
      accounts_more fs before after beyond more (followed_function id b f env e) a solved_more beyond_more
      (solves_as env f b (end_tables e.end) id e.end.solved solves)

-- a function and an environment that got what is kept
pub left_kept : (f g : HirFunction) (env after : Environment) (e : FunctionEnd)
    → FunctionKept f env (with_effects_of e.end.solved f) (env_after env e.end) → g ≡ with_effects_of e.end.solved f
    → after ≡ env_after env e.end → FunctionKept f env g after
left_kept f g env after e kept made left = subst (λ v. FunctionKept f env g v) (sym left)
    (subst (λ z. FunctionKept f env z (env_after env e.end)) (sym made) kept)

-- ---- a nested function, and the root

module _ (given : List CertFunction) (id : FunctionId) (f : HirFunction) (env : Environment)
    (fs : List FollowedFunction) where
  pub nested_refused : (e : CheckFault) → effects_followed given (Some id) true f (following env fs) ≡ Err e
      → nested_followed given id f (following env fs) ≡ Err e
  nested_refused e h = ap (λ r. r >>= nested_finished id) h

  module _ (g : HirFunction) (after : Environment) (gs : List FollowedFunction)
      (effects : effects_followed given (Some id) true f (following env fs) ≡ Ok (g, following after gs)) where
    nested_left : HirFunction × Environment → Result (HirFunction × Following) CheckFault
    nested_left r = Ok (r.0, following r.1 gs)

    pub nested_unfinished : (e : InferError) → finished g after ≡ Err e
        → nested_followed given id f (following env fs) ≡ Err (range_fault (Some id) e)
    unfolding nested_left
    nested_unfinished e h = ap (λ r. r >>= nested_finished id) effects
        ∙ ap (λ r. ranging (Some id) r >>= nested_left) h

    pub nested_comes : (h : HirFunction) (last : Environment) → finished g after ≡ Ok (h, last)
        → nested_followed given id f (following env fs) ≡ Ok (h, following last gs)
    unfolding nested_left
    nested_comes h last done = ap (λ r. r >>= nested_finished id) effects
        ∙ ap (λ r. ranging (Some id) r >>= nested_left) done

module _ (given : List CertFunction) (f : HirFunction) (env : Environment) (fs : List FollowedFunction) where
  pub root_refused : (e : CheckFault) → effects_followed given None false f (following env fs) ≡ Err e
      → root_followed given f (following env fs) ≡ Err e
  root_refused e h = ap (λ r. r >>= root_finished) h

  module _ (g : HirFunction) (after : Environment) (gs : List FollowedFunction)
      (effects : effects_followed given None false f (following env fs) ≡ Ok (g, following after gs)) where
    root_left : List AliasingEffect × (HirFunction × Environment) → Result RootFollowing CheckFault
    root_left r = Ok (record { summary = r.0; func = r.1.0; following = following r.1.1 gs })

    pub root_unfinished : (e : InferError) → root_ended g after ≡ Err e
        → root_followed given f (following env fs) ≡ Err (range_fault None e)
    unfolding root_left
    root_unfinished e h = ap (λ r. r >>= root_finished) effects ∙ ap (λ r. ranging None r >>= root_left) h

    pub root_comes : (summary : List AliasingEffect) (h : HirFunction) (last : Environment)
        → root_ended g after ≡ Ok (summary, (h, last))
        → root_followed given f (following env fs)
        ≡ Ok (record { summary = summary; func = h; following = following last gs })
    unfolding root_left
    root_comes summary h last done = ap (λ r. r >>= root_finished) effects
        ∙ ap (λ r. ranging None r >>= root_left) done

-- ---- the end of the root

-- a call that found a fault
pub root_end_fault : (stated : Result (List AliasingEffect × (HirFunction × Environment)) InferError)
    (r : Result (List AliasingEffect) InferError) (e : InferError) (f : HirFunction) (env : Environment) → r ≡ Err e
    → (is_free e ≡ false → stated ≡ Err e) → RootEnds stated r f env
root_end_fault stated r e f env is h = subst (λ q. RootEnds stated q f env) (sym is) h

-- both validations
module _ (f : HirFunction) (env : Environment) where
  frozen_left : Environment → Result Environment InferError
  frozen_left more = Ok (with_reports more (frozen_reports more f))

  pub validated_refused : (r : Result ⊤ InferError) (e : InferError) (now : Environment) → r ≡ Err e → (is_free e ≡ false
      → with_reassigned env (reassigned_reports env f) ≡ Err e) → GivesInto is_free (validated f env) r now
  unfolding frozen_left
  validated_refused r e now is h = subst (λ q. GivesInto is_free (validated f env) q now) (sym is)
      (λ free. ap (λ z. z >>= frozen_left) (h free))

  pub validated_comes : (more last : Environment) → with_reassigned env (reassigned_reports env f) ≡ Ok more → last
      ≡ with_reports more (frozen_reports more f) → validated f env ≡ Ok last
  unfolding frozen_left
  validated_comes more last h is = ap (λ z. z >>= frozen_left) h ∙ ap Ok (sym is)

module _ (f : HirFunction) (env : Environment) where
  validated_left : Ranged → Result (List AliasingEffect × (HirFunction × Environment)) InferError
  validated_left r = do
    more ← validated r.after.0 r.after.1
    Ok (r.summary, (r.after.0, more))

  pub unranged : (e : InferError) → range_pass false f env ≡ Err e → root_ended f env ≡ Err e
  unfolding validated_left
  unranged e h = ap (λ r. r >>= validated_left) h

  module _ (summary : List AliasingEffect) (g : HirFunction) (after : Environment)
      (ranged : range_pass false f env ≡ Ok (record { summary = summary; after = (g, after) })) where
    pub invalid : (e : InferError) → validated g after ≡ Err e → root_ended f env ≡ Err e
    unfolding validated_left
    invalid e h = ap (λ r. r >>= validated_left) ranged ∙ ap (λ r. r >>= (λ more. Ok (summary, (g, more)))) h

    pub ends : (last : Environment) → validated g after ≡ Ok last → root_ended f env ≡ Ok (summary, (g, last))
    unfolding validated_left
    ends last h = ap (λ r. r >>= validated_left) ranged ∙ ap (λ r. r >>= (λ more. Ok (summary, (g, more)))) h
