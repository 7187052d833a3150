-- A forward function is followed in step with its analysis, and alike from whatever is given.
use Rattle.std.proofs.Common.{◌≡◌, true, false, List, [], ◌∷◌, ◌++◌, Some, None, Result, Ok, Err, is_some, refl}
use Rattle.std.proofs.Common.{map, ap, sym, ◌∙◌, subst}
use Rattle.std.proofs.lemmas.List.{map-append}
use Rattle.std.specs.List.{AllByRecursion}
use Rattle.alias_base.specs.Answer.{◌>>=◌}
use Rattle.alias_base.specs.Find.{value_at}
use Rattle.alias_base.specs.declared.ids.FunctionId.{FunctionId}
use Rattle.alias_hir.specs.declared.effect.AliasingEffect.{AliasingEffect}
use Rattle.alias_hir.specs.declared.env.Environment.{Environment}
use Rattle.alias_hir.specs.declared.error.InferError.{InferError}
use Rattle.alias_hir.specs.declared.hir.HirFunction.{HirFunction}
use Rattle.alias_flow.specs.Solutions.{goes_forward}
use Rattle.alias_step.specs.block.Contexts.{context_of}
use Rattle.alias_effects.specs.Inference.{end_of, env_after}
use Rattle.alias_effects.specs.Numbered.{numbered as as_flow}
use Rattle.alias_effects.specs.Recording.{with_effects_of}
use Rattle.alias_effects.specs.declared.output.PassEnd.{PassEnd}
use Rattle.alias_range_pass.specs.Passes.{Ranged, range_pass}
use Rattle.alias_nested.specs.Analysis.{named, naming, numbered, Analysed, Analysis, analysis}
use Rattle.alias_nested.specs.Analysis.{effects_analysed, completed}
use Rattle.alias_nested.specs.Analysis.{completed_with, function_analysed}
use Rattle.alias_nested.specs.Annotating.{annotated}
use Rattle.alias_nested.specs.Finishing.{finished}
use Rattle.alias_nested.specs.Units.{RootAnalysis, validated, root_finished as root_done, root_analysed}
use Rattle.alias_certificate.specs.declared.certificate.CertFunction.{CertFunction}
use Rattle.alias_certificate.specs.declared.fault.CheckFault.{CheckFault}
use Rattle.alias_cert.specs.Functions.{range_fault, ranging}
use Rattle.alias_follow.specs.declared.function.follow.FunctionEnd.{FunctionEnd}
use Rattle.alias_follow.specs.Functions.{FollowedFunction, Following, following, followed_function, effects_followed}
use Rattle.alias_follow.specs.Functions.{nested_finished, nested_followed, RootFollowing, root_finished}
use Rattle.alias_follow.specs.Functions.{root_followed}
use Rattle.alias_follow.specs.function.Functions.{function_followed}
use Rattle.alias_follow.specs.function.Givens.{given_of}
use Rattle.alias_forward_laws.proofs.Stepping.{IsBare, Ends, FollowsPass, follows, fails, follows_pass, followed_alike}

-- ---- in step

-- both go on, with what is so related, or both are refused; and what follows from something else is the same
pub data Together {A B : Type 0} (R : A → B → Type 0) (r : Result A InferError) (s t : Result B CheckFault)
    : Type 0 where
  go : (x : A) (y : B) → r ≡ Ok x → s ≡ Ok y → t ≡ Ok y → R x y → Together R r s t
  stop : (e : InferError) (d : CheckFault) → r ≡ Err e → s ≡ Err d → t ≡ Err d → Together R r s t

pub together_then : {A B X Y : Type 0} (R : A → B → Type 0) (Q : X → Y → Type 0) (r : Result A InferError)
    (s t : Result B CheckFault) (g : A → Result X InferError) (h k : B → Result Y CheckFault) → Together R r s t
    → ((x : A) (y : B) → R x y → Together Q (g x) (h y) (k y)) → Together Q (r >>= g) (s >>= h) (t >>= k)
together_then R Q r s t g h k (go x y is so to a) next =
    subst (λ z. Together Q (z >>= g) (s >>= h) (t >>= k)) (sym is)
    (subst (λ z. Together Q (g x) (z >>= h) (t >>= k)) (sym so)
    (subst (λ z. Together Q (g x) (h y) (z >>= k)) (sym to) (next x y a)))
together_then R Q r s t g h k (stop e d is so to) next =
    stop e d (ap (λ z. z >>= g) is) (ap (λ z. z >>= h) so) (ap (λ z. z >>= k) to)

-- the same environment, the same solutions, and nothing beyond what arrives
pub record InStep (a : Analysis) (c : Following) : Type 0 where
  pub env : a.env ≡ c.env
  pub solved : map (λ (x : Analysed). x.solved) a.functions ≡ map (λ (x : FollowedFunction). x.solved) c.functions
  pub bare : AllByRecursion (λ (x : FollowedFunction). IsBare x.beyond) c.functions

-- with the same function
abbrev pub WithFunction : HirFunction × Analysis → HirFunction × Following → Type 0
WithFunction s t = (s.0 ≡ t.0) × InStep s.1 t.1

all_last : {X : Type 0} (A : X → Type 0) (xs : List X) (x : X) → AllByRecursion A xs → A x
    → AllByRecursion A (xs ++ x ∷ [])
all_last A [] x a h = (h, tt)
all_last A (y ∷ xs) x a h = (a.0, all_last A xs x a.1 h)

-- one more function
more_in_step : (env : Environment) (xs : List Analysed) (cs : List FollowedFunction) (x : Analysed)
    (y : FollowedFunction)
    → map (λ (z : Analysed). z.solved) xs ≡ map (λ (z : FollowedFunction). z.solved) cs
    → AllByRecursion (λ (z : FollowedFunction). IsBare z.beyond) cs → x.solved ≡ y.solved → IsBare y.beyond
    → InStep (analysis env (xs ++ x ∷ [])) (following env (cs ++ y ∷ []))
more_in_step env xs cs x y solved bare same none = record {
  env = refl;
  solved = map-append (λ (z : Analysed). z.solved) xs (x ∷ [])
      ∙ ap (λ ss. ss ++ x.solved ∷ []) solved
      ∙ ap (λ s. map (λ (z : FollowedFunction). z.solved) cs ++ s ∷ []) same
      ∙ sym (map-append (λ (z : FollowedFunction). z.solved) cs (y ∷ []));
  bare = all_last (λ (z : FollowedFunction). IsBare z.beyond) cs y bare none;
}

-- ---- a nested function

module _ (given other : List CertFunction) (id : FunctionId) (f : HirFunction) where
  -- its effects pass
  module _ (env : Environment) (xs : List Analysed) (cs : List FollowedFunction)
      (solved : map (λ (x : Analysed). x.solved) xs ≡ map (λ (x : FollowedFunction). x.solved) cs)
      (bare : AllByRecursion (λ (x : FollowedFunction). IsBare x.beyond) cs) where
    abbrev own : PassEnd → Analysed
    own e = record { env = env; func = f; is_function_expression = true; solved = numbered id e.solved }

    abbrev left : PassEnd → Result (HirFunction × Analysis) InferError
    left e = Ok (with_effects_of e.solved f, analysis (env_after env e) (xs ++ own e ∷ []))

    abbrev left_followed : FunctionEnd → Result (HirFunction × Following) CheckFault
    left_followed e = Ok (
      with_effects_of e.end.solved f,
      following (env_after env e.end) (cs ++ followed_function (Some id) true f env e ∷ []),
    )

    effects_so : FollowsPass (given_of given (Some id)) (Some id) env f true
        → function_followed (given_of given (Some id)) (Some id) env f true
        ≡ function_followed (given_of other (Some id)) (Some id) env f true
        → Together WithFunction (effects_analysed id f (analysis env xs))
        (effects_followed given (Some id) true f (following env cs))
        (effects_followed other (Some id) true f (following env cs))
    effects_so (follows w e is so ends none) same =
        go (with_effects_of e.end.solved f, analysis (env_after env e.end) (xs ++ own e.end ∷ [])) (
          with_effects_of e.end.solved f,
          following (env_after env e.end) (cs ++ followed_function (Some id) true f env e ∷ []),
        )
        (ap (λ r. naming id r >>= left) so) (ap (λ r. r >>= left_followed) is)
        (ap (λ r. r >>= left_followed) (sym same ∙ is)) (
          refl,
          more_in_step (env_after env e.end) xs cs (own e.end) (followed_function (Some id) true f env e) solved bare
              refl none,
        )
    effects_so (fails x y is so) same = stop (named id y) x (ap (λ r. naming id r >>= left) so)
        (ap (λ r. r >>= left_followed) is) (ap (λ r. r >>= left_followed) (sym same ∙ is))

  -- what follows it
  ranged_so : (r : Result Ranged InferError)
      → Together (λ (x y : HirFunction × Environment). x ≡ y)
      (naming id r >>= (λ (q : Ranged). Ok (annotated q.summary q.after)))
      (ranging (Some id) (r >>= (λ (q : Ranged). Ok (annotated q.summary q.after))))
      (ranging (Some id) (r >>= (λ (q : Ranged). Ok (annotated q.summary q.after))))
  ranged_so (Ok q) = go (annotated q.summary q.after) (annotated q.summary q.after) refl refl refl refl
  ranged_so (Err e) = stop (named id e) (range_fault (Some id) e) refl refl refl

  completes_so : (s : HirFunction × Analysis) (t : HirFunction × Following) → WithFunction s t
      → Together WithFunction (completed_with id s) (nested_finished id t) (nested_finished id t)
  completes_so s t h =
      together_then (λ (x y : HirFunction × Environment). x ≡ y) WithFunction (completed id s.0 s.1.env)
      (ranging (Some id) (finished t.0 t.1.env)) (ranging (Some id) (finished t.0 t.1.env))
      (λ c. Ok (c.0, analysis c.1 s.1.functions)) (λ r. Ok (r.0, following r.1 t.1.functions))
      (λ r. Ok (r.0, following r.1 t.1.functions))
      (subst (λ (g : HirFunction). Together (λ (x y : HirFunction × Environment). x ≡ y) (completed id s.0 s.1.env)
      (ranging (Some id) (finished g t.1.env)) (ranging (Some id) (finished g t.1.env))) h.0
      (subst (λ (v : Environment). Together (λ (x y : HirFunction × Environment). x ≡ y) (completed id s.0 s.1.env)
      (ranging (Some id) (finished s.0 v)) (ranging (Some id) (finished s.0 v))) h.1.env
      (ranged_so (range_pass true s.0 s.1.env))))
      (λ x y same. go (x.0, analysis x.1 s.1.functions) (y.0, following y.1 t.1.functions) refl refl refl (
        ap (λ (z : HirFunction × Environment). z.0) same,
        record {
          env = ap (λ (z : HirFunction × Environment). z.1) same;
          solved = h.1.solved;
          bare = h.1.bare;
        },
      ))

  -- the whole function, where its entry is a block and all edges go forward
  pub nested_together : (a : Analysis) (c : Following) → InStep a c
      → is_some (value_at f.body.blocks f.body.entry) ≡ true
      → goes_forward (as_flow (context_of a.env f true)) ≡ true
      → Together WithFunction (function_analysed id f a) (nested_followed given id f c) (nested_followed other id f c)
  nested_together a c h entry forward =
      together_then WithFunction WithFunction (effects_analysed id f a) (effects_followed given (Some id) true f c)
      (effects_followed other (Some id) true f c) (completed_with id) (nested_finished id) (nested_finished id)
      (subst (λ (v : Environment). Together WithFunction (effects_analysed id f (analysis v a.functions))
      (effects_followed given (Some id) true f c) (effects_followed other (Some id) true f c)) (sym h.env)
      (effects_so c.env a.functions c.functions h.solved h.bare
      (follows_pass (given_of given (Some id)) (Some id) c.env f true entry ahead)
      (followed_alike (given_of given (Some id)) (given_of other (Some id)) (Some id) c.env f true entry ahead)))
      completes_so
    where
      ahead : goes_forward (as_flow (context_of c.env f true)) ≡ true
      ahead = subst (λ (v : Environment). goes_forward (as_flow (context_of v f true)) ≡ true) h.env forward

-- ---- the root

-- the same root with the same summary
pub record RootInStep (x : RootAnalysis) (y : RootFollowing) : Type 0 where
  pub summary : x.summary ≡ y.summary
  pub func : x.func ≡ y.func
  pub walk : InStep x.analysis y.following

module _ (given other : List CertFunction) (f : HirFunction) where
  -- both validations
  module _ (xs : List Analysed) (cs : List FollowedFunction)
      (solved : map (λ (x : Analysed). x.solved) xs ≡ map (λ (x : FollowedFunction). x.solved) cs)
      (bare : AllByRecursion (λ (x : FollowedFunction). IsBare x.beyond) cs) where
    abbrev kept : Ranged → Environment → Result RootAnalysis InferError
    kept r more = Ok (record { summary = r.summary; func = r.after.0; analysis = analysis more xs })

    abbrev ended : Ranged → Environment → Result (List AliasingEffect × (HirFunction × Environment)) InferError
    ended r more = Ok (r.summary, (r.after.0, more))

    abbrev last : List AliasingEffect × (HirFunction × Environment) → Result RootFollowing CheckFault
    last r = Ok (record { summary = r.0; func = r.1.0; following = following r.1.1 cs })

    valid_so : (r : Ranged) (v : Result Environment InferError)
        → Together RootInStep (v >>= kept r) (ranging None (v >>= ended r) >>= last)
        (ranging None (v >>= ended r) >>= last)
    valid_so r (Ok more) =
        go (record { summary = r.summary; func = r.after.0; analysis = analysis more xs })
        (record { summary = r.summary; func = r.after.0; following = following more cs }) refl refl refl
        (record { summary = refl; func = refl; walk = record { env = refl; solved = solved; bare = bare } })
    valid_so r (Err e) = stop e (range_fault None e) refl refl refl

    root_ranged_so : (r : Result Ranged InferError)
        → Together RootInStep (r >>= (λ (q : Ranged). validated q.after.0 q.after.1 >>= kept q))
        (ranging None (r >>= (λ (q : Ranged). validated q.after.0 q.after.1 >>= ended q)) >>= last)
        (ranging None (r >>= (λ (q : Ranged). validated q.after.0 q.after.1 >>= ended q)) >>= last)
    root_ranged_so (Ok q) = valid_so q (validated q.after.0 q.after.1)
    root_ranged_so (Err e) = stop e (range_fault None e) refl refl refl

  named_none : (p : PassEnd) (w : Ends) → p ≡ end_of f w → p.solved ≡ record p.solved { function = None }
  named_none p w h = subst (λ (z : PassEnd). z.solved ≡ record z.solved { function = None }) (sym h) refl

  module _ (env : Environment) (xs : List Analysed) (cs : List FollowedFunction)
      (solved : map (λ (x : Analysed). x.solved) xs ≡ map (λ (x : FollowedFunction). x.solved) cs)
      (bare : AllByRecursion (λ (x : FollowedFunction). IsBare x.beyond) cs) where
    abbrev root_own : PassEnd → Analysed
    root_own e = record { env = env; func = f; is_function_expression = false; solved = e.solved }

    abbrev root_left : PassEnd → Result RootAnalysis InferError
    root_left e = root_done (with_effects_of e.solved f) (env_after env e) (xs ++ root_own e ∷ [])

    abbrev root_left_followed : FunctionEnd → Result (HirFunction × Following) CheckFault
    root_left_followed e = Ok (
      with_effects_of e.end.solved f,
      following (env_after env e.end) (cs ++ followed_function None false f env e ∷ []),
    )

    root_so : FollowsPass (given_of given None) None env f false
        → function_followed (given_of given None) None env f false
        ≡ function_followed (given_of other None) None env f false
        → Together RootInStep (root_analysed f (analysis env xs)) (root_followed given f (following env cs))
        (root_followed other f (following env cs))
    root_so (follows w e is so ends none) same =
        let walk = more_in_step (env_after env e.end) xs cs (root_own e.end) (followed_function None false f env e)
        solved bare (named_none e.end w ends) none in
        subst (λ z. Together RootInStep (z >>= root_left) (root_followed given f (following env cs))
        (root_followed other f (following env cs))) (sym so)
        (subst (λ z. Together RootInStep (root_left e.end) ((z >>= root_left_followed) >>= root_finished)
        (root_followed other f (following env cs))) (sym is)
        (subst (λ z. Together RootInStep (root_left e.end) (root_left_followed e >>= root_finished)
        ((z >>= root_left_followed) >>= root_finished)) (sym (sym same ∙ is))
        (root_ranged_so (xs ++ root_own e.end ∷ []) (cs ++ followed_function None false f env e ∷ []) walk.solved
        walk.bare (range_pass false (with_effects_of e.end.solved f) (env_after env e.end)))))
    root_so (fails x y is so) same = stop y x (ap (λ r. r >>= root_left) so)
        (ap (λ r. (r >>= root_left_followed) >>= root_finished) is)
        (ap (λ r. (r >>= root_left_followed) >>= root_finished) (sym same ∙ is))

  -- where its entry is a block and all edges go forward
  pub root_together : (a : Analysis) (c : Following) → InStep a c
      → is_some (value_at f.body.blocks f.body.entry) ≡ true
      → goes_forward (as_flow (context_of a.env f false)) ≡ true
      → Together RootInStep (root_analysed f a) (root_followed given f c) (root_followed other f c)
  root_together a c h entry forward =
      subst (λ (v : Environment). Together RootInStep (root_analysed f (analysis v a.functions))
      (root_followed given f c) (root_followed other f c))
      (sym h.env)
      (root_so c.env a.functions c.functions h.solved h.bare
      (follows_pass (given_of given None) None c.env f false entry ahead)
      (followed_alike (given_of given None) (given_of other None) None c.env f false entry ahead))
    where
      ahead : goes_forward (as_flow (context_of c.env f false)) ≡ true
      ahead = subst (λ (v : Environment). goes_forward (as_flow (context_of v f false)) ≡ true) h.env forward
