-- What follows for a whole unit.
use Rattle.std.proofs.Common.{◌≡◌, false, List, [], Result, Ok, Err, ap, sym, subst, ◌∙◌}
use Rattle.alias_base.specs.Answer.{◌>>=◌}
use Rattle.alias_hir.specs.declared.effect.AliasingEffect.{AliasingEffect}
use Rattle.alias_hir.specs.declared.env.Environment.{Environment}
use Rattle.alias_hir.specs.declared.env.Unit.{Unit as HirUnit}
use Rattle.alias_hir.specs.declared.hir.HirFunction.{HirFunction}
use Rattle.alias_validate.specs.Reports.{with_errors}
use Rattle.alias_effects.specs.declared.solved.Solved.{Solved}
use Rattle.alias_certificate.specs.declared.certificate.CertFunction.{CertFunction}
use Rattle.alias_certificate.specs.declared.fault.CheckFault.{CheckFault}
use Rattle.alias_cert.specs.function.Faults.{is_memory}
use Rattle.alias_follow.specs.declared.function.follow.FunctionBeyond.{FunctionBeyond}
use Rattle.alias_follow.specs.declared.unit.Followed.{Followed}
use Rattle.alias_follow.specs.Functions.{FollowedFunction, following, RootFollowing, root_followed, Accounts}
use Rattle.alias_follow.specs.Units.{below_followed, UnitFollowing, handed_out, unit_followed, Follows}

-- a call that found a fault
pub follows_fault : (given : List CertFunction) (u : HirUnit) (r : Result Followed CheckFault) (e : CheckFault) → r
    ≡ Err e → (is_memory e ≡ false → unit_followed given u ≡ Err e) → Follows given u r
follows_fault given u r e is h = subst (Follows given u) (sym is) h

-- what is handed out, of its parts
abbrev pub handed : HirFunction → Environment → List AliasingEffect → List Solved → List FunctionBeyond → Followed
handed f env summary solved beyond = record {
  inferred = record {
    unit = record { function = f; env = with_errors env [] };
    solved = solved;
    summary = summary;
    reports = env.errors;
  };
  beyond = beyond;
}

module _ (given also : List CertFunction) (listed : given ≡ also) (u v : HirUnit) (same : u ≡ v) where
  of_unit : (r : Result UnitFollowing CheckFault) → unit_followed given u ≡ r → unit_followed also v ≡ r
  of_unit r h = subst (λ z. unit_followed also z ≡ r) same (subst (λ cs. unit_followed cs u ≡ r) listed h)

  as_handed : RootFollowing → Result UnitFollowing CheckFault
  as_handed r = Ok (handed_out r)

  pub refused_below : (e : CheckFault) → below_followed given 63 u.function (following u.env []) ≡ Err e
      → unit_followed also v ≡ Err e
  unfolding as_handed
  refused_below e h = of_unit (Err e) (ap (λ r. r >>= root_followed given u.function >>= as_handed) h)

  module _ (env : Environment) (fs : List FollowedFunction)
      (below : below_followed given 63 u.function (following u.env []) ≡ Ok (following env fs)) where
    so_far : unit_followed given u ≡ (root_followed given u.function (following env fs) >>= as_handed)
    unfolding as_handed
    so_far = ap (λ r. r >>= root_followed given u.function >>= as_handed) below

    pub refused_root : (e : CheckFault) → root_followed given u.function (following env fs) ≡ Err e
        → unit_followed also v ≡ Err e
    unfolding as_handed
    refused_root e h = of_unit (Err e) (so_far ∙ ap (λ r. r >>= as_handed) h)

    -- what is handed out is what follows, and each solution solves its flow
    pub follows : (f : HirFunction) (last : Environment) (summary : List AliasingEffect) (gs : List FollowedFunction)
        (solved : List Solved) (beyond : List FunctionBeyond) (x : Followed)
        → root_followed given u.function (following env fs)
        ≡ Ok (record { summary = summary; func = f; following = following last gs })
        → Accounts gs solved beyond → x ≡ handed f last summary solved beyond → Follows also v (Ok x)
    unfolding as_handed
    follows f last summary gs solved beyond x root a is = (
      gs,
      of_unit (Ok (record { functions = gs; followed = x }))
          (so_far ∙ ap (λ r. r >>= as_handed) root
          ∙ (λ i. Ok (record { functions = gs; followed = handed f last summary (a.solved_same i) (a.beyond_same i) }))
          ∙ ap (λ z. Ok (record { functions = gs; followed = z })) (sym is)),
      a.solve,
    )
