-- What the check of a whole unit comes to.
use Rattle.std.specs.Prelude.{◌<◌, ◌≤◌, nat_lt}
use Rattle.std.proofs.Common.{◌≡◌, Bool, false, if◌then◌else◌, List, [], length, Result, Ok, Err, ap, sym, subst, ◌∙◌}
use Rattle.std.proofs.lemmas.Bool.{lt-ltb, le-ltb}
use Rattle.alias_base.specs.Answer.{◌>>=◌}
use Rattle.alias_hir.specs.declared.env.Environment.{Environment}
use Rattle.alias_hir.specs.declared.env.Unit.{Unit as HirUnit}
use Rattle.alias_hir.specs.declared.hir.HirFunction.{HirFunction}
use Rattle.alias_certificate.specs.declared.certificate.CertFunction.{CertFunction}
use Rattle.alias_certificate.specs.declared.fault.CheckFault.{CheckFault}
use Rattle.alias_certificate.specs.declared.fault.CheckFault.TheVariants as fault
use Rattle.alias_cert.specs.function.Faults.{is_memory}
use Rattle.alias_cert.specs.declared.check.Accepted.{Accepted}
use Rattle.alias_effects.specs.declared.solved.Solved.{Solved}
use Rattle.alias_cert.specs.Functions.{CheckedFunction, Checking, checking, root_checked, Accounts}
use Rattle.alias_cert.specs.Units.{below_checked, none_left, unit_checked, Accepts}
use Rattle.alias_cert.proofs.Coming.{as_many}

-- a call that found a fault
pub accepts_fault : (functions : List CertFunction) (u : HirUnit) (r : Result Accepted CheckFault) (e : CheckFault) → r
    ≡ Err e → (is_memory e ≡ false → unit_checked functions u ≡ Err e) → Accepts functions u r
accepts_fault functions u r e is h = subst (Accepts functions u) (sym is) h

module _ (functions also : List CertFunction) (listed : functions ≡ also) (u v : HirUnit) (same : u ≡ v) where
  of_unit : (r : Result (HirFunction × Checking) CheckFault) → unit_checked functions u ≡ r → unit_checked also v ≡ r
  of_unit r h = subst (λ z. unit_checked also z ≡ r) same (subst (λ cs. unit_checked cs u ≡ r) listed h)

  module _ (env : Environment) (fs : List CheckedFunction)
      (below : below_checked functions 63 u.function (checking u.env []) ≡ Ok (checking env fs)) where
    so_far : unit_checked functions u ≡ (root_checked functions u.function (checking env fs) >>= none_left functions)
    so_far = ap (λ r. r >>= root_checked functions u.function >>= none_left functions) below

    pub refused_root : (e : CheckFault) → root_checked functions u.function (checking env fs) ≡ Err e
        → unit_checked also v ≡ Err e
    refused_root e h = of_unit (Err e) (so_far ∙ ap (λ r. r >>= none_left functions) h)

    module _ (f : HirFunction) (last : Environment) (gs : List CheckedFunction) (solved : List Solved)
        (root : root_checked functions u.function (checking env fs) ≡ Ok (f, checking last gs))
        (a : Accounts gs solved) where
      abbrev left_if : Bool → Result (HirFunction × Checking) CheckFault
      left_if b = if b then Err (fault.Functions (length gs)) else Ok (f, checking last gs)

      whole : unit_checked functions u ≡ left_if (nat_lt (length gs) (length functions))
      whole = so_far ∙ ap (λ r. r >>= none_left functions) root

      pub refused_more : length solved < length functions → unit_checked also v ≡ Err (fault.Functions (length solved))
      refused_more lt =
          of_unit (Err (fault.Functions (length solved)))
          (whole ∙ ap left_if (lt-ltb (length gs) (length functions)
          (subst (λ n. n < length functions) (sym (as_many gs solved a)) lt))
          ∙ ap (λ n. Err (fault.Functions n)) (as_many gs solved a))

      pub accepted : length functions ≤ length solved → unit_checked also v ≡ Ok (f, checking last gs)
      accepted le =
          of_unit (Ok (f, checking last gs)) (whole
          ∙ ap left_if (le-ltb (length gs) (length functions)
          (subst (λ n. length functions ≤ n) (sym (as_many gs solved a)) le)))
